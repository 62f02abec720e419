use Rattle.std.proofs.Common.{◌≡◌, Ok}
use Rattle.orc_worlds.specs.Meeting.{part_meeting, first_meeting}
use Rattle.orc_worlds.proofs.parting.parts_meet.Given as goal

abbrev pub invariant-loop-k : goal.invariant-loop-k
invariant-loop-k l = first_meeting (part_meeting l.f l.job l.sizes l.workers) l.k ≡ Ok tt
