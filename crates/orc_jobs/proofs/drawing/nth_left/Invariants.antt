use Rattle.orc_jobs.specs.World.{stands_of}
use Rattle.orc_jobs.proofs.Lefts.{Seeks}
use Rattle.orc_jobs.proofs.drawing.nth_left.Given as goal

abbrev pub invariant-loop-k : goal.invariant-loop-k
invariant-loop-k l = Seeks (stands_of l.runners) l.j l.k l.skip
