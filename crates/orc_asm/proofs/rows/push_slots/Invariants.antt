use Rattle.std.proofs.Common.{◌≡◌, ◌++◌}
use Rattle.orc_asm.specs.Rows.{slot_code, slots_code}
use Rattle.orc_asm.proofs.rows.push_slots.Given as goal

abbrev pub invariant-loop-k : goal.invariant-loop-k
invariant-loop-k l = l.list ≡ l.initial.list ++ slots_code (slot_code l.what) l.first l.k
