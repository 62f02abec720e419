use Rattle.std.proofs.Common.{◌≡◌, ◌++◌}
use Rattle.orc_entry.specs.Code.{fills_code, joined_fills, pointer_fills}
use Rattle.orc_entry.proofs.lists.push_pointers.Given as goal

abbrev pub invariant-loop-g : goal.invariant-loop-g
invariant-loop-g l = l.list ≡ l.initial.list ++ fills_code (joined_fills (pointer_fills l.shape) l.g)
