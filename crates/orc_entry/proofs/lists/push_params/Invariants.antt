use Rattle.std.proofs.Common.{◌≡◌, ◌++◌}
use Rattle.orc_entry.specs.Code.{fills_code, joined_fills, param_fills}
use Rattle.orc_entry.proofs.lists.push_params.Given as goal

abbrev pub invariant-loop-j : goal.invariant-loop-j
invariant-loop-j l = l.list ≡ l.initial.list ++ fills_code (joined_fills (param_fills l.shape l.longs) l.j)
