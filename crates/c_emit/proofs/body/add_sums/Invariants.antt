use Rattle.std.proofs.Common.{◌≡◌, ◌++◌}
use Rattle.c_emit.specs.Body.{sums}
use Rattle.c_emit.proofs.body.add_sums.Given as goal

abbrev pub invariant-loop-q : goal.invariant-loop-q
invariant-loop-q l = l.to ≡ l.fn.to ++ sums l.f.vars l.insn l.q
