use Rattle.std.proofs.Common.{◌≡◌, ◌++◌}
use Rattle.c_emit.specs.Body.{stores}
use Rattle.c_emit.proofs.body.add_bytes.Given as goal

abbrev pub invariant-loop-j : goal.invariant-loop-j
invariant-loop-j l = l.to ≡ l.fn.to ++ stores l.f.vars l.p l.d l.j
