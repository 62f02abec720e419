use Rattle.std.proofs.Common.{◌≡◌, ◌++◌}
use Rattle.orc_resample.specs.Code.{elements_code}
use Rattle.orc_resample.proofs.assembly.push_elements.Given as goal

abbrev pub invariant-loop-n : goal.invariant-loop-n
invariant-loop-n l = l.list ≡ l.initial.list ++ elements_code l.fn.far l.fn.plan l.fn.count l.fn.a l.fn.b l.fn.e l.n
