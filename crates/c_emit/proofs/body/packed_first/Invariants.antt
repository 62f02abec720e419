use Rattle.std.proofs.Common.{◌≡◌, ◌*◌}
use Rattle.orc_ops.specs.Table.{size_of_result}
use Rattle.c_emit.specs.Body.{packed, first_at}
use Rattle.c_emit.proofs.body.packed_first.Given as goal

abbrev pub invariant-loop-k : goal.invariant-loop-k
invariant-loop-k l = l.all ≡ packed (8 * size_of_result l.insn.op 0) l.k (first_at l.f.vars l.insn)
