use Rattle.std.proofs.Common.{◌≡◌, ◌*◌}
use Rattle.orc_ops.specs.Table.{size_of_result, size_of_source}
use Rattle.orc_program.specs.Meaning.{lanewise}
use Rattle.orc_emul.specs.State.{given}
use Rattle.orc_emul.proofs.lanes.lanewise.Given as goal

abbrev pub invariant-loop-q : goal.invariant-loop-q
invariant-loop-q l =
    (l.first ≡ (lanewise l.op l.q (given (8 * size_of_source l.op 0) l.a) (given (8 * size_of_source l.op 1) l.b)).0)
    × (l.second ≡ (lanewise l.op l.q (given (8 * size_of_source l.op 0) l.a) (given (8 * size_of_source l.op 1) l.b)).1)
