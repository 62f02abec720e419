use Rattle.std.proofs.Common.{◌≡◌, ◌+◌, subst, arith}
use Rattle.orc_bits.specs.Memory.{IsMapped}
use Rattle.orc_bits.specs.Parts.{memory_of}
use Rattle.orc_frame.specs.Parts.{sum_word}
use Rattle.orc_worlds.specs.Placement.{block_at}
use Rattle.orcc_top.proofs.execution.sums_of.Goals as goal

pub word_at-requires-clause-mapped : goal.word_at-requires-clause-mapped
word_at-requires-clause-mapped c = λ i lt.
    let there : block_at + (sum_word c.from.result + i) ≡ block_at + c.sum_word.result + i = omega (arith, c.sum_word.ensures) in
    subst (IsMapped (memory_of c.args.memory.now)) there (c.requires.mapped (sum_word c.from.result + i) (omega (arith, lt, c.loop-g-test.true, c.requires.few, c.from.ensures)))
