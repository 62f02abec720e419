use Rattle.std.proofs.Common.{◌≡◌, ◌+◌, refl, sym, ap, ◌∙◌, subst, arith}
use Rattle.orc_bits.specs.Memory.{IsMapped, word}
use Rattle.orc_bits.specs.Parts.{memory_of}
use Rattle.orc_frame.specs.Parts.{sum_word}
use Rattle.orc_worlds.specs.Played.{or_zero, part_sum}
use Rattle.orc_worlds.specs.Worlds.{block_of}
use Rattle.orc_worlds.proofs.Placed.{total_more}
use Rattle.orc_worlds.proofs.playing.total_of.Goals as goal

pub word_at-total-requires-clause-mapped : goal.word_at-total-requires-clause-mapped
word_at-total-requires-clause-mapped c = λ i lt.
    let few = c.requires.few in
    let at = c.block_of.ensures in
    let g = c.from.ensures in
    let there : block_of c.loop-k.k + (sum_word c.from.result + i) ≡ c.block_of.result + c.sum_word.result + i = omega (arith, at, c.sum_word.ensures) in
    subst (IsMapped (memory_of c.args.memory.now)) there (c.requires.mapped c.loop-k.k c.loop-k-test.true (sum_word c.from.result + i) (omega (arith, lt, few, g)))

pub loop-k-preserved : goal.loop-k-preserved
loop-k-preserved c =
    let mem = memory_of c.args.memory.now in
    let at = c.block_of.ensures in
    let g = c.from.ensures in
    let there : block_of c.loop-k.k + sum_word c.args.g ≡ c.block_of.result + c.sum_word.result = omega (arith, at, g, c.sum_word.ensures) in
    let value : c.word_at-total.result ≡ part_sum mem c.args.g c.loop-k.k = sym (ap or_zero (ap (word mem) there ∙ c.word_at-total.ensures)) in
    total_more (part_sum mem c.args.g) c.loop-k.k c.loop-k.total c.word_at-total.result _ c.loop-k.invariant value refl
