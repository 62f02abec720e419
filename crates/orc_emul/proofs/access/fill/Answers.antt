use Rattle.std.proofs.Common.{◌≡◌, ◌<◌, ◌^◌, ◌%◌, ◌/◌, ◌+◌, arith, refl, sym, ap, ◌∙◌}
use Rattle.orc_bits.specs.Lanes.{byte_of}
use Rattle.orc_bits.specs.Parts.{memory_of, layout}
use Rattle.orc_emul.proofs.Cells.{fill_none, fill_more}
use Rattle.orc_emul.proofs.access.fill.Goals as goal

pub loop-k-init : goal.loop-k-init
loop-k-init c = (fill_none (memory_of c.args.store.now) c.args.at (byte_of c.args.n c.args.v), refl)

pub loop-k-preserved : goal.loop-k-preserved
loop-k-preserved c = (
  fill_more c.args.n c.loop-k.k (memory_of c.args.store.now) (memory_of c.loop-k.store) (memory_of c.set.new.self) c.args.at c.args.v c.byte_at.result ((c.args.at + c.from.result) % 2 ^ 64) c.set.result c.requires.there c.loop-k-test.true c.loop-k.invariant.0
      (ap (λ k. (c.args.at + k) % 2 ^ 64) c.from.ensures) (c.byte_at.ensures ∙ ap (λ k. c.args.v / 256 ^ k % 256) c.from-in-loop-k.ensures) c.set.ensures.mapped c.set.ensures.memory,
  c.set.ensures.layout ∙ c.loop-k.invariant.1,
)
