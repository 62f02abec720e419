use Rattle.std.proofs.Common.{arith, ap₂, ◌∙◌}
use Rattle.std.proofs.lemmas.Int.{ints}
use Rattle.orc_bits.specs.Numbers.{clamp_s}
use Rattle.x86_vector.proofs.arithmetic.add_signed.Goals as goal

pub returns : goal.returns
returns c = c.clamp_s.ensures ∙ ap₂ clamp_s c.bits.ensures.value (omega (arith, ints))
