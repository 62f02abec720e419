use Rattle.std.proofs.Common.{ℕ, ◌≡◌, ap₂}
use Rattle.orc_program.specs.Meaning.{State}
use Rattle.orc_bits.specs.Parts.{memory_of}
use Rattle.orc_emul.proofs.States.{all_zero}
use Rattle.orc_emul.proofs.run.zeros.Goals as goal

pub returns : goal.returns
returns c = λ parts. ap₂ (λ (t s : ℕ → ℕ). let r : State = record { memory = memory_of parts; temps = t; sums = s } in r) (all_zero 184) (all_zero 184)
