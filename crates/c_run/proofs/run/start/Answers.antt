use Rattle.std.proofs.Common.{ℕ, [], Option, ap₂}
use Rattle.orc_bits.specs.Parts.{memory_of}
use Rattle.c_run.specs.Meaning.{CState}
use Rattle.c_run.proofs.Runs.{all_unset}
use Rattle.c_run.proofs.run.start.Goals as goal

pub returns : goal.returns
returns c = λ parts. ap₂ (λ (v w : ℕ → Option ℕ). let r : CState = record { memory = memory_of parts; v = v; w = w; g = []; done = 0 } in r) (all_unset 256) (all_unset 4)
