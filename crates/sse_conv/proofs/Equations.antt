-- What a sequence makes of the numbers in one lane, where results and sources are of different sizes.
use Rattle.std.proofs.Common.{◌≡◌, ℕ, ◌+◌, ◌^◌, ◌<◌}
use Rattle.orc_ops.specs.declared.opcode.Op.{Op}
use Rattle.sse_laws.proofs.Two.{Two, two_exec}
use Rattle.sse_laws.proofs.Ways.{first_result, second_result}
use Rattle.sse_conv.specs.Rules.{rule_of}

-- from sources of w bytes to a result twice as large
abbrev pub Widens : ℕ → Op → Type 0
Widens w op = (t : Two) → t.narrow 0 < 256 ^ w → t.narrow 1 < 256 ^ w → (two_exec w (rule_of op) t).wide 0 ≡ first_result op (t.narrow 0) (t.narrow 1)

-- from a source of twice w bytes to a result of w bytes, and to a second one
abbrev pub Narrows : ℕ → Op → Type 0
Narrows w op = (t : Two) → t.wide 0 < 256 ^ (w + w) → (two_exec w (rule_of op) t).narrow 0 ≡ first_result op (t.wide 0) 0

abbrev pub NarrowsSecond : ℕ → Op → Type 0
NarrowsSecond w op = (t : Two) → t.wide 0 < 256 ^ (w + w) → (two_exec w (rule_of op) t).narrow 1 ≡ second_result op (t.wide 0) 0
