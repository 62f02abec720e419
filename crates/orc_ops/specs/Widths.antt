-- What the code of a stem asks of its widths and of its second source: facts that hold of every row of the table.
use Rattle.std.specs.Prelude.{◌≡◌, ℕ, ◌+◌, ◌^◌, ◌<◌, ◌≤◌, ◌⊎◌}
use Rattle.orc_ops.specs.declared.stem.Stem.{Stem}
use Rattle.orc_ops.specs.declared.stem.Stem.TheVariants as stem

-- w is the width of the first source, and t that of the result
abbrev pub Takes : Stem → ℕ → ℕ → Type 0
Takes stem.Div255 w t = w ≡ 16
Takes stem.Exchange w t = 16 < w
Takes stem.High w t = t < w
Takes stem.Merge w t = w + w ≡ t
Takes stem.Splat w t = (w ≡ 8) × (t ≤ 32)
Takes stem.Split w t = t < w
Takes stem.Swap w t = 8 < w
Takes other w t = Unit {0}

-- a second source has the first one's width, but for a count
abbrev pub TakesSecond : Stem → ℕ → ℕ → Type 0
TakesSecond stem.Shl w b = Unit {0}
TakesSecond stem.Shrs w b = Unit {0}
TakesSecond stem.Shru w b = Unit {0}
TakesSecond other w b = b < 2 ^ w

-- a size in bytes, or 0 for an operand that isn't there
abbrev pub IsSize : ℕ → Type 0
IsSize n = (n ≡ 0) ⊎ (n ≡ 1) ⊎ (n ≡ 2) ⊎ (n ≡ 4) ⊎ (n ≡ 8)
