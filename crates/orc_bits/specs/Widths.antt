-- Widths of numbers, in bits and in bytes.
use Rattle.std.specs.Prelude.{◌≡◌, ℕ, ◌⊎◌}

-- a width in bits
abbrev pub IsWidth : ℕ → Type 0
IsWidth w = (w ≡ 8) ⊎ (w ≡ 16) ⊎ (w ≡ 32) ⊎ (w ≡ 64)

-- a width in bytes
abbrev pub IsLaneWidth : ℕ → Type 0
IsLaneWidth w = (w ≡ 1) ⊎ (w ≡ 2) ⊎ (w ≡ 4) ⊎ (w ≡ 8)
