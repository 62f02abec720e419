-- An access to memory, as the code makes it.
use Rattle.orc_bits.specs.Lanes.{from_bytes}
use Rattle.std.specs.Prelude.{◌≡◌, List, get_or, ℕ, ◌+◌, ◌%◌, ◌^◌, nat_lt, if◌then◌else◌, Option, Some, None}
use Rattle.orc_bits.specs.Memory.{Memory, read, all_mapped, missing}

-- the first byte of an access that isn't mapped, if there is one
abbrev pub absent : ℕ → Memory → ℕ → Option ℕ
absent n mem a = if all_mapped n mem a then None else Some (missing n mem a)

abbrev pub byte_or_zero : Option ℕ → ℕ
byte_or_zero (Some b) = b
byte_or_zero None = 0

-- the bytes that an access reads, and 0 behind them
abbrev pub taken : ℕ → Memory → ℕ → ℕ → ℕ
taken n mem a j = if nat_lt j n then byte_or_zero (mem ((a + j) % 2 ^ 64)) else 0

-- the register that a read of so many bytes gives
abbrev pub IsRead : ℕ → Memory → ℕ → List ℕ → Type 0
IsRead n mem a v = (bs : List ℕ) × (read n mem a ≡ Some bs) × (v ≡ from_bytes (λ j. get_or bs j 0))
