-- Lanes of 16 bytes. Lane q of width w, in bytes, is the number whose bytes, lowest first, stand from q * w up to, and without, (q + 1) * w.
use Rattle.std.specs.Prelude.{◌≡◌, ℕ, ◌+◌, ◌*◌, ◌/◌, ◌%◌, ◌^◌, ◌<◌, ◌==◌, if◌then◌else◌, nat_lt, List, map}
use Rattle.std.proofs.Common.{zero, suc, get_or}
use Rattle.std.specs.List.{range_with_len}

-- the number in the n bytes from `at` on, lowest byte first
unfoldable pub number_at : List ℕ → ℕ → ℕ → ℕ
number_at b at zero = 0
number_at b at (suc n) = get_or b at 0 + 256 * number_at b (at + 1) n

unfoldable pub lane : ℕ → ℕ → List ℕ → ℕ
lane w q b = number_at b (q * w) w

-- lane j of width 2 * w is lane 2 * j of width w, and 2 ^ (8 * w) times lane 2 * j + 1
abbrev pub HalvesLanes : Type 0
HalvesLanes = (b : List ℕ) (w j : ℕ) → lane (2 * w) j b ≡ lane w (2 * j) b + 2 ^ (8 * w) * lane w (2 * j + 1) b

-- the 16 bytes whose lane q of width w is g q, cut to w bytes
unfoldable pub from_lanes : ℕ → (ℕ → ℕ) → List ℕ
from_lanes w g = map (λ i. g (i / w) / 256 ^ (i % w) % 256) (range_with_len 0 16)

-- the 16 bytes whose byte i is g i
unfoldable pub from_bytes : (ℕ → ℕ) → List ℕ
from_bytes g = map g (range_with_len 0 16)

-- byte i of v, the lowest being byte 0, and 0 from byte n on
abbrev pub byte_of : ℕ → ℕ → ℕ → ℕ
byte_of n v i = if nat_lt i n then v / 256 ^ i % 256 else 0

-- each is a byte
abbrev pub AreBytes : List ℕ → Type 0
AreBytes x = (i : ℕ) → get_or x i 0 < 256

-- f with the value v at i
abbrev pub change : {A : Type 0} → (ℕ → A) → ℕ → A → ℕ → A
change f i v = λ x. if x == i then v else f x
