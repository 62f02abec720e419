-- The lanes that the code's forms stand for. A width is in bytes here, and in bits where a function takes it.
use Rattle.std.specs.Prelude.{ℕ, ℤ, Bool, true, false, List, if◌then◌else◌, ◌+◌, ◌-◌, ◌*◌, ◌/◌, ◌%◌, ◌^◌, cond, nat_lt, min, max}
use Rattle.orc_bits.specs.Numbers.{clamp_s, clamp_u}
use Rattle.orc_bits.specs.Lanes.{lane, from_lanes}
use Rattle.x86_ins.specs.Vectors.{bits, each, counted, interleaved, packed, extended, distances, lane_of, add_wrap, sub_wrap, add_s, sub_s, add_u, sub_u, average, equal, greater_s, min_s, max_s, mul_low, mul_high_s, mul_high_u, mul_pair, mul_pair_s, absolute, sign_extended, zero_extended, bits_and, bits_or, bits_xor, bits_andn, right, shl, shr, sar}
use Rattle.x86_vector.specs.declared.width.Width.{Width}
use Rattle.x86_vector.specs.declared.width.Width.TheVariants.{One, Two, Four, Eight}
use Rattle.x86_vector.specs.declared.forms.LaneFn.{LaneFn}
use Rattle.x86_vector.specs.declared.forms.LaneFn.TheVariants.{AddWrap, SubWrap, AddSigned, SubSigned, AddUnsigned, SubUnsigned, Average, MinUnsigned, MaxUnsigned, Equal, GreaterSigned, MinSigned, MaxSigned, Absolute}
use Rattle.x86_vector.specs.declared.forms.WordFn.{WordFn}
use Rattle.x86_vector.specs.declared.forms.WordFn.TheVariants.{MulLow, MulHighSigned, MulHighUnsigned}
use Rattle.x86_vector.specs.declared.forms.BitFn.{BitFn}
use Rattle.x86_vector.specs.declared.forms.BitFn.TheVariants.{And, Or, Xor, Andn, Second}
use Rattle.x86_vector.specs.declared.forms.ShiftFn.{ShiftFn}
use Rattle.x86_vector.specs.declared.forms.ShiftFn.TheVariants.{Left, Right, RightSigned}
use Rattle.x86_vector.specs.declared.forms.PackFn.{PackFn}
use Rattle.x86_vector.specs.declared.forms.PackFn.TheVariants.{SignedBytes, UnsignedBytes, SignedWords, UnsignedWords}
use Rattle.x86_vector.specs.declared.forms.Half.{Half}
use Rattle.x86_vector.specs.declared.forms.Half.TheVariants.{Byte, Word, Doubleword}
use Rattle.x86_vector.specs.declared.forms.Form.{Form}
use Rattle.x86_vector.specs.declared.forms.Form.TheVariants as form

abbrev pub bytes_of : Width → ℕ
bytes_of One = 1
bytes_of Two = 2
bytes_of Four = 4
bytes_of Eight = 8

abbrev pub lane_fn : LaneFn → ℕ → ℕ → ℕ → ℕ
lane_fn AddWrap = add_wrap
lane_fn SubWrap = sub_wrap
lane_fn AddSigned = add_s
lane_fn SubSigned = sub_s
lane_fn AddUnsigned = add_u
lane_fn SubUnsigned = sub_u
lane_fn Average = average
lane_fn MinUnsigned = λ w. min
lane_fn MaxUnsigned = λ w. max
lane_fn Equal = equal
lane_fn GreaterSigned = greater_s
lane_fn MinSigned = min_s
lane_fn MaxSigned = max_s
lane_fn Absolute = absolute

abbrev pub word_fn : WordFn → ℕ → ℕ → ℕ → ℕ
word_fn MulLow = mul_low
word_fn MulHighSigned = mul_high_s
word_fn MulHighUnsigned = mul_high_u

abbrev pub bit_fn : BitFn → ℕ → ℕ → ℕ → ℕ
bit_fn And = bits_and
bit_fn Or = bits_or
bit_fn Xor = bits_xor
bit_fn Andn = bits_andn
bit_fn Second = right

abbrev pub shift_fn : ShiftFn → ℕ → ℕ → ℕ → ℕ
shift_fn Left = shl
shift_fn Right = shr
shift_fn RightSigned = sar

-- the bytes of a lane that is packed, and what it becomes
abbrev pub pack_width : PackFn → ℕ
pack_width SignedBytes = 2
pack_width UnsignedBytes = 2
pack_width SignedWords = 4
pack_width UnsignedWords = 4

abbrev pub pack_fn : PackFn → ℤ → ℕ
pack_fn SignedBytes = clamp_s 8
pack_fn UnsignedBytes = clamp_u 8
pack_fn SignedWords = clamp_s 16
pack_fn UnsignedWords = clamp_u 16

-- the bytes of a lane that is extended, and how it is
abbrev pub half_of : Half → ℕ
half_of Byte = 1
half_of Word = 2
half_of Doubleword = 4

abbrev pub extend_fn : Bool → ℕ → ℕ → ℕ
extend_fn true = sign_extended
extend_fn false = zero_extended

-- the bytes of a lane of the result
abbrev pub width_in : Form → ℕ
width_in (form.Bits f) = 1
width_in (form.Each f w) = bytes_of w
width_in (form.Words f) = 2
width_in form.LowProducts = 4
width_in form.Products = 8
width_in form.SignedProducts = 8
width_in (form.Counted f w) = bytes_of w
width_in (form.Shifted f w n) = bytes_of w
width_in (form.Interleaved w high) = bytes_of w
width_in (form.Packed f) = pack_width f / 2
width_in (form.Extended h s) = half_of h + half_of h
width_in form.Distances = 8
width_in (form.BytesUp n) = 1
width_in (form.BytesDown n) = 1
width_in (form.Doublewords o) = 4
width_in (form.LowWords o) = 2
width_in (form.HighWords o) = 2

-- lane q of the result on the registers x and y
abbrev pub lane_in : Form → List ℕ → List ℕ → ℕ → ℕ
lane_in (form.Bits f) x y q = lane_of (bits (bit_fn f)) x y q
lane_in (form.Each f w) x y q = lane_of (each (bytes_of w) (lane_fn f)) x y q
lane_in (form.Words f) x y q = lane_of (each 2 (word_fn f)) x y q
lane_in form.LowProducts x y q = mul_low 32 (lane 4 q x) (lane 4 q y)
lane_in form.Products x y q = mul_pair (lane 8 q x) (lane 8 q y)
lane_in form.SignedProducts x y q = mul_pair_s (lane 8 q x) (lane 8 q y)
lane_in (form.Counted f w) x y q = lane_of (counted (bytes_of w) (shift_fn f)) x y q
lane_in (form.Shifted f w n) x y q = shift_fn f (8 * bytes_of w) (lane (bytes_of w) q x) n
lane_in (form.Interleaved w high) x y q = lane_of (interleaved (bytes_of w) (if high then 1 else 0)) x y q
lane_in (form.Packed f) x y q = lane_of (packed (pack_width f) (pack_fn f)) x y q
lane_in (form.Extended h s) x y q = lane_of (extended (half_of h) (extend_fn s)) x y q
lane_in form.Distances x y q = lane_of distances x y q
lane_in (form.BytesUp n) x y q = cond (nat_lt q n) 0 (lane 1 (q - n) x)
lane_in (form.BytesDown n) x y q = cond (nat_lt (q + n) 16) (lane 1 (q + n) x) 0
lane_in (form.Doublewords o) x y q = lane 4 (o / 4 ^ q % 4) y
lane_in (form.LowWords o) x y q = cond (nat_lt q 4) (lane 2 (o / 4 ^ q % 4) y) (lane 2 q y)
lane_in (form.HighWords o) x y q = cond (nat_lt q 4) (lane 2 q y) (lane 2 (4 + o / 4 ^ (q - 4) % 4) y)

-- the result on the registers x and y
abbrev pub result_in : Form → List ℕ → List ℕ → List ℕ
result_in f x y = from_lanes (width_in f) (lane_in f x y)
