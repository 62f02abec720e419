-- Numbers and their bytes, in memory and in lanes of registers.
use Rattle.std.proofs.Common.{◌≡◌, ◌≢◌, ℕ, zero, suc, ◌+◌, ◌*◌, ◌/◌, ◌%◌, ◌^◌, ◌<◌, ◌≤◌, List, [], ◌∷◌, get_or, Some, refl, sym, ap, ◌∙◌, arith, lit<, ⊎_elim}
use Rattle.std.proofs.lemmas.Bool.{cases_lt}
use Rattle.std.proofs.Math.Nat.{mul_comm, add-mul, mul-le-mul_right, pow-succ', div-div-eq-div-mul, mod-lt}
use Rattle.std.proofs.Math.Arith.{mod-mul}
use Rattle.orc_bits.specs.Lanes.{number_at, lane, AreBytes}
use Rattle.orc_bits.specs.Memory.{Memory, bind, read, value, number}
use Rattle.orc_bits.proofs.LaneLaws.{pow256_pos}

-- byte r of a number, the lowest being byte 0
abbrev pub digit : ℕ → ℕ → ℕ
digit v r = v / 256 ^ r % 256

pub digit_small : (v r : ℕ) → digit v r < 256
digit_small v r = omega arith

pub digit_next : (v r : ℕ) → digit v (suc r) ≡ digit (v / 256) r
digit_next v r = ap (λ p. v / p % 256) (pow-succ' 256 r) ∙ ap (λ q. q % 256) (sym (div-div-eq-div-mul v 256 (256 ^ r)))

first_digit : (b m : ℕ) → b < 256 → digit (b + 256 * m) 0 ≡ b
first_digit b m h = omega (arith, h)

next_digit : (b m r : ℕ) → b < 256 → digit (b + 256 * m) (suc r) ≡ digit m r
next_digit b m r h = digit_next (b + 256 * m) r ∙ ap (λ v. digit v r) (let e : (b + 256 * m) / 256 ≡ m = omega (arith, h) in e)

-- the number with these bytes
abbrev pub number_of : ℕ → (ℕ → ℕ) → ℕ
number_of zero f = 0
number_of (suc n) f = f 0 + 256 * number_of n (λ j. f (suc j))

pub digit_of : (n : ℕ) (f : ℕ → ℕ) (r : ℕ) → ((j : ℕ) → j < n → f j < 256) → r < n → digit (number_of n f) r ≡ f r
digit_of zero f r h l = absurd (omega (arith, l))
digit_of (suc n) f zero h l = first_digit (f 0) (number_of n (λ j. f (suc j))) (h 0 (omega arith))
digit_of (suc n) f (suc r) h l =
    next_digit (f 0) (number_of n (λ j. f (suc j))) r (h 0 (omega arith))
    ∙ digit_of n (λ j. f (suc j)) r (λ j m. h (suc j) (omega (arith, m))) (omega (arith, l))

-- ---- in memory

more_digits : (v p : ℕ) → 0 < p → v % 256 + 256 * (v / 256 % p) ≡ v % (256 * p)
more_digits v p h = rw (mul_comm 256 p, mod-mul v {m = p} {c = 256} h (lit< tt)) (omega arith)

read_digits : (n : ℕ) (mem : Memory) (a v : ℕ) → a + n < 2 ^ 63 → ((j : ℕ) → j < n → mem (a + j) ≡ Some (digit v j)) → (bs : List ℕ) × (read n mem a ≡ Some bs) × (number bs ≡ v % 256 ^ n)
read_digits zero mem a v w h = ([], refl, omega arith)
read_digits (suc n) mem a v w h =
    let at : a % 2 ^ 64 ≡ a + 0 = omega (arith, w) in
    let here : mem (a % 2 ^ 64) ≡ Some (digit v 0) = ap mem at ∙ h 0 (omega arith) in
    let rest = read_digits n mem (a + 1) (v / 256) (omega (arith, w)) (λ j l. ap mem (let q : a + 1 + j ≡ a + suc j = omega arith in q) ∙ h (suc j) (omega (arith, l)) ∙ ap Some (digit_next v j)) in
    let low : digit v 0 ≡ v % 256 = omega arith in (
      digit v 0 ∷ rest.0,
      ap (λ o. bind o (λ b. bind (read n mem (a + 1)) (λ bs. Some (b ∷ bs)))) here ∙ ap (λ o. bind o (λ bs. Some (digit v 0 ∷ bs))) rest.1,
      ap (λ m. digit v 0 + 256 * m) rest.2 ∙ ap (λ b. b + 256 * (v / 256 % 256 ^ n)) low ∙ more_digits v (256 ^ n) (pow256_pos n) ∙ ap (λ p. v % p) (sym (pow-succ' 256 n)),
    )

pub value_digits : (n : ℕ) (mem : Memory) (a v : ℕ) → a + n < 2 ^ 63 → ((j : ℕ) → j < n → mem (a + j) ≡ Some (digit v j)) → value n mem a ≡ Some (v % 256 ^ n)
value_digits n mem a v w h =
    let x = read_digits n mem a v w h in
    ap (λ o. bind o (λ bs. Some (number bs))) x.1 ∙ ap Some x.2

-- ---- in lanes

number_digits : (x : List ℕ) → AreBytes x → (at n r : ℕ) → r < n → get_or x (at + r) 0 ≡ digit (number_at x at n) r
unfolding number_at
number_digits x h at zero r l = absurd (omega (arith, l))
number_digits x h at (suc n) zero l = ap (λ i. get_or x i 0) (let e : at + 0 ≡ at = omega arith in e) ∙ sym (first_digit (get_or x at 0) (number_at x (at + 1) n) (h at))
number_digits x h at (suc n) (suc r) l =
    ap (λ i. get_or x i 0) (let e : at + suc r ≡ at + 1 + r = omega arith in e)
    ∙ number_digits x h (at + 1) n r (omega (arith, l))
    ∙ sym (next_digit (get_or x at 0) (number_at x (at + 1) n) r (h at))

-- the bytes of a lane
pub lane_digits : (x : List ℕ) → AreBytes x → (w q r : ℕ) → r < w → get_or x (q * w + r) 0 ≡ digit (lane w q x) r
unfolding lane
lane_digits x h w q r l = number_digits x h (q * w) w r l

-- ---- places of bytes: byte r of element q of s bytes

pub byte_within : (q c s r : ℕ) → q < c → r < s → q * s + r < c * s
byte_within q c s r h l =
    let m : suc q * s ≤ c * s = mul-le-mul_right s (let p : suc q ≤ c = omega (arith, h) in p) in
    let e : suc q * s ≡ q * s + s = omega arith in
    omega (arith, m, e, l)

pub byte_further : (b i q s r : ℕ) → b + (i + q) * s + r ≡ b + i * s + (q * s + r)
byte_further b i q s r = omega (arith, add-mul i q s)

-- a byte of so many elements is one of some element
pub byte_split : (s c j : ℕ) → j < c * s → (q : ℕ) × (r : ℕ) × (q < c) × (r < s) × (j ≡ q * s + r)
byte_split zero c j h = absurd (let e : c * 0 ≡ 0 = omega arith in omega (arith, h, e))
byte_split (suc t) c j h =
    let s = suc t in
    let q = j / s in
    let r = j % s in
    let e : j ≡ q * s + r = omega arith in
    let few : q < c = ⊎_elim (λ l. l) (λ g. absurd (let m : c * s ≤ q * s = mul-le-mul_right s g in omega (arith, m, h, e))) (cases_lt q c) in
    (q, r, few, mod-lt j (omega arith), e)

pub byte_apart : (s i j q r : ℕ) → i ≢ j → q < s → r < s → i * s + q ≢ j * s + r
byte_apart s i j q r ne hq hr e = ⊎_elim
    (λ l. let m : suc i * s ≤ j * s = mul-le-mul_right s (let p : suc i ≤ j = omega (arith, l) in p) in let f : suc i * s ≡ i * s + s = omega arith in omega (arith, m, f, e, hq))
    (λ g. let m : suc j * s ≤ i * s = mul-le-mul_right s (let p : suc j ≤ i = omega (arith, g, ne) in p) in let f : suc j * s ≡ j * s + s = omega arith in omega (arith, m, f, e, hr))
    (cases_lt i j)
