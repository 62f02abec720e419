-- Reads and writes of several bytes, byte by byte, at addresses modulo 2 ^ 64.
use Rattle.std.proofs.Common.{◌≡◌, ◌≢◌, ℕ, zero, suc, ◌+◌, ◌-◌, ◌*◌, ◌/◌, ◌%◌, ◌^◌, ◌<◌, ◌≤◌, ◌&&◌, ◌⊎◌, inl, inr, nat_lt, Bool, true, false, if◌then◌else◌, List, [], ◌∷◌, Option, Some, None, is_some, MatchOption, Result, Ok, Err, MatchResult, refl, sym, ap, ap₂, ◌∙◌, subst, arith, true≢false, mod-eq_of_lt, pow-add}
use Rattle.std.proofs.lemmas.Bool.Decides.{nat_tests}
use Rattle.std.proofs.lemmas.Nat.{pow_pos}
use Rattle.std.proofs.Math.Nat.{pow-succ', div-eq_of_lt, mul-lt-mul_of_pos_right}
use Rattle.std.proofs.Math.Pow.{pow_mono}
use Rattle.orc_bits.specs.Memory.{Memory, bind, read, number, value, put, fill, store, all_mapped, missing}
use Rattle.orc_bits.specs.Lanes.{byte_of}
use Rattle.orc_bits.proofs.LaneLaws.{pow256}
use Rattle.orc_bits.proofs.Memories.{put_mapped, fill_mapped, none_some}

-- ---- only the address modulo 2 ^ 64 counts

next : (a b : ℕ) → a % 2 ^ 64 ≡ b % 2 ^ 64 → (a + 1) % 2 ^ 64 ≡ (b + 1) % 2 ^ 64
next a b e = omega (arith, e)

read_at : (n : ℕ) (mem : Memory) (a b : ℕ) → a % 2 ^ 64 ≡ b % 2 ^ 64 → read n mem a ≡ read n mem b
read_at zero mem a b e = refl
read_at (suc n) mem a b e = ap₂ (λ x (rest : Option (List ℕ)). bind (mem x) (λ v. bind rest (λ vs. Some (v ∷ vs)))) e (read_at n mem (a + 1) (b + 1) (next a b e))

all_mapped_at : (n : ℕ) (mem : Memory) (a b : ℕ) → a % 2 ^ 64 ≡ b % 2 ^ 64 → all_mapped n mem a ≡ all_mapped n mem b
all_mapped_at zero mem a b e = refl
all_mapped_at (suc n) mem a b e = ap₂ (λ x rest. is_some (mem x) && rest) e (all_mapped_at n mem (a + 1) (b + 1) (next a b e))

missing_at : (n : ℕ) (mem : Memory) (a b : ℕ) → a % 2 ^ 64 ≡ b % 2 ^ 64 → missing n mem a ≡ missing n mem b
missing_at zero mem a b e = e
missing_at (suc n) mem a b e = ap₂ (λ x rest. if is_some (mem x) then rest else x) e (missing_at n mem (a + 1) (b + 1) (next a b e))

wrapped : (a : ℕ) → (a + 1) % 2 ^ 64 ≡ ((a + 1) % 2 ^ 64) % 2 ^ 64
wrapped a = omega arith

-- ---- a read, one byte and then the rest

number_of : Option (List ℕ) → Option ℕ
number_of o = bind o (λ bs. Some (number bs))

with_low : (b : ℕ) (o : Option (List ℕ)) (v : ℕ) → bind o (λ bs. Some (number bs)) ≡ Some v → bind (bind o (λ bs. Some (b ∷ bs))) (λ bs. Some (number bs)) ≡ Some (b + 256 * v)
with_low b None v e = absurd (none_some e)
with_low b (Some bs) v e = ap (λ (o : Option ℕ). bind o (λ n. Some (b + 256 * n))) e

with_none : (b : ℕ) (o : Option (List ℕ)) → bind o (λ bs. Some (number bs)) ≡ None → bind (bind o (λ bs. Some (b ∷ bs))) (λ bs. Some (number bs)) ≡ None
with_none b None e = refl
with_none b (Some bs) e = absurd (none_some (sym e))

value_step : (n : ℕ) (mem : Memory) (a b : ℕ) → a < 2 ^ 64 → mem a ≡ Some b → value (suc n) mem a ≡ bind (bind (read n mem ((a + 1) % 2 ^ 64)) (λ bs. Some (b ∷ bs))) (λ bs. Some (number bs))
value_step n mem a b l e =
    let here : mem (a % 2 ^ 64) ≡ Some b = ap mem (mod-eq_of_lt l) ∙ e in
    ap₂ (λ (o : Option ℕ) (rest : Option (List ℕ)). bind (bind o (λ b. bind rest (λ bs. Some (b ∷ bs)))) (λ bs. Some (number bs))) here (read_at n mem (a + 1) ((a + 1) % 2 ^ 64) (wrapped a))

pub value_more : (n : ℕ) (mem : Memory) (a b v : ℕ) → n ≢ 0 → a < 2 ^ 64 → mem a ≡ Some b → value (n - 1) mem ((a + 1) % 2 ^ 64) ≡ Some v → value n mem a ≡ Some (b + 256 * v)
value_more zero mem a b v h l e r = absurd (h refl)
value_more (suc n) mem a b v h l e r =
    value_step n mem a b l e ∙ with_low b (read n mem ((a + 1) % 2 ^ 64)) v (ap (λ k. value k mem ((a + 1) % 2 ^ 64)) (let q : n ≡ suc n - 1 = omega arith in q) ∙ r)

pub value_less : (n : ℕ) (mem : Memory) (a b : ℕ) → n ≢ 0 → a < 2 ^ 64 → mem a ≡ Some b → value (n - 1) mem ((a + 1) % 2 ^ 64) ≡ None → value n mem a ≡ None
value_less zero mem a b h l e r = absurd (h refl)
value_less (suc n) mem a b h l e r =
    value_step n mem a b l e ∙ with_none b (read n mem ((a + 1) % 2 ^ 64)) (ap (λ k. value k mem ((a + 1) % 2 ^ 64)) (let q : n ≡ suc n - 1 = omega arith in q) ∙ r)

pub value_here : (n : ℕ) (mem : Memory) (a : ℕ) → n ≢ 0 → a < 2 ^ 64 → mem a ≡ None → value n mem a ≡ None
value_here zero mem a h l e = absurd (h refl)
value_here (suc n) mem a h l e = ap (λ (o : Option ℕ). bind (bind o (λ b. bind (read n mem (a + 1)) (λ bs. Some (b ∷ bs)))) (λ bs. Some (number bs))) (ap mem (mod-eq_of_lt l) ∙ e)

-- ---- the first byte that isn't mapped

pub missing_here : (n : ℕ) (mem : Memory) (a : ℕ) → n ≢ 0 → a < 2 ^ 64 → is_some (mem a) ≡ false → a ≡ missing n mem a
missing_here zero mem a h l e = absurd (h refl)
missing_here (suc n) mem a h l e = sym (ap₂ (λ x t. if t then missing n mem (a + 1) else x) (mod-eq_of_lt l) (ap (λ x. is_some (mem x)) (mod-eq_of_lt l) ∙ e))

pub missing_later : (n : ℕ) (mem : Memory) (a b : ℕ) → n ≢ 0 → a < 2 ^ 64 → is_some (mem a) ≡ true → b ≡ missing (n - 1) mem ((a + 1) % 2 ^ 64) → b ≡ missing n mem a
missing_later zero mem a b h l e r = absurd (h refl)
missing_later (suc n) mem a b h l e r =
    r ∙ ap (λ k. missing k mem ((a + 1) % 2 ^ 64)) (let q : suc n - 1 ≡ n = omega arith in q) ∙ sym (missing_at n mem (a + 1) ((a + 1) % 2 ^ 64) (wrapped a))
    ∙ sym (ap (λ t. if t then missing n mem (a + 1) else a % 2 ^ 64) (ap (λ x. is_some (mem x)) (mod-eq_of_lt l) ∙ e))

pub mapped_here : (n : ℕ) (mem : Memory) (a : ℕ) → n ≢ 0 → a < 2 ^ 64 → is_some (mem a) ≡ false → all_mapped n mem a ≡ false
mapped_here zero mem a h l e = absurd (h refl)
mapped_here (suc n) mem a h l e = ap (λ t. t && all_mapped n mem (a + 1)) (ap (λ x. is_some (mem x)) (mod-eq_of_lt l) ∙ e)

pub mapped_later : (n : ℕ) (mem : Memory) (a : ℕ) (t : Bool) → n ≢ 0 → a < 2 ^ 64 → is_some (mem a) ≡ true → all_mapped (n - 1) mem ((a + 1) % 2 ^ 64) ≡ t → all_mapped n mem a ≡ t
mapped_later zero mem a t h l e r = absurd (h refl)
mapped_later (suc n) mem a t h l e r =
    ap (λ t. t && all_mapped n mem (a + 1)) (ap (λ x. is_some (mem x)) (mod-eq_of_lt l) ∙ e)
    ∙ all_mapped_at n mem (a + 1) ((a + 1) % 2 ^ 64) (wrapped a)
    ∙ ap (λ k. all_mapped k mem ((a + 1) % 2 ^ 64)) (let q : n ≡ suc n - 1 = omega arith in q) ∙ r

-- ---- a number with one byte more

pub room : (n b v : ℕ) → n ≤ 8 → n ≢ 0 → b < 256 → v < 256 ^ (n - 1) → (b + 256 * v < 256 ^ n) × (256 * v < 2 ^ 64) × (b + 256 * v < 2 ^ 64)
room zero b v few h l m = absurd (h refl)
room (suc n) b v few h l m =
    let e : 256 ^ suc n ≡ 256 * 256 ^ n = pow-succ' 256 n in
    let q : 256 ^ (suc n - 1) ≡ 256 ^ n = ap (λ k. 256 ^ k) (let q : suc n - 1 ≡ n = omega arith in q) in
    let big : 256 ^ suc n ≤ 2 ^ 64 = subst (λ k. k ≤ 2 ^ 64) (sym (pow256 (suc n))) (pow_mono (let f : 8 * suc n ≤ 64 = omega (arith, few) in f)) in
    (omega (arith, e, q, l, m), omega (arith, e, q, l, m, big), omega (arith, e, q, l, m, big))

-- ---- a write, one byte more

and_first : (s t : Bool) → (s && t) ≡ true → s ≡ true
and_first true t h = refl
and_first false t h = h

and_second : (s t : Bool) → (s && t) ≡ true → t ≡ true
and_second true t h = h
and_second false t h = absurd (let e : ⊥ = cc in e)

pub all_at : (n : ℕ) (mem : Memory) (a k : ℕ) → all_mapped n mem a ≡ true → k < n → is_some (mem ((a + k) % 2 ^ 64)) ≡ true
all_at zero mem a k h l = absurd (omega (arith, l))
all_at (suc n) mem a zero h l = ap (λ b. is_some (mem (b % 2 ^ 64))) (let q : a + 0 ≡ a = omega arith in q) ∙ and_first _ _ h
all_at (suc n) mem a (suc k) h l = ap (λ b. is_some (mem (b % 2 ^ 64))) (let q : a + suc k ≡ a + 1 + k = omega arith in q) ∙ all_at n mem (a + 1) k (and_second _ _ h) (omega (arith, l))

fill_next : (k : ℕ) (mem : Memory) (a : ℕ) (f : ℕ → ℕ) → put (fill k mem a f) ((a + k) % 2 ^ 64) (f k) ≡ fill (k + 1) mem a f
unfolding fill
fill_next k mem a f = ap (λ n. fill n mem a f) (let q : suc k ≡ k + 1 = omega arith in q)

pub fill_none : (mem : Memory) (a : ℕ) (f : ℕ → ℕ) → mem ≡ fill 0 mem a f
unfolding fill
fill_none mem a f = refl

pub fill_more : (n k : ℕ) (mem now later : Memory) (a v b r : ℕ) (done : Bool) → all_mapped n mem a ≡ true → k < n → now ≡ fill k mem a (byte_of n v)
    → r ≡ (a + k) % 2 ^ 64 → b ≡ v / 256 ^ k % 256 → done ≡ is_some (now r) → later ≡ (if done then put now r b else now) → later ≡ fill (k + 1) mem a (byte_of n v)
fill_more n k mem now later a v b r done h l e er eb c d =
    let f = byte_of n v in
    let there : is_some (fill k mem a f ((a + k) % 2 ^ 64)) ≡ true = fill_mapped k mem a f ((a + k) % 2 ^ 64) (all_at n mem a k h l) in
    let t : done ≡ true = c ∙ ap₂ (λ (m : Memory) x. is_some (m x)) e er ∙ there in
    let byte : b ≡ f k = eb ∙ sym (ap (λ t. if t then v / 256 ^ k % 256 else 0) (let q : nat_lt k n ≡ true = grind (arith, nat_tests, l) in q)) in
    d ∙ ap (λ t. if t then put now r b else now) t ∙ ap (λ (m : Memory). put m r b) e ∙ ap₂ (λ x y. put (fill k mem a f) x y) er byte ∙ fill_next k mem a f

pub store_none : (n : ℕ) (mem : Memory) (a : ℕ) (f : ℕ → ℕ) → all_mapped n mem a ≡ false → store n mem a f ≡ None
store_none n mem a f e = ap (λ t. if t then Some (fill n mem a f) else None) e

-- ---- what the recursions answer

abbrev pub Misses : ℕ → Memory → ℕ → Option ℕ → Type 0
Misses n mem a r = MatchOption r (all_mapped n mem a ≡ true) (λ b. (all_mapped n mem a ≡ false) × (b ≡ missing n mem a))

pub misses_later : (n : ℕ) (mem : Memory) (a : ℕ) (r : Option ℕ) → n ≢ 0 → a < 2 ^ 64 → is_some (mem a) ≡ true → Misses (n - 1) mem ((a + 1) % 2 ^ 64) r → Misses n mem a r
misses_later n mem a None h l e m = mapped_later n mem a true h l e m
misses_later n mem a (Some b) h l e m = (mapped_later n mem a false h l e m.0, missing_later n mem a b h l e m.1)

-- a sub-lane that begins past the number
pub past_number : (v w q : ℕ) → v < 2 ^ 64 → 64 ≤ w * q → 0 ≡ v / 2 ^ (w * q) % 2 ^ w
past_number v w q h l =
    let m : 2 ^ 64 ≤ 2 ^ (w * q) = pow_mono l in
    let z : v / 2 ^ (w * q) ≡ 0 = div-eq_of_lt (omega (arith, h, m)) in
    sym (ap (λ k. k % 2 ^ w) z ∙ mod-eq_of_lt (pow_pos w))

-- a number in its place stays below 2 ^ 64
pub stays_below : (v s q : ℕ) → v < 2 ^ (8 * s) → 8 * s * (q + 1) ≤ 64 → v * 2 ^ (8 * s * q) < 2 ^ 64
stays_below v s q h l =
    let e : 8 * s * (q + 1) ≡ 8 * s + 8 * s * q = grind arith in
    let p : 2 ^ (8 * s + 8 * s * q) ≡ 2 ^ (8 * s) * 2 ^ (8 * s * q) = pow-add 2 (8 * s) (8 * s * q) in
    let m : 2 ^ (8 * s + 8 * s * q) ≤ 2 ^ 64 = pow_mono {i = 8 * s + 8 * s * q} {j = 64} (omega (arith, e, l)) in
    let b : v * 2 ^ (8 * s * q) < 2 ^ (8 * s) * 2 ^ (8 * s * q) = mul-lt-mul_of_pos_right h (pow_pos (8 * s * q)) in
    omega (arith, p, m, b)
