-- Elements of an array in memory, and their bytes.
use Rattle.std.proofs.Common.{◌≡◌, ℕ, zero, suc, ◌+◌, ◌*◌, ◌%◌, ◌^◌, ◌<◌, ◌≤◌, List, [], ◌∷◌, get_or, Option, Some, None, refl, sym, ap, ◌∙◌, subst, arith, lit<}
use Rattle.orc_bits.specs.Lanes.{number_at, lane}
use Rattle.orc_bits.specs.Memory.{Memory, bind, read, number, value}
use Rattle.orc_bits.proofs.Memories.{bind_some, some_one, AreMapped, read_there, Bytewide}
use Rattle.orc_resample.specs.Ready.{some_or_zero}

-- the byte at an address, and 0 where there is none
abbrev pub byte : Memory → ℕ → ℕ
byte mem x = some_or_zero (mem (x % 2 ^ 64))

-- the number whose n bytes are f 0, f 1 and so on, lowest first
abbrev pub digits : ℕ → (ℕ → ℕ) → ℕ
digits zero f = 0
digits (suc n) f = f 0 + 256 * digits n (λ j. f (suc j))

pub digits_same : (n : ℕ) (f g : ℕ → ℕ) → ((j : ℕ) → j < n → f j ≡ g j) → digits n f ≡ digits n g
digits_same zero f g h = refl
digits_same (suc n) f g h =
    ap (λ x. x + 256 * digits n (λ j. f (suc j))) (h 0 (omega arith))
    ∙ ap (λ x. g 0 + 256 * x) (digits_same n (λ j. f (suc j)) (λ j. g (suc j)) (λ j l. h (suc j) (omega (arith, l))))

pub byte_small : (mem : Memory) → Bytewide mem → (x : ℕ) → byte mem x < 256
byte_small mem h x = go (mem (x % 2 ^ 64)) refl
  where
    go : (o : Option ℕ) → mem (x % 2 ^ 64) ≡ o → some_or_zero o < 256
    go None e = lit< tt
    go (Some v) e = h (x % 2 ^ 64) v e

-- the address may be taken modulo 2 ^ 64
pub byte_at : (mem : Memory) (x y : ℕ) → byte mem (x % 2 ^ 64 + y) ≡ byte mem (x + y)
byte_at mem x y = ap (λ a. some_or_zero (mem a)) (let e : (x % 2 ^ 64 + y) % 2 ^ 64 ≡ (x + y) % 2 ^ 64 = omega arith in e)

next_byte : (mem : Memory) (a j : ℕ) → byte mem (a + 1 + j) ≡ byte mem (a + suc j)
next_byte mem a j = ap (byte mem) (let e : a + 1 + j ≡ a + suc j = omega arith in e)

first_byte : (mem : Memory) (a : ℕ) → byte mem a ≡ byte mem (a + 0)
first_byte mem a = ap (byte mem) (let e : a ≡ a + 0 = omega arith in e)

pub read_byte : (n : ℕ) (mem : Memory) (a : ℕ) (bs : List ℕ) → read n mem a ≡ Some bs → (j : ℕ) → j < n → get_or bs j 0 ≡ byte mem (a + j)
read_byte zero mem a bs e j l = absurd (omega (arith, l))
read_byte (suc n) mem a bs e j l =
    let x = bind_some (mem (a % 2 ^ 64)) _ bs e in
    let y = bind_some (read n mem (a + 1)) _ bs x.2 in
    subst (λ l. get_or l j 0 ≡ byte mem (a + j)) (some_one (x.0 ∷ y.0) bs y.2) (each x.0 y.0 (sym (ap some_or_zero x.1)) (λ i m. read_byte n mem (a + 1) y.0 y.1 i m) j l)
  where
    each : (b : ℕ) (l : List ℕ) → b ≡ byte mem a → ((i : ℕ) → i < n → get_or l i 0 ≡ byte mem (a + 1 + i)) → (j : ℕ) → j < suc n → get_or (b ∷ l) j 0 ≡ byte mem (a + j)
    each b l e r zero m = e ∙ first_byte mem a
    each b l e r (suc j) m = r j (omega (arith, m)) ∙ next_byte mem a j

pub read_beyond : (n : ℕ) (mem : Memory) (a : ℕ) (bs : List ℕ) → read n mem a ≡ Some bs → (j : ℕ) → n ≤ j → get_or bs j 0 ≡ 0
read_beyond zero mem a bs e j l = subst (λ l. get_or l j 0 ≡ 0) (some_one [] bs e) refl
read_beyond (suc n) mem a bs e j l =
    let x = bind_some (mem (a % 2 ^ 64)) _ bs e in
    let y = bind_some (read n mem (a + 1)) _ bs x.2 in
    subst (λ l. get_or l j 0 ≡ 0) (some_one (x.0 ∷ y.0) bs y.2) (each x.0 y.0 (λ i m. read_beyond n mem (a + 1) y.0 y.1 i m) j l)
  where
    each : (b : ℕ) (l : List ℕ) → ((i : ℕ) → n ≤ i → get_or l i 0 ≡ 0) → (j : ℕ) → suc n ≤ j → get_or (b ∷ l) j 0 ≡ 0
    each b l r zero m = absurd (omega (arith, m))
    each b l r (suc j) m = r j (omega (arith, m))

number_is : (n : ℕ) (mem : Memory) (a : ℕ) (bs : List ℕ) → read n mem a ≡ Some bs → number bs ≡ digits n (λ j. byte mem (a + j))
number_is zero mem a bs e = subst (λ l. number l ≡ 0) (some_one [] bs e) refl
number_is (suc n) mem a bs e =
    let x = bind_some (mem (a % 2 ^ 64)) _ bs e in
    let y = bind_some (read n mem (a + 1)) _ bs x.2 in
    subst (λ l. number l ≡ digits (suc n) (λ j. byte mem (a + j))) (some_one (x.0 ∷ y.0) bs y.2)
    (ap (λ v. v + 256 * number y.0) (sym (ap some_or_zero x.1) ∙ first_byte mem a)
    ∙ ap (λ v. byte mem (a + 0) + 256 * v) (number_is n mem (a + 1) y.0 y.1 ∙ digits_same n (λ j. byte mem (a + 1 + j)) (λ j. byte mem (a + suc j)) (λ j l. next_byte mem a j)))

-- mapped bytes are read as the number that they spell
pub value_is : (n : ℕ) (mem : Memory) (a : ℕ) → AreMapped n mem a → value n mem a ≡ Some (digits n (λ j. byte mem (a + j)))
value_is n mem a h =
    let r = read_there n mem a h in
    ap (λ o. bind o (λ bs. Some (number bs))) r.1 ∙ ap Some (number_is n mem a r.0 r.1)

number_at_is : (n : ℕ) (x : List ℕ) (at : ℕ) → number_at x at n ≡ digits n (λ j. get_or x (at + j) 0)
unfolding number_at
number_at_is zero x at = refl
number_at_is (suc n) x at =
    ap (λ i. get_or x i 0 + 256 * number_at x (at + 1) n) (let e : at ≡ at + 0 = omega arith in e)
    ∙ ap (λ v. get_or x (at + 0) 0 + 256 * v) (number_at_is n x (at + 1) ∙ digits_same n (λ j. get_or x (at + 1 + j) 0) (λ j. get_or x (at + suc j) 0) (λ j l. ap (λ i. get_or x i 0) (let e : at + 1 + j ≡ at + suc j = omega arith in e)))

-- a lane is the number that its bytes spell
pub lane_is : (w q : ℕ) (x : List ℕ) → lane w q x ≡ digits w (λ j. get_or x (q * w + j) 0)
unfolding lane
lane_is w q x = number_at_is w x (q * w)
