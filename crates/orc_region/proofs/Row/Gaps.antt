-- The elements before a boundary of 16 bytes, and the turns of a row.
use Rattle.std.proofs.Common.{◌≡◌, ℕ, zero, suc, ◌+◌, ◌-◌, ◌*◌, ◌/◌, ◌%◌, ◌^◌, ◌<◌, ◌≤◌, min, Bool, true, false, refl, arith, suc-mul}
use Rattle.std.proofs.lemmas.Nat.{div-add-mod'}
use Rattle.std.proofs.Math.Nat.{le-div_iff_mul-le, le-min, mod-lt}
use Rattle.orc_program.specs.Need.{most_turns}

-- what holds of sizes of 1, 2, 4 and 8 bytes
pub each_size : (P : ℕ → Type 0) → P 0 → P 1 → P 2 → P 3 → (k : ℕ) → k ≤ 3 → P k
each_size P a b c d zero l = a
each_size P a b c d (suc zero) l = b
each_size P a b c d (suc (suc zero)) l = c
each_size P a b c d (suc (suc (suc zero))) l = d
each_size P a b c d (suc (suc (suc (suc k)))) l = absurd (omega (arith, l))

-- the cell of element i, of 2 ^ k bytes, begins at a multiple of 16
abbrev pub AtSixteen : ℕ → ℕ → ℕ → Type 0
AtSixteen k base i = (base + i * 2 ^ k) % 16 ≡ 0

-- the elements before the first such one, where there is one, from the address of the first element
abbrev pub gap : ℕ → ℕ → ℕ
gap k p = (0 + (2 ^ 64 - p)) % 2 ^ 64 % 16 / 2 ^ k

pub record IsGap (k base h : ℕ) : Type 0 where
  pub near : h < 16 / 2 ^ k
  pub reached : AtSixteen k base h
  pub first : (i : ℕ) → AtSixteen k base i → h ≤ i

abbrev GapFor : ℕ → Type 0
GapFor k = (base p : ℕ) → base % 2 ^ 64 ≡ p → p % 2 ^ k ≡ 0 → IsGap k base (gap k p)

gap_1 : GapFor 0
gap_1 base p e m = record { near = omega (arith, e); reached = omega (arith, e); first = λ i h. omega (arith, e, h) }

gap_2 : GapFor 1
gap_2 base p e m = record { near = omega (arith, e); reached = omega (arith, e, m); first = λ i h. omega (arith, e, h) }

gap_4 : GapFor 2
gap_4 base p e m = record { near = omega (arith, e); reached = omega (arith, e, m); first = λ i h. omega (arith, e, h) }

gap_8 : GapFor 3
gap_8 base p e m = record { near = omega (arith, e); reached = omega (arith, e, m); first = λ i h. omega (arith, e, h) }

-- it is the first
pub gap_is : (k : ℕ) → k ≤ 3 → (base p : ℕ) → base % 2 ^ 64 ≡ p → p % 2 ^ k ≡ 0 → IsGap k base (gap k p)
gap_is k l = each_size GapFor gap_1 gap_2 gap_4 gap_8 k l

abbrev NoneFor : ℕ → Type 0
NoneFor k = (base p : ℕ) → base % 2 ^ 64 ≡ p → (p % 2 ^ k ≡ 0 → ⊥) → (i : ℕ) → AtSixteen k base i → ⊥

-- an address that is no multiple of the size has none
pub no_gap : (k : ℕ) → k ≤ 3 → NoneFor k
no_gap k l = each_size NoneFor
    (λ base p e n i h. n (omega arith))
    (λ base p e n i h. n (omega (arith, e, h)))
    (λ base p e n i h. n (omega (arith, e, h)))
    (λ base p e n i h. n (omega (arith, e, h)))
    k l

-- aligned elements are so many apart
pub sixteen_on : (k : ℕ) → k ≤ 3 → (base i : ℕ) → AtSixteen k base i → AtSixteen k base (16 / 2 ^ k + i)
sixteen_on k l = each_size (λ k. (base i : ℕ) → AtSixteen k base i → AtSixteen k base (16 / 2 ^ k + i))
    (λ base i h. omega (arith, h)) (λ base i h. omega (arith, h)) (λ base i h. omega (arith, h)) (λ base i h. omega (arith, h)) k l

-- at most so many instructions find the gap
abbrev pub gap_steps : ℕ → ℕ
gap_steps zero = 3
gap_steps (suc k) = 7

-- ---- turns

pub at_least : (m l : ℕ) → 0 < l → m ≤ m * l
at_least zero l h = omega arith
at_least (suc m) l h = omega (arith, at_least m l h, h, suc-mul m l)

-- so many single elements, whole turns and single elements
pub some_turns : (lanes n h m rest : ℕ) → 0 < lanes → h < lanes → rest < lanes → h + (m * lanes + rest) ≡ n → h + m + rest ≤ min n (n / lanes + 2 * lanes - 2)
some_turns lanes n h m rest some near short all =
    let whole : m ≤ n / lanes = fits m (omega (arith, all)) in
    let single : m ≤ m * lanes = at_least m lanes some in
    le-min (omega (arith, single, all)) (omega (arith, whole, near, short))
  where
    fits : (m : ℕ) → m * lanes ≤ n → m ≤ n / lanes
    fits m l = (le-div_iff_mul-le some).1 l

-- whole turns from the first element on, and single ones behind them, of which there are none if the row is whole turns
pub turns_behind : (lanes n : ℕ) (whole begins : Bool) → 0 < lanes → (whole ≡ true → n % lanes ≡ 0) → n / lanes + n % lanes ≤ min n (most_turns lanes whole begins n)
turns_behind lanes n whole begins some none = go whole begins none
  where
    short : n % lanes < lanes
    short = mod-lt n some

    within : n / lanes + n % lanes ≤ n
    within = (let single : n / lanes ≤ n / lanes * lanes = at_least (n / lanes) lanes some in omega (arith, single, div-add-mod' n lanes))

    go : (whole begins : Bool) → (whole ≡ true → n % lanes ≡ 0) → n / lanes + n % lanes ≤ min n (most_turns lanes whole begins n)
    go true begins none = le-min within (omega (arith, none refl))
    go false true none = le-min within (omega (arith, short))
    go false false none = le-min within (omega (arith, short, some))
