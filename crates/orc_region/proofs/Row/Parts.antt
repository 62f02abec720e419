-- Parts of a turn: how many there are, and how many turns they take for so many elements.
use Rattle.std.proofs.Common.{◌≡◌, ℕ, zero, suc, ◌+◌, ◌-◌, ◌*◌, ◌/◌, ◌%◌, ◌^◌, ◌<◌, ◌≤◌, min, List, [], ◌∷◌, length, arith}
use Rattle.std.proofs.lemmas.Nat.{div-add-mod'}
use Rattle.std.proofs.Math.Nat.{add-mul, mul-add, mul-le-mul_left, mul-le-mul_right, mod-lt, le-div_iff_mul-le, le-min}
use Rattle.x86_ins.specs.declared.ins.Ins.{Ins}
use Rattle.orc_region.specs.Regions.{TurnParts}
use Rattle.orc_region.specs.Code.{AreParts}
use Rattle.orc_region.proofs.Row.Gaps.{at_least, each_size, gap_steps}

-- turns of which more is known, of at most half as many elements as so many
module _ (Is Js : ℕ → List Ins → Type 0) (most : ℕ) (more : (count : ℕ) (turn : List Ins) → 2 * count ≤ most → Is count turn → Js count turn) where
  pub parts_map : (parts : TurnParts) (from : ℕ) → from ≤ most → AreParts Is from parts → AreParts Js from parts
  parts_map [] from few are = are
  parts_map (part ∷ parts) from few are = (let u = are.1 in (parts_map parts part.0 (omega (arith, u, few)) are.0, u, more part.0 part.1 (omega (arith, u, few)) are.2))

-- how many turns so many elements take
abbrev pub turns_by : TurnParts → ℕ → ℕ
turns_by [] x = 0
turns_by (part ∷ parts) x = x / part.0 + turns_by parts (x % part.0)

-- 2 ^ d
abbrev pub doubled : ℕ → ℕ
doubled zero = 1
doubled (suc d) = 2 * doubled d

module _ (Is : ℕ → List Ins → Type 0) (positive : (count : ℕ) (turn : List Ins) → Is count turn → 0 < count) where
  -- at most d parts are below 2 ^ d
  pub parts_few : (d : ℕ) (parts : TurnParts) (from : ℕ) → AreParts Is from parts → from ≤ doubled d → length parts ≤ d
  parts_few d [] from are few = omega arith
  parts_few zero (part ∷ parts) from are few = (let u = are.1 in let p = positive part.0 part.1 are.2 in absurd (omega (arith, u, p, few)))
  parts_few (suc d) (part ∷ parts) from are few = (let u = are.1 in let r = parts_few d parts part.0 are.0 (omega (arith, u, few)) in omega (arith, r))

  -- two are below no less than four elements
  pub parts_several : (parts : TurnParts) (from : ℕ) → AreParts Is from parts → 1 < length parts → 4 ≤ from
  parts_several [] from are m = absurd (omega (arith, m))
  parts_several (a ∷ []) from are m = absurd (omega (arith, m))
  parts_several (a ∷ b ∷ parts) from are m = (let u = are.1 in let w = are.0.1 in let p = positive b.0 b.1 are.0.2 in omega (arith, u, w, p))

  -- each turn does an element
  pub turns_few : (parts : TurnParts) (from : ℕ) → AreParts Is from parts → (x : ℕ) → turns_by parts x ≤ x
  turns_few [] from are x = omega arith
  turns_few (part ∷ parts) from are x =
      let p = positive part.0 part.1 are.2 in
      let r = turns_few parts part.0 are.0 (x % part.0) in
      let q = at_least (x / part.0) part.0 p in
      omega (arith, r, q, div-add-mod' x part.0)

  -- and where there are two parts, some turn does two, or some elements are missing
  pub turns_saved : (parts : TurnParts) (from : ℕ) → AreParts Is from parts → 1 < length parts → (x : ℕ) → x < from → turns_by parts x + 2 ≤ from
  turns_saved [] from are m x short = absurd (omega (arith, m))
  turns_saved (a ∷ []) from are m x short = absurd (omega (arith, m))
  turns_saved (a ∷ b ∷ parts) from are m x short =
      let u = are.1 in
      let w = are.0.1 in
      let p = positive b.0 b.1 are.0.2 in
      let r = turns_few (b ∷ parts) a.0 are.0 (x % a.0) in
      let s = mod-lt x (let z : 0 < a.0 = omega (arith, w, p) in z) in
      let q : x / a.0 * 2 ≤ x / a.0 * a.0 = mul-le-mul_left (x / a.0) (let z : 2 ≤ a.0 = omega (arith, w, p) in z) in
      omega (arith, u, w, p, r, s, q, div-add-mod' x a.0, short)

-- ---- the turns and the instructions of a row with a head

-- a row with whole turns has two turns fewer than it may, where parts are several
pub two_fewer : (lanes n g m rest a b : ℕ) → 0 < lanes → 4 ≤ lanes → 0 < m → g + (m * lanes + rest) ≡ n → a ≤ g → b ≤ rest → a + 2 ≤ lanes → b + 2 ≤ lanes → a + m + b + 2 ≤ min n (n / lanes + 2 * lanes - 2)
two_fewer lanes n g m rest a b some four turn all few_a few_b less_a less_b =
    let whole : m ≤ n / lanes = fits m (omega (arith, all)) in
    let wide : m * 4 ≤ m * lanes = mul-le-mul_left m four in
    le-min (omega (arith, turn, all, few_a, few_b, wide)) (omega (arith, whole, less_a, less_b))
  where
    fits : (m : ℕ) → m * lanes ≤ n → m ≤ n / lanes
    fits m l = (le-div_iff_mul-le some).1 l

-- the instructions besides turns: 7 for the gap, 12 for what stands around the loops, and 2 for each part in the head and in the tail. A row with one part has a turn, which pays for 3 of its 23; one with several has up to 33, and at least three turns of those granted pay: one is done, and two are not
pub reached_few : (gaps p u t e : ℕ) → gaps ≤ 7 → gaps + 2 * p ≤ 13 → p ≤ 4 → 0 < u → u ≤ t → (1 < p → u + 2 ≤ t) → 2 ≤ e → gaps + 11 + 4 * p + u * e ≤ 19 + t * (3 + e)
reached_few gaps p u t e seven few four some within saved two = go p few four saved
  where
    split : t * (3 + e) ≡ t * 3 + t * e
    split = mul-add t 3 e

    go : (p : ℕ) → gaps + 2 * p ≤ 13 → p ≤ 4 → (1 < p → u + 2 ≤ t) → gaps + 11 + 4 * p + u * e ≤ 19 + t * (3 + e)
    go zero few four saved = (let m : u * e ≤ t * e = mul-le-mul_right e within in omega (arith, split, m, seven))
    go (suc zero) few four saved = (let m : u * e ≤ t * e = mul-le-mul_right e within in omega (arith, split, m, seven, some, within))
    go (suc (suc p)) few four saved =
        let l : u + 2 ≤ t = saved (omega arith) in
        let m : (u + 2) * e ≤ t * e = mul-le-mul_right e l in
        omega (arith, split, m, add-mul u 2 e, few, four, some, l, two)

-- without a head: the turns pay for nothing
pub unreached_few : (gaps p u t e : ℕ) → gaps + 2 * p ≤ 13 → u ≤ t → gaps + 5 + 2 * p + u * e ≤ 19 + t * (3 + e)
unreached_few gaps p u t e few within = (let m : u * e ≤ t * e = mul-le-mul_right e within in omega (arith, mul-add t 3 e, m, few))

-- the parts below L take 2 instructions each besides their turns, and the gap is found in fewer where L is 16
abbrev FewGaps : ℕ → Type 0
FewGaps k = (lanes p : ℕ) → 16 / 2 ^ k ≡ lanes → ((d : ℕ) → lanes ≤ doubled d → p ≤ d) → gap_steps k + 2 * p ≤ 13

pub gaps_few : (k : ℕ) → k ≤ 3 → FewGaps k
gaps_few k l = each_size FewGaps
    (λ lanes p e f. let q = f 4 (omega (arith, e)) in omega (arith, q))
    (λ lanes p e f. let q = f 3 (omega (arith, e)) in omega (arith, q))
    (λ lanes p e f. let q = f 2 (omega (arith, e)) in omega (arith, q))
    (λ lanes p e f. let q = f 1 (omega (arith, e)) in omega (arith, q))
    k l

pub gap_short : (k : ℕ) → gap_steps k ≤ 7
gap_short zero = omega arith
gap_short (suc k) = omega arith
