-- How many values a step needs, by what was made before it and by when values are read for the last time.
use Rattle.std.proofs.Common.{◌≡◌, ℕ, zero, suc, ◌+◌, ◌<◌, ◌≤◌, ◌==◌, Bool, true, false, ◌&&◌, List, [], ◌∷◌, ◌++◌, refl, sym, ap, ap₂, ◌∙◌, subst, arith, length, take, drop, filter, map, nat_lt, get_or, slice_index, if◌then◌else◌, ⊎_elim, length-append, add-one}
use Rattle.std.specs.List.{list_all, range_with_len}
use Rattle.std.proofs.lemmas.List.Elements.{filter-append}
use Rattle.std.proofs.lemmas.List.FromFn.{map-range_with_len_more, length-map-range_with_len, get_or-map-range_with_len}
use Rattle.std.proofs.lemmas.Bool.{cases_lt, and_parts}
use Rattle.orc_program.specs.Need.{places}
use Rattle.orc_plan.specs.declared.steps.Step.{Step}
use Rattle.orc_plan.specs.Core.{made_by, read_by, made_in, counts_from, is_numbered}
use Rattle.orc_plan.specs.Need.{is_read_in, made_at, need_in}
use Rattle.orc_plan.specs.Ending.{AreEnds}
use Rattle.orc_plan.specs.Places.{line_at}
use Rattle.orc_plan.proofs.Holding.{same_is}
use Rattle.orc_plan.proofs.Ranges.{range_more}

-- ---- how many of the first numbers pass

one_more : (p : ℕ → Bool) (n : ℕ) → filter p (range_with_len 0 (n + 1)) ≡ filter p (range_with_len 0 n) ++ filter p (n ∷ [])
one_more p n =
    ap (λ k. filter p (range_with_len 0 k)) (add-one n) ∙ ap (filter p) (range_more 0 n) ∙ filter-append p (range_with_len 0 n) ((0 + n) ∷ []) ∙ ap (λ k. filter p (range_with_len 0 n) ++ filter p (k ∷ [])) (let e : 0 + n ≡ n = omega arith in e)

pub one_passes : (p : ℕ → Bool) (n live : ℕ) → live ≡ length (filter p (range_with_len 0 n)) → p n ≡ true → live + 1 ≡ length (filter p (range_with_len 0 (n + 1)))
one_passes p n live h e =
    let one : length (filter p (n ∷ [])) ≡ 1 = ap (λ b. length (if b then n ∷ [] else [])) e in
    omega (arith, h, one, ap length (one_more p n), length-append (filter p (range_with_len 0 n)) (filter p (n ∷ [])))

pub one_does_not : (p : ℕ → Bool) (n live : ℕ) → live ≡ length (filter p (range_with_len 0 n)) → p n ≡ false → live ≡ length (filter p (range_with_len 0 (n + 1)))
one_does_not p n live h e =
    let none : length (filter p (n ∷ [])) ≡ 0 = ap (λ b. length (if b then n ∷ [] else [])) e in
    omega (arith, h, none, ap length (one_more p n), length-append (filter p (range_with_len 0 n)) (filter p (n ∷ [])))

-- ---- values that were made are numbered from 0 on

counted_range : (n : ℕ) (vs : List ℕ) → counts_from n vs ≡ true → vs ≡ range_with_len n (length vs)
counted_range n [] h = refl
counted_range n (v ∷ vs) h =
    let both = and_parts (v == n) (counts_from (n + 1) vs) h in
    ap (λ (xs : List ℕ). v ∷ xs) (counted_range (n + 1) vs both.1) ∙ ap (λ k. k ∷ range_with_len (n + 1) (length vs)) (same_is v n both.0)

range_both : (n a b : ℕ) → range_with_len n a ++ range_with_len (n + a) b ≡ range_with_len n (a + b)
range_both n zero b = ap (λ k. range_with_len k b) (let e : n + 0 ≡ n = omega arith in e) ∙ ap (range_with_len n) (let e : b ≡ 0 + b = omega arith in e)
range_both n (suc a) b =
    ap (λ k. n ∷ (range_with_len (n + 1) a ++ range_with_len k b)) (let e : n + suc a ≡ n + 1 + a = omega arith in e)
    ∙ ap (λ (xs : List ℕ). n ∷ xs) (range_both (n + 1) a b)
    ∙ ap (range_with_len n) (let e : suc (a + b) ≡ suc a + b = omega arith in e)

pub made_range : (n : ℕ) (steps : List Step) (j : ℕ) → is_numbered n steps ≡ true → made_in (take j steps) ≡ range_with_len n (length (made_in (take j steps)))
made_range n [] zero h = refl
made_range n [] (suc j) h = refl
made_range n (s ∷ ss) zero h = refl
made_range n (s ∷ ss) (suc j) h =
    let later = is_numbered (n + length (made_by s)) ss in
    let parts = and_parts (list_all (λ v. nat_lt v n) (read_by s)) (counts_from n (made_by s) && later) h in
    let both = and_parts (counts_from n (made_by s)) later parts.1 in
    let a = length (made_by s) in
    let b = length (made_in (take j ss)) in
    ap₂ (λ (xs ys : List ℕ). xs ++ ys) (counted_range n (made_by s) both.0) (made_range (n + a) ss j both.1)
    ∙ range_both n a b ∙ ap (range_with_len n) (sym (length-append (made_by s) (made_in (take j ss))))

-- ---- the need of a step

filter_same : (p q : ℕ → Bool) (a n m : ℕ) → ((v : ℕ) → v < m → p v ≡ q v) → a + n ≤ m → filter p (range_with_len a n) ≡ filter q (range_with_len a n)
filter_same p q a zero m h l = refl
filter_same p q a (suc n) m h l =
    ap (λ b. if b then a ∷ filter p (range_with_len (a + 1) n) else filter p (range_with_len (a + 1) n)) (h a (omega (arith, l)))
    ∙ ap (λ (xs : List ℕ). if q a then a ∷ xs else xs) (filter_same p q (a + 1) n m h (omega (arith, l)))

made_there : (steps : List Step) (j : ℕ) (s : Step) → j < length steps → s ≡ get_or steps j s → made_at steps j ≡ made_by s
made_there [] j s h e = absurd (omega (arith, h))
made_there (x ∷ xs) zero s h e = ap made_by (sym e)
made_there (x ∷ xs) (suc j) s h e = made_there xs j s (omega (arith, h)) e

pub need_is : (steps : List Step) (ends : List ℕ) (j made live here : ℕ) (s : Step) → AreEnds ends 0 steps → is_numbered 0 steps ≡ true → j < length steps → s ≡ get_or steps j s
    → made ≡ length (made_in (take j steps)) → made ≤ 200 → live ≡ length (filter (λ v. nat_lt j (slice_index ends v)) (range_with_len 0 made)) → here ≡ length (made_by s) → live + here ≡ need_in steps j
unfolding need_in
need_is steps ends j made live here s are numbered l e m few count h =
    let zero_first : 0 + j ≡ j = omega arith in
    let same : filter (λ v. nat_lt j (slice_index ends v)) (range_with_len 0 made) ≡ filter (is_read_in (drop j steps)) (made_in (take j steps)) =
    filter_same (λ v. nat_lt j (slice_index ends v)) (is_read_in (drop j steps)) 0 made 200 (λ v w. ap (λ k. nat_lt k (slice_index ends v)) (sym zero_first) ∙ sym (are v w j)) (omega (arith, few))
    ∙ ap (λ n. filter (is_read_in (drop j steps)) (range_with_len 0 n)) m
    ∙ ap (filter (is_read_in (drop j steps))) (sym (made_range 0 steps j numbered)) in
    omega (arith, count, ap length same, h, ap length (made_there steps j s l e), length-append (filter (is_read_in (drop j steps)) (made_in (take j steps))) (made_at steps j))

-- what was made, with one more step
pub made_more : (steps : List Step) (j made here : ℕ) (s : Step) → j < length steps → s ≡ get_or steps j s → made ≡ length (made_in (take j steps)) → here ≡ length (made_by s) → made + here ≡ length (made_in (take (j + 1) steps))
made_more steps j made here s l e m h = whole ∙ ap (λ k. length (made_in (take k steps))) (sym (add-one j))
  where
    grown : (ss : List Step) (k : ℕ) → k < length ss → s ≡ get_or ss k s → length (made_in (take (suc k) ss)) ≡ length (made_in (take k ss)) + length (made_by s)
    grown [] k l e = absurd (omega (arith, l))
    grown (x ∷ xs) zero l e = length-append (made_by x) [] ∙ omega (arith, ap (λ t. length (made_by t)) e)
    grown (x ∷ xs) (suc k) l e = omega (arith, grown xs k (omega (arith, l)) e, length-append (made_by x) (made_in (take (suc k) xs)), length-append (made_by x) (made_in (take k xs)))

    whole : made + here ≡ length (made_in (take (suc j) steps))
    whole = omega (arith, m, h, grown steps j l e)

-- ---- the needs of all steps

pub needs_more : (steps : List Step) (items : List ℕ) (x j : ℕ) → items ≡ map (need_in steps) (range_with_len 0 j) → x ≡ need_in steps j → items ++ x ∷ [] ≡ map (need_in steps) (range_with_len 0 (j + 1))
needs_more steps items x j e h = ap₂ (λ (xs : List ℕ) y. xs ++ y ∷ []) e h ∙ sym (map-range_with_len_more (need_in steps) 0 j j (omega arith))

pub needs_long : (steps : List Step) (items given : List ℕ) (j : ℕ) → given ≡ items → items ≡ map (need_in steps) (range_with_len 0 j) → length given ≡ j
needs_long steps items given j g e = ap length (g ∙ e) ∙ length-map-range_with_len (need_in steps) 0 j

pub need_there : (steps : List Step) (items given : List ℕ) (j : ℕ) → given ≡ items → items ≡ map (need_in steps) (range_with_len 0 (length steps)) → j < length steps → slice_index given j ≡ need_in steps j
need_there steps items given j g e l = ap (λ (xs : List ℕ). slice_index xs j) (g ∙ e) ∙ get_or-map-range_with_len (need_in steps) 0 (length steps) j j 0 l (omega arith)

pub line_there : (steps : List Step) (j : ℕ) (s : Step) → j < length steps → s ≡ get_or steps j s → s.line ≡ line_at steps j
line_there [] j s l e = absurd (omega (arith, l))
line_there (x ∷ xs) zero s l e = ap (λ (t : Step). t.line) e
line_there (x ∷ xs) (suc j) s l e = line_there xs j s (omega (arith, l)) e

-- no step before this one needs more than there are places, nor does this one
pub few_to : (steps : List Step) (j : ℕ) → ((i : ℕ) → i < j → need_in steps i ≤ places) → need_in steps j ≤ places → (i : ℕ) → i < j + 1 → need_in steps i ≤ places
few_to steps j before here i l = ⊎_elim (λ h. before i h) (λ h. subst (λ k. need_in steps k ≤ places) (let e : j ≡ i = omega (arith, h, l) in e) here) (cases_lt i j)
