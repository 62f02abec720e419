-- The runners that haven't ended, one after the other.
use Rattle.std.proofs.Common.{◌≡◌, ℕ, suc, ◌+◌, ◌-◌, ◌<◌, ◌≤◌, Bool, true, false, not, cond, List, [], ◌∷◌, length, drop, get_or, slice_index, if◌then◌else◌, refl, sym, ap, ◌∙◌, subst, arith, add-one}
use Rattle.std.specs.List.{count_by}
use Rattle.std.proofs.Math.Seq.{drop-cons}
use Rattle.std.proofs.lemmas.List.{get_or-map, drop_all, length-map}
use Rattle.std.proofs.lemmas.List.Sums.{sum_by-cons}
use Rattle.orc_jobs.specs.declared.world.Runner.{Runner}
use Rattle.orc_jobs.specs.World.{Stand, stand_of, stands_of, no_stand}
use Rattle.orc_jobs.specs.Drawn.{has_ended, left_from}

-- what is looked for is the one with number `skip` of those from k on
pub record Seeks (all : List Stand) (j k skip : ℕ) : Type 0 where
  pub value : slice_index (left_from 0 all) j ≡ slice_index (left_from k (drop k all)) skip
  pub within : skip < length (left_from k (drop k all))

pub seeks_first : (all : List Stand) (j : ℕ) → j < length (left_from 0 all) → Seeks all j 0 j
seeks_first all j l = record { value = refl; within = l }

module _ (all : List Stand) (j k skip : ℕ) (inside : k < length all) (h : Seeks all j k skip) where
  abbrev rest : List ℕ
  rest = left_from (k + 1) (drop (k + 1) all)

  split : left_from k (drop k all) ≡ (if has_ended (get_or all k no_stand) then rest else k ∷ rest)
  split = ap (left_from k) (drop-cons all k no_stand inside ∙ ap (λ n. get_or all k no_stand ∷ drop n all) (sym (add-one k)))

  pub seeks_behind : has_ended (get_or all k no_stand) ≡ true → Seeks all j (k + 1) skip
  seeks_behind e =
      let same : left_from k (drop k all) ≡ rest = split ∙ ap (λ b. if b then rest else k ∷ rest) e in
      record { value = h.value ∙ ap (λ l. slice_index l skip) same; within = subst (λ l. skip < length l) same h.within }

  pub here_same : has_ended (get_or all k no_stand) ≡ false → left_from k (drop k all) ≡ k ∷ rest
  here_same e = split ∙ ap (λ b. if b then rest else k ∷ rest) e

  pub seeks_here : has_ended (get_or all k no_stand) ≡ false → skip ≡ 0 → k ≡ slice_index (left_from 0 all) j
  seeks_here e z = sym (h.value ∙ ap (λ l. slice_index l skip) (here_same e) ∙ ap (slice_index (k ∷ rest)) z)

  pub seeks_next : has_ended (get_or all k no_stand) ≡ false → 0 < skip → Seeks all j (k + 1) (skip - 1)
  seeks_next e some =
      let one : skip ≡ suc (skip - 1) = omega (arith, some) in
      let w = subst (λ l. skip < length l) (here_same e) h.within in
      record { value = h.value ∙ ap (λ l. slice_index l skip) (here_same e) ∙ ap (slice_index (k ∷ rest)) one; within = omega (arith, w, some) }

pub seeks_none : (all : List Stand) (j k skip : ℕ) → length all ≤ k → Seeks all j k skip → ⊥
seeks_none all j k skip l h = let w = subst (λ xs. skip < length (left_from k xs)) (drop_all k all l) h.within in omega (arith, w)

-- as many as are counted
pub left_count : (k : ℕ) (rs : List Runner) → count_by (λ r. not (has_ended (stand_of r))) rs ≡ length (left_from k (stands_of rs))
left_count k [] = refl
left_count k (r ∷ rs) = sum_by-cons (λ (x : Runner). cond (not (has_ended (stand_of x))) 1 0) r rs ∙ go (has_ended (stand_of r)) (left_count (k + 1) rs)
  where
    go : (b : Bool) → count_by (λ r. not (has_ended (stand_of r))) rs ≡ length (left_from (k + 1) (stands_of rs))
        → cond (not b) 1 0 + count_by (λ r. not (has_ended (stand_of r))) rs ≡ length (if b then left_from (k + 1) (stands_of rs) else k ∷ left_from (k + 1) (stands_of rs))
    go true e = omega (arith, e)
    go false e = omega (arith, e)

pub stand_is : (rs : List Runner) (k : ℕ) (r : Runner) → k < length rs → get_or (stands_of rs) k no_stand ≡ stand_of (get_or rs k r)
stand_is rs k r l = get_or-map stand_of rs k r no_stand l

pub ended_is : (rs : List Runner) (k : ℕ) (r : Runner) (b t : Bool) → k < length rs → r ≡ get_or rs k r → b ≡ has_ended (stand_of r) → b ≡ t → has_ended (get_or (stands_of rs) k no_stand) ≡ t
ended_is rs k r b t l is e q = ap has_ended (stand_is rs k r l ∙ ap stand_of (sym is)) ∙ sym e ∙ q

pub inside_all : (rs : List Runner) (k : ℕ) → k < length rs → k < length (stands_of rs)
inside_all rs k l = subst (λ n. k < n) (sym (length-map rs stand_of)) l
