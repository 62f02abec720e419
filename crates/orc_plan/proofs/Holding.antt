-- Held values and their places.
use Rattle.std.proofs.Common.{◌≡◌, ◌≢◌, ℕ, zero, suc, ◌+◌, ◌<◌, ◌≤◌, ◌⊎◌, inl, inr, Bool, true, false, not, ◌||◌, ◌==◌, List, [], ◌∷◌, ◌++◌, refl, sym, ap, ◌∙◌, subst, arith, length, filter, slice_index, if◌then◌else◌, length-append, true≢false}
use Rattle.std.specs.List.{list_any}
use Rattle.std.proofs.lemmas.Bool.{or_cases}
use Rattle.std.proofs.lemmas.Bool.Decides.{nat_tests}
use Rattle.std.proofs.lemmas.List.{get_or_append_left}
use Rattle.std.proofs.lemmas.List.Folds.{list_any-append}
use Rattle.std.proofs.Math.Seq.{get_or-append_seam}
use Rattle.orc_program.specs.Need.{is_in}
use Rattle.orc_plan.specs.Placing.{is_taken, Holds, Extends}

-- ---- tests of numbers

pub same_is : (a b : ℕ) → a == b ≡ true → a ≡ b
same_is a b h = grind (arith, nat_tests, h)

pub is_same : (a b : ℕ) → a ≡ b → a == b ≡ true
is_same a b h = grind (arith, nat_tests, h)

pub other_is : (a b : ℕ) → a ≢ b → a == b ≡ false
other_is a b h = grind (arith, nat_tests, h)

pub is_in_any : (p : ℕ → Bool) (vs : List ℕ) (a : ℕ) → is_in a vs ≡ true → p a ≡ true → list_any p vs ≡ true
is_in_any p [] a h e = absurd (true≢false (sym h))
is_in_any p (v ∷ vs) a h e = go (λ s. is_in_any p vs a s e) (or_cases (a == v) (is_in a vs) h)
  where
    either : (x y : Bool) → y ≡ true → (x || y) ≡ true
    either true y s = refl
    either false y s = s

    go : (is_in a vs ≡ true → list_any p vs ≡ true) → (a == v ≡ true) ⊎ (is_in a vs ≡ true) → (p v || list_any p vs) ≡ true
    go later (inl s) = ap (λ b. b || list_any p vs) (ap p (sym (same_is a v s)) ∙ e)
    go later (inr s) = either (p v) (list_any p vs) (later s)

-- ---- so many places that are all taken hold as many values

taken_kept : (f : ℕ → ℕ) (p m : ℕ) → m ≢ p → (vs : List ℕ) → list_any (λ v. f v == p) (filter (λ v. not (f v == m)) vs) ≡ list_any (λ v. f v == p) vs
taken_kept f p m ne [] = refl
taken_kept f p m ne (x ∷ xs) = go (f x == m) refl (taken_kept f p m ne xs)
  where
    go : (b : Bool) → f x == m ≡ b → list_any (λ v. f v == p) (filter (λ v. not (f v == m)) xs) ≡ list_any (λ v. f v == p) xs
        → list_any (λ v. f v == p) (if not b then x ∷ filter (λ v. not (f v == m)) xs else filter (λ v. not (f v == m)) xs) ≡ (f x == p || list_any (λ v. f v == p) xs)
    go true e ih = ih ∙ sym (ap (λ c. c || list_any (λ v. f v == p) xs) (ap (λ n. n == p) (same_is (f x) m e) ∙ other_is m p ne))
    go false e ih = ap (λ c. f x == p || c) ih

no_longer : (q : ℕ → Bool) (vs : List ℕ) → length (filter q vs) ≤ length vs
no_longer q [] = omega arith
no_longer q (x ∷ xs) = go (q x) (no_longer q xs)
  where
    go : (b : Bool) → length (filter q xs) ≤ length xs → length (if b then x ∷ filter q xs else filter q xs) ≤ suc (length xs)
    go true h = omega arith
    go false h = omega arith

shorter : (f : ℕ → ℕ) (m : ℕ) (vs : List ℕ) → list_any (λ v. f v == m) vs ≡ true → length (filter (λ v. not (f v == m)) vs) < length vs
shorter f m [] h = absurd (true≢false (sym h))
shorter f m (x ∷ xs) h = go (shorter f m xs) (f x == m) refl h
  where
    go : (list_any (λ v. f v == m) xs ≡ true → length (filter (λ v. not (f v == m)) xs) < length xs) → (b : Bool) → f x == m ≡ b → (b || list_any (λ v. f v == m) xs) ≡ true → length (if not b then x ∷ filter (λ v. not (f v == m)) xs else filter (λ v. not (f v == m)) xs) < suc (length xs)
    go later true e h = omega (arith, no_longer (λ v. not (f v == m)) xs)
    go later false e h = omega (arith, later h)

all_below : (f : ℕ → ℕ) (n : ℕ) (vs : List ℕ) → ((p : ℕ) → p < n → list_any (λ v. f v == p) vs ≡ true) → n ≤ length vs
all_below f zero vs h = omega arith
all_below f (suc m) vs h =
    let less = all_below f m (filter (λ v. not (f v == m)) vs) (λ p l. taken_kept f p m (omega arith) vs ∙ h p (omega arith)) in
    omega (arith, less, shorter f m vs (h m (omega arith)))

-- where each of the first places is taken, as many values are held
pub all_taken : (most : ℕ) (held at : List ℕ) → ((p : ℕ) → p < most → is_taken held at p ≡ true) → most ≤ length held
unfolding is_taken
all_taken most held at h = all_below (slice_index at) most held h

-- ---- one more value

pub in_more : (held : List ℕ) (v a : ℕ) → is_in a (held ++ v ∷ []) ≡ true → (is_in a held ≡ true) ⊎ (a ≡ v)
in_more held v a h = go (or_cases (is_in a held) (a == v || false) (sym (list_any-append (λ q. a == q) held (v ∷ [])) ∙ h))
  where
    go : (is_in a held ≡ true) ⊎ ((a == v || false) ≡ true) → (is_in a held ≡ true) ⊎ (a ≡ v)
    go (inl s) = inl s
    go (inr s) = inr (last (or_cases (a == v) false s))
      where
        last : (a == v ≡ true) ⊎ (false ≡ true) → a ≡ v
        last (inl t) = same_is a v t
        last (inr t) = absurd (true≢false (sym t))

-- the places with one more
pub old_place : (at : List ℕ) (p v : ℕ) → v < length at → slice_index (at ++ p ∷ []) v ≡ slice_index at v
old_place at p v l = get_or_append_left at (p ∷ []) 0 v l

pub new_place : (at : List ℕ) (p : ℕ) → slice_index (at ++ p ∷ []) (length at) ≡ p
new_place at p = get_or-append_seam at p [] 0

pub holds_more : {most : ℕ} (held at : List ℕ) (v p : ℕ) → Holds most held at → v ≡ length at → p < most → is_taken held at p ≡ false → Holds most (held ++ v ∷ []) (at ++ p ∷ [])
unfolding is_taken
holds_more {most = most} held at v p h e l free = record { made = made; below = below; apart = λ a b x y s. apart a b (in_more held v a x) (in_more held v b y) s }
  where
    made : (a : ℕ) → is_in a (held ++ v ∷ []) ≡ true → a < length (at ++ p ∷ [])
    made a x = go (in_more held v a x)
      where
        go : (is_in a held ≡ true) ⊎ (a ≡ v) → a < length (at ++ p ∷ [])
        go (inl s) = omega (arith, h.made a s, length-append at (p ∷ []))
        go (inr s) = omega (arith, length-append at (p ∷ []))

    below : (a : ℕ) → a < length (at ++ p ∷ []) → slice_index (at ++ p ∷ []) a < most
    below a x = grind (arith, h.below a, old_place at p a, new_place at p, length-append at (p ∷ []), x)

    -- a held value isn't in the new place
    elsewhere : (a : ℕ) → is_in a held ≡ true → slice_index at a ≢ p
    elsewhere a x s = true≢false (sym (is_in_any (λ w. slice_index at w == p) held a x (is_same (slice_index at a) p s)) ∙ free)

    last : (a : ℕ) → a ≡ v → slice_index (at ++ p ∷ []) a ≡ p
    last a s = ap (slice_index (at ++ p ∷ [])) (s ∙ e) ∙ new_place at p

    apart : (a b : ℕ) → (is_in a held ≡ true) ⊎ (a ≡ v) → (is_in b held ≡ true) ⊎ (b ≡ v) → slice_index (at ++ p ∷ []) a ≡ slice_index (at ++ p ∷ []) b → a ≡ b
    apart a b (inl x) (inl y) s = h.apart a b x y (sym (old_place at p a (h.made a x)) ∙ s ∙ old_place at p b (h.made b y))
    apart a b (inl x) (inr y) s = absurd (elsewhere a x (sym (old_place at p a (h.made a x)) ∙ s ∙ last b y))
    apart a b (inr x) (inl y) s = absurd (elsewhere b y (sym (old_place at p b (h.made b y)) ∙ sym s ∙ last a x))
    apart a b (inr x) (inr y) s = x ∙ sym y

pub extends_one : (at : List ℕ) (p : ℕ) → Extends at (at ++ p ∷ []) 1
extends_one at p = record { longer = length-append at (p ∷ []); same = λ v l. old_place at p v l }

pub extends_none : (at : List ℕ) → Extends at at 0
extends_none at = record { longer = omega arith; same = λ v l. refl }

pub extends_both : (a b c : List ℕ) (m n k : ℕ) → Extends a b m → Extends b c n → m + n ≡ k → Extends a c k
extends_both a b c m n k x y e = record { longer = omega (arith, x.longer, y.longer); same = λ v l. y.same v (omega (arith, x.longer)) ∙ x.same v l }

-- the same as the code has it
pub holds_pushed : {most : ℕ} (held at h a new_held new_at : List ℕ) (v p : ℕ) → Holds most held at → v ≡ length at → p < most → h ≡ held → a ≡ at → is_taken h a p ≡ false → new_held ≡ held ++ v ∷ [] → new_at ≡ at ++ p ∷ [] → Holds most new_held new_at
holds_pushed {most = most} held at h a new_held new_at v p holds next below e s free t u =
    let free' : is_taken held at p ≡ false = sym (ap (λ (vs : List ℕ). is_taken vs a p) e ∙ ap (λ (vs : List ℕ). is_taken held vs p) s) ∙ free in
    subst (λ (vs : List ℕ). Holds most vs new_at) (sym t) (subst (λ (vs : List ℕ). Holds most (held ++ v ∷ []) vs) (sym u) (holds_more held at v p holds next below free'))
