-- The last step that reads a value.
use Rattle.std.proofs.Common.{◌≡◌, ℕ, zero, suc, ◌+◌, ◌<◌, ◌≤◌, ◌==◌, Bool, true, false, ◌||◌, List, [], ◌∷◌, ◌++◌, refl, sym, ap, ◌∙◌, arith, length, take, drop, nat_lt, get_or, slice_index, slice_set, if◌then◌else◌, ⊎_elim, length-take-le, add-one, replicate, true≢false}
use Rattle.std.proofs.lemmas.Bool.{cases_lt, cases_eq, lt-ltb, le-ltb}
use Rattle.std.proofs.lemmas.List.{take_all, get_or-set_same, get_or-set_other}
use Rattle.std.proofs.lemmas.List.Folds.{list_any-append}
use Rattle.orc_program.specs.Need.{is_in}
use Rattle.orc_plan.specs.declared.steps.Step.{Step}
use Rattle.orc_plan.specs.Core.{read_by}
use Rattle.orc_plan.specs.Need.{is_read_in}
use Rattle.orc_plan.proofs.Holding.{is_same, other_is}

-- how many steps there are up to the last that reads the value; 0 where none does
abbrev pub last_read : List Step → ℕ → ℕ
last_read [] v = 0
last_read (s ∷ ss) v = if is_read_in ss v then suc (last_read ss v) else (if is_in v (read_by s) then 1 else 0)

less_suc : (j n : ℕ) → nat_lt j n ≡ nat_lt (suc j) (suc n)
less_suc j n = ⊎_elim (λ h. lt-ltb j n h ∙ sym (lt-ltb (suc j) (suc n) (omega (arith, h)))) (λ h. le-ltb j n h ∙ sym (le-ltb (suc j) (suc n) (omega (arith, h)))) (cases_lt j n)

none_later : (ss : List Step) (v j : ℕ) → is_read_in ss v ≡ false → is_read_in (drop j ss) v ≡ false
none_later [] v zero h = refl
none_later [] v (suc j) h = refl
none_later (s ∷ ss) v zero h = h
none_later (s ∷ ss) v (suc j) h = go (is_in v (read_by s)) (λ e. none_later ss v j e) h
  where
    go : (a : Bool) → (is_read_in ss v ≡ false → is_read_in (drop j ss) v ≡ false) → (a || is_read_in ss v) ≡ false → is_read_in (drop j ss) v ≡ false
    go true later e = absurd (true≢false e)
    go false later e = later e

-- a step from number j on reads the value exactly where the last that does is such a step
pub read_from : (ss : List Step) (v j : ℕ) → is_read_in (drop j ss) v ≡ nat_lt j (last_read ss v)
read_from [] v zero = refl
read_from [] v (suc j) = sym (le-ltb (suc j) 0 (omega arith))
read_from (s ∷ ss) v zero = go (is_read_in ss v) (is_in v (read_by s))
  where
    go : (a b : Bool) → (b || a) ≡ nat_lt 0 (if a then suc (last_read ss v) else (if b then 1 else 0))
    go true true = sym (lt-ltb 0 (suc (last_read ss v)) (omega arith))
    go true false = sym (lt-ltb 0 (suc (last_read ss v)) (omega arith))
    go false true = refl
    go false false = refl
read_from (s ∷ ss) v (suc j) = go (read_from ss v j) (λ h. none_later ss v j h) (is_read_in ss v) refl (is_in v (read_by s))
  where
    go : is_read_in (drop j ss) v ≡ nat_lt j (last_read ss v) → (is_read_in ss v ≡ false → is_read_in (drop j ss) v ≡ false) → (a : Bool) → is_read_in ss v ≡ a → (b : Bool)
        → is_read_in (drop j ss) v ≡ nat_lt (suc j) (if a then suc (last_read ss v) else (if b then 1 else 0))
    go h none true e b = h ∙ less_suc j (last_read ss v)
    go h none false e true = none e ∙ sym (le-ltb (suc j) 1 (omega arith))
    go h none false e false = none e ∙ sym (le-ltb (suc j) 0 (omega arith))

-- with one more step
pub last_of_more : (ss : List Step) (s : Step) (v : ℕ) → last_read (ss ++ s ∷ []) v ≡ (if is_in v (read_by s) then suc (length ss) else last_read ss v)
last_of_more [] s v = refl
last_of_more (x ∷ xs) s v =
    ap (λ b. if b then suc (last_read (xs ++ s ∷ []) v) else (if is_in v (read_by x) then 1 else 0)) (list_any-append (λ t. is_in v (read_by t)) xs (s ∷ []))
    ∙ go (is_in v (read_by s)) (is_read_in xs v) (last_of_more xs s v)
  where
    go : (a b : Bool) → last_read (xs ++ s ∷ []) v ≡ (if a then suc (length xs) else last_read xs v)
        → (if b || (a || false) then suc (last_read (xs ++ s ∷ []) v) else (if is_in v (read_by x) then 1 else 0)) ≡ (if a then suc (suc (length xs)) else (if b then suc (last_read xs v) else (if is_in v (read_by x) then 1 else 0)))
    go true true h = ap suc h
    go true false h = ap suc h
    go false true h = ap suc h
    go false false h = refl

-- ---- the same as the code has it

pub noted : (a b : Bool) (s o m n : ℕ) → m ≡ (if a then s else o) → n ≡ (if b then s else m) → n ≡ (if a || b then s else o)
noted true true s o m n h e = e
noted true false s o m n h e = e ∙ h
noted false true s o m n h e = e
noted false false s o m n h e = e ∙ h

pub one_noted : (ends new : List ℕ) (value s v : ℕ) → value < length ends → new ≡ slice_set ends value s → slice_index new v ≡ (if v == value then s else slice_index ends v)
one_noted ends new value s v l e =
    ap (λ (xs : List ℕ). slice_index xs v) e
    ∙ ⊎_elim
    (λ h. ap (slice_index (slice_set ends value s)) h ∙ get_or-set_same ends value s 0 l ∙ sym (ap (λ b. if b then s else slice_index ends v) (is_same v value h)))
    (λ h. get_or-set_other ends value v s 0 h ∙ sym (ap (λ b. if b then s else slice_index ends v) (other_is v value h)))
    (cases_eq v value)

pub zeros : (n v : ℕ) → slice_index (replicate n 0) v ≡ 0
zeros zero v = refl
zeros (suc n) zero = refl
zeros (suc n) (suc v) = zeros n v

take_more : (ss : List Step) (k : ℕ) (t : Step) → k < length ss → t ≡ get_or ss k t → take (suc k) ss ≡ take k ss ++ t ∷ []
take_more [] k t h g = absurd (omega (arith, h))
take_more (x ∷ xs) zero t h g = ap (λ (y : Step). y ∷ []) (sym g)
take_more (x ∷ xs) (suc k) t h g = ap (λ (ys : List Step). x ∷ ys) (take_more xs k t (omega (arith, h)) g)

pub one_more_noted : (steps : List Step) (j : ℕ) (s : Step) (old new : List ℕ) (v : ℕ) → j < length steps → s ≡ get_or steps j s → slice_index old v ≡ last_read (take j steps) v
    → slice_index new v ≡ (if is_in v (read_by s) then j + 1 else slice_index old v) → slice_index new v ≡ last_read (take (j + 1) steps) v
one_more_noted steps j s old new v l e o n =
    n ∙ go (is_in v (read_by s)) ∙ sym (last_of_more (take j steps) s v) ∙ ap (λ (ss : List Step). last_read ss v) (sym (take_more steps j s l e)) ∙ ap (λ k. last_read (take k steps) v) (sym (add-one j))
  where
    long : length (take j steps) ≡ j
    long = length-take-le j steps (omega (arith, l))

    go : (b : Bool) → (if b then j + 1 else slice_index old v) ≡ (if b then suc (length (take j steps)) else last_read (take j steps) v)
    go true = omega (arith, long)
    go false = o

pub ends_are : (steps : List Step) (j : ℕ) (ends : List ℕ) (v i : ℕ) → length steps ≤ j → slice_index ends v ≡ last_read (take j steps) v → is_read_in (drop i steps) v ≡ nat_lt (0 + i) (slice_index ends v)
ends_are steps j ends v i l e =
    read_from steps v i
    ∙ ap (nat_lt i) (sym (e ∙ ap (λ (ss : List Step). last_read ss v) (take_all j steps l)))
    ∙ ap (λ k. nat_lt k (slice_index ends v)) (let z : i ≡ 0 + i = omega arith in z)
