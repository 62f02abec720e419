-- The places of the variables of a kind, up to a place, and how many there are.
use Rattle.std.proofs.Common.{◌≡◌, ℕ, zero, suc, ◌+◌, ◌<◌, ◌≤◌, Bool, true, false, cond, List, [], ◌∷◌, ◌++◌, length, take, map, refl, sym, ap, ◌∙◌, arith, append-nil, length-take-le}
use Rattle.std.specs.List.{filter, count_by, range_with_len}
use Rattle.std.proofs.lemmas.List.{get_or-take}
use Rattle.std.proofs.lemmas.List.Elements.{filter-append}
use Rattle.std.proofs.lemmas.List.Sums.{sum_by-take-le, count_by_more_yes, length-filter}
use Rattle.std.proofs.lemmas.List.Folds.{fold-map}
use Rattle.std.proofs.lemmas.List.FromFn.{fill_by_all}
use Rattle.orc_program.specs.declared.program.Var.{Var}
use Rattle.orc_program.specs.declared.program.VarKind.{VarKind}
use Rattle.orc_program.specs.Program.{var_at, no_var, is_of, count_of, count_before, places_of}

-- ---- the first places of a kind

unfoldable pub places_before : VarKind → List Var → ℕ → List ℕ
places_before k vars i = filter (λ p. is_of k (var_at vars p)) (range_with_len 0 i)

range_more : (a n : ℕ) → range_with_len a (suc n) ≡ range_with_len a n ++ (a + n) ∷ []
range_more a zero = ap (λ x. x ∷ []) (let e : a ≡ a + 0 = omega arith in e)
range_more a (suc n) = ap (λ l. a ∷ l) (range_more (a + 1) n) ∙ ap (λ x. a ∷ (range_with_len (a + 1) n ++ x ∷ [])) (let e : a + 1 + n ≡ a + suc n = omega arith in e)

pub places_first : (k : VarKind) (vars : List Var) → places_before k vars 0 ≡ []
unfolding places_before
places_first k vars = refl

pub places_last : (k : VarKind) (vars : List Var) → places_before k vars (length vars) ≡ places_of k vars
unfolding places_before
places_last k vars = refl

pub places_done : (k : VarKind) (vars : List Var) (i : ℕ) (ps : List ℕ) → i ≤ length vars → length vars ≤ i → ps ≡ places_before k vars i → ps ≡ places_of k vars
places_done k vars i ps l h e = e ∙ ap (places_before k vars) (let q : i ≡ length vars = omega (arith, l, h) in q) ∙ places_last k vars

one_more : (k : VarKind) (vars : List Var) (i : ℕ) → places_before k vars (i + 1) ≡ places_before k vars i ++ cond (is_of k (var_at vars i)) (i ∷ []) []
unfolding places_before
one_more k vars i =
    let t : ℕ → Bool = λ p. is_of k (var_at vars p) in
    ap (λ n. filter t (range_with_len 0 n)) (let e : i + 1 ≡ suc i = omega arith in e) ∙ ap (filter t) (range_more 0 i) ∙ filter-append t (range_with_len 0 i) ((0 + i) ∷ [])
    ∙ ap (λ j. filter t (range_with_len 0 i) ++ cond (is_of k (var_at vars j)) (j ∷ []) []) (let e : 0 + i ≡ i = omega arith in e)

pub places_yes : (k : VarKind) (vars : List Var) (i : ℕ) → is_of k (var_at vars i) ≡ true → places_before k vars (i + 1) ≡ places_before k vars i ++ i ∷ []
places_yes k vars i h = one_more k vars i ∙ ap (λ b. places_before k vars i ++ cond b (i ∷ []) []) h

pub places_no : (k : VarKind) (vars : List Var) (i : ℕ) → is_of k (var_at vars i) ≡ false → places_before k vars (i + 1) ≡ places_before k vars i
places_no k vars i h = one_more k vars i ∙ ap (λ b. places_before k vars i ++ cond b (i ∷ []) []) h ∙ append-nil (places_before k vars i)

-- ---- how many

pub count_taken : (g : Var → Bool) (vars : List Var) (p : ℕ) → p ≤ length vars → count_by g (take p vars) ≡ count_by (λ q. g (var_at vars q)) (range_with_len 0 p)
count_taken g vars p l =
    let e : take p vars ≡ map (var_at vars) (range_with_len 0 p) = fill_by_all (var_at vars) (take p vars) p no_var (length-take-le p vars l) (λ k h. get_or-take p vars k no_var h) in
    ap (count_by g) e ∙ fold-map (λ (a : ℕ) (x : Var). a + cond (g x) 1 0) (var_at vars) 0 (range_with_len 0 p)

pub length-places_before : (k : VarKind) (vars : List Var) (i : ℕ) → i ≤ length vars → length (places_before k vars i) ≡ count_before k vars i
unfolding places_before
length-places_before k vars i l = length-filter (λ p. is_of k (var_at vars p)) (range_with_len 0 i) ∙ sym (count_taken (is_of k) vars i l)

pub before_less : (k : VarKind) (vars : List Var) (p : ℕ) → p < length vars → is_of k (var_at vars p) ≡ true → count_before k vars p < count_of k vars
before_less k vars p l e = omega (arith, count_by_more_yes (is_of k) vars p no_var l e, sum_by-take-le (λ v. cond (is_of k v) 1 0) vars (p + 1))

pub before_few : (k : VarKind) (vars : List Var) (p : ℕ) → count_before k vars p ≤ count_of k vars
before_few k vars p = sum_by-take-le (λ v. cond (is_of k v) 1 0) vars p

pub places_room : (k : VarKind) (vars : List Var) (i : ℕ) → i < length vars → is_of k (var_at vars i) ≡ true → length (places_before k vars i) < count_of k vars
places_room k vars i l e = omega (arith, before_less k vars i l e, length-places_before k vars i (omega (arith, l)))

take_all : (vars : List Var) → take (length vars) vars ≡ vars
take_all [] = refl
take_all (v ∷ vars) = ap (λ l. v ∷ l) (take_all vars)

pub length-places_of : (k : VarKind) (vars : List Var) → length (places_of k vars) ≡ count_of k vars
length-places_of k vars = ap length (sym (places_last k vars)) ∙ length-places_before k vars (length vars) (omega arith) ∙ ap (count_of k) (take_all vars)
