-- Distinct names: which place a name has, and that a later name is new.
use Rattle.std.proofs.Common.{◌≡◌, ℕ, zero, suc, ◌+◌, ◌<◌, ◌≤◌, ◌&&◌, ◌||◌, Bool, true, false, not, List, [], ◌∷◌, ◌++◌, Some, None, map, length, nat_eq, if◌then◌else◌, refl, sym, ap, ◌∙◌, arith, add-zero, true≢false}
use Rattle.std.specs.List.{list_any}
use Rattle.std.specs.Str.{bytes_eq}
use Rattle.std.proofs.lemmas.Bool.Decides.{nat_tests}
use Rattle.std.proofs.lemmas.List.{map-append}
use Rattle.std.proofs.lemmas.List.Folds.{list_any-append}
use Rattle.std.proofs.lemmas.List.Sums.{sum_by-append}
use Rattle.std.proofs.lemmas.Slice.Eq.{bytes_eq-Decides}
use Rattle.orc_program.specs.declared.program.Var.{Var}
use Rattle.orc_program.specs.declared.program.VarKind.{VarKind}
use Rattle.orc_program.specs.declared.program.VarKind.TheVariants as kind
use Rattle.orc_program.specs.Words.{Word}
use Rattle.orc_program.specs.Program.{var_at, place_from, place_of, is_of, count_of, same_kind}
use Rattle.orc_program.specs.Kept.{all_distinct, keeps_limits, most_of}
use Rattle.orc_program.proofs.Sizes.{both}
use Rattle.orc_program.proofs.Counts.{count_cons, few_vars}
use Rattle.orc_words.proofs.Clean.{neither}

-- ---- words

pub not_true : (b : Bool) → not b ≡ true → b ≡ false
not_true true h = absurd (true≢false (sym h))
not_true false h = refl

pub same_bytes : (w : Word) → bytes_eq w w ≡ true
same_bytes w = (bytes_eq-Decides w w).1 refl

swapped : (a b : Word) → bytes_eq a b ≡ bytes_eq b a
swapped [] [] = refl
swapped [] (y ∷ ys) = refl
swapped (x ∷ xs) [] = refl
swapped (x ∷ xs) (y ∷ ys) = ap (λ b. b && bytes_eq xs ys) (same x y) ∙ ap (λ b. nat_eq y x && b) (swapped xs ys)
  where
    same : (m n : ℕ) → nat_eq m n ≡ nat_eq n m
    same m n = grind (arith, nat_tests)

pub all_swapped : (w : Word) (ws : List Word) → list_any (λ x. bytes_eq x w) ws ≡ list_any (bytes_eq w) ws
all_swapped w [] = refl
all_swapped w (x ∷ ws) = ap (λ b. b || list_any (λ y. bytes_eq y w) ws) (swapped x w) ∙ ap (λ b. bytes_eq w x || b) (all_swapped w ws)

-- no word before it is the same
before : (w : Word) (ws rest : List Word) → all_distinct (ws ++ w ∷ rest) ≡ true → list_any (λ x. bytes_eq x w) ws ≡ false
before w [] rest h = refl
before w (x ∷ ws) rest h =
    let two = both (not (list_any (bytes_eq x) (ws ++ w ∷ rest))) (all_distinct (ws ++ w ∷ rest)) h in
    let none : list_any (bytes_eq x) ws || list_any (bytes_eq x) (w ∷ rest) ≡ false = sym (list_any-append (bytes_eq x) ws (w ∷ rest)) ∙ not_true (list_any (bytes_eq x) (ws ++ w ∷ rest)) two.0 in
    let here = neither (bytes_eq x w) (list_any (bytes_eq x) rest) (neither (list_any (bytes_eq x) ws) (list_any (bytes_eq x) (w ∷ rest)) none).1 in
    rw here.0 (before w ws rest two.1)

pub new_word : (w : Word) (ws rest : List Word) → all_distinct (ws ++ w ∷ rest) ≡ true → list_any (bytes_eq w) ws ≡ false
new_word w ws rest h = sym (all_swapped w ws) ∙ before w ws rest h

-- ---- variables

abbrev pub names : List Var → List Word
names vars = map (λ (v : Var). v.name) vars

nowhere : (w : Word) (p : ℕ) (vars : List Var) → list_any (λ x. bytes_eq x w) (names vars) ≡ false → place_from w p vars ≡ None
nowhere w p [] h = refl
nowhere w p (v ∷ vars) h =
    let two = neither (bytes_eq v.name w) (list_any (λ x. bytes_eq x w) (names vars)) h in
    rw two.0 (nowhere w (p + 1) vars two.1)

-- a variable's name isn't that of one before it
pub new_name : (v : Var) (vars rest : List Var) → all_distinct (names (vars ++ v ∷ rest)) ≡ true → place_of v.name vars ≡ None
new_name v vars rest h = nowhere v.name 0 vars (before v.name (names vars) (names rest) (ap all_distinct (sym (map-append (λ (x : Var). x.name) vars (v ∷ rest))) ∙ h))

other_at : (q : Word → Bool) (vars : List Var) (p : ℕ) → list_any q (names vars) ≡ false → p < length vars → q (var_at vars p).name ≡ false
other_at q [] p h l = absurd (omega (arith, l))
other_at q (v ∷ vars) zero h l = (neither (q v.name) (list_any q (names vars)) h).0
other_at q (v ∷ vars) (suc p) h l = other_at q vars p (neither (q v.name) (list_any q (names vars)) h).1 (omega (arith, l))

found_at : (vars : List Var) (p k : ℕ) → all_distinct (names vars) ≡ true → p < length vars → place_from (var_at vars p).name k vars ≡ Some (k + p)
found_at [] p k h l = absurd (omega (arith, l))
found_at (v ∷ vars) zero k h l = rw (same_bytes v.name, add-zero) refl
found_at (v ∷ vars) (suc p) k h l =
    let two = both (not (list_any (bytes_eq v.name) (names vars))) (all_distinct (names vars)) h in
    let less : p < length vars = omega (arith, l) in
    let other = other_at (bytes_eq v.name) vars p (not_true (list_any (bytes_eq v.name) (names vars)) two.0) less in
    let e : k + 1 + p ≡ k + suc p = omega arith in
    rw other (found_at vars p (k + 1) two.1 less ∙ ap (λ (m : ℕ). Some m) e)

-- a variable's name has the variable's place
pub place_again : (vars : List Var) (p : ℕ) → all_distinct (names vars) ≡ true → p < length vars → place_of (var_at vars p).name vars ≡ Some p
place_again vars p h l = found_at vars p 0 h l ∙ (let e : 0 + p ≡ p = omega arith in ap (λ (m : ℕ). Some m) e)

-- ---- limits

of_kind : (k : VarKind) (vars : List Var) → keeps_limits vars ≡ true → count_of k vars ≤ most_of k
of_kind kind.Source vars h = (few_vars vars h).sources
of_kind kind.Dest vars h = (few_vars vars h).dests
of_kind kind.Accumulator vars h = (few_vars vars h).accumulators
of_kind kind.Param vars h = (few_vars vars h).params
of_kind kind.Const vars h = (few_vars vars h).consts
of_kind kind.Temp vars h = (few_vars vars h).temps

own_kind : (k : VarKind) → same_kind k k ≡ true
own_kind kind.Source = refl
own_kind kind.Dest = refl
own_kind kind.Accumulator = refl
own_kind kind.Param = refl
own_kind kind.Const = refl
own_kind kind.Temp = refl

-- a variable has room behind those before it
pub has_room : (v : Var) (vars rest : List Var) → keeps_limits (vars ++ v ∷ rest) ≡ true → count_of v.kind vars < most_of v.kind
has_room v vars rest h =
    let most = of_kind v.kind (vars ++ v ∷ rest) h in
    let all : count_of v.kind (vars ++ v ∷ rest) ≡ count_of v.kind vars + count_of v.kind (v ∷ rest) = sum_by-append (λ (x : Var). if is_of v.kind x then 1 else 0) vars (v ∷ rest) in
    let one : count_of v.kind (v ∷ rest) ≡ 1 + count_of v.kind rest = count_cons v.kind v rest ∙ ap (λ (b : Bool). (if b then 1 else 0) + count_of v.kind rest) (own_kind v.kind) in
    omega (arith, most, all, one)
