-- The patterns of instructions are the first uses, in order.
use Rattle.std.proofs.Common.{◌≡◌, ℕ, Bool, true, false, not, ◌&&◌, ◌||◌, ◌==◌, List, [], ◌∷◌, ◌++◌, refl, sym, ap, ◌∙◌, arith, append_assoc, append-nil, filter, fold, if◌then◌else◌, nat_eq, true≢false}
use Rattle.std.specs.List.{list_any}
use Rattle.std.proofs.lemmas.Bool.Decides.{nat_tests}
use Rattle.std.proofs.lemmas.List.Folds.{list_any-append}
use Rattle.std.proofs.lemmas.List.Sums.{fold-append}
use Rattle.orc_program.specs.declared.program.Var.{Var}
use Rattle.orc_program.specs.declared.program.Insn.{Insn}
use Rattle.orc_program.specs.declared.program.Operand.{Operand}
use Rattle.orc_program.specs.declared.program.Operand.TheVariants as operand
use Rattle.orc_program.specs.declared.program.Pattern.{Pattern}
use Rattle.orc_program.specs.Checks.{same_operand, same_pattern, uses_from, add_pattern, add_patterns, patterns_of}
use Rattle.orc_program.specs.Laws.{uses_of, firsts, ListsFirstUses}
use Rattle.orc_program.proofs.Sizes.{both}

-- ---- filters

filter_same : {A : Type 0} (p q : A → Bool) → ((x : A) → p x ≡ q x) → (xs : List A) → filter p xs ≡ filter q xs
filter_same p q same [] = refl
filter_same p q same (x ∷ xs) =
    ap (λ b. if b then x ∷ filter p xs else filter p xs) (same x) ∙ ap (λ ys. if q x then x ∷ ys else ys) (filter_same p q same xs)

filter_twice : {A : Type 0} (p q : A → Bool) (xs : List A) → filter p (filter q xs) ≡ filter (λ x. q x && p x) xs
filter_twice p q [] = refl
filter_twice {A} p q (x ∷ xs) = go (q x) (filter_twice p q xs)
  where
    go : (b : Bool) → filter p (filter q xs) ≡ filter (λ y. q y && p y) xs → filter p (if b then x ∷ filter q xs else filter q xs) ≡ (if b && p x then x ∷ filter (λ y. q y && p y) xs else filter (λ y. q y && p y) xs)
    go true e = ap (λ ys. if p x then x ∷ ys else ys) e
    go false e = e

-- ---- patterns that are the same

nat_eq-swap : (m n : ℕ) → nat_eq m n ≡ nat_eq n m
nat_eq-swap m n = grind (arith, nat_tests)

nat_eq_is : (m n : ℕ) → nat_eq m n ≡ true → m ≡ n
nat_eq_is m n h = grind (arith, nat_tests, h)

same_operand-swap : (a b : Operand) → same_operand a b ≡ same_operand b a
same_operand-swap (operand.Var p) (operand.Var q) = nat_eq-swap p q
same_operand-swap (operand.Number m) (operand.Number n) = nat_eq-swap m n
same_operand-swap (operand.Var p) (operand.Number n) = refl
same_operand-swap (operand.Number m) (operand.Var q) = refl

same_operand_is : (a b : Operand) → same_operand a b ≡ true → a ≡ b
same_operand_is (operand.Var p) (operand.Var q) h = ap operand.Var (nat_eq_is p q h)
same_operand_is (operand.Number m) (operand.Number n) h = ap operand.Number (nat_eq_is m n h)
same_operand_is (operand.Var p) (operand.Number n) h = absurd (true≢false (sym h))
same_operand_is (operand.Number m) (operand.Var q) h = absurd (true≢false (sym h))

same_pattern-swap : (a b : Pattern) → same_pattern a b ≡ same_pattern b a
same_pattern-swap a b = ap (λ c. c && a.way == b.way) (same_operand-swap a.number b.number) ∙ ap (λ c. same_operand b.number a.number && c) (nat_eq-swap a.way b.way)

same_pattern_is : (a b : Pattern) → same_pattern a b ≡ true → a ≡ b
same_pattern_is a b h =
    let x = both (same_operand a.number b.number) (a.way == b.way) h in
    ap (λ (n : Operand). record { number = n; way = a.way }) (same_operand_is a.number b.number x.0) ∙ ap (λ (w : ℕ). record { number = b.number; way = w }) (nat_eq_is a.way b.way x.1)

-- ---- adding one use after the other

abbrev is_new : List Pattern → Pattern → Bool
is_new known q = not (list_any (same_pattern q) known)

known_skipped : (known : List Pattern) (p q : Pattern) → list_any (same_pattern p) known ≡ true → not (same_pattern p q) && is_new known q ≡ is_new known q
known_skipped known p q h = go (same_pattern p q) refl
  where
    go : (b : Bool) → same_pattern p q ≡ b → not b && is_new known q ≡ is_new known q
    go true e = sym (ap (λ (r : Pattern). is_new known r) (sym (same_pattern_is p q e)) ∙ ap not h)
    go false e = refl

new_skipped : (known : List Pattern) (p q : Pattern) → is_new (known ++ p ∷ []) q ≡ (not (same_pattern p q) && is_new known q)
new_skipped known p q =
    ap not (list_any-append (same_pattern q) known (p ∷ [])) ∙ ap (λ c. not (list_any (same_pattern q) known || (c || false))) (same_pattern-swap q p) ∙ go (list_any (same_pattern q) known) (same_pattern p q)
  where
    go : (a b : Bool) → not (a || (b || false)) ≡ (not b && not a)
    go true true = refl
    go true false = refl
    go false true = refl
    go false false = refl

uses_added : (known us : List Pattern) → fold add_pattern known us ≡ known ++ filter (is_new known) (firsts us)
uses_added known [] = sym (append-nil known)
uses_added known (u ∷ us) = go (list_any (same_pattern u) known) refl (uses_added known us) (uses_added (known ++ u ∷ []) us)
  where
    go : (b : Bool) → list_any (same_pattern u) known ≡ b → fold add_pattern known us ≡ known ++ filter (is_new known) (firsts us) → fold add_pattern (known ++ u ∷ []) us ≡ (known ++ u ∷ []) ++ filter (is_new (known ++ u ∷ [])) (firsts us)
        → fold add_pattern (if b then known else known ++ u ∷ []) us ≡ known ++ (if not b then u ∷ filter (is_new known) (filter (λ q. not (same_pattern u q)) (firsts us)) else filter (is_new known) (filter (λ q. not (same_pattern u q)) (firsts us)))
    go true e old new = old ∙ ap (λ (ps : List Pattern). known ++ ps) (sym (filter_twice (is_new known) (λ q. not (same_pattern u q)) (firsts us) ∙ filter_same (λ q. not (same_pattern u q) && is_new known q) (is_new known) (λ q. known_skipped known u q e) (firsts us)))
    go false e old new = new ∙ append_assoc known (u ∷ []) (filter (is_new (known ++ u ∷ [])) (firsts us)) ∙ ap (λ (ps : List Pattern). known ++ u ∷ ps) (filter_same (is_new (known ++ u ∷ [])) (λ q. not (same_pattern u q) && is_new known q) (λ q. new_skipped known u q) (firsts us) ∙ sym (filter_twice (is_new known) (λ q. not (same_pattern u q)) (firsts us)))

insns_added : (vars : List Var) (known : List Pattern) (insns : List Insn) → fold (add_patterns vars) known insns ≡ fold add_pattern known (uses_of vars insns)
insns_added vars known [] = refl
insns_added vars known (insn ∷ insns) = insns_added vars (add_patterns vars known insn) insns ∙ sym (fold-append add_pattern known (uses_from vars insn.op 0 insn.sources.items) (uses_of vars insns))

all_new : (ps : List Pattern) → filter (is_new []) ps ≡ ps
all_new [] = refl
all_new (p ∷ ps) = ap (λ (qs : List Pattern). p ∷ qs) (all_new ps)

pub lists_first_uses : (vars : List Var) (insns : List Insn) → ListsFirstUses vars insns
unfolding patterns_of
lists_first_uses vars insns = insns_added vars [] insns ∙ uses_added [] (uses_of vars insns) ∙ all_new (firsts (uses_of vars insns))
