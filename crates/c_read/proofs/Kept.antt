-- The limits that guesses keep are those of the trees.
use Rattle.std.proofs.Common.{◌≡◌, ℕ, zero, suc, ◌+◌, ◌≤◌, ◌<◌, ◌&&◌, nat_le, Bool, true, false, max, List, [], ◌∷◌, refl, sym, ap, subst, ◌∙◌, arith}
use Rattle.std.specs.List.{AllByRecursion, list_all}
use Rattle.std.proofs.lemmas.Bool.Decides.{nat_tests}
use Rattle.orc_program.specs.Words.{is_name}
use Rattle.orc_program.proofs.Sizes.{both}
use Rattle.orc_program.proofs.Declared.{both_hold}
use Rattle.c_run.specs.declared.tree.CExpr.{CExpr}
use Rattle.c_run.specs.declared.tree.CStmt.{CStmt}
use Rattle.c_run.specs.declared.tree.CStmt.TheVariants.{SetV, SetW, SetByte}
use Rattle.c_run.specs.Tree.{CFunctionValue, depth, has_indexes, is_index, is_expr, is_stmt, is_c_function, most_deep}
use Rattle.c_run.specs.Whole.{has_numbers, is_number, StmtNumbers, IsFunction}
use Rattle.c_run.proofs.Numbers.{numbers_number, numbers_v, numbers_w, numbers_p, numbers_byte, numbers_two, numbers_test, numbers_choose}
use Rattle.c_read.specs.Limits.{has_limits, IsExpr, IsStmt, InLimits}
use Rattle.c_read.proofs.Trees.{cases_expr, depth_two, depth_test, depth_choose, limits_number, limits_v, limits_w, limits_p, limits_byte, limits_two, limits_test, limits_choose, indexes_number, indexes_v, indexes_w, indexes_p, indexes_byte, indexes_two, indexes_test, indexes_choose}

-- ---- expressions

-- a test that is two, each told otherwise
joined : {l i n : Bool} (j m : Bool) → l ≡ (j && m) → i ≡ j → n ≡ m → l ≡ (i && n)
joined {l} {i} {n} j m e p q = e ∙ sym (ap (λ (b : Bool). b && n) p ∙ ap (λ (b : Bool). j && b) q)

mix : (a b c d : Bool) → ((a && b) && (c && d)) ≡ ((a && c) && (b && d))
mix true true true d = refl
mix true true false d = refl
mix true false true d = refl
mix true false false d = refl
mix false b c d = refl

turned : (a s p : Bool) → (a && (s && p)) ≡ (p && (a && s))
turned true true true = refl
turned true true false = refl
turned true false true = refl
turned true false false = refl
turned false s true = refl
turned false s false = refl

two : {k l : Bool} (i m j n : Bool) → k ≡ (i && m) → l ≡ (j && n) → (k && l) ≡ ((i && j) && (m && n))
two {k} {l} i m j n p q = ap (λ (b : Bool). b && l) p ∙ ap (λ (b : Bool). (i && m) && b) q ∙ mix i m j n

-- the limits are those of indexes and of numbers
abbrev IsSplit : CExpr → Type 0
IsSplit e = has_limits e ≡ (has_indexes e && has_numbers e)

abbrev AllSplit : ℕ → Type 0
AllSplit n = (e : CExpr) → depth e < n → IsSplit e

one_more : (n : ℕ) → AllSplit n → AllSplit (suc n)
one_more n i e h = cases_expr (λ (x : CExpr). depth x < suc n → IsSplit x)
    (λ k f. joined true _ (limits_number k) (indexes_number k) (numbers_number k))
    (λ d f. joined true _ (limits_v d) (indexes_v d) (numbers_v d))
    (λ d f. joined true _ (limits_w d) (indexes_w d) (numbers_w d))
    (λ d f. joined true _ (limits_p d) (indexes_p d) (numbers_p d))
    (λ d x f. joined (is_index x) (is_number d && is_number x.stride) (limits_byte d x ∙ turned (is_number d) (is_number x.stride) (is_index x)) (indexes_byte d x) (numbers_byte d x))
    (λ o a b f.
    let d : max (depth a) (depth b) + 1 < suc n = subst (λ (k : ℕ). k < suc n) (depth_two o a b) f in
    joined (has_indexes a && has_indexes b) (has_numbers a && has_numbers b)
    (limits_two o a b ∙ two (has_indexes a) (has_numbers a) (has_indexes b) (has_numbers b) (i a (omega (arith, d))) (i b (omega (arith, d))))
    (indexes_two o a b) (numbers_two o a b))
    (λ o a b f.
    let d : max (depth a) (depth b) + 1 < suc n = subst (λ (k : ℕ). k < suc n) (depth_test o a b) f in
    joined (has_indexes a && has_indexes b) (has_numbers a && has_numbers b)
    (limits_test o a b ∙ two (has_indexes a) (has_numbers a) (has_indexes b) (has_numbers b) (i a (omega (arith, d))) (i b (omega (arith, d))))
    (indexes_test o a b) (numbers_test o a b))
    (λ c a b f.
    let d : max (depth c) (max (depth a) (depth b)) + 1 < suc n = subst (λ (k : ℕ). k < suc n) (depth_choose c a b) f in
    joined (has_indexes c && (has_indexes a && has_indexes b)) (has_numbers c && (has_numbers a && has_numbers b))
    (limits_choose c a b ∙ two (has_indexes c) (has_numbers c) (has_indexes a && has_indexes b) (has_numbers a && has_numbers b) (i c (omega (arith, d)))
    (two (has_indexes a) (has_numbers a) (has_indexes b) (has_numbers b) (i a (omega (arith, d))) (i b (omega (arith, d)))))
    (indexes_choose c a b) (numbers_choose c a b))
    e h

all_split : (n : ℕ) → AllSplit n
all_split zero e h = absurd (omega (arith, h))
all_split (suc n) e h = one_more n (all_split n) e h

split : (e : CExpr) → IsSplit e
split e = all_split (suc (depth e)) e (omega arith)

least : (m n : ℕ) → nat_le m n ≡ true → m ≤ n
least m n t = grind (arith, nat_tests, t)

holds : (m n : ℕ) → m ≤ n → nat_le m n ≡ true
holds m n h = grind (arith, nat_tests, h)

expr_in : (e : CExpr) → is_expr e ≡ true → has_numbers e ≡ true → IsExpr most_deep e
expr_in e h k =
    let p = both (nat_le (depth e) most_deep) (has_indexes e) h in
    record { limits = split e ∙ both_hold (has_indexes e) (has_numbers e) p.1 k; depth = least (depth e) most_deep p.0 }

expr_parts : (e : CExpr) → IsExpr most_deep e → (has_indexes e ≡ true) × (has_numbers e ≡ true)
expr_parts e h = both (has_indexes e) (has_numbers e) (sym (split e) ∙ h.limits)

expr_kept : (e : CExpr) → IsExpr most_deep e → is_expr e ≡ true
expr_kept e h = both_hold (nat_le (depth e) most_deep) (has_indexes e) (holds (depth e) most_deep h.depth) (expr_parts e h).0

-- ---- statements

stmt_in : (s : CStmt) → is_stmt s ≡ true → StmtNumbers s → IsStmt s
stmt_in (SetV d e) h k = (k.0, expr_in e h k.1)
stmt_in (SetW d e) h k = (k.0, expr_in e h k.1)
stmt_in (SetByte d x e) h k =
    let p = both (is_index x) (is_expr e) h in
    (k.0, both_hold (is_number x.stride) (is_index x) (holds x.stride 255 k.1) p.0, expr_in e p.1 k.2)

stmt_kept : (s : CStmt) → IsStmt s → is_stmt s ≡ true
stmt_kept (SetV d e) h = expr_kept e h.1
stmt_kept (SetW d e) h = expr_kept e h.1
stmt_kept (SetByte d x e) h = both_hold (is_index x) (is_expr e) (both (is_number x.stride) (is_index x) h.1).1 (expr_kept e h.2)

stmt_numbers : (s : CStmt) → IsStmt s → StmtNumbers s
stmt_numbers (SetV d e) h = (h.0, (expr_parts e h.1).1)
stmt_numbers (SetW d e) h = (h.0, (expr_parts e h.1).1)
stmt_numbers (SetByte d x e) h = (h.0, least x.stride 255 (both (is_number x.stride) (is_index x) h.1).0, (expr_parts e h.2).1)

body_in : (b : List CStmt) → list_all is_stmt b ≡ true → AllByRecursion StmtNumbers b → AllByRecursion IsStmt b
body_in [] h k = tt
body_in (s ∷ b) h k = let p = both (is_stmt s) (list_all is_stmt b) h in (stmt_in s p.0 k.0, body_in b p.1 k.1)

body_kept : (b : List CStmt) → AllByRecursion IsStmt b → list_all is_stmt b ≡ true
body_kept [] h = refl
body_kept (s ∷ b) h = both_hold (is_stmt s) (list_all is_stmt b) (stmt_kept s h.0) (body_kept b h.1)

body_numbers : (b : List CStmt) → AllByRecursion IsStmt b → AllByRecursion StmtNumbers b
body_numbers [] h = tt
body_numbers (s ∷ b) h = (stmt_numbers s h.0, body_numbers b h.1)

-- ---- functions

pub in_limits : (f : CFunctionValue) → IsFunction f → InLimits f
unfolding is_c_function
in_limits f h =
    let a = both (is_name f.name) (nat_le f.arrays 12 && (nat_le f.params 8 && (nat_le f.accs 4 && (nat_le f.temps 256 && list_all is_stmt f.body)))) h.kept in
    let b = both (nat_le f.arrays 12) (nat_le f.params 8 && (nat_le f.accs 4 && (nat_le f.temps 256 && list_all is_stmt f.body))) a.1 in
    let c = both (nat_le f.params 8) (nat_le f.accs 4 && (nat_le f.temps 256 && list_all is_stmt f.body)) b.1 in
    let d = both (nat_le f.accs 4) (nat_le f.temps 256 && list_all is_stmt f.body) c.1 in
    let e = both (nat_le f.temps 256) (list_all is_stmt f.body) d.1 in
    record {
      name = a.0;
      arrays = least f.arrays 12 b.0;
      params = least f.params 8 c.0;
      accs = least f.accs 4 d.0;
      temps = least f.temps 256 e.0;
      body = body_in f.body e.1 h.numbers;
    }

pub is_kept : (f : CFunctionValue) → InLimits f → is_c_function f ≡ true
unfolding is_c_function
is_kept f h =
    both_hold (is_name f.name) (nat_le f.arrays 12 && (nat_le f.params 8 && (nat_le f.accs 4 && (nat_le f.temps 256 && list_all is_stmt f.body)))) h.name
    (both_hold (nat_le f.arrays 12) (nat_le f.params 8 && (nat_le f.accs 4 && (nat_le f.temps 256 && list_all is_stmt f.body))) (holds f.arrays 12 h.arrays)
    (both_hold (nat_le f.params 8) (nat_le f.accs 4 && (nat_le f.temps 256 && list_all is_stmt f.body)) (holds f.params 8 h.params)
    (both_hold (nat_le f.accs 4) (nat_le f.temps 256 && list_all is_stmt f.body) (holds f.accs 4 h.accs)
    (both_hold (nat_le f.temps 256) (list_all is_stmt f.body) (holds f.temps 256 h.temps) (body_kept f.body h.body)))))

pub is_function : (f : CFunctionValue) → InLimits f → IsFunction f
is_function f h = record { kept = is_kept f h; numbers = body_numbers f.body h.body }
