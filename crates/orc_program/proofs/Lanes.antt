-- The elements that are done at once are 2, 4, 8 or 16, and so many of each operand fit into 16 bytes.
use Rattle.std.proofs.Common.{◌≡◌, ℕ, ◌*◌, ◌/◌, ◌^◌, ◌≤◌, ◌<◌, ◌==◌, ◌&&◌, ◌||◌, not, max, nat_lt, Bool, true, false, List, [], ◌∷◌, ◌++◌, zero, suc, length, map, fold, if◌then◌else◌, refl, sym, ap, ◌∙◌, subst, arith, ◌⊎◌, inl, inr, ⊎_elim}
use Rattle.std.specs.List.{list_all, list_any}
use Rattle.std.proofs.Math.Nat.{div-mul-le_self, mul-le-mul, le_trans}
use Rattle.std.proofs.lemmas.Bool.{cases_lt, eqb-true, ltb-false, or_parts}
use Rattle.orc_ops.specs.declared.opcode.Op.{Op}
use Rattle.orc_ops.specs.declared.opcode.Op.TheVariants as op
use Rattle.orc_ops.specs.Table.{row, size_of_result, size_of_source}
use Rattle.orc_program.specs.declared.program.Var.{Var}
use Rattle.orc_program.specs.declared.program.VarKind.TheVariants as kind
use Rattle.orc_program.specs.declared.program.Insn.{Insn}
use Rattle.orc_program.specs.Program.{FunctionValue, is_of, var_at}
use Rattle.orc_program.specs.Checks.{takes_no_prefix, is_count, operand_sizes, is_bad_prefix, insn_fault}
use Rattle.orc_program.specs.Kept.{is_function, is_var, is_size, is_shaped, has_no_fault, all_pass, is_in_range, result_count, source_count}
use Rattle.orc_program.specs.Need.{largest, declared_size, insn_size, largest_size, lanes}
use Rattle.orc_program.proofs.Apart.{IsSize}
use Rattle.orc_program.proofs.Sizes.{both, kept_of, is_size_one, size_of_var}
use Rattle.orc_program.proofs.PatternLaws.{prefix_kept}

-- ---- measures: sizes, and none

abbrev IsMeasure : ℕ → Type 0
IsMeasure n = (n ≡ 0) ⊎ IsSize n

-- of two, the greater is one of them
measure_max : (a b : ℕ) → IsMeasure a → IsMeasure b → IsMeasure (max a b)
measure_max a b h g = ⊎_elim
    (λ l. subst IsMeasure (let e : b ≡ max a b = omega (arith, l) in e) g)
    (λ l. subst IsMeasure (let e : a ≡ max a b = omega (arith, l) in e) h)
    (cases_lt a b)

-- how many fit
fitting : (n : ℕ) → IsMeasure n → (16 / max 1 n ≡ 2) ⊎ ((16 / max 1 n ≡ 4) ⊎ ((16 / max 1 n ≡ 8) ⊎ (16 / max 1 n ≡ 16)))
fitting n (inl e) = inr (inr (inr (ap (λ m. 16 / max 1 m) e)))
fitting n (inr (inl e)) = inr (inr (inr (ap (λ m. 16 / max 1 m) e)))
fitting n (inr (inr (inl e))) = inr (inr (inl (ap (λ m. 16 / max 1 m) e)))
fitting n (inr (inr (inr (inl e)))) = inr (inl (ap (λ m. 16 / max 1 m) e))
fitting n (inr (inr (inr (inr e)))) = inl (ap (λ m. 16 / max 1 m) e)

-- so many of no more bytes fit too
fits_below : (n m : ℕ) → n ≤ m → 16 / max 1 m * n ≤ 16
fits_below n m l =
    let more : n ≤ max 1 m = omega (arith, l) in
    let same : 16 / max 1 m ≤ 16 / max 1 m = omega arith in
    le_trans (mul-le-mul same more) (div-mul-le_self 16 (max 1 m))

-- ---- the sizes of variables

declared_measure : (v : Var) → is_var v ≡ true → IsMeasure (declared_size v)
declared_measure v h = go (is_of kind.Param v || is_of kind.Const v)
  where
    go : (b : Bool) → IsMeasure (if b then 0 else v.size)
    go true = inl refl
    go false = inr (size_of_var v h)

vars_measure : (a : ℕ) (vars : List Var) → IsMeasure a → list_all is_var vars ≡ true → IsMeasure (fold max a (map declared_size vars))
vars_measure a [] m h = m
vars_measure a (v ∷ vars) m h =
    let k = both (is_var v) (list_all is_var vars) h in
    vars_measure (max a (declared_size v)) vars (measure_max a (declared_size v) m (declared_measure v k.0)) k.1

-- ---- the sizes of operands

-- an opcode's largest operand
size_table : (o : Op) → is_size (largest (operand_sizes o)) ≡ true
size_table op.Absb = refl
size_table other = refl

product : (n k a b : ℕ) → n ≡ a → k ≡ b → n * k ≡ a * b
product n k a b e d = cc

-- with a prefix of 1, 2 or 4 that leaves no operand longer than 8 bytes
times : (n k : ℕ) → IsSize n → (k ≡ 1) ⊎ ((k ≡ 2) ⊎ (k ≡ 4)) → n * k ≤ 8 → IsSize (n * k)
times n k (inl e) (inl d) l = inl (product n k 1 1 e d)
times n k (inl e) (inr (inl d)) l = inr (inl (product n k 1 2 e d))
times n k (inl e) (inr (inr d)) l = inr (inr (inl (product n k 1 4 e d)))
times n k (inr (inl e)) (inl d) l = inr (inl (product n k 2 1 e d))
times n k (inr (inl e)) (inr (inl d)) l = inr (inr (inl (product n k 2 2 e d)))
times n k (inr (inl e)) (inr (inr d)) l = inr (inr (inr (product n k 2 4 e d)))
times n k (inr (inr (inl e))) (inl d) l = inr (inr (inl (product n k 4 1 e d)))
times n k (inr (inr (inl e))) (inr (inl d)) l = inr (inr (inr (product n k 4 2 e d)))
times n k (inr (inr (inl e))) (inr (inr d)) l = absurd (omega (arith, product n k 4 4 e d, l))
times n k (inr (inr (inr e))) (inl d) l = inr (inr (inr (product n k 8 1 e d)))
times n k (inr (inr (inr e))) (inr (inl d)) l = absurd (omega (arith, product n k 8 2 e d, l))
times n k (inr (inr (inr e))) (inr (inr d)) l = absurd (omega (arith, product n k 8 4 e d, l))

most_times : (a b k : ℕ) → a * k ≤ 8 → b * k ≤ 8 → max a b * k ≤ 8
most_times a b k h g = ⊎_elim
    (λ l. subst (λ m. m * k ≤ 8) (let e : b ≡ max a b = omega (arith, l) in e) g)
    (λ l. subst (λ m. m * k ≤ 8) (let e : a ≡ max a b = omega (arith, l) in e) h)
    (cases_lt a b)

none_too_long : (a k : ℕ) (sizes : List ℕ) → a * k ≤ 8 → list_any (λ size. nat_lt 8 (size * k)) sizes ≡ false → fold max a sizes * k ≤ 8
none_too_long a k [] l h = l
none_too_long a k (size ∷ sizes) l h =
    let p = or_parts (nat_lt 8 (size * k)) (list_any (λ size. nat_lt 8 (size * k)) sizes) h in
    none_too_long (max a size) k sizes (most_times a size k l (ltb-false 8 (size * k) p.0)) p.1

size_most : (n : ℕ) → IsSize n → n * 1 ≤ 8
size_most n (inl e) = omega (arith, e)
size_most n (inr (inl e)) = omega (arith, e)
size_most n (inr (inr (inl e))) = omega (arith, e)
size_most n (inr (inr (inr e))) = omega (arith, e)

op_size : (o : Op) → IsSize (largest (operand_sizes o))
op_size o = is_size_one (largest (operand_sizes o)) (size_table o)

-- a prefix that is not bad
prefixed_most : (o : Op) (prefix : ℕ) → is_bad_prefix o prefix ≡ false → largest (operand_sizes o) * prefix ≤ 8
prefixed_most o prefix h = go (prefix == 1) refl h
  where
    go : (b : Bool) → (prefix == 1) ≡ b → (not b && (takes_no_prefix (row o).kind || list_any (λ size. nat_lt 8 (size * prefix)) (operand_sizes o))) ≡ false → largest (operand_sizes o) * prefix ≤ 8
    go true e h = subst (λ k. largest (operand_sizes o) * k ≤ 8) (sym (eqb-true prefix 1 e)) (size_most (largest (operand_sizes o)) (op_size o))
    go false e h = none_too_long 0 prefix (operand_sizes o) (omega arith) (or_parts (takes_no_prefix (row o).kind) (list_any (λ size. nat_lt 8 (size * prefix)) (operand_sizes o)) h).1

prefix_one : (k : ℕ) → (k == 1 || (k == 2 || k == 4)) ≡ true → (k ≡ 1) ⊎ ((k ≡ 2) ⊎ (k ≡ 4))
prefix_one k h = grind (arith, h)

insn_measure : (vars : List Var) (earlier : List Insn) (insn : Insn) → is_shaped vars insn ≡ true → has_no_fault (insn_fault vars earlier insn) ≡ true → IsMeasure (insn_size insn)
insn_measure vars earlier insn shaped passes =
    let prefix = both (insn.prefix == 1 || (insn.prefix == 2 || insn.prefix == 4))
    (length insn.results.items == result_count insn.op && (length insn.sources.items == source_count insn.op && (list_all (is_in_range vars) insn.results.items && (list_all (is_in_range vars) insn.sources.items && nat_lt insn.line (2 ^ 32)))))
    shaped in
    inr (times (largest (operand_sizes insn.op)) insn.prefix (op_size insn.op) (prefix_one insn.prefix prefix.0) (prefixed_most insn.op insn.prefix (prefix_kept vars earlier insn passes)))

insns_measure : (vars : List Var) (a : ℕ) (earlier insns : List Insn) → IsMeasure a → all_pass vars earlier insns ≡ true → IsMeasure (fold max a (map insn_size insns))
insns_measure vars a earlier [] m h = m
insns_measure vars a earlier (x ∷ xs) m h =
    let k = both (is_shaped vars x) (has_no_fault (insn_fault vars earlier x) && all_pass vars (earlier ++ x ∷ []) xs) h in
    let l = both (has_no_fault (insn_fault vars earlier x)) (all_pass vars (earlier ++ x ∷ []) xs) k.1 in
    insns_measure vars (max a (insn_size x)) (earlier ++ x ∷ []) xs (measure_max a (insn_size x) m (insn_measure vars earlier x k.0 l.0)) l.1

-- ---- the elements that are done at once

pub lanes_is : (f : FunctionValue) → is_function f ≡ true → (lanes f ≡ 2) ⊎ ((lanes f ≡ 4) ⊎ ((lanes f ≡ 8) ⊎ (lanes f ≡ 16)))
lanes_is f h =
    let k = kept_of f h in
    fitting (largest_size f) (measure_max (largest (map declared_size f.vars)) (largest (map insn_size f.insns)) (vars_measure 0 f.vars (inl refl) k.vars) (insns_measure f.vars 0 [] f.insns (inl refl) k.insns))

-- ---- what fits

-- what the largest is sought from is no larger than it
largest_grows : (a : ℕ) (sizes : List ℕ) → a ≤ fold max a sizes
largest_grows a [] = omega arith
largest_grows a (size ∷ sizes) = omega (arith, largest_grows (max a size) sizes)

var_below : (a : ℕ) (vars : List Var) (p : ℕ) → p < length vars → declared_size (var_at vars p) ≤ fold max a (map declared_size vars)
var_below a [] p l = absurd (omega (arith, l))
var_below a (v ∷ vars) zero l = omega (arith, largest_grows (max a (declared_size v)) (map declared_size vars))
var_below a (v ∷ vars) (suc p) l = var_below (max a (declared_size v)) vars p (omega (arith, l))

insn_below : (a : ℕ) (earlier : List Insn) (insn : Insn) (rest : List Insn) → insn_size insn ≤ fold max a (map insn_size (earlier ++ insn ∷ rest))
insn_below a [] insn rest = omega (arith, largest_grows (max a (insn_size insn)) (map insn_size rest))
insn_below a (x ∷ earlier) insn rest = insn_below (max a (insn_size x)) earlier insn rest

-- a dest, source, temp or accumulator
pub declared_fits : (f : FunctionValue) → is_function f ≡ true → (p : ℕ) → p < length f.vars → is_of kind.Param (var_at f.vars p) ≡ false → is_of kind.Const (var_at f.vars p) ≡ false → lanes f * (var_at f.vars p).size ≤ 16
declared_fits f h p l param const =
    let size : declared_size (var_at f.vars p) ≡ (var_at f.vars p).size
    = ap (λ b. if b || is_of kind.Const (var_at f.vars p) then 0 else (var_at f.vars p).size) param ∙ ap (λ b. if b then 0 else (var_at f.vars p).size) const in
    let below : declared_size (var_at f.vars p) ≤ largest (map declared_size f.vars) = var_below 0 f.vars p l in
    fits_below (var_at f.vars p).size (largest_size f) (omega (arith, size, below))

-- the largest operand of an instruction
pub insn_fits : (f : FunctionValue) → is_function f ≡ true → (earlier : List Insn) (insn : Insn) (rest : List Insn) → f.insns ≡ earlier ++ insn ∷ rest → lanes f * (largest (operand_sizes insn.op) * insn.prefix) ≤ 16
insn_fits f h earlier insn rest e =
    let below : insn_size insn ≤ largest (map insn_size f.insns) = subst (λ insns. insn_size insn ≤ largest (map insn_size insns)) (sym e) (insn_below 0 earlier insn rest) in
    fits_below (insn_size insn) (largest_size f) (omega (arith, below))

-- so of each of its operands
smaller_fits : (lanes size most k : ℕ) → size ≤ most → lanes * (most * k) ≤ 16 → lanes * (size * k) ≤ 16
smaller_fits lanes size most k l h =
    let k_same : k ≤ k = omega arith in
    let lanes_same : lanes ≤ lanes = omega arith in
    le_trans (mul-le-mul lanes_same (mul-le-mul l k_same)) h

first_result_below : (o : Op) → size_of_result o 0 ≤ largest (operand_sizes o)
first_result_below o = omega arith

second_result_below : (o : Op) → size_of_result o 1 ≤ largest (operand_sizes o)
second_result_below o = omega arith

first_source_below : (o : Op) → size_of_source o 0 ≤ largest (operand_sizes o)
first_source_below o = omega arith

second_source_below : (o : Op) → is_count o 1 ≡ false → size_of_source o 1 ≤ largest (operand_sizes o)
second_source_below o e =
    let same : (if is_count o 1 then 0 else size_of_source o 1) ≡ size_of_source o 1 = ap (λ b. if b then 0 else size_of_source o 1) e in
    omega (arith, same)

pub result_fits : (f : FunctionValue) → is_function f ≡ true → (earlier : List Insn) (insn : Insn) (rest : List Insn) → f.insns ≡ earlier ++ insn ∷ rest → (k : ℕ) → k < 2 → lanes f * (size_of_result insn.op k * insn.prefix) ≤ 16
result_fits f h earlier insn rest e k l =
    smaller_fits (lanes f) (size_of_result insn.op k) (largest (operand_sizes insn.op)) insn.prefix (below k l) (insn_fits f h earlier insn rest e)
  where
    below : (k : ℕ) → k < 2 → size_of_result insn.op k ≤ largest (operand_sizes insn.op)
    below zero l = first_result_below insn.op
    below (suc zero) l = second_result_below insn.op
    below (suc (suc k)) l = absurd (omega (arith, l))

-- a source that is no count
pub source_fits : (f : FunctionValue) → is_function f ≡ true → (earlier : List Insn) (insn : Insn) (rest : List Insn) → f.insns ≡ earlier ++ insn ∷ rest → (k : ℕ) → k < 2 → is_count insn.op k ≡ false → lanes f * (size_of_source insn.op k * insn.prefix) ≤ 16
source_fits f h earlier insn rest e k l no_count =
    smaller_fits (lanes f) (size_of_source insn.op k) (largest (operand_sizes insn.op)) insn.prefix (below k l no_count) (insn_fits f h earlier insn rest e)
  where
    below : (k : ℕ) → k < 2 → is_count insn.op k ≡ false → size_of_source insn.op k ≤ largest (operand_sizes insn.op)
    below zero l c = first_source_below insn.op
    below (suc zero) l c = second_source_below insn.op c
    below (suc (suc k)) l c = absurd (omega (arith, l))
