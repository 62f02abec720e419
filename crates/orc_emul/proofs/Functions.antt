-- What the type of functions keeps, as the code asks it.
use Rattle.std.proofs.Common.{◌≡◌, ℕ, zero, suc, ◌+◌, ◌*◌, ◌^◌, ◌<◌, ◌≤◌, ◌&&◌, ◌||◌, ◌==◌, ◌⊎◌, inl, inr, nat_le, nat_lt, not, Bool, true, false, List, [], ◌∷◌, ◌++◌, length, map, filter, get_or, Option, Some, None, refl, sym, ap, ap₂, ◌∙◌, subst, arith, true≢false}
use Rattle.std.specs.List.{list_all, list_any, range_with_len}
use Rattle.std.proofs.lemmas.List.{map-append}
use Rattle.std.proofs.lemmas.Bool.Decides.{nat_tests}
use Rattle.std.proofs.lemmas.List.{get_or_read}
use Rattle.orc_ops.specs.declared.opcode.Op.{Op}
use Rattle.orc_ops.specs.declared.opcode.Op.TheVariants as op
use Rattle.orc_ops.specs.Table.{row, size_of_result}
use Rattle.orc_program.specs.declared.program.Var.{Var}
use Rattle.orc_program.specs.declared.program.VarKind.{VarKind}
use Rattle.orc_program.specs.declared.program.VarKind.TheVariants as kind
use Rattle.orc_program.specs.declared.program.Insn.{Insn}
use Rattle.orc_program.specs.declared.fault.Fault.{Fault}
use Rattle.orc_program.specs.declared.fault.Fault.TheVariants as fault
use Rattle.orc_program.specs.Program.{FunctionValue, same_kind, is_of, var_at, no_var, count_of, count_before}
use Rattle.orc_program.specs.Kept.{is_function, all_pass, is_shaped, is_in_range, has_no_fault, result_count, source_count}
use Rattle.orc_program.specs.Checks.{insn_fault, is_bad_prefix, takes_no_prefix, operand_sizes, or_else, check}
use Rattle.orc_program.proofs.Apart.{IsSize}
use Rattle.orc_program.proofs.Sizes.{both, kept_of, size_kept}
use Rattle.orc_program.proofs.Counts.{few_vars, vars_few}
use Rattle.orc_program.proofs.Places as lower
use Rattle.orc_program.proofs.Places.{before_less}
use Rattle.orc_emul.specs.State.{Fits}
use Rattle.orc_emul.proofs.FarLoads.{element_size}

-- ---- few variables

-- the limits, one by one
pub record Limits (vars : List Var) : Type 0 where
  pub dests : count_of kind.Dest vars ≤ 4
  pub sources : count_of kind.Source vars ≤ 8
  pub accumulators : count_of kind.Accumulator vars ≤ 4
  pub all : length vars ≤ 184

pub limits_kept : (f : FunctionValue) → is_function f ≡ true → Limits f.vars
limits_kept f h =
    let few = few_vars f.vars (kept_of f h).limits in
    record { dests = few.dests; sources = few.sources; accumulators = few.accumulators; all = vars_few f h }

-- ---- sizes

at_most_8 : (n : ℕ) → IsSize n → n ≤ 8
at_most_8 n h = omega (arith, h)

pub size_low : (f : FunctionValue) → is_function f ≡ true → (p : ℕ) → p < length f.vars → (var_at f.vars p).size ≤ 8
size_low f h p l = at_most_8 (var_at f.vars p).size (size_kept f h p l)

-- ---- a variable is among those of its kind

pub before_all : (k : VarKind) (vars : List Var) (p : ℕ) → p < length vars → same_kind k (var_at vars p).kind ≡ true → count_before k vars p < count_of k vars
before_all k vars p l e = before_less k vars p l e

-- ---- instructions

pub no_fault : (o : Option Fault) → has_no_fault o ≡ true → o ≡ None
no_fault None e = refl
no_fault (Some x) e = absurd (true≢false (sym e))

first_none : (c : Bool) (x : Fault) (rest : Option Fault) → or_else (check c x) rest ≡ None → c ≡ false
first_none false x rest e = refl
first_none true x rest e = absurd (true≢false (ap has_no_fault (sym e)))

pub good_prefix : (vars : List Var) (earlier : List Insn) (insn : Insn) → insn_fault vars earlier insn ≡ None → is_bad_prefix insn.op insn.prefix ≡ false
unfolding insn_fault
good_prefix vars earlier insn e = first_none (is_bad_prefix insn.op insn.prefix) fault.BadPrefix _ e

is_low : ℕ → Bool
is_low n = nat_le n 8

-- the results of an opcode have at most 8 bytes
low_results : (o : Op) → nat_le (size_of_result o 0) 8 && nat_le (size_of_result o 1) 8 ≡ true
low_results op.Absb = refl
low_results o = refl

fits_within : (r s k : ℕ) → r ≤ 8 → s ≤ 8 → (k ≡ 1) ⊎ ((r * k ≤ 8) × (s * k ≤ 8)) → (8 * r * k ≤ 64) × (8 * s * k ≤ 64)
fits_within r s k lr ls (inl e) = (subst (λ n. 8 * r * n ≤ 64) (sym e) (omega (arith, lr)), subst (λ n. 8 * s * n ≤ 64) (sym e) (omega (arith, ls)))
fits_within r s k lr ls (inr h) = (omega (arith, h), omega (arith, h))

prefix_cases : (o : Op) (k : ℕ) → is_bad_prefix o k ≡ false → (k ≡ 1) ⊎ ((size_of_result o 0 * k ≤ 8) × (size_of_result o 1 * k ≤ 8))
prefix_cases o k e = go (k == 1) refl e
  where
    go : (t : Bool) → (k == 1) ≡ t → not t && (takes_no_prefix (row o).kind || list_any (λ size. nat_lt 8 (size * k)) (operand_sizes o)) ≡ false → (k ≡ 1) ⊎ ((size_of_result o 0 * k ≤ 8) × (size_of_result o 1 * k ≤ 8))
    go true q e = inl (grind (arith, nat_tests, q))
    go false q e = inr (sizes (takes_no_prefix (row o).kind) (nat_lt 8 (size_of_result o 0 * k)) (nat_lt 8 (size_of_result o 1 * k)) _ refl refl e)
      where
        sizes : (a b c rest : Bool) → nat_lt 8 (size_of_result o 0 * k) ≡ b → nat_lt 8 (size_of_result o 1 * k) ≡ c → a || (b || (c || rest)) ≡ false → (size_of_result o 0 * k ≤ 8) × (size_of_result o 1 * k ≤ 8)
        sizes true b c rest p q e = absurd (true≢false e)
        sizes false true c rest p q e = absurd (true≢false e)
        sizes false false true rest p q e = absurd (true≢false e)
        sizes false false false rest p q e = (grind (arith, nat_tests, p), grind (arith, nat_tests, q))

pub fits_of : (vars : List Var) (earlier : List Insn) (insn : Insn) → is_shaped vars insn ≡ true → insn_fault vars earlier insn ≡ None → Fits vars insn
fits_of vars earlier insn shaped passes =
    let a = both (insn.prefix == 1 || (insn.prefix == 2 || insn.prefix == 4)) (length insn.results.items == result_count insn.op && (length insn.sources.items == source_count insn.op && (list_all (is_in_range vars) insn.results.items && (list_all (is_in_range vars) insn.sources.items && nat_lt insn.line (2 ^ 32))))) shaped in
    let b = both (length insn.results.items == result_count insn.op) (length insn.sources.items == source_count insn.op && (list_all (is_in_range vars) insn.results.items && (list_all (is_in_range vars) insn.sources.items && nat_lt insn.line (2 ^ 32)))) a.1 in
    let c = both (length insn.sources.items == source_count insn.op) (list_all (is_in_range vars) insn.results.items && (list_all (is_in_range vars) insn.sources.items && nat_lt insn.line (2 ^ 32))) b.1 in
    let d = both (list_all (is_in_range vars) insn.results.items) (list_all (is_in_range vars) insn.sources.items && nat_lt insn.line (2 ^ 32)) c.1 in
    let e = both (list_all (is_in_range vars) insn.sources.items) (nat_lt insn.line (2 ^ 32)) d.1 in
    let low = both (nat_le (size_of_result insn.op 0) 8) (nat_le (size_of_result insn.op 1) 8) (low_results insn.op) in
    let w = fits_within (size_of_result insn.op 0) (size_of_result insn.op 1) insn.prefix (grind (arith, nat_tests, low.0)) (grind (arith, nat_tests, low.1)) (prefix_cases insn.op insn.prefix (good_prefix vars earlier insn passes)) in
    record { first = w.0; second = w.1; results = d.0; sources = e.0; element = element_size vars earlier insn passes (good_prefix vars earlier insn passes) }

all_fit : (vars : List Var) (earlier insns : List Insn) (k : ℕ) (d : Insn) → all_pass vars earlier insns ≡ true → k < length insns → Fits vars (get_or insns k d)
all_fit vars earlier [] k d h l = absurd (omega (arith, l))
all_fit vars earlier (x ∷ xs) zero d h l =
    let a = both (is_shaped vars x) (has_no_fault (insn_fault vars earlier x) && all_pass vars (earlier ++ x ∷ []) xs) h in
    let b = both (has_no_fault (insn_fault vars earlier x)) (all_pass vars (earlier ++ x ∷ []) xs) a.1 in
    fits_of vars earlier x a.0 (no_fault (insn_fault vars earlier x) b.0)
all_fit vars earlier (x ∷ xs) (suc k) d h l =
    let a = both (is_shaped vars x) (has_no_fault (insn_fault vars earlier x) && all_pass vars (earlier ++ x ∷ []) xs) h in
    let b = both (has_no_fault (insn_fault vars earlier x)) (all_pass vars (earlier ++ x ∷ []) xs) a.1 in
    all_fit vars (earlier ++ x ∷ []) xs k d b.1 (omega (arith, l))

pub insn_fits : (f : FunctionValue) → is_function f ≡ true → (k : ℕ) (d : Insn) → k < length f.insns → Fits f.vars (get_or f.insns k d)
insn_fits f h k d l = all_fit f.vars [] f.insns k d (kept_of f h).insns l

-- ---- a variable as it is read

pub var_is : (vars xs : List Var) (p i : ℕ) (v : Var) → v ≡ get_or xs i v → xs ≡ vars → i ≡ p → p < length vars → v ≡ var_at vars p
var_is vars xs p i v e q r l = get_or_read vars p v l (e ∙ ap₂ (λ (ys : List Var) j. get_or ys j v) q r) no_var

-- ---- the places of a kind, one after the other

abbrev pub places_before : VarKind → List Var → ℕ → List ℕ
places_before k vars n = filter (λ p. is_of k (var_at vars p)) (range_with_len 0 n)

-- one place more, and one that isn't of the kind
pub place_more : (k : VarKind) (vars : List Var) (n : ℕ) (g : ℕ → ℕ) (xs : List ℕ) → is_of k (var_at vars n) ≡ true → xs ≡ map g (places_before k vars n) → xs ++ g n ∷ [] ≡ map g (places_before k vars (n + 1))
unfolding lower.places_before
place_more k vars n g xs t e = ap (λ (ys : List ℕ). ys ++ g n ∷ []) e ∙ sym (map-append g (places_before k vars n) (n ∷ [])) ∙ ap (map g) (sym (lower.places_yes k vars n t))

pub place_same : (k : VarKind) (vars : List Var) (n : ℕ) → is_of k (var_at vars n) ≡ false → places_before k vars n ≡ places_before k vars (n + 1)
unfolding lower.places_before
place_same k vars n t = sym (lower.places_no k vars n t)

places_room : (k : VarKind) (vars : List Var) (n : ℕ) → n < length vars → is_of k (var_at vars n) ≡ true → length (places_before k vars n) < count_of k vars
unfolding lower.places_before
places_room k vars n l e = lower.places_room k vars n l e

-- there is room for one more sum
pub room_for_sum : (f : FunctionValue) → is_function f ≡ true → (p : ℕ) → p < length f.vars → is_of kind.Accumulator (var_at f.vars p) ≡ true → length (places_before kind.Accumulator f.vars p) < 4
room_for_sum f h p l e =
    let r = places_room kind.Accumulator f.vars p l e in
    let m = (limits_kept f h).accumulators in
    omega (arith, r, m)
