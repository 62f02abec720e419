-- How many elements a turn can do at once: a power of two, of which the elements of each array and of each operand fill at most a register.
use Rattle.std.proofs.Common.{◌≡◌, ℕ, zero, suc, ◌^◌, ◌*◌, ◌/◌, ◌<◌, ◌≤◌, ◌==◌, ◌&&◌, true, false, List, [], ◌∷◌, ◌++◌, length, le_refl, refl, sym, ap, subst, arith, ◌⊎◌, inl, inr, ⊎_elim}
use Rattle.std.proofs.lemmas.Bool.{true≢false, cases_lt, eqb-true}
use Rattle.std.proofs.lemmas.List.{get_or_past}
use Rattle.std.proofs.lemmas.Nat.{pow_below}
use Rattle.std.proofs.Math.Nat.{mul-le-mul_right, mul-le-mul, le_trans}
use Rattle.orc_program.proofs.Lanes.{lanes_is, declared_fits, insn_fits}
use Rattle.orc_ops.specs.declared.opcode.Op.{Op}
use Rattle.orc_ops.specs.declared.opcode.Op.TheVariants as op
use Rattle.orc_ops.specs.Table.{row, size_of_result}
use Rattle.orc_program.specs.declared.program.Var.{Var}
use Rattle.orc_program.specs.declared.program.Insn.{Insn}
use Rattle.orc_program.specs.declared.program.VarKind.{VarKind}
use Rattle.orc_program.specs.declared.program.VarKind.TheVariants as kind
use Rattle.orc_program.specs.Program.{FunctionValue, var_at, no_var, is_array, is_array_kind, is_of, same_kind}
use Rattle.orc_program.specs.Checks.{insn_fault, operand_sizes}
use Rattle.orc_program.specs.Kept.{is_function, all_pass, is_shaped, has_no_fault}
use Rattle.orc_program.specs.Need.{largest, lanes}
use Rattle.orc_program.proofs.Apart.{IsSize}
use Rattle.orc_program.proofs.Sizes.{both, kept_of, size_kept}
use Rattle.x86_ins.specs.Way.{Each}
use Rattle.x86_flow.specs.Moves.{IsWidth}
use Rattle.sse_laws.specs.Meets.{is_sum, widest}
use Rattle.orc_region.specs.Code.{IsShare, computed_op}
use Rattle.orc_region.proofs.Checked.Passing.{checked}
use Rattle.orc_region.proofs.Checked.Sized.{prefix_ok}
use Rattle.orc_region.proofs.Checked.Copies.{computed_widest}

-- the operands of so many elements fill at most a register
abbrev pub FitsIn : ℕ → Insn → Type 0
FitsIn count insn = count * (widest insn.op * insn.prefix) ≤ 16

-- 1, 2, 4, 8 or 16
abbrev pub IsPower : ℕ → Type 0
IsPower count = (count ≡ 1) ⊎ ((count ≡ 2) ⊎ ((count ≡ 4) ⊎ ((count ≡ 8) ⊎ (count ≡ 16))))

-- what fits for an opcode fits for the copy that stands for it
pub fits_computed : (count : ℕ) (insn : Insn) → FitsIn count insn → count * (widest (computed_op insn.op) * insn.prefix) ≤ 16
fits_computed count insn h =
    let same : count ≤ count = le_refl count in
    le_trans (mul-le-mul same (mul-le-mul_right insn.prefix (computed_widest insn.op))) h

-- what is asked of how many elements a turn does at once
pub record IsCount (f : FunctionValue) (count : ℕ) : Type 0 where
  pub some : 0 < count
  pub most : count ≤ 16
  pub within : count ≤ lanes f
  pub power : IsPower count
  -- elements of each array, and of each operand of an instruction, fit into a register
  pub arrays : (p : ℕ) → p < length f.vars → is_array (var_at f.vars p) ≡ true → count * (var_at f.vars p).size ≤ 16
  pub operands : Each (FitsIn count) f.insns

-- ---- sizes

few_bytes : (n : ℕ) → IsSize n → n ≤ 8
few_bytes n (inl e) = omega (arith, e)
few_bytes n (inr (inl e)) = omega (arith, e)
few_bytes n (inr (inr (inl e))) = omega (arith, e)
few_bytes n (inr (inr (inr e))) = omega (arith, e)

pub any_size : (f : FunctionValue) → is_function f ≡ true → (q : ℕ) → (var_at f.vars q).size ≤ 8
any_size f h q = ⊎_elim
    (λ l. few_bytes (var_at f.vars q).size (size_kept f h q l))
    (λ g. omega (arith, ap (λ (v : Var). v.size) (get_or_past f.vars q no_var g)))
    (cases_lt q (length f.vars))

-- ---- how many bytes so many elements have

one_width : (n : ℕ) → IsSize n → IsWidth (1 * n)
one_width n (inl e) = inl (omega (arith, e))
one_width n (inr (inl e)) = inr (inl (omega (arith, e)))
one_width n (inr (inr (inl e))) = inr (inr (inl (omega (arith, e))))
one_width n (inr (inr (inr e))) = inr (inr (inr (inl (omega (arith, e)))))

two_width : (n : ℕ) → IsSize n → IsWidth (2 * n)
two_width n (inl e) = inr (inl (omega (arith, e)))
two_width n (inr (inl e)) = inr (inr (inl (omega (arith, e))))
two_width n (inr (inr (inl e))) = inr (inr (inr (inl (omega (arith, e)))))
two_width n (inr (inr (inr e))) = inr (inr (inr (inr (omega (arith, e)))))

four_width : (n : ℕ) → IsSize n → 4 * n ≤ 16 → IsWidth (4 * n)
four_width n (inl e) h = inr (inr (inl (omega (arith, e))))
four_width n (inr (inl e)) h = inr (inr (inr (inl (omega (arith, e)))))
four_width n (inr (inr (inl e))) h = inr (inr (inr (inr (omega (arith, e)))))
four_width n (inr (inr (inr e))) h = absurd (omega (arith, e, h))

eight_width : (n : ℕ) → IsSize n → 8 * n ≤ 16 → IsWidth (8 * n)
eight_width n (inl e) h = inr (inr (inr (inl (omega (arith, e)))))
eight_width n (inr (inl e)) h = inr (inr (inr (inr (omega (arith, e)))))
eight_width n (inr (inr (inl e))) h = absurd (omega (arith, e, h))
eight_width n (inr (inr (inr e))) h = absurd (omega (arith, e, h))

all_width : (n : ℕ) → IsSize n → 16 * n ≤ 16 → IsWidth (16 * n)
all_width n (inl e) h = inr (inr (inr (inr (omega (arith, e)))))
all_width n (inr (inl e)) h = absurd (omega (arith, e, h))
all_width n (inr (inr (inl e))) h = absurd (omega (arith, e, h))
all_width n (inr (inr (inr e))) h = absurd (omega (arith, e, h))

-- a move can take the elements, where they fill at most a register
abbrev Moves : ℕ → ℕ → Type 0
Moves size count = count * size ≤ 16 → IsWidth (count * size)

pub width_of_count : (f : FunctionValue) (count : ℕ) → IsCount f count → (size : ℕ) → IsSize size → count * size ≤ 16 → IsWidth (count * size)
width_of_count f count is size some = go is.power
  where
    go : IsPower count → Moves size count
    go (inl e) = subst (Moves size) (sym e) (λ h. one_width size some)
    go (inr (inl e)) = subst (Moves size) (sym e) (λ h. two_width size some)
    go (inr (inr (inl e))) = subst (Moves size) (sym e) (four_width size some)
    go (inr (inr (inr (inl e)))) = subst (Moves size) (sym e) (eight_width size some)
    go (inr (inr (inr (inr e)))) = subst (Moves size) (sym e) (all_width size some)

-- ---- sums

-- so many elements of a sum are added at once
pub sum_fits : (o : Op) (count : ℕ) → is_sum (row o).kind ≡ true → count * widest o ≤ 16 → count ≤ 16 / size_of_result o 0
sum_fits op.Accw count h l = (let k : count * 2 ≤ 16 = l in omega (arith, k))
sum_fits op.Accl count h l = (let k : count * 4 ≤ 16 = l in omega (arith, k))
sum_fits op.Accsadubl count h l = (let k : count * 4 ≤ 16 = l in omega (arith, k))
sum_fits other count h l = absurd (true≢false (sym h))

pub some_of : (count : ℕ) → IsPower count → 0 < count
some_of count (inl e) = omega (arith, e)
some_of count (inr (inl e)) = omega (arith, e)
some_of count (inr (inr (inl e))) = omega (arith, e)
some_of count (inr (inr (inr (inl e)))) = omega (arith, e)
some_of count (inr (inr (inr (inr e)))) = omega (arith, e)

pub most_of : (count : ℕ) → IsPower count → count ≤ 16
most_of count (inl e) = omega (arith, e)
most_of count (inr (inl e)) = omega (arith, e)
most_of count (inr (inr (inl e))) = omega (arith, e)
most_of count (inr (inr (inr (inl e)))) = omega (arith, e)
most_of count (inr (inr (inr (inr e)))) = omega (arith, e)

-- ---- one element

one_fits : (f : FunctionValue) (earlier insns : List Insn) → all_pass f.vars earlier insns ≡ true → Each (FitsIn 1) insns
one_fits f earlier [] h = tt
one_fits f earlier (insn ∷ insns) h =
    let a = both (is_shaped f.vars insn) (has_no_fault (insn_fault f.vars earlier insn) && all_pass f.vars (earlier ++ insn ∷ []) insns) h in
    let b = both (has_no_fault (insn_fault f.vars earlier insn)) (all_pass f.vars (earlier ++ insn ∷ []) insns) a.1 in
    let few = (prefix_ok insn.op insn.prefix (checked f.vars earlier insn b.0).prefix).few in
    (omega (arith, few), one_fits f (earlier ++ insn ∷ []) insns b.1)

pub one_count : (f : FunctionValue) → is_function f ≡ true → IsCount f 1
one_count f h = record {
  some = omega arith;
  most = omega arith;
  within = (let l = some_of (lanes f) (inr (lanes_is f h)) in omega (arith, l));
  power = inl refl;
  arrays = λ p l a. (let few = any_size f h p in omega (arith, few));
  operands = one_fits f [] f.insns (kept_of f h).insns;
}

-- ---- several elements

widest_table : (o : Op) → (widest o == largest (operand_sizes o)) ≡ true
widest_table op.Absb = refl
widest_table other = refl

-- an array is no parameter and no constant
array_declared : (k : VarKind) → is_array_kind k ≡ true → (same_kind kind.Param k ≡ false) × (same_kind kind.Const k ≡ false)
array_declared kind.Dest a = (refl, refl)
array_declared kind.Source a = (refl, refl)
array_declared kind.Temp a = absurd (true≢false (sym a))
array_declared kind.Param a = absurd (true≢false (sym a))
array_declared kind.Const a = absurd (true≢false (sym a))
array_declared kind.Accumulator a = absurd (true≢false (sym a))

-- the operands of each instruction fit, where its size under its prefix does
all_fit_in : (count : ℕ) (insns : List Insn) → ((earlier : List Insn) (insn : Insn) (rest : List Insn) → insns ≡ earlier ++ insn ∷ rest → count * (largest (operand_sizes insn.op) * insn.prefix) ≤ 16) → Each (FitsIn count) insns
all_fit_in count [] h = tt
all_fit_in count (insn ∷ insns) h = (
  subst (λ w. count * (w * insn.prefix) ≤ 16) (sym (eqb-true (widest insn.op) (largest (operand_sizes insn.op)) (widest_table insn.op))) (h [] insn insns refl),
  all_fit_in count insns (λ earlier i rest e. h (insn ∷ earlier) i rest (ap (λ is. insn ∷ is) e)),
)

-- so many elements, where those of the variables' and of the instructions' sizes fit
pub several_count : (f : FunctionValue) → (count : ℕ) → count ≤ lanes f → (count ≡ 2) ⊎ ((count ≡ 4) ⊎ ((count ≡ 8) ⊎ (count ≡ 16)))
    → ((p : ℕ) → p < length f.vars → is_of kind.Param (var_at f.vars p) ≡ false → is_of kind.Const (var_at f.vars p) ≡ false → count * (var_at f.vars p).size ≤ 16)
    → ((earlier : List Insn) (insn : Insn) (rest : List Insn) → f.insns ≡ earlier ++ insn ∷ rest → count * (largest (operand_sizes insn.op) * insn.prefix) ≤ 16)
    → IsCount f count
several_count f count within power declared insns = record {
  some = some_of count (inr power);
  most = most_of count (inr power);
  within = within;
  power = inr power;
  arrays = λ p l a. (let k = array_declared (var_at f.vars p).kind a in declared p l k.0 k.1);
  operands = all_fit_in count f.insns insns;
}

-- the lanes of a function
pub lanes_count : (f : FunctionValue) → is_function f ≡ true → IsCount f (lanes f)
lanes_count f h = several_count f (lanes f) (le_refl (lanes f)) (lanes_is f h) (declared_fits f h) (insn_fits f h)

-- ---- a share of the lanes

-- fewer elements fit where more do
fewer_operands : (count more : ℕ) → count ≤ more → (insns : List Insn) → Each (FitsIn more) insns → Each (FitsIn count) insns
fewer_operands count more few [] h = tt
fewer_operands count more few (insn ∷ insns) h =
    let m : count * (widest insn.op * insn.prefix) ≤ more * (widest insn.op * insn.prefix) = mul-le-mul_right (widest insn.op * insn.prefix) few in
    let g : more * (widest insn.op * insn.prefix) ≤ 16 = h.0 in
    (omega (arith, m, g), fewer_operands count more few insns h.1)

pub fewer_count : (f : FunctionValue) (count more : ℕ) → IsPower count → count ≤ more → IsCount f more → IsCount f count
fewer_count f count more power few is = record {
  some = some_of count power;
  most = most_of count power;
  within = (let w = is.within in omega (arith, few, w));
  power = power;
  arrays = λ p l a. (let m : count * (var_at f.vars p).size ≤ more * (var_at f.vars p).size = mul-le-mul_right (var_at f.vars p).size few in let most = is.arrays p l a in omega (arith, m, most));
  operands = fewer_operands count more few f.insns is.operands;
}

too_far : (lanes count j : ℕ) → lanes ≤ 16 → 0 < lanes → 4 < j → count * 2 ^ j ≡ lanes → ⊥
too_far lanes zero j few some more e = omega (arith, e, some)
too_far lanes (suc count) j few some more e = (let m : 1 * 2 ^ j ≤ suc count * 2 ^ j = mul-le-mul_right (2 ^ j) (omega arith) in omega (arith, m, e, few, pow_below 4 j more))

-- what some power of two, halved a few times, leaves
halved : (lanes count j : ℕ) → (lanes ≡ 2) ⊎ ((lanes ≡ 4) ⊎ ((lanes ≡ 8) ⊎ (lanes ≡ 16))) → count * 2 ^ j ≡ lanes → IsPower count × (count ≤ lanes)
halved lanes count zero power e = (subst IsPower (let z : lanes ≡ count = omega (arith, e) in z) (inr power), omega (arith, e))
halved lanes count (suc zero) (inl p) e = (inl (omega (arith, e, p)), omega (arith, e))
halved lanes count (suc zero) (inr (inl p)) e = (inr (inl (omega (arith, e, p))), omega (arith, e))
halved lanes count (suc zero) (inr (inr (inl p))) e = (inr (inr (inl (omega (arith, e, p)))), omega (arith, e))
halved lanes count (suc zero) (inr (inr (inr p))) e = (inr (inr (inr (inl (omega (arith, e, p))))), omega (arith, e))
halved lanes count (suc (suc zero)) (inl p) e = absurd (omega (arith, e, p))
halved lanes count (suc (suc zero)) (inr (inl p)) e = (inl (omega (arith, e, p)), omega (arith, e))
halved lanes count (suc (suc zero)) (inr (inr (inl p))) e = (inr (inl (omega (arith, e, p))), omega (arith, e))
halved lanes count (suc (suc zero)) (inr (inr (inr p))) e = (inr (inr (inl (omega (arith, e, p)))), omega (arith, e))
halved lanes count (suc (suc (suc zero))) (inl p) e = absurd (omega (arith, e, p))
halved lanes count (suc (suc (suc zero))) (inr (inl p)) e = absurd (omega (arith, e, p))
halved lanes count (suc (suc (suc zero))) (inr (inr (inl p))) e = (inl (omega (arith, e, p)), omega (arith, e))
halved lanes count (suc (suc (suc zero))) (inr (inr (inr p))) e = (inr (inl (omega (arith, e, p))), omega (arith, e))
halved lanes count (suc (suc (suc (suc zero)))) (inl p) e = absurd (omega (arith, e, p))
halved lanes count (suc (suc (suc (suc zero)))) (inr (inl p)) e = absurd (omega (arith, e, p))
halved lanes count (suc (suc (suc (suc zero)))) (inr (inr (inl p))) e = absurd (omega (arith, e, p))
halved lanes count (suc (suc (suc (suc zero)))) (inr (inr (inr p))) e = (inl (omega (arith, e, p)), omega (arith, e))
halved lanes count (suc (suc (suc (suc (suc j))))) power e = absurd (too_far lanes count (suc (suc (suc (suc (suc j))))) (most_of lanes (inr power)) (some_of lanes (inr power)) (omega arith) e)

-- a share of the lanes is a power of two
pub share_power : (f : FunctionValue) → is_function f ≡ true → (count : ℕ) → IsShare (lanes f) count → IsPower count × (count ≤ lanes f)
share_power f h count share = halved (lanes f) count share.0 (lanes_is f h) share.1

-- so many elements as a share of the lanes are a count
pub share_count : (f : FunctionValue) → is_function f ≡ true → (count : ℕ) → IsShare (lanes f) count → IsCount f count
share_count f h count share = (let x = share_power f h count share in fewer_count f count (lanes f) x.0 x.1 (lanes_count f h))
