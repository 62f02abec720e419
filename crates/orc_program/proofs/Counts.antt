-- How many variables a function has.
use Rattle.std.proofs.Common.{◌≡◌, ℕ, ◌+◌, ◌≤◌, Bool, true, List, [], ◌∷◌, refl, ap, ◌∙◌, arith, length, if◌then◌else◌, nat_le, ◌&&◌}
use Rattle.std.proofs.lemmas.Bool.Decides.{nat_tests}
use Rattle.std.proofs.lemmas.List.Sums.{sum_by-append}
use Rattle.orc_program.specs.declared.program.Var.{Var}
use Rattle.orc_program.specs.declared.program.VarKind.{VarKind}
use Rattle.orc_program.specs.declared.program.VarKind.TheVariants as kind
use Rattle.orc_program.specs.Program.{FunctionValue, is_of, count_of, same_kind}
use Rattle.orc_program.specs.Kept.{is_function, has_few, keeps_limits}
use Rattle.orc_program.proofs.Sizes.{both, kept_of}

abbrev one_if : Bool → ℕ
one_if b = if b then 1 else 0

pub count_cons : (k : VarKind) (v : Var) (vars : List Var) → count_of k (v ∷ vars) ≡ one_if (same_kind k v.kind) + count_of k vars
count_cons k v vars = sum_by-append (λ (x : Var). one_if (is_of k x)) (v ∷ []) vars ∙ ap (λ n. n + count_of k vars) (omega arith)

-- each variable has one of six kinds
abbrev six : List Var → ℕ
six vars = count_of kind.Source vars + (count_of kind.Dest vars + (count_of kind.Accumulator vars + (count_of kind.Param vars + (count_of kind.Const vars + count_of kind.Temp vars))))

one_of_six : (k : VarKind) → one_if (same_kind kind.Source k) + (one_if (same_kind kind.Dest k) + (one_if (same_kind kind.Accumulator k) + (one_if (same_kind kind.Param k) + (one_if (same_kind kind.Const k) + one_if (same_kind kind.Temp k))))) ≡ 1
one_of_six kind.Source = refl
one_of_six kind.Dest = refl
one_of_six kind.Accumulator = refl
one_of_six kind.Param = refl
one_of_six kind.Const = refl
one_of_six kind.Temp = refl

pub length_by_kinds : (vars : List Var) → length vars ≡ six vars
length_by_kinds [] = refl
length_by_kinds (v ∷ vars) = omega (arith, length_by_kinds vars, one_of_six v.kind, count_cons kind.Source v vars, count_cons kind.Dest v vars, count_cons kind.Accumulator v vars, count_cons kind.Param v vars, count_cons kind.Const v vars, count_cons kind.Temp v vars)

at_most : (m n : ℕ) → nat_le m n ≡ true → m ≤ n
at_most m n h = grind (arith, nat_tests, h)

-- the counts of a function's variables, kind by kind
pub record FewVars (vars : List Var) : Type 0 where
  pub sources : count_of kind.Source vars ≤ 8
  pub dests : count_of kind.Dest vars ≤ 4
  pub accumulators : count_of kind.Accumulator vars ≤ 4
  pub params : count_of kind.Param vars ≤ 8
  pub consts : count_of kind.Const vars ≤ 32
  pub temps : count_of kind.Temp vars ≤ 128

pub few_vars : (vars : List Var) → keeps_limits vars ≡ true → FewVars vars
few_vars vars h =
    let all = has_few vars in
    let a = both (all kind.Source) (all kind.Dest && (all kind.Accumulator && (all kind.Param && (all kind.Const && (all kind.Temp && true))))) h in
    let b = both (all kind.Dest) (all kind.Accumulator && (all kind.Param && (all kind.Const && (all kind.Temp && true)))) a.1 in
    let c = both (all kind.Accumulator) (all kind.Param && (all kind.Const && (all kind.Temp && true))) b.1 in
    let d = both (all kind.Param) (all kind.Const && (all kind.Temp && true)) c.1 in
    let e = both (all kind.Const) (all kind.Temp && true) d.1 in
    let g = both (all kind.Temp) true e.1 in
    record {
      sources = at_most (count_of kind.Source vars) 8 a.0;
      dests = at_most (count_of kind.Dest vars) 4 b.0;
      accumulators = at_most (count_of kind.Accumulator vars) 4 c.0;
      params = at_most (count_of kind.Param vars) 8 d.0;
      consts = at_most (count_of kind.Const vars) 32 e.0;
      temps = at_most (count_of kind.Temp vars) 128 g.0;
    }

-- a function has at most 184 variables
pub vars_few : (f : FunctionValue) → is_function f ≡ true → length f.vars ≤ 184
vars_few f h =
    let few = few_vars f.vars (kept_of f h).limits in
    omega (arith, length_by_kinds f.vars, few.sources, few.dests, few.accumulators, few.params, few.consts, few.temps)
