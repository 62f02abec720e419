-- Far loads: what their sources keep, and that only the memory counts for them.
use Rattle.std.proofs.Common.{◌≡◌, ℕ, ◌*◌, ◌<◌, ◌&&◌, ◌||◌, ◌==◌, not, Bool, true, false, if◌then◌else◌, List, [], ◌∷◌, Option, Some, None, ℤ, Result, Ok, length, refl, sym, ap, ◌∙◌, subst, arith, true≢false}
use Rattle.std.specs.List.{list_any}
use Rattle.std.specs.Prelude.{slice_index, nat_lt}
use Rattle.std.proofs.lemmas.Bool.Decides.{nat_tests}
use Rattle.orc_ops.specs.declared.opcode.Op.{Op}
use Rattle.orc_ops.specs.declared.far.Far.{Far}
use Rattle.orc_ops.specs.declared.elements.Reach.{Reach}
use Rattle.orc_ops.specs.Table.{Row, row, size_of_source}
use Rattle.orc_ops.specs.Far.{far_of, far_size, far_blend}
use Rattle.orc_ops.specs.Reach.{reach}
use Rattle.orc_ops.proofs.FarLaws.{rows}
use Rattle.orc_program.specs.declared.program.Var.{Var}
use Rattle.orc_program.specs.declared.program.VarKind.{VarKind}
use Rattle.orc_program.specs.declared.program.VarKind.TheVariants as kind
use Rattle.orc_program.specs.declared.program.Operand.{Operand}
use Rattle.orc_program.specs.declared.program.Operand.TheVariants as operand
use Rattle.orc_program.specs.declared.program.Insn.{Insn}
use Rattle.orc_program.specs.declared.fault.Fault.{Fault}
use Rattle.orc_program.specs.declared.fault.Fault.TheVariants as fault
use Rattle.orc_program.specs.declared.call.Call.{Call}
use Rattle.orc_program.specs.Program.{FunctionValue, var_at, operand_kind, is_array, is_array_kind, far_array}
use Rattle.orc_program.specs.Checks.{check, or_else, takes_no_prefix, operand_sizes, is_bad_prefix, is_scalar, is_wrong_size, is_unset, is_too_many, source_kind_fault, sources_fault, results_fault, insn_fault}
use Rattle.orc_program.specs.Meaning.{State, Gap, go_on, start, reach_of, read_far, read_second, load_far}

-- ---- the array's size

both_none : (x y : Option Fault) → or_else x y ≡ None → (x ≡ None) × (y ≡ None)
both_none None y e = (refl, e)
both_none (Some f) y e = absurd (let q : ⊥ = cc in q)

unmet : (b : Bool) (f : Fault) → check b f ≡ None → b ≡ false
unmet false f e = refl
unmet true f e = absurd (let q : ⊥ = cc in q)

sources_pass : (vars : List Var) (earlier : List Insn) (insn : Insn) → insn_fault vars earlier insn ≡ None → sources_fault vars earlier insn.op insn.prefix 0 insn.sources.items ≡ None
unfolding insn_fault
sources_pass vars earlier insn e =
    let last = or_else (check (is_too_many vars earlier insn) fault.TooMany) None in
    let sources = sources_fault vars earlier insn.op insn.prefix 0 insn.sources.items in
    let results = results_fault vars insn.op insn.prefix 0 insn.results.items in
    let a = both_none (check (is_bad_prefix insn.op insn.prefix) fault.BadPrefix) (or_else results (or_else sources last)) e in
    let b = both_none results (or_else sources last) a.1 in
    (both_none sources last b.1).0

-- an opcode that takes no prefix has none
no_prefix : (o : Op) (k : ℕ) → takes_no_prefix (row o).kind ≡ true → is_bad_prefix o k ≡ false → k ≡ 1
no_prefix o k t h = go (k == 1) refl (ap (λ b. not (k == 1) && (b || list_any (λ size. nat_lt 8 (size * k)) (operand_sizes o))) (sym t) ∙ h)
  where
    go : (b : Bool) → (k == 1) ≡ b → not b && true ≡ false → k ≡ 1
    go true e h = grind (arith, nat_tests, e)
    go false e h = absurd (true≢false h)

array_kind : (k : VarKind) → is_array_kind k ≡ true → is_scalar (Some k) ≡ false
array_kind kind.Source h = refl
array_kind kind.Dest h = refl
array_kind kind.Accumulator h = refl
array_kind kind.Param h = absurd (true≢false (sym h))
array_kind kind.Const h = absurd (true≢false (sym h))
array_kind kind.Temp h = refl

-- an array whose size was checked
array_size : (v : Var) (n : ℕ) → is_array v ≡ true → not (is_scalar (Some v.kind)) && not (v.size == n) ≡ false → v.size ≡ n
array_size v n a h = go (v.size == n) refl (ap (λ b. not b && not (v.size == n)) (sym (array_kind v.kind a)) ∙ h)
  where
    go : (b : Bool) → (v.size == n) ≡ b → not b ≡ false → v.size ≡ n
    go true e h = grind (arith, nat_tests, e)
    go false e h = absurd (true≢false h)

first_size : (vars : List Var) (earlier : List Insn) (o : Op) (k : ℕ) (os : List Operand) (p : ℕ) → sources_fault vars earlier o k 0 os ≡ None → far_array vars os ≡ Some p → (var_at vars p).size ≡ size_of_source o 0 * k
first_size vars earlier o k [] p h e = absurd (let q : ⊥ = cc in q)
first_size vars earlier o k (operand.Number n ∷ os) p h e = absurd (let q : ⊥ = cc in q)
first_size vars earlier o k (operand.Var q ∷ os) p h e =
    let kinds = source_kind_fault (row o).kind 0 (operand_kind vars (operand.Var q)) in
    let size = check (is_wrong_size vars (size_of_source o 0 * k) (operand.Var q)) fault.SizeMismatch in
    let unset = check (is_unset vars earlier (operand.Var q)) fault.Unset in
    let first = (both_none (or_else kinds (or_else size unset)) (sources_fault vars earlier o k 1 os) h).0 in
    let sized = (both_none size unset (both_none kinds (or_else size unset) first).1).0 in
    go (is_array (var_at vars q)) refl e (unmet (is_wrong_size vars (size_of_source o 0 * k) (operand.Var q)) fault.SizeMismatch sized)
  where
    go : (b : Bool) → is_array (var_at vars q) ≡ b → (if b then Some q else None) ≡ Some p → not (is_scalar (Some (var_at vars q).kind)) && not ((var_at vars q).size == size_of_source o 0 * k) ≡ false → (var_at vars p).size ≡ size_of_source o 0 * k
    go true a e h = let s : q ≡ p = cc in subst (λ x. (var_at vars x).size ≡ size_of_source o 0 * k) s (array_size (var_at vars q) (size_of_source o 0 * k) a h)
    go false a e h = absurd (let q : ⊥ = cc in q)

-- the elements of a far load's array have the size that the load reads
pub element_size : (vars : List Var) (earlier : List Insn) (insn : Insn) → insn_fault vars earlier insn ≡ None → is_bad_prefix insn.op insn.prefix ≡ false
    → (far : Far) → far_of insn.op ≡ Some far → (p : ℕ) → far_array vars insn.sources.items ≡ Some p → (var_at vars p).size ≡ far_size far
element_size vars earlier insn passes good far is p a =
    let r = rows insn.op far is in
    let one : insn.prefix ≡ 1 = no_prefix insn.op insn.prefix (ap (λ (x : Row). takes_no_prefix x.kind) r) good in
    let size : size_of_source insn.op 0 ≡ far_size far = ap (λ (x : Row). slice_index x.sources 0) r in
    first_size vars earlier insn.op insn.prefix insn.sources.items p (sources_pass vars earlier insn passes) a
    ∙ ap (λ k. size_of_source insn.op 0 * k) one ∙ (let e : size_of_source insn.op 0 * 1 ≡ size_of_source insn.op 0 = omega arith in e) ∙ size

-- ---- scalars

-- without scalars
pub no_scalars : (f : FunctionValue) (call : Call) (far : Far) (os : List Operand) (i : ℕ) → length os < 2 → reach far i 0 0 ≡ reach_of f call far os i
no_scalars f call far [] i l = refl
no_scalars f call far (o ∷ []) i l = refl
no_scalars f call far (o ∷ p ∷ os) i l = absurd (omega (arith, l))

-- ---- the memory alone counts

second_same : (f : FunctionValue) (call : Call) (r i p : ℕ) (s : State) (k : Option ℤ) (x : ℕ) → read_second f call r i p s x k ≡ read_second f call r i p (start s.memory) x k
second_same f call r i p s None x = refl
second_same f call r i p s (Some k) x = refl

pub far_same : (f : FunctionValue) (call : Call) (r i : ℕ) (far : Far) (at : Reach) (s : State) (o : Option ℕ) → load_far f call r i far at s o ≡ load_far f call r i far at (start s.memory) o
far_same f call r i far at s None = refl
far_same f call r i far at s (Some p) =
    let from : (ℕ → Result ℕ Gap) → Result ℕ Gap = λ second. go_on (read_far f call r i p s at.first) (λ x. go_on (second x) (λ y. Ok (far_blend far x y at.part))) in
    let seconds : (λ x. read_second f call r i p s x at.second) ≡ (λ x. read_second f call r i p (start s.memory) x at.second) = λ j x. second_same f call r i p s at.second x j in
    ap from seconds
