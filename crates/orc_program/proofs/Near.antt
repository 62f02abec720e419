-- Functions without far loads, and which arrays have a cell for each element.
use Rattle.std.proofs.Common.{◌≡◌, ℕ, zero, suc, ◌<◌, Bool, true, false, not, ◌&&◌, ◌||◌, List, [], ◌∷◌, Option, Some, None, is_some, refl, sym, ap, ◌∙◌, subst, arith, length, slice_index_or, true≢false, inl, inr, if◌then◌else◌}
use Rattle.std.specs.Prelude.{Contains}
use Rattle.std.specs.List.{list_any}
use Rattle.std.proofs.lemmas.Bool.{or_parts}
use Rattle.orc_ops.specs.declared.far.Far.{Far}
use Rattle.orc_ops.specs.Far.{far_of}
use Rattle.orc_program.specs.declared.program.Var.{Var}
use Rattle.orc_program.specs.declared.program.VarKind.TheVariants as kind
use Rattle.orc_program.specs.declared.program.Operand.{Operand}
use Rattle.orc_program.specs.declared.program.Operand.TheVariants as operand
use Rattle.orc_program.specs.declared.program.Insn.{Insn}
use Rattle.orc_program.specs.declared.call.Call.{Call}
use Rattle.orc_program.specs.Program.{FunctionValue, var_at, same_kind, is_of, is_array, is_place, is_far, has_far, far_array, far_line}
use Rattle.orc_program.specs.Meaning.{State, act, act_as}
use Rattle.orc_program.specs.Good.{HasCell, is_near, reads_near, reads_far}

-- ---- lists of tests

pub or_right : (a b : Bool) → b ≡ true → a || b ≡ true
or_right true b h = refl
or_right false b h = h

-- an element that passes is among some
pub any_at : (q : Insn → Bool) (xs : List Insn) (x : Insn) → Contains xs x → q x ≡ true → list_any q xs ≡ true
any_at q xs x h e = go xs h.0 h.1 (ap q h.2 ∙ e)
  where
    go : (xs : List Insn) (k : ℕ) → k < length xs → q (slice_index_or xs k x) ≡ true → list_any q xs ≡ true
    go [] k l e = absurd (omega (arith, l))
    go (y ∷ ys) zero l e = ap (λ b. b || list_any q ys) e
    go (y ∷ ys) (suc k) l e = or_right (q y) (list_any q ys) (go ys k (omega (arith, l)) e)

-- ---- no far load

none_of : (o : Option Far) → is_some o ≡ false → o ≡ None
none_of None h = refl
none_of (Some far) h = absurd (true≢false h)

pub near_op : (insn : Insn) → is_far insn ≡ false → far_of insn.op ≡ None
near_op insn h = none_of (far_of insn.op) h

-- the first instruction is none, and the others are none
pub near_parts : (insn : Insn) (insns : List Insn) → list_any is_far (insn ∷ insns) ≡ false → (is_far insn ≡ false) × (list_any is_far insns ≡ false)
near_parts insn insns h = or_parts (is_far insn) (list_any is_far insns) h

-- an instruction that is none acts by its formula
pub act_near : (f : FunctionValue) (call : Call) (r i : ℕ) (insn : Insn) (s : State) → is_far insn ≡ false → act f call r i insn s ≡ act_as f call r i insn s None
unfolding act
act_near f call r i insn s h = ap (act_as f call r i insn s) (near_op insn h)

-- each instruction of a function without far loads is none
pub near_insn : (f : FunctionValue) → has_far f ≡ false → (insn : Insn) → Contains f.insns insn → is_far insn ≡ false
near_insn f h insn c = go (is_far insn) refl
  where
    go : (b : Bool) → is_far insn ≡ b → b ≡ false
    go true e = absurd (true≢false (sym (any_at is_far f.insns insn c e) ∙ h))
    go false e = refl

-- ---- arrays with a cell for each element

pub dest_near : (f : FunctionValue) (p : ℕ) → (var_at f.vars p).kind ≡ kind.Dest → is_near f p ≡ true
dest_near f p e = ap (λ k. same_kind kind.Dest k || (list_any (reads_near p) f.insns || not (list_any (reads_far p) f.insns))) e

no_far_read : (p : ℕ) (insns : List Insn) → list_any is_far insns ≡ false → list_any (reads_far p) insns ≡ false
no_far_read p [] h = refl
no_far_read p (insn ∷ insns) h =
    let x = near_parts insn insns h in
    ap (λ b. b && list_any (is_place p) insn.sources.items || list_any (reads_far p) insns) x.0 ∙ no_far_read p insns x.1

-- no far load reads any array
pub none_read : (f : FunctionValue) → has_far f ≡ false → (p : ℕ) → list_any (reads_far p) f.insns ≡ false
none_read f h p = no_far_read p f.insns h

pub all_near : (f : FunctionValue) → has_far f ≡ false → (p : ℕ) → is_near f p ≡ true
all_near f h p = or_right (is_of kind.Dest (var_at f.vars p)) (list_any (reads_near p) f.insns || not (list_any (reads_far p) f.insns))
    (or_right (list_any (reads_near p) f.insns) (not (list_any (reads_far p) f.insns)) (ap not (none_read f h p)))

-- so its cells are those of the elements
pub has_cell : (f : FunctionValue) (call : Call) → has_far f ≡ false → (p k : ℕ) → k < call.n → HasCell f call p k
has_cell f call h p k l = inl (all_near f h p, l)

pub element_of : (f : FunctionValue) (call : Call) → has_far f ≡ false → (p k : ℕ) → HasCell f call p k → k < call.n
element_of f call h p k (inl x) = x.1
element_of f call h p k (inr x) = absurd (true≢false (sym (ap is_some x.loads) ∙ near_insn f h x.insn x.stands))

-- ---- the array of a far load

pub far_array_is : (vars : List Var) (os : List Operand) (p : ℕ) → far_array vars os ≡ Some p → is_array (var_at vars p) ≡ true
far_array_is vars [] p e = absurd (let f : ⊥ = cc in f)
far_array_is vars (operand.Number n ∷ os) p e = absurd (let f : ⊥ = cc in f)
far_array_is vars (operand.Var q ∷ os) p e = go (is_array (var_at vars q)) refl e
  where
    go : (b : Bool) → is_array (var_at vars q) ≡ b → (if b then Some q else None) ≡ Some p → is_array (var_at vars p) ≡ true
    go true h e = let s : q ≡ p = cc in subst (λ x. is_array (var_at vars x) ≡ true) s h
    go false h e = absurd (let f : ⊥ = cc in f)

-- ---- the line of the first far load

abbrev line_or : Bool → ℕ → Option ℕ → Option ℕ
line_or b line rest = if b then Some line else rest

pub no_line : (insns : List Insn) → far_line insns ≡ None → list_any is_far insns ≡ false
no_line [] e = refl
no_line (insn ∷ insns) e = go (is_far insn) (no_line insns) e
  where
    go : (b : Bool) → (far_line insns ≡ None → list_any is_far insns ≡ false) → line_or b insn.line (far_line insns) ≡ None → b || list_any is_far insns ≡ false
    go true rest h = absurd (let f : ⊥ = cc in f)
    go false rest h = rest h

pub line_none : (insns : List Insn) → list_any is_far insns ≡ false → far_line insns ≡ None
line_none [] e = refl
line_none (insn ∷ insns) e =
    let x = near_parts insn insns e in
    ap (λ b. line_or b insn.line (far_line insns)) x.0 ∙ line_none insns x.1
