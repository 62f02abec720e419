-- What a function's checks say of an instruction.
use Rattle.std.proofs.Common.{◌≡◌, ℕ, ◌==◌, ◌&&◌, not, Bool, true, false, List, [], ◌∷◌, Option, Some, None, refl, sym}
use Rattle.std.proofs.lemmas.Bool.{true≢false, eqb-true}
use Rattle.orc_ops.specs.declared.opcode.Kind.{Kind}
use Rattle.orc_ops.specs.declared.opcode.Kind.TheVariants as ops
use Rattle.orc_program.specs.declared.program.Var.{Var}
use Rattle.orc_program.specs.declared.program.VarKind.{VarKind}
use Rattle.orc_program.specs.declared.program.VarKind.TheVariants as kind
use Rattle.orc_program.specs.declared.program.Insn.{Insn}
use Rattle.orc_program.specs.declared.fault.Fault.{Fault}
use Rattle.orc_program.specs.declared.fault.Fault.TheVariants as fault
use Rattle.orc_program.specs.Program.{is_array_kind}
use Rattle.orc_program.specs.Checks.{check, or_else, first_of, is_kind, is_scalar, is_bad_prefix, result_kind_fault, results_fault, sources_fault, is_too_many, insn_fault}
use Rattle.orc_program.specs.Kept.{has_no_fault}
use Rattle.sse_laws.specs.Meets.{is_sum}

-- ---- faults that aren't there

pub none_left : (a b : Option Fault) → has_no_fault (or_else a b) ≡ true → (has_no_fault a ≡ true) × (has_no_fault b ≡ true)
none_left None b h = (refl, h)
none_left (Some f) b h = absurd (true≢false (sym h))

pub unchecked : (c : Bool) (f : Fault) → has_no_fault (check c f) ≡ true → c ≡ false
unchecked true f h = absurd (true≢false (sym h))
unchecked false f h = refl

pub size_ok : (k : VarKind) (size n : ℕ) → is_array_kind k ≡ true → (not (is_scalar (Some k)) && not (size == n)) ≡ false → size ≡ n
size_ok k size n a h = eqb-true size n (go k (size == n) a h)
  where
    go : (k : VarKind) (b : Bool) → is_array_kind k ≡ true → (not (is_scalar (Some k)) && not b) ≡ false → b ≡ true
    go k true a h = refl
    go kind.Dest false a h = absurd (true≢false h)
    go kind.Source false a h = absurd (true≢false h)
    go kind.Temp false a h = absurd (true≢false (sym a))
    go kind.Param false a h = absurd (true≢false (sym a))
    go kind.Const false a h = absurd (true≢false (sym a))
    go kind.Accumulator false a h = absurd (true≢false (sym a))

-- an opcode that adds to an accumulator has no array as a result
pub no_sum : (o : Kind) (k : VarKind) → is_array_kind k ≡ true → has_no_fault (result_kind_fault o (Some k)) ≡ true → is_sum o ≡ false
no_sum ops.Sum k a h = absurd (array_sum k a (unchecked _ fault.NotAccumulator h))
  where
    array_sum : (k : VarKind) → is_array_kind k ≡ true → not (is_kind kind.Accumulator (Some k)) ≡ false → ⊥
    array_sum kind.Dest a h = true≢false h
    array_sum kind.Source a h = true≢false h
    array_sum kind.Temp a h = true≢false (sym a)
    array_sum kind.Param a h = true≢false (sym a)
    array_sum kind.Const a h = true≢false (sym a)
    array_sum kind.Accumulator a h = true≢false (sym a)
no_sum ops.Plain k a h = refl
no_sum ops.Load k a h = refl
no_sum ops.LoadParam k a h = refl
no_sum ops.Store k a h = refl
no_sum ops.Shift k a h = refl
no_sum ops.Far k a h = refl

-- what a function's checks say of an instruction
pub record Checked (vars : List Var) (earlier : List Insn) (insn : Insn) : Type 0 where
  pub prefix : is_bad_prefix insn.op insn.prefix ≡ false
  pub results : has_no_fault (results_fault vars insn.op insn.prefix 0 insn.results.items) ≡ true
  pub sources : has_no_fault (sources_fault vars earlier insn.op insn.prefix 0 insn.sources.items) ≡ true
  pub few : is_too_many vars earlier insn ≡ false

pub checked : (vars : List Var) (earlier : List Insn) (insn : Insn) → has_no_fault (insn_fault vars earlier insn) ≡ true → Checked vars earlier insn
unfolding insn_fault
checked vars earlier insn h =
    let prefix = check (is_bad_prefix insn.op insn.prefix) fault.BadPrefix in
    let results = results_fault vars insn.op insn.prefix 0 insn.results.items in
    let sources = sources_fault vars earlier insn.op insn.prefix 0 insn.sources.items in
    let many = check (is_too_many vars earlier insn) fault.TooMany in
    let a = none_left prefix (first_of (results ∷ sources ∷ many ∷ [])) h in
    let b = none_left results (first_of (sources ∷ many ∷ [])) a.1 in
    let c = none_left sources (first_of (many ∷ [])) b.1 in
    let d = none_left many None c.1 in
    record { prefix = unchecked (is_bad_prefix insn.op insn.prefix) fault.BadPrefix a.0; results = b.0; sources = c.0; few = unchecked (is_too_many vars earlier insn) fault.TooMany d.0 }
