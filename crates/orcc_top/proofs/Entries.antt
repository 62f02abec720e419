-- Entries of an image or an object, one after the other.
use Rattle.std.proofs.Common.{◌≡◌, ℕ, zero, suc, inl, inr, ◌+◌, ◌<◌, ◌≤◌, Bool, true, List, [], ◌∷◌, ◌++◌, length, map, take, drop, get_or, Option, Some, None, refl, sym, ap, ◌∙◌, arith}
use Rattle.std.specs.List.{list_all}
use Rattle.std.specs.Option.{option_or}
use Rattle.std.proofs.lemmas.Bool.{cases_Bool, leb-true}
use Rattle.orc_ops.specs.declared.target.Target.{Target}
use Rattle.orc_program.specs.declared.program.VarKind.{VarKind}
use Rattle.orc_program.specs.declared.program.VarKind.TheVariants as kind
use Rattle.orc_program.specs.Program.{FunctionValue, ProgramValue, count_of}
use Rattle.orc_program.specs.Facts.{facts_of, is_free}
use Rattle.orc_program.specs.Kept.{is_function, is_program, all_distinct, has_few, most_of}
use Rattle.orc_program.proofs.Sizes.{both, kept_of}
use Rattle.orc_plan.specs.declared.steps.Pressure.{Pressure}
use Rattle.orc_asm.specs.declared.refusal.AsmError.{AsmError}
use Rattle.orc_asm.specs.declared.refusal.AsmError.TheVariants as refusal
use Rattle.orc_asm.specs.Function.{first_pressure, IsRefusal}
use Rattle.x86_ins.specs.declared.ins.Ins.TheVariants.{Ret}
use Rattle.x86_ins.specs.Spelling.{spelling}
use Rattle.orc_program.specs.Words.{is_name}
use Rattle.orc_elf.specs.Entries.{EntryValue, IsEntry}
use Rattle.orc_image.specs.Spelling as image
use Rattle.orcc_top.specs.Assembly.{EntryOf, version_of, first_pressure_in, TellsPressure}
use Rattle.orcc_top.specs.Objects.{CompiledOf, uncounted}
use Rattle.orcc_top.specs.Libraries.{EnteredOf}
use Rattle.orcc_top.proofs.Each.{AreNamed, parted, one_further}

-- ---- what a function and a program keep

pub few : (f : FunctionValue) (k : VarKind) → is_function f ≡ true → count_of k f.vars ≤ most_of k
few f k h = leb-true (count_of k f.vars) (most_of k) (one k)
  where
    fits : VarKind → Bool
    fits = has_few f.vars

    one : (k : VarKind) → has_few f.vars k ≡ true
    one kind.Source = grind (arith, (kept_of f h).limits)
    one kind.Dest = grind (arith, (kept_of f h).limits)
    one kind.Accumulator = grind (arith, (kept_of f h).limits)
    one kind.Param = grind (arith, (kept_of f h).limits)
    one kind.Const = grind (arith, (kept_of f h).limits)
    one kind.Temp = grind (arith, (kept_of f h).limits)

pub most_fits : (k : VarKind) → most_of k < 256
most_fits kind.Source = omega arith
most_fits kind.Dest = omega arith
most_fits kind.Accumulator = omega arith
most_fits kind.Param = omega arith
most_fits kind.Const = omega arith
most_fits kind.Temp = omega arith

pub record KeptProgram (fs : List FunctionValue) : Type 0 where
  pub few : length fs ≤ 64
  pub distinct : all_distinct (map (λ f. f.name) fs) ≡ true

pub program_kept : (p : ProgramValue) → is_program p ≡ true → KeptProgram p.functions
unfolding is_program
program_kept p h =
    let a = both _ _ h in
    record { few = leb-true _ _ (both _ _ a.1).0; distinct = a.0 }

-- ---- entries

pub entry_named : (target : Target) → AreNamed (EntryOf target) (λ f. f.name) (λ e. e.name)
entry_named target f e one = one.name

pub compiled_named : AreNamed CompiledOf (λ f. f.name) (λ e. e.name)
compiled_named f e one = one.name

pub entered_named : (text : List ℕ) (target : Target) → AreNamed (EnteredOf text target) (λ f. f.name) (λ e. e.name)
entered_named text target f e one = one.name

-- a function that returns at once
pub ret_entry : (name code : List ℕ) → is_name name ≡ true → code ≡ spelling Ret → IsEntry (record { name = name; code = code })
unfolding spelling
ret_entry name code named is = let one : length code ≡ 1 = ap length is in record { name = named; some_code = omega (arith, one); few_code = omega (arith, one) }

abbrev pub Uncounts : EntryValue → image.FunctionValue → Type 0
Uncounts e f = f ≡ uncounted e

pub uncounted_named : AreNamed Uncounts (λ e. e.name) (λ f. f.name)
uncounted_named e f one = ap (λ (f : image.FunctionValue). f.name) one

-- in an image of version 1 nothing is stated of any function
all_free : (fs : List FunctionValue) → version_of fs ≡ 1 → list_all (λ f. is_free (facts_of f)) fs ≡ true
all_free fs one =
    elim (cases_Bool (list_all (λ f. is_free (facts_of f)) fs)) [
      | inl t ↦ t
      | inr f ↦ absurd (let two : version_of fs ≡ 2 = rw f refl in omega (arith, one, two))
    ]

one_free : (fs : List FunctionValue) (i : ℕ) (d : FunctionValue) → i < length fs → list_all (λ f. is_free (facts_of f)) fs ≡ true → is_free (facts_of (get_or fs i d)) ≡ true
one_free [] i d lt h = absurd (omega (arith, lt))
one_free (f ∷ fs) zero d lt h = (both (is_free (facts_of f)) (list_all (λ g. is_free (facts_of g)) fs) h).0
one_free (f ∷ fs) (suc i) d lt h = one_free fs i d (omega (arith, lt)) (both (is_free (facts_of f)) (list_all (λ g. is_free (facts_of g)) fs) h).1

pub free_at : (fs : List FunctionValue) (i : ℕ) (f : FunctionValue) → i < length fs → f ≡ get_or fs i f → version_of fs ≡ 1 → is_free (facts_of f) ≡ true
free_at fs i f lt is one = ap (λ g. is_free (facts_of g)) is ∙ one_free fs i f lt (all_free fs one)

-- ---- what needs too many values

or_none : (a b c d : Option Pressure) → option_or a b ≡ None → (b ≡ None → c ≡ d) → option_or a c ≡ d
or_none None b c d h k = k h
or_none (Some x) b c d h k = absurd cc

pressure_then : (fs gs : List FunctionValue) → first_pressure_in fs ≡ None → first_pressure_in (fs ++ gs) ≡ first_pressure_in gs
pressure_then [] gs none = refl
pressure_then (f ∷ fs) gs none = or_none (first_pressure f) (first_pressure_in fs) (first_pressure_in (fs ++ gs)) (first_pressure_in gs) none (λ n. pressure_then fs gs n)

-- the first functions need no more, nor does the next
pub placed_further : (fs : List FunctionValue) (i : ℕ) (f : FunctionValue) → i < length fs → f ≡ get_or fs i f → first_pressure_in (take i fs) ≡ None → first_pressure f ≡ None → first_pressure_in (take (i + 1) fs) ≡ None
placed_further fs i f lt is none few =
    ap first_pressure_in (one_further fs i f lt is) ∙ pressure_then (take i fs) (f ∷ []) none ∙ ap (λ o. option_or o None) few

-- what refuses a function tells its first pressure
pub refusal_tells : (f : FunctionValue) (r : AsmError) → IsRefusal f r → TellsPressure (first_pressure f) r
refusal_tells f (refusal.Pressure line need) h = h
refusal_tells f refusal.Memory h = tt

-- the next function has the first instruction that needs too many values, if it has one
pub tells_further : (fs : List FunctionValue) (i : ℕ) (f : FunctionValue) (r : AsmError) → i < length fs → f ≡ get_or fs i f → first_pressure_in (take i fs) ≡ None → TellsPressure (first_pressure f) r → TellsPressure (first_pressure_in fs) r
tells_further fs i f (refusal.Pressure line need) lt is none h =
    ap first_pressure_in (parted fs i f lt) ∙ pressure_then (take i fs) (get_or fs i f ∷ drop (suc i) fs) none ∙ ap (λ o. option_or o (first_pressure_in (drop (suc i) fs))) (ap first_pressure (sym is) ∙ h)
tells_further fs i f refusal.Memory lt is none h = tt

pub tells_next : (fs : List FunctionValue) (i : ℕ) (f : FunctionValue) (r : AsmError) → i < length fs → f ≡ get_or fs i f → first_pressure_in (take i fs) ≡ None → IsRefusal f r → TellsPressure (first_pressure_in fs) r
tells_next fs i f r lt is none h = tells_further fs i f r lt is none (refusal_tells f r h)
