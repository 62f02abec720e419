-- Texts without a fault that have no code.
use Rattle.std.proofs.Common.{◌≡◌, ◌≤◌, ◌<◌, ℕ, zero, suc, false, List, [], ◌∷◌, length, get_or, Option, Some, None, option_map, refl, sym, ap, subst, ◌∙◌, arith}
use Rattle.std.specs.Option.{option_or}
use Rattle.orc_program.specs.declared.fault.Fault.{Fault}
use Rattle.orc_program.specs.declared.fault.Fault.TheVariants as fault
use Rattle.orc_program.specs.Program.{FunctionValue, ProgramValue, has_far, far_line, or_later, first_far_line}
use Rattle.orc_program.proofs.Near.{no_line}
use Rattle.orc_plan.specs.declared.steps.Pressure.{Pressure}
use Rattle.orc_text.specs.Reads.{Reads, text_program}
use Rattle.orcc_top.specs.declared.assembly.Form.{Form}
use Rattle.orcc_top.specs.declared.assembly.Form.TheVariants.{Image, Object, Library}
use Rattle.orcc_top.specs.declared.refusal.Refusal.TheVariants as refusal
use Rattle.orcc_top.specs.Answer.{limit_of, refusal_of, refusal_within, Refuses}
use Rattle.orcc_top.specs.Assembly.{first_pressure_in, pressure_refusal}
use Rattle.orcc_top.specs.Code.{command_for}
use Rattle.orcc_top.specs.Refusals.{line_of}
use Rattle.orcc_top.specs.Texts.{fault_refusal, far_refusal, ReadsNear, TellsNear, TellsFault}
use Rattle.orcc_top.proofs.Limits.{within_limit}

within_form : (form : Form) (text : List ℕ) → refusal_within (command_for form) text ≡ option_or (fault_refusal text) (pressure_refusal text)
within_form (Image target) text = refl
within_form Object text = refl
within_form (Library target) text = refl

form_limit : (form : Form) → limit_of (command_for form) ≡ 1048576
form_limit (Image target) = refl
form_limit Object = refl
form_limit (Library target) = refl

form_short : (form : Form) (text : List ℕ) → length text ≤ 1048576 → length text ≤ limit_of (command_for form)
form_short form text short = subst (λ n. length text ≤ n) (sym (form_limit form)) short

-- a text without a fault is refused for its first pressure alone
read_refused : (form : Form) (text : List ℕ) (p : ProgramValue) → length text ≤ 1048576 → Reads text p → refusal_of (command_for form) text ≡ pressure_refusal text
read_refused form text p short reads =
    within_limit (command_for form) text (form_short form text short) ∙ within_form form text
    ∙ ap (λ o. option_or (option_map (λ (x : ℕ × Fault). refusal.Text x.0 x.1) o) (pressure_refusal text)) reads.faultless

same_functions : (text : List ℕ) (p : ProgramValue) (fs : List FunctionValue) → Reads text p → fs ≡ p.functions → (text_program text).functions ≡ fs
same_functions text p fs reads same = ap (λ (q : ProgramValue). q.functions) (sym reads.program) ∙ sym same

pub form_pressure_refuses : (form : Form) (text line : List ℕ) (p : ProgramValue) (fs : List FunctionValue) (found : Pressure) → length text ≤ 1048576 → Reads text p → fs ≡ p.functions
    → first_pressure_in fs ≡ Some found → line ≡ line_of (refusal.Pressure found.line found.need) → Refuses (command_for form) text line
form_pressure_refuses form text line p fs found short reads same first says = record {
  refusal = refusal.Pressure found.line found.need;
  refused = read_refused form text p short reads ∙ ap (option_map (λ (x : Pressure). refusal.Pressure x.line x.need)) (ap first_pressure_in (same_functions text p fs reads same) ∙ first);
  says = says;
}

-- ---- far loads

-- a text without a fault is refused for its first far load, where it has one
pub far_refuses : (text line : List ℕ) (p : ProgramValue) (fs : List FunctionValue) (found : ℕ) → Reads text p → fs ≡ p.functions → first_far_line fs ≡ Some found → line ≡ line_of (refusal.Text found fault.Unsupported) → TellsNear text line
far_refuses text line p fs found reads same first says = record {
  refusal = refusal.Text found fault.Unsupported;
  first = ap (λ o. option_or (option_map (λ x. refusal.Text x.0 x.1) o) (far_refusal text)) reads.faultless ∙ ap (option_map (λ line. refusal.Text line fault.Unsupported)) (ap first_far_line (same_functions text p fs reads same) ∙ first);
  says = says;
}

pub near_read : (text : List ℕ) (p : ProgramValue) (fs : List FunctionValue) → Reads text p → fs ≡ p.functions → first_far_line fs ≡ None → ReadsNear text p
near_read text p fs reads same none = record {
  reads = reads;
  near = ap first_far_line (sym same) ∙ none;
  accepted = ap (λ o. option_or (option_map (λ x. refusal.Text x.0 x.1) o) (far_refusal text)) reads.faultless ∙ ap (option_map (λ line. refusal.Text line fault.Unsupported)) (ap first_far_line (same_functions text p fs reads same) ∙ none);
}

-- a line that tells the first fault refuses the text
pub fault_tells : (text line : List ℕ) → TellsFault text line → TellsNear text line
fault_tells text line t = record { refusal = t.refusal; first = ap (λ o. option_or o (far_refusal text)) t.first; says = t.says }

far_or : (a b : Option ℕ) → or_later a b ≡ None → (a ≡ None) × (b ≡ None)
far_or None b e = (refl, e)
far_or (Some x) b e = absurd (let f : ⊥ = cc in f)

-- each function of a list without far loads has none
pub near_at : (fs : List FunctionValue) (i : ℕ) (f : FunctionValue) → i < length fs → f ≡ get_or fs i f → first_far_line fs ≡ None → has_far f ≡ false
near_at [] i f l is none = absurd (omega (arith, l))
near_at (g ∷ fs) zero f l is none = ap has_far is ∙ no_line g.insns (far_or (far_line g.insns) (first_far_line fs) none).0
near_at (g ∷ fs) (suc i) f l is none = near_at fs i f (omega (arith, l)) is (far_or (far_line g.insns) (first_far_line fs) none).1
