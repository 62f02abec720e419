-- What is told of an emulation.
use Rattle.std.proofs.Common.{◌≡◌, ◌≤◌, ℕ, List, length, Some, None, option_map, Result, Err, refl, sym, ap, ◌∙◌, subst}
use Rattle.orc_bits.specs.Memory.{Memory}
use Rattle.orc_bits.specs.declared.parts.Part.{Part}
use Rattle.orc_bits.specs.Parts.{layout, memory_of, Overlaps}
use Rattle.orc_program.specs.Program.{FunctionValue, ProgramValue}
use Rattle.orc_program.specs.Meaning.{Gap}
use Rattle.orc_text.specs.Reads.{Reads, text_program}
use Rattle.orc_job.specs.declared.error.JobError.{JobError}
use Rattle.orc_job.specs.declared.error.JobError.TheVariants as error
use Rattle.orc_job.specs.declared.outcome.Outcome.{Outcome}
use Rattle.orc_job.specs.Told.{UnlessMemory}
use Rattle.orcc_top.specs.declared.refusal.Refusal.TheVariants as refusal
use Rattle.orcc_top.specs.declared.command.Command.TheVariants.{Emulate}
use Rattle.orcc_top.specs.Answer.{Refuses}
use Rattle.orcc_top.specs.Inputs.{text_in, job_in}
use Rattle.orcc_top.specs.Texts.{TellsFault, fault_refusal}
use Rattle.orc_worlds.specs.Now.{AreNow}
use Rattle.orcc_top.specs.Emulation.{Comes, refusal_on, emulate_refusal}
use Rattle.orcc_top.proofs.Limits.{within_limit}
use Rattle.orcc_top.proofs.Segmented.{parts_have}

-- a refusal that is not for want of memory tells what it tells
pub told : (X : Type 0) (e : JobError) (P : Type 0) → (e ≡ error.Memory → ⊥) → UnlessMemory {A = X} (Err e) P → P
told X error.NotJson P other p = p
told X (error.Missing f) P other p = p
told X (error.BadField f) P other p = p
told X (error.TooLarge f) P other p = p
told X error.Overlap P other p = p
told X error.Memory P other p = absurd (other refl)

-- the text's first fault stands before all that the job is refused for
pub emulate_fault_refuses : (input text line : List ℕ) → length input ≤ 67108864 → text ≡ text_in input → TellsFault text line → Refuses Emulate input line
emulate_fault_refuses input text line short is t = record { refusal = t.refusal; refused = within_limit Emulate input short ∙ before; says = t.says }
  where
    before : emulate_refusal input ≡ Some t.refusal
    before = let e : fault_refusal (text_in input) ≡ Some t.refusal = ap fault_refusal (sym is) ∙ t.first in rw e refl

pub emulate_job_refused : (input text bytes : List ℕ) (fs : List FunctionValue) (p : ProgramValue) (e : JobError) → text ≡ text_in input → bytes ≡ job_in input → Reads text p → fs ≡ p.functions
    → Some e ≡ refusal_on fs bytes → emulate_refusal input ≡ Some (refusal.Job e)
emulate_job_refused input text bytes fs p e is behind reads same h =
    let none : fault_refusal (text_in input) ≡ None = ap fault_refusal (sym is) ∙ ap (option_map (λ x. refusal.Text x.0 x.1)) reads.faultless in
    let functions : fs ≡ (text_program (text_in input)).functions = same ∙ ap (λ (q : ProgramValue). q.functions) (reads.program ∙ ap text_program is) in
    let found : refusal_on (text_program (text_in input)).functions (job_in input) ≡ Some e = ap (λ (q : List FunctionValue). refusal_on q (job_in input)) (sym functions) ∙ ap (refusal_on fs) (sym behind) ∙ sym h in
    rw (none, found) refl

-- the store's parts are the segments as they are now
pub are_now : (before parts : List Part) → layout parts ≡ layout before → (Overlaps (layout before) → ⊥) → AreNow (memory_of parts) before parts
are_now before parts lie apart = record { lie = lie; have = parts_have parts (λ o. apart (subst Overlaps lie o)) }

pub comes_as : (before : List Part) (r s : Result (Memory × List ℕ) Gap) (o : Outcome) → r ≡ s → Comes before s o → Comes before r o
comes_as before r s o e h = subst (λ x. Comes before x o) (sym e) h
