-- The lines of a summary, as they are appended.
use Rattle.std.proofs.Common.{◌≡◌, ℕ, ◌≤◌, ◌%◌, ◌^◌, List, [], ◌∷◌, ◌++◌, ◌-◌, length, take, drop, get_or, Result, Ok, Err, OnOk, refl, ap, ◌∙◌, subst, append_assoc, arith}
use Rattle.std.specs.declared.alloc.AllocError.{AllocError}
use Rattle.orc_bits.specs.declared.parts.Part.{Part}
use Rattle.orc_image.specs.Spelling.{FunctionValue}
use Rattle.orc_job.specs.declared.job.Job.{Job}
use Rattle.orc_job.specs.declared.outcome.EndLine.TheVariants as end
use Rattle.orc_job.specs.declared.outcome.Outcome.{Outcome}
use Rattle.std.proofs.lemmas.List.{take_rest}
use Rattle.orcc_top.specs.Execution.{Ran, entry_called}
use Rattle.orcc_top.specs.Summary.{elements_sum, first_bytes, line_text, IsLine, AreLines, Extends}

-- the line of a run that returned
pub one_line : (r : Result (Unit {0}) AllocError) (functions : List FunctionValue) (job : Job) (f : FunctionValue) (o : Outcome) (sum steps : ℕ) (memory : List Part) (old new : List ℕ)
    → entry_called functions job ≡ Ok f → Ran f job o → o.end ≡ end.Returned steps → memory ≡ o.memory → sum ≡ elements_sum (first_bytes memory) % 2 ^ 32
    → OnOk r (new ≡ old ++ line_text job.function sum steps) → OnOk r (Extends (IsLine functions job) old new)
one_line (Err e) functions job f o sum steps memory old new calls ran returned now total h = tt
one_line (Ok x) functions job f o sum steps memory old new calls ran returned now total h = record {
  added = line_text job.function sum steps;
  is_added = record {
    f = f;
    calls = calls;
    outcome = o;
    ran = ran;
    steps = steps;
    returned = returned;
    says = ap (λ s. line_text job.function s steps) (total ∙ ap (λ m. elements_sum (first_bytes m) % 2 ^ 32) now);
  };
  grown = h;
}

-- a job's line, and those of the jobs behind it
both_lines : (functions : List FunctionValue) (jobs : List Job) (job : Job) (first rest : List ℕ) → 1 ≤ length jobs → job ≡ get_or jobs 0 job
    → IsLine functions job first → AreLines functions (drop 1 jobs) rest → AreLines functions jobs (first ++ rest)
both_lines functions [] job first rest some is one more = absurd (omega (arith, some))
both_lines functions (j ∷ jobs) job first rest some is one more = record { first = first; rest = rest; is_first = subst (λ i. IsLine functions i first) is one; is_rest = more; both = refl }

pub more_lines : (r : Result (Unit {0}) AllocError) (functions : List FunctionValue) (jobs : List Job) (job : Job) (old between new : List ℕ) → 1 ≤ length jobs → job ≡ get_or jobs 0 job
    → Extends (IsLine functions job) old between → OnOk r (Extends (AreLines functions (take (length jobs - 1) (drop 1 jobs))) between new) → OnOk r (Extends (AreLines functions jobs) old new)
more_lines (Err e) functions jobs job old between new some is one more = tt
more_lines (Ok x) functions jobs job old between new some is one more = record {
  added = one.added ++ more.added;
  is_added = both_lines functions jobs job one.added more.added some is one.is_added (rw take_rest at more.is_added);
  grown = more.grown ∙ ap (λ l. l ++ more.added) one.grown ∙ append_assoc old one.added more.added;
}
