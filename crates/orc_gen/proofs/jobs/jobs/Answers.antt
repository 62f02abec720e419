use Rattle.std.proofs.Common.{◌≡◌, ◌∙◌, ◌++◌, ◌∷◌, [], List, sym, ap, arith}
use Rattle.std.proofs.lemmas.Grind.{common_steps}
use Rattle.orc_job.specs.declared.job.Job.{Job}
use Rattle.orc_gen.specs.Generator.{joined, job_of, job_at}
use Rattle.orc_gen.proofs.Draws.{joined_none, joined_more}
use Rattle.orc_gen.proofs.jobs.jobs.Goals as goal

pub loop-number-init : goal.loop-number-init
loop-number-init c = c.new-jobs.ensures.items ∙ sym (joined_none (job_at c.in_ok-first.first.items c.in_ok-second.second.items))

pub loop-number-preserved : goal.loop-number-preserved
loop-number-preserved c =
    let first = c.in_ok-first.first.items in
    let second = c.in_ok-second.second.items in
    let line : c.in_ok-job_of.field-0 ≡ job_of first second c.loop-number.number = c.in_ok-job_of.ensures ∙ ap (λ b. job_of b c.as_slice-in-loop-number.result.now c.loop-number.number) c.as_slice.ensures.value ∙ ap (λ b. job_of first b c.loop-number.number) c.as_slice-in-loop-number.ensures.value in
    let pushed : c.push.new.self.items ≡ c.loop-number.jobs.items ++ c.in_ok-job_of.field-0 ∷ [] = grind (arith, common_steps) in
    pushed ∙ ap (λ (l : List Job). l ++ c.in_ok-job_of.field-0 ∷ []) c.loop-number.invariant ∙ ap (λ j. joined (job_at first second) c.loop-number.number ++ j ∷ []) line ∙ sym (joined_more (job_at first second) c.loop-number.number)
