use Rattle.std.proofs.Common.{◌≡◌, ◌<◌, length, ap, sym, ◌∙◌, arith}
use Rattle.std.proofs.lemmas.List.{ext_get_or}
use Rattle.orc_bits.proofs.Memories.{some_one}
use Rattle.orc_bits.specs.Parts.{memory_of}
use Rattle.orc_ops.specs.declared.target.Target.{Target}
use Rattle.orc_program.specs.declared.program.VarKind.TheVariants as kind
use Rattle.orc_program.specs.Program.{FunctionValue, count_of}
use Rattle.orc_image.specs.Spelling as image
use Rattle.orc_job.specs.declared.job.Job.{Job}
use Rattle.orc_job.specs.declared.outcome.Outcome.{Outcome}
use Rattle.orc_program.specs.Need.{steps}
use Rattle.orc_program.specs.Meaning.{rows}
use Rattle.std.specs.Prelude.{◌≤◌}
use Rattle.orc_worlds.specs.GoodJobs.{IsCodeOf, IsGoodJob, IsDone}
use Rattle.orc_worlds.proofs.GoodEnds.{good_jobs_return, now_left, sums_count}
use Rattle.orcc_top.specs.Execution.{Ran, end_line}
use Rattle.orcc_top.specs.Laws.{IsReturned}
use Rattle.orcc_top.proofs.laws.good_jobs_return.Goals as goal

module _ (f : FunctionValue) (target : Target) (entry : image.FunctionValue) (job : Job) (o : Outcome) (c : IsCodeOf f target entry) (g : IsGoodJob f entry job) (enough : steps f target job.call.n (rows f job.call) ≤ job.budget) (ran : Ran entry job o) where
  done : IsDone f target entry job ran.end ran.at
  done = good_jobs_return f target entry job ran.end ran.at c g enough ran.ends

  returned : IsReturned f target job o
  returned = record {
    taken = done.taken;
    returned = ran.told ∙ ap (end_line job.budget) done.returned;
    few = done.few;
    left = done.left;
    means = done.means;
    sums = ext_get_or 0 o.accs.items done.left.1 (ran.sums.0 ∙ c.accs ∙ sym count)
        (λ k l. let inside : k < entry.accs = omega (arith, l, ran.sums.0) in
        some_one _ _ (sym (ran.sums.1 k inside) ∙ done.sums k (omega (arith, inside, c.accs))));
    memory = now_left job.memory o.memory ran.at.core.memory done.left.0 done.memory ran.memory;
  }
    where
      count : length done.left.1 ≡ count_of kind.Accumulator f.vars
      count = sums_count f job.call (λ p. g.widths.bases _) (memory_of job.memory) done.left done.means

pub returns : goal.returns
returns c f target entry job o code good enough ran = returned f target entry job o code good enough ran
