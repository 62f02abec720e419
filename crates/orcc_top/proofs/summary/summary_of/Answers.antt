use Rattle.std.proofs.Common.{◌<◌, ◌^◌, ◌∙◌, length, sym, subst}
use Rattle.std.specs.List.{AllByRecursion}
use Rattle.orc_job.specs.Kept.{IsJob}
use Rattle.orc_gen.proofs.Kept.{short_text, are_jobs}
use Rattle.orcc_top.proofs.summary.summary_of.Goals as goal

pub codes_of-requires : goal.codes_of-requires
codes_of-requires c = subst (λ t. length t < 2 ^ 32) (sym (c.as_slice.ensures.value ∙ c.in_ok-made.ensures.text)) (short_text c.args.seed)

pub put_lines-requires : goal.put_lines-requires
put_lines-requires c = subst (AllByRecursion IsJob) (sym (c.as_slice-3.ensures.value ∙ c.in_ok-made.ensures.jobs)) (are_jobs c.args.seed)
