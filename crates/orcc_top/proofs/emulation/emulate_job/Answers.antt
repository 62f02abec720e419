use Rattle.std.proofs.Common.{◌≡◌, ◌∙◌, Some, ap, string_bytes}
use Rattle.orc_program.specs.Program.{ProgramValue}
use Rattle.orc_job.specs.declared.outcome.Outcome.{Outcome}
use Rattle.orc_text.specs.Reads.{Reads}
use Rattle.orcc_top.specs.declared.command.Command.TheVariants as command
use Rattle.orcc_top.specs.declared.refusal.Refusal.TheVariants as refusal
use Rattle.orcc_top.specs.Emulation.{refusal_on}
use Rattle.orcc_top.specs.Texts.{TellsFault}
use Rattle.orcc_top.proofs.Emulated.{told, emulate_fault_refuses, emulate_job_refused}
use Rattle.orcc_top.proofs.Limits.{within_limit}
use Rattle.orcc_top.proofs.emulation.emulate_job.Goals as goal

pub returns-in-Err : goal.returns-in-Err
returns-in-Err c =
    let tells : TellsFault c.separate.result.0.now (string_bytes c.in-Err.line) = rw c.in-Err.is at c.in_ok-program.ensures in
    emulate_fault_refuses c.args.input.now _ _ c.requires c.separate.ensures.text tells

pub returns : goal.returns
returns c =
    let reads : Reads c.separate.result.0.now c.in-Ok.program = rw c.in-Ok.is at c.in_ok-program.ensures in
    let e : Some c.in-Err-outcome_on.error ≡ refusal_on c.as_slice.result.now c.separate.result.1.now = told Outcome c.in-Err-outcome_on.error _ c.in_default.not-Memory c.in-Err-outcome_on.ensures.refused in
    record {
      refusal = refusal.Job c.in-Err-outcome_on.error;
      refused = within_limit command.Emulate c.args.input.now c.requires
          ∙ emulate_job_refused c.args.input.now _ _ _ c.in-Ok.program c.in-Err-outcome_on.error c.separate.ensures.text c.separate.ensures.job reads (c.as_slice.ensures ∙ ap (λ (p : ProgramValue). p.functions) c.program.view_is) e;
      says = c.in_ok-line_of-in_default.ensures;
    }
