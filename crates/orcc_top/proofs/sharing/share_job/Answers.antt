use Rattle.std.proofs.Common.{◌≡◌, ◌∙◌, ℕ, Some}
use Rattle.orc_image.specs.declared.image.Image.{Image}
use Rattle.orc_image.specs.Fields.{first_bad_field}
use Rattle.orcc_top.specs.declared.command.Command.TheVariants as command
use Rattle.orcc_top.specs.declared.refusal.Refusal.TheVariants as refusal
use Rattle.orcc_top.specs.Sharing.{refusal_of_sharing}
use Rattle.orcc_top.proofs.Behind.{refused_image}
use Rattle.orcc_top.proofs.Images.{told}
use Rattle.orcc_top.proofs.Limits.{within_limit}
use Rattle.orcc_top.proofs.sharing.share_job.Goals as goal

pub returns-in_ok-line_of-in_default : goal.returns-in_ok-line_of-in_default
returns-in_ok-line_of-in_default c =
    let e : Some c.in-Err.error ≡ first_bad_field c.args.input.now = told (Image × ℕ) c.in-Err.error _ c.in_default.not-Memory c.in-Err.ensures.refused in
    record {
      refusal = refusal.Image c.in-Err.error;
      refused = within_limit (command.Jobs c.args.workers) c.args.input.now c.requires ∙ refused_image (refusal_of_sharing c.args.workers.count) c.args.input.now c.in-Err.error e;
      says = c.in_ok-line_of-in_default.ensures;
    }
