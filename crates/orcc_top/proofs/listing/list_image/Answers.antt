use Rattle.std.proofs.Common.{◌≡◌, ◌∙◌, ap, Some, option_map, sym}
use Rattle.orc_image.specs.declared.image.Image.{Image}
use Rattle.orcc_top.specs.declared.command.Command.TheVariants as command
use Rattle.orcc_top.specs.declared.refusal.Refusal.TheVariants as refusal
use Rattle.orcc_top.specs.Images.{image_refusal}
use Rattle.orcc_top.proofs.Images.{told}
use Rattle.orcc_top.proofs.Limits.{within_limit, as_image}
use Rattle.orcc_top.proofs.listing.list_image.Goals as goal

pub returns-in_ok-line_of-in_default : goal.returns-in_ok-line_of-in_default
returns-in_ok-line_of-in_default c =
    let e : Some c.in-Err.error ≡ image_refusal c.args.input.now = told Image c.in-Err.error _ c.in_default.not-Memory c.in-Err.ensures.refused in
    record {
      refusal = refusal.Image c.in-Err.error;
      refused = within_limit command.Dis c.args.input.now c.requires.short ∙ as_image c.args.input.now c.requires.image ∙ ap (option_map (λ x. refusal.Image x)) (sym e);
      says = c.in_ok-line_of-in_default.ensures;
    }
