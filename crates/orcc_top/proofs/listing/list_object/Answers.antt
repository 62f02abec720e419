use Rattle.std.proofs.Common.{◌≡◌, ◌∙◌, ap, Some, option_map, sym}
use Rattle.orc_elf.specs.declared.elf.ElfCode.{ElfCode}
use Rattle.orc_elf.specs.Fields.{first_bad_field}
use Rattle.orcc_top.specs.declared.command.Command.TheVariants as command
use Rattle.orcc_top.specs.declared.refusal.Refusal.TheVariants as refusal
use Rattle.orcc_top.proofs.Elf.{told}
use Rattle.orcc_top.proofs.Limits.{within_limit, as_object}
use Rattle.orcc_top.proofs.listing.list_object.Goals as goal

pub returns-in_ok-line_of-in_default : goal.returns-in_ok-line_of-in_default
returns-in_ok-line_of-in_default c =
    let e : Some c.in-Err.error ≡ first_bad_field c.args.input.now = told ElfCode c.in-Err.error _ c.in_default.not-Memory c.in-Err.ensures.refused in
    record {
      refusal = refusal.Object c.in-Err.error;
      refused = within_limit command.Dis c.args.input.now c.requires.short ∙ as_object c.args.input.now c.requires.object ∙ ap (option_map (λ x. refusal.Object x)) (sym e);
      says = c.in_ok-line_of-in_default.ensures;
    }
