use Rattle.std.proofs.Common.{◌≡◌, false, ap, sym, ◌∙◌, subst}
use Rattle.orc_program.specs.Program.{has_far, far_line}
use Rattle.orc_program.proofs.Near.{no_line, line_none}
use Rattle.orc_program.proofs.far.far_line.Goals as goal

pub returns-clause-none : goal.returns-clause-none
returns-clause-none c =
    let same = ap far_line c.as_slice.ensures in (
      λ e. subst (λ g. has_far g ≡ false) c.f.view_is (no_line c.f.inside.insns (sym same ∙ sym c.line_among.ensures ∙ e)),
      λ e. c.line_among.ensures ∙ same ∙ line_none c.f.inside.insns (subst (λ g. has_far g ≡ false) (sym c.f.view_is) e),
    )
