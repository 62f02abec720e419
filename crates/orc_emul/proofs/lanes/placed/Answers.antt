use Rattle.std.proofs.Common.{◌≡◌, ◌*◌, ◌%◌, ◌^◌, ap₂, ◌∙◌, mod-eq_of_lt}
use Rattle.orc_emul.proofs.Cells.{stays_below}
use Rattle.orc_emul.proofs.lanes.placed.Goals as goal

pub returns : goal.returns
returns c =
    ap₂ (λ s q. c.args.v * 2 ^ (8 * s * q) % 2 ^ 64) c.from.ensures c.from-2.ensures
    ∙ mod-eq_of_lt (stays_below c.args.v c.args.size c.args.q c.requires.low c.requires.fits)
