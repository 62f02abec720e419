use Rattle.std.proofs.Common.{map, slice_index, subst, sym}
use Rattle.orc_resample.specs.Bring.{IsFarSource}
use Rattle.orc_region.specs.Code.{far_by, scalar_pattern}
use Rattle.orc_region.proofs.Built.Fars.{source_fits}
use Rattle.orc_region.proofs.fars.push_values.Goals as goal

pub bring-requires-clause-source : goal.bring-requires-clause-source
bring-requires-clause-source c =
    let setting = c.args.setting.now in
    let size = slice_index setting.sizes.now in
    subst IsFarSource (sym c.far_source-source.ensures) (source_fits setting.layout.now c.requires.layout size setting.span.count (far_by setting.span.first size c.args.slot) c.args.far c.args.slot (map scalar_pattern c.args.scalars.now) c.requires.loaded)
