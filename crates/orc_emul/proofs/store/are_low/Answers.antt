use Rattle.std.proofs.Common.{sym, ◌∙◌}
use Rattle.std.proofs.lemmas.List.Folds.{list_all-map}
use Rattle.orc_bits.specs.Parts.{span}
use Rattle.orc_emul.specs.Store.{is_low}
use Rattle.orc_emul.proofs.store.are_low.Goals as goal

pub returns : goal.returns
returns c = c.all_low.ensures ∙ sym (list_all-map is_low span c.args.parts.now)
