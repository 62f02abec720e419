use Rattle.std.proofs.Common.{◌≡◌, take}
use Rattle.orc_text.specs.Each.{OneForEach}
use Rattle.orcc_top.specs.Objects.{uncounted}
use Rattle.orcc_top.proofs.listing.image_of.Given as goal

abbrev pub invariant-loop-entry : goal.invariant-loop-entry
invariant-loop-entry l = record {
  version : l.image.version ≡ 1;
  entries : OneForEach (λ e f. f ≡ uncounted e) (take l.entry-index l.entry-items) l.image.functions;
}
