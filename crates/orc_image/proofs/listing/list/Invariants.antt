use Rattle.std.proofs.Common.{take}
use Rattle.orc_image.specs.Listing.{ListsFunctions}
use Rattle.orc_image.proofs.listing.list.Given as goal

abbrev pub invariant-loop-f : goal.invariant-loop-f
invariant-loop-f l = ListsFunctions (take l.f-index l.f-items) l.out.items
