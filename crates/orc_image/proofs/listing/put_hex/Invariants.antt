use Rattle.std.proofs.Common.{◌≡◌, ◌++◌, take}
use Rattle.orc_image.specs.Listing.{hex}
use Rattle.orc_image.proofs.listing.put_hex.Given as goal

abbrev pub invariant-loop-b : goal.invariant-loop-b
invariant-loop-b l = l.out.items ≡ l.initial.out.items ++ hex (take l.b-index l.bytes)
