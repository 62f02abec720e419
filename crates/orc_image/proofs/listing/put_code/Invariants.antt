use Rattle.std.proofs.Common.{◌≡◌, ◌+◌, ◌++◌, List, length}
use Rattle.orc_image.specs.Listing.{Line, lines_text}
use Rattle.orc_image.proofs.Lines.{total, LeadTo}
use Rattle.orc_image.proofs.listing.put_code.Given as goal

abbrev pub invariant-loop-rest : goal.invariant-loop-rest
invariant-loop-rest l = (l.at + length l.rest ≡ length l.code) × ((ls : List Line) × LeadTo l.code ls l.rest × (l.at ≡ total ls) × (l.out.items ≡ l.fn.out.items ++ lines_text 0 ls))

abbrev pub decreases-loop-rest : goal.decreases-loop-rest
decreases-loop-rest l = length l.rest
