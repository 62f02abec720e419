use Rattle.orc_image.proofs.Lines.{some_bytes, bad_line}
use Rattle.orc_image.proofs.listing.first_line.Goals as goal

pub returns-in-Some-clause-some : goal.returns-in-Some-clause-some
returns-in-Some-clause-some c = some_bytes c.args.code.now c.in-Some.ins c.in-Some.size c.in-Some.ensures.some

pub returns-in-None-clause-line : goal.returns-in-None-clause-line
returns-in-None-clause-line c = bad_line c.args.code.now c.requires c.in-None.ensures.none
