use Rattle.c_read.proofs.Whole.{compared_found, compared_only, compared_wrong}
use Rattle.c_read.proofs.reading.read_c.Goals as goal

pub returns-clause-found : goal.returns-clause-found
returns-clause-found c = compared_found c.args.bytes.now c.read_by_guess.result c.read_by_guess.ensures

pub returns-clause-only : goal.returns-clause-only
returns-clause-only c = compared_only c.args.bytes.now c.read_by_guess.result c.read_by_guess.ensures

pub returns-clause-wrong : goal.returns-clause-wrong
returns-clause-wrong c = compared_wrong c.args.bytes.now c.read_by_guess.result c.read_by_guess.ensures
