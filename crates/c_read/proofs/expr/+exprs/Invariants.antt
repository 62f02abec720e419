use Rattle.std.proofs.Common.{◌+◌, ◌*◌}
use Rattle.c_read.proofs.expr.+exprs.Given as goal

abbrev pub decreases-cast : goal.decreases-cast
decreases-cast l = 5 * l.levels + 3

abbrev pub decreases-choose : goal.decreases-choose
decreases-choose l = 5 * l.levels + 1

abbrev pub decreases-expr : goal.decreases-expr
decreases-expr l = 5 * l.levels

abbrev pub decreases-pair : goal.decreases-pair
decreases-pair l = 5 * l.levels + 2

abbrev pub decreases-paren : goal.decreases-paren
decreases-paren l = 5 * l.levels + 4

abbrev pub decreases-test : goal.decreases-test
decreases-test l = 5 * l.levels + 2

abbrev pub decreases-two : goal.decreases-two
decreases-two l = 5 * l.levels + 1
