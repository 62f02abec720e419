use Rattle.std.proofs.Common.{length}
use Rattle.orc_text.proofs.directive.+directive_among.Given as goal

abbrev pub decreases-directive_among : goal.decreases-directive_among
decreases-directive_among l = length l.rows.now
