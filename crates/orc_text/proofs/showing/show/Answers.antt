use Rattle.std.proofs.Common.{rules}
use Rattle.orc_text.specs.Shown.{program_text}
use Rattle.orc_text.proofs.Reread.{reads_again, shown_again}
use Rattle.orc_text.proofs.showing.show.Goals as goal

pub returns-clause-again : goal.returns-clause-again
unfolding program_text
returns-clause-again c = reads_again c.args.p.now c.put_functions.new.out.items (search rules) (search rules)

pub returns-clause-fixed : goal.returns-clause-fixed
unfolding program_text
returns-clause-fixed c = shown_again c.args.p.now c.put_functions.new.out.items (search rules) (search rules)
