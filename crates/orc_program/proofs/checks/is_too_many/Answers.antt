use Rattle.std.proofs.Common.{rules}
use Rattle.orc_program.proofs.PatternLaws.{too_many_more}
use Rattle.orc_program.proofs.checks.is_too_many.Goals as goal

pub returns : goal.returns
returns c = too_many_more c.args.f.now.vars c.args.f.now.insns c.args.insn.now c.patterns-known.result.items c.add_patterns.new.known.items c.add_patterns.result c.is_err.result (search rules) c.patterns-known.ensures (search rules) c.add_patterns.ensures.few c.is_err.ensures.value
