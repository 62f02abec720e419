use Rattle.std.proofs.Common.{◌≡◌, ◌<◌, ◌^◌, true, is_some, sym, ◌∙◌, ap, arith}
use Rattle.orc_bits.specs.Parts.{memory_of}
use Rattle.orc_emul.proofs.Cells.{misses_later}
use Rattle.orc_emul.proofs.access.+first_missing.Goals as goal

pub returns : goal.returns
returns t c = misses_later c.args.n (memory_of c.args.store.now) c.args.at c.first_missing.result c.if-n-eq0.false (omega arith) (ap is_some (sym c.get.ensures) ∙ c.if-is_none.ensures) c.first_missing.ensures
