use Rattle.std.proofs.Common.{arith}
use Rattle.std.proofs.KnownBytes.{Consumes-trans}
use Rattle.std.proofs.lemmas.Grind.{common_steps}
use Rattle.orc_io.proofs.source.read_all.Goals as goal

pub returns-then-len-count-clause-bytes : goal.returns-then-len-count-clause-bytes
returns-then-len-count-clause-bytes g c =
    (_, Consumes-trans _ _ _ _ _ c.reading.invariant.3 c.in-Ok.ensures.bytes.0, grind (arith, common_steps))

pub returns-then-is_err-clause-bytes : goal.returns-then-is_err-clause-bytes
returns-then-is_err-clause-bytes g c =
    (_, Consumes-trans _ _ _ _ _ c.reading.invariant.3 c.in-Ok.ensures.bytes.0, grind (arith, common_steps))
