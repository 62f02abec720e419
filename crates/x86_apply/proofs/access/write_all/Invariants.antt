use Rattle.std.proofs.Common.{◌≡◌, get_or}
use Rattle.orc_bits.specs.Memory.{fill}
use Rattle.x86_apply.proofs.access.write_all.Given as goal

abbrev pub invariant-loop-k : goal.invariant-loop-k
invariant-loop-k g l = g.B.Bytes.bytes l.mem ≡ fill l.k (g.B.Bytes.bytes l.fn.mem) l.at (λ j. get_or l.from j 0)
