use Rattle.std.proofs.Common.{◌≡◌}
use Rattle.orc_bits.specs.Memory.{fill}
use Rattle.orc_bits.specs.Lanes.{byte_of}
use Rattle.orc_bits.specs.Parts.{memory_of, layout}
use Rattle.orc_emul.proofs.access.fill.Given as goal

abbrev pub invariant-loop-k : goal.invariant-loop-k
invariant-loop-k l = (memory_of l.store ≡ fill l.k (memory_of l.fn.store) l.at (byte_of l.n l.v)) × (layout l.store ≡ layout l.fn.store)
