use Rattle.std.proofs.Common.{◌-◌, ◌+◌, ◌≤◌, vec_len}
use Rattle.std.specs.Io.KnownBytes.{Consumes}
use Rattle.orc_io.proofs.source.read_all.Given as goal

abbrev pub invariant-reading : goal.invariant-reading
invariant-reading g l = (vec_len l.bytes ≤ l.limit + 1) × (g.S.Source.faults l.fn.input ≤ g.S.Source.faults l.input) × (g.S.Source.takes l.input ≤ g.S.Source.takes l.fn.input + vec_len l.bytes) × Consumes (g.S.Source.left l.fn.input) (g.S.Source.left l.input) l.bytes.items

abbrev pub decreases-reading : goal.decreases-reading
decreases-reading g l = l.limit + 1 - vec_len l.bytes
