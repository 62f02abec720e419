use Rattle.std.proofs.Common.{length, ◌-◌, ◌+◌, ◌≤◌, take}
use Rattle.std.specs.Io.KnownBytes.{Appends}
use Rattle.orc_io.proofs.sink.write_all.Given as goal

abbrev pub invariant-putting : goal.invariant-putting
invariant-putting g l = (l.done ≤ length l.bytes) × (g.K.Sink.faults l.fn.output ≤ g.K.Sink.faults l.output) × (g.K.Sink.puts l.output ≤ g.K.Sink.puts l.fn.output + l.done) × Appends (g.K.Sink.held l.fn.output) (g.K.Sink.held l.output) (take l.done l.bytes)

abbrev pub decreases-putting : goal.decreases-putting
decreases-putting g l = length l.bytes - l.done
