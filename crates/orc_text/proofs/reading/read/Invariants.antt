use Rattle.std.proofs.Common.{◌+◌, ◌≤◌, length}
use Rattle.orc_text.specs.Held.{said_of, Holds}
use Rattle.orc_text.proofs.Rest.{Left}
use Rattle.orc_text.proofs.reading.read.Given as goal

abbrev pub invariant-loop-rest : goal.invariant-loop-rest
invariant-loop-rest l =
    (l.state.lines + length l.rest ≤ length l.text)
    × Holds l.state
    × Left l.text (said_of l.state) l.rest

abbrev pub decreases-loop-rest : goal.decreases-loop-rest
decreases-loop-rest l = length l.rest
