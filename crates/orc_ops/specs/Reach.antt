-- Which elements a far load reads.
use Rattle.std.specs.Prelude.{ℕ}
use Rattle.orc_ops.specs.declared.far.Far.{Far}
use Rattle.orc_ops.specs.Far.{far_first, far_second, far_part}
use Rattle.orc_ops.specs.declared.elements.Reach.{Reach}

-- the elements that the table reads for element i, and the share of the second
abbrev pub reach : Far → ℕ → ℕ → ℕ → Reach
reach far i p q = record { first = far_first far i p q; second = far_second far i p q; part = far_part far i p q }
