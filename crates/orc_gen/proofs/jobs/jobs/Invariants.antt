use Rattle.std.proofs.Common.{◌≡◌}
use Rattle.orc_gen.specs.Generator.{joined, job_at}
use Rattle.orc_gen.proofs.jobs.jobs.Given as goal

abbrev pub invariant-loop-number : goal.invariant-loop-number
invariant-loop-number l = l.jobs.items ≡ joined (job_at l.first.items l.second.items) l.number
