use Rattle.std.proofs.Common.{take}
use Rattle.orc_jobs.specs.World.{seen}
use Rattle.orc_jobs.proofs.Schedules.{Played}
use Rattle.orc_jobs.proofs.playing.play.Given as goal

abbrev pub invariant-loop-k : goal.invariant-loop-k
invariant-loop-k l = Played (seen l.fn.w) (seen l.w) (take l.k-index l.schedule) l.first
