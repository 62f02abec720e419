use Rattle.orc_worlds.proofs.Placed.{Placing}
use Rattle.orc_worlds.proofs.parting.world_of.Given as goal

abbrev pub invariant-loop-k : goal.invariant-loop-k
invariant-loop-k l = Placing l.f l.job l.sizes l.workers l.parts l.runners.items l.k
