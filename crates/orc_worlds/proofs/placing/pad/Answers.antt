use Rattle.std.proofs.Common.{◌≡◌, ◌++◌, ◌∷◌, [], arith}
use Rattle.std.proofs.lemmas.Grind.{common_steps}
use Rattle.orc_worlds.proofs.Padding.{one_more}
use Rattle.orc_worlds.proofs.placing.pad.Goals as goal

pub loop-out-preserved : goal.loop-out-preserved
loop-out-preserved c =
    let grown : c.push.new.self.items ≡ c.loop-out.out.items ++ 0 ∷ [] = grind (arith, common_steps) in
    one_more _ _ _ _ c.loop-out.invariant (omega (arith, c.len.ensures, c.loop-out-test.true)) grown
