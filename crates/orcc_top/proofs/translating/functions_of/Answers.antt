use Rattle.std.proofs.Common.{◌≡◌, ◌++◌, ◌∷◌, [], arith}
use Rattle.std.proofs.lemmas.Grind.{common_steps}
use Rattle.orcc_top.specs.Translation.{MeansAs}
use Rattle.orcc_top.proofs.Each.{each_further}
use Rattle.orcc_top.proofs.Refused.{near_at}
use Rattle.orcc_top.proofs.translating.functions_of.Goals as goal

pub loop-f-preserved : goal.loop-f-preserved
loop-f-preserved c =
    let grown : c.push.new.self ≡ c.loop-f.found ++ c.in_ok-c.c ∷ [] = grind (arith, common_steps) in
    each_further MeansAs c.args.functions.now c.loop-f.f-index _ _ c.f-item.result c.in_ok-c.c c.loop-f-test.true c.f-item.is grown c.loop-f.invariant c.in_ok-c.ensures

pub function_of-requires : goal.function_of-requires
function_of-requires c = record { near = near_at c.args.functions.now c.loop-f.f-index c.f-item.result c.loop-f-test.true c.f-item.is c.requires.near }
