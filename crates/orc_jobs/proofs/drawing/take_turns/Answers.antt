use Rattle.std.proofs.Common.{◌+◌, subst, sym}
use Rattle.orc_jobs.specs.World.{seen, Takes}
use Rattle.orc_jobs.proofs.Draws.{Drawing, drawing_more, drawing_trapped, moved_turn}
use Rattle.orc_jobs.proofs.drawing.take_turns.Goals as goal

pub returns-in-Trapped : goal.returns-in-Trapped
returns-in-Trapped c =
    let w = seen c.args.w.now in
    let v = seen c.loop-turns.w in
    let u = seen c.turn.new.w in
    let t = subst (λ x. Takes v c.in-Some.runner x u) c.in-Trapped.is c.turn.ensures in
    drawing_trapped w c.args.seed v c.loop-turns.x c.loop-turns.turns c.args.budget c.in-Some.runner c.in-Trapped.trap u c.loop-turns.invariant c.in-Some.ensures.runner t c.loop-turns-test.true

pub loop-turns-preserved : goal.loop-turns-preserved
loop-turns-preserved c =
    let w = seen c.args.w.now in
    let v = seen c.loop-turns.w in
    let u = seen c.turn.new.w in
    let moved = moved_turn v c.loop-turns.x c.in-Some.runner c.turn.result u c.in-Some.ensures.runner c.in_default-turn.not-Trapped c.turn.ensures in
    let next = drawing_more w c.args.seed v c.loop-turns.x c.loop-turns.turns c.in-Some.runner u c.loop-turns.invariant c.in-Some.ensures.runner moved in
    subst (λ y. Drawing w c.args.seed u y (c.loop-turns.turns + 1)) (sym c.next_seed-x.ensures) next
