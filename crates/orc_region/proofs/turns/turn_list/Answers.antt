use Rattle.std.proofs.Common.{◌*◌, ◌^◌, ◌<◌, ◌++◌, ◌∷◌, [], ap, ◌∙◌, w32, arith}
use Rattle.std.proofs.Math.Facts.{to_z_pos}
use Rattle.x86_ins.specs.declared.ins.AluOp.TheVariants.{Sub}
use Rattle.x86_ins.specs.declared.ins.Ins.TheVariants.{AluImm}
use Rattle.orc_plan.specs.Core.{CoreValue}
use Rattle.orc_region.specs.Code.{AreActions, aligned_first, seats_with}
use Rattle.orc_region.proofs.Built.Actions.{turn_built}
use Rattle.orc_region.proofs.Turn.Lists.{blocks_near}
use Rattle.orc_region.proofs.turns.turn_list.Goals as goal

pub returns : goal.returns
returns c =
    let near = blocks_near c.args.span.count c.args.blocks c.requires.count c.requires.blocks in
    let small : c.args.blocks * c.args.span.count < 2 ^ 31 = omega (arith, near) in
    turn_built (AreActions c.args.span.target (seats_with c.args.layout.now c.args.places.now) c.args.span.count c.args.core.now.steps) c.args.span.count (aligned_first c.args.span.aligned) c.args.blocks c.args.core.now.sizes c.core.inside.sizes (ap (λ (x : CoreValue). x.sizes) c.core.view_is)
    c.in_ok-list.list c.push_advances.new.list c.push_advances-2.new.list c.push.new.self c.used.result c.used-2.result c.in_ok-list.ensures
    c.in_ok-push_advances.ensures c.used.ensures.is c.in_ok-push_advances-2.ensures c.used-2.ensures.is (c.in_ok-push.ensures.ok ∙ ap (λ z. c.push_advances-2.new.list ++ AluImm Sub 1 z ∷ []) (to_z_pos w32 small))
