use Rattle.std.proofs.Common.{◌+◌, ◌∷◌}
use Rattle.x86_ins.specs.declared.ins.Ins.TheVariants.{Move}
use Rattle.orc_resample.specs.Code.{half_code, average_code}
use Rattle.orc_resample.proofs.Appends.{extended_3, on_ok}
use Rattle.orc_resample.proofs.assembly.push_middle.Goals as goal

pub returns : goal.returns
returns c =
    on_ok c.push_average.result _ _
    (λ p. extended_3 c.args.list.now c.push_half.new.list c.push_other_half.new.list c.push_average.new.list
    (half_code c.args.plan.now (c.args.k + 1) c.args.a c.args.b) (Move c.args.e c.args.a ∷ half_code c.args.plan.now c.args.k c.args.a c.args.b) (average_code c.args.a c.args.e)
    c.in_ok-push_half.ensures c.in_ok-push_other_half.ensures p)
    c.push_average.ensures
