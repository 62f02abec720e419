use Rattle.std.proofs.Common.{sym, ap, ◌∙◌}
use Rattle.orc_program.specs.Meaning.{act, act_as}
use Rattle.orc_emul.specs.State.{state_of}
use Rattle.orc_emul.proofs.act.act.Goals as goal

pub returns-in-Some-clause-value : goal.returns-in-Some-clause-value
unfolding act
returns-in-Some-clause-value c =
    ap (act_as c.args.f.now c.args.call.now c.args.spot.row c.args.spot.element c.args.insn.now (state_of c.args.store.now c.args.values.now)) (sym c.in-Some.ensures) ∙ c.act_far.ensures.value

pub returns-in-None-clause-value : goal.returns-in-None-clause-value
unfolding act
returns-in-None-clause-value c =
    ap (act_as c.args.f.now c.args.call.now c.args.spot.row c.args.spot.element c.args.insn.now (state_of c.args.store.now c.args.values.now)) (sym c.in-None.ensures) ∙ c.act_near.ensures.value
