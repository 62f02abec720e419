use Rattle.std.proofs.Common.{◌≤◌, ◌*◌, length, subst, sym}
use Rattle.x86_ins.specs.Spelling.{IsIns, IsAllowed}
use Rattle.x86_ins.specs.Way.{Each}
use Rattle.orc_ops.specs.Far.{far_weight}
use Rattle.orc_resample.specs.Ready.{far_count, Gathers}
use Rattle.orc_resample.proofs.Counted.{ok_map, ok_both, gather_short, gather_far, gather_allowed}
use Rattle.orc_resample.proofs.Gathered.{gathers}
use Rattle.orc_resample.proofs.assembly.gather.Goals as goal

pub returns-clause-values : goal.returns-clause-values
returns-clause-values c =
    ok_both c.gather_list.result _ _ _
    (λ list e ranges. subst (λ l. Gathers c.args.far c.args.count c.args.plan.now l) (sym e) (gathers c.args.far c.args.count c.args.plan.now c.requires.plan c.requires.width (subst (Each IsIns) e ranges)))
    c.gather_list.ensures.list c.gather_list.ensures.ranges

pub returns-clause-short : goal.returns-clause-short
returns-clause-short c = ok_map c.gather_list.result _ _ (λ list e. subst (λ l. length l ≤ far_weight c.args.far c.args.count) (sym e) (gather_short c.args.far c.args.count c.args.plan.now c.requires.width)) c.gather_list.ensures.list

pub returns-clause-touches : goal.returns-clause-touches
returns-clause-touches c = ok_map c.gather_list.result _ _ (λ list e. subst (λ l. far_count l ≤ 2 * c.args.count) (sym e) (gather_far c.args.far c.args.count c.args.plan.now c.requires.width)) c.gather_list.ensures.list

pub returns-clause-allowed : goal.returns-clause-allowed
returns-clause-allowed c =
    ok_both c.gather_list.result _ _ _ (λ list e ranges. subst (Each IsAllowed) (sym e) (gather_allowed c.args.far c.args.count c.args.plan.now c.requires.width (subst (Each IsIns) e ranges))) c.gather_list.ensures.list c.gather_list.ensures.ranges
