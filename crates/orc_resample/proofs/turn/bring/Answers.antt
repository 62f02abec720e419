use Rattle.std.proofs.Common.{◌≤◌, ◌+◌, ◌*◌, length, subst, sym}
use Rattle.x86_ins.specs.Spelling.{IsIns, IsAllowed}
use Rattle.x86_ins.specs.Way.{Each}
use Rattle.orc_ops.specs.Far.{far_weight}
use Rattle.orc_resample.specs.Bring.{Brings, array_count}
use Rattle.orc_resample.proofs.Counted.{ok_map, ok_both}
use Rattle.orc_resample.proofs.Touched.{bring_short, bring_touches, bring_allowed}
use Rattle.orc_resample.proofs.Brought.{brings}
use Rattle.orc_resample.proofs.turn.bring.Goals as goal

pub returns-clause-values : goal.returns-clause-values
returns-clause-values c =
    ok_both c.bring_list.result _ _ _
    (λ list e ranges. subst (λ l. Brings c.args.count c.args.source.now l) (sym e) (brings c.args.count c.args.source.now c.requires.source c.requires.width (subst (Each IsIns) e ranges)))
    c.bring_list.ensures.list c.bring_list.ensures.ranges

pub returns-clause-short : goal.returns-clause-short
returns-clause-short c = ok_map c.bring_list.result _ _ (λ list e. subst (λ l. length l ≤ far_weight c.args.source.now.far c.args.count + 1) (sym e) (bring_short c.args.source.now c.args.count c.requires.width)) c.bring_list.ensures.list

pub returns-clause-touches : goal.returns-clause-touches
returns-clause-touches c = ok_map c.bring_list.result _ _ (λ list e. subst (λ l. array_count l ≤ 2 * c.args.count) (sym e) (bring_touches c.args.source.now c.args.count c.requires.width)) c.bring_list.ensures.list

pub returns-clause-allowed : goal.returns-clause-allowed
returns-clause-allowed c =
    ok_both c.bring_list.result _ _ _ (λ list e ranges. subst (Each IsAllowed) (sym e) (bring_allowed c.args.source.now c.args.count c.requires.width (subst (Each IsIns) e ranges))) c.bring_list.ensures.list c.bring_list.ensures.ranges
