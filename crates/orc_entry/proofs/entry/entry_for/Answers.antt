use Rattle.std.proofs.Common.{◌≤◌, List, ℕ, length, sym, subst}
use Rattle.orc_asm.specs.Function.{EndsByReturn}
use Rattle.orc_entry.proofs.Around.{enters_as, has_only, has_few, has_inside}
use Rattle.orc_entry.proofs.entry.entry_for.Goals as goal

pub returns-in-Ok-around-clause-enters : goal.returns-in-Ok-around-clause-enters
returns-in-Ok-around-clause-enters c =
    let ends = subst (EndsByReturn c.args.f.now c.args.target) (sym c.as_slice.ensures) c.in-Ok.ensures.passes in
    enters_as c.args.f.now c.args.longs.now c.args.target c.as_slice.result.now c.in-Ok-around.entry c.in-Ok-around.ensures.kept ends c.in-Ok-around.ensures.body

pub returns-in-Ok-around-clause-target : goal.returns-in-Ok-around-clause-target
returns-in-Ok-around-clause-target c =
    let ends = subst (EndsByReturn c.args.f.now c.args.target) (sym c.as_slice.ensures) c.in-Ok.ensures.passes in
    has_only c.args.f.now c.args.longs.now c.args.target c.as_slice.result.now c.in-Ok-around.entry c.in-Ok-around.ensures.kept ends c.in-Ok-around.ensures.body

pub returns-in-Ok-around-clause-bytes : goal.returns-in-Ok-around-clause-bytes
returns-in-Ok-around-clause-bytes c =
    let ends = subst (EndsByReturn c.args.f.now c.args.target) (sym c.as_slice.ensures) c.in-Ok.ensures.passes in
    let room = subst (λ (code : List ℕ). length code ≤ 1040000) (sym c.as_slice.ensures) c.in-Ok.ensures.room in
    has_few c.args.f.now c.args.longs.now c.args.target c.as_slice.result.now c.in-Ok-around.entry c.in-Ok-around.ensures.kept ends c.in-Ok-around.ensures.body room

pub returns-in-Ok-around-clause-inside : goal.returns-in-Ok-around-clause-inside
returns-in-Ok-around-clause-inside c =
    let ends = subst (EndsByReturn c.args.f.now c.args.target) (sym c.as_slice.ensures) c.in-Ok.ensures.passes in
    has_inside c.args.f.now c.args.longs.now c.args.target c.as_slice.result.now c.in-Ok-around.entry c.in-Ok-around.ensures.kept ends c.in-Ok-around.ensures.body
