use Rattle.std.proofs.Common.{◌≡◌, ◌++◌, ◌∷◌, [], arith}
use Rattle.std.proofs.lemmas.Grind.{common_steps}
use Rattle.std.proofs.lemmas.Result.{err_from_is_err_and}
use Rattle.orcc_top.specs.Libraries.{EnteredOf}
use Rattle.orcc_top.proofs.Each.{each_further, next_room, next_new}
use Rattle.orcc_top.proofs.Entries.{entered_named, placed_further, tells_further}
use Rattle.orcc_top.proofs.library.library_of.Goals as goal

pub returns-in_err-entered-clause-pressure : goal.returns-in_err-entered-clause-pressure
returns-in_err-entered-clause-pressure c =
    let p = err_from_is_err_and c.from_residual.result c.from_residual.ensures.1 in
    rw (p.1, p.2) (tells_further c.args.functions.now c.loop-f.f-index c.f-item.result c.in_err-entered.field-0.0 c.loop-f-test.true c.f-item.is c.loop-f.invariant.placed c.in_err-entered.ensures.pressure)

pub push-requires-clause-room : goal.push-requires-clause-room
push-requires-clause-room c = omega (arith, next_room (EnteredOf c.args.text.now c.args.target) c.args.functions.now _ c.loop-f.f-index c.loop-f-test.true c.requires.few c.loop-f.invariant.entries)

pub push-requires-clause-new : goal.push-requires-clause-new
push-requires-clause-new c = next_new (EnteredOf c.args.text.now c.args.target) _ _ (entered_named c.args.text.now c.args.target) c.args.functions.now _ c.loop-f.f-index c.f-item.result c.in_ok-entered.entered.entry c.loop-f-test.true c.f-item.is c.requires.distinct c.loop-f.invariant.entries c.in_ok-entered.ensures.entered

pub loop-f-preserved : goal.loop-f-preserved
loop-f-preserved c =
    let grown : c.push.new.self.entries ≡ c.loop-f.library.entries ++ c.in_ok-entered.entered.entry ∷ [] = grind (arith, common_steps) in
    record {
      entries = each_further (EnteredOf c.args.text.now c.args.target) c.args.functions.now c.loop-f.f-index _ _ c.f-item.result c.in_ok-entered.entered.entry c.loop-f-test.true c.f-item.is grown c.loop-f.invariant.entries c.in_ok-entered.ensures.entered;
      placed = placed_further c.args.functions.now c.loop-f.f-index c.f-item.result c.loop-f-test.true c.f-item.is c.loop-f.invariant.placed c.in_ok-entered.ensures.placed;
    }
