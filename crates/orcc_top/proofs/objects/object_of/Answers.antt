use Rattle.std.proofs.Common.{◌≡◌, ◌++◌, ◌∷◌, [], arith}
use Rattle.std.proofs.lemmas.Grind.{common_steps}
use Rattle.std.proofs.lemmas.Result.{err_from_is_err_and}
use Rattle.orcc_top.specs.Objects.{CompiledOf}
use Rattle.orcc_top.proofs.Each.{each_further, next_room, next_new}
use Rattle.orcc_top.proofs.Entries.{compiled_named, placed_further, tells_next}
use Rattle.orcc_top.proofs.objects.object_of.Goals as goal

pub returns-in_err-entry-clause-pressure : goal.returns-in_err-entry-clause-pressure
returns-in_err-entry-clause-pressure c =
    let p = err_from_is_err_and c.from_residual.result c.from_residual.ensures.1 in
    rw (p.1, p.2) (tells_next c.args.functions.now c.loop-f.f-index c.f-item.result c.in_err-entry.field-0.0 c.loop-f-test.true c.f-item.is c.loop-f.invariant.placed c.in_err-entry.ensures.refusal)

pub push-requires-clause-room : goal.push-requires-clause-room
push-requires-clause-room c = next_room CompiledOf c.args.functions.now _ c.loop-f.f-index c.loop-f-test.true c.requires.few c.loop-f.invariant.entries

pub push-requires-clause-new : goal.push-requires-clause-new
push-requires-clause-new c = next_new CompiledOf _ _ compiled_named c.args.functions.now _ c.loop-f.f-index c.f-item.result c.in_ok-entry.entry c.loop-f-test.true c.f-item.is c.requires.distinct c.loop-f.invariant.entries c.in_ok-entry.ensures.entry

pub loop-f-preserved : goal.loop-f-preserved
loop-f-preserved c =
    let grown : c.push.new.self.entries ≡ c.loop-f.object.entries ++ c.in_ok-entry.entry ∷ [] = grind (arith, common_steps) in
    record {
      entries = each_further CompiledOf c.args.functions.now c.loop-f.f-index _ _ c.f-item.result c.in_ok-entry.entry c.loop-f-test.true c.f-item.is grown c.loop-f.invariant.entries c.in_ok-entry.ensures.entry;
      placed = placed_further c.args.functions.now c.loop-f.f-index c.f-item.result c.loop-f-test.true c.f-item.is c.loop-f.invariant.placed c.in_ok-entry.ensures.placed;
    }
