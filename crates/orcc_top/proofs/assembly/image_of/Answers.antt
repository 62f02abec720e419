use Rattle.std.proofs.Common.{◌≡◌, ◌++◌, ◌∷◌, [], sym, ap, ◌∙◌, arith}
use Rattle.std.proofs.lemmas.Grind.{common_steps}
use Rattle.std.proofs.lemmas.Result.{err_from_is_err_and}
use Rattle.orc_program.specs.Facts.{is_free}
use Rattle.orcc_top.specs.Assembly.{EntryOf}
use Rattle.orcc_top.proofs.Each.{each_further, next_room, next_new}
use Rattle.orcc_top.proofs.Entries.{entry_named, free_at, placed_further, tells_next}
use Rattle.orcc_top.proofs.assembly.image_of.Goals as goal

pub returns-in_err-entry-clause-pressure : goal.returns-in_err-entry-clause-pressure
returns-in_err-entry-clause-pressure c =
    let p = err_from_is_err_and c.from_residual.result c.from_residual.ensures.1 in
    rw (p.1, p.2) (tells_next c.args.functions.now c.loop-f.f-index c.f-item.result c.in_err-entry.field-0.0 c.loop-f-test.true c.f-item.is c.loop-f.invariant.placed c.in_err-entry.ensures.refusal)

pub push-requires-clause-room : goal.push-requires-clause-room
push-requires-clause-room c = next_room (EntryOf c.args.target) c.args.functions.now _ c.loop-f.f-index c.loop-f-test.true c.requires.few c.loop-f.invariant.entries

pub push-requires-clause-new : goal.push-requires-clause-new
push-requires-clause-new c = next_new (EntryOf c.args.target) _ _ (entry_named c.args.target) c.args.functions.now _ c.loop-f.f-index c.f-item.result c.in_ok-entry.entry c.loop-f-test.true c.f-item.is c.requires.distinct c.loop-f.invariant.entries c.in_ok-entry.ensures.entry

pub push-requires-clause-free : goal.push-requires-clause-free
push-requires-clause-free c = λ one.
    let free = free_at c.args.functions.now c.loop-f.f-index c.f-item.result c.loop-f-test.true c.f-item.is (sym c.loop-f.invariant.version ∙ one) in
    ap is_free c.in_ok-entry.ensures.entry.facts ∙ free

pub loop-f-preserved : goal.loop-f-preserved
loop-f-preserved c =
    let grown : c.push.new.self.functions ≡ c.loop-f.image.functions ++ c.in_ok-entry.entry ∷ [] = grind (arith, common_steps) in
    record {
      entries = each_further (EntryOf c.args.target) c.args.functions.now c.loop-f.f-index _ _ c.f-item.result c.in_ok-entry.entry c.loop-f-test.true c.f-item.is grown c.loop-f.invariant.entries c.in_ok-entry.ensures.entry;
      version = grind (arith, common_steps);
      placed = placed_further c.args.functions.now c.loop-f.f-index c.f-item.result c.loop-f-test.true c.f-item.is c.loop-f.invariant.placed c.in_ok-entry.ensures.placed;
    }
