use Rattle.std.proofs.Common.{◌≡◌, ◌++◌, ◌∷◌, [], length, ap, arith, length-append}
use Rattle.std.proofs.lemmas.Grind.{common_steps}
use Rattle.std.proofs.lemmas.Result.{err_from_is_err_and}
use Rattle.orc_elf.specs.declared.elf.ElfCode.{ElfCode}
use Rattle.orc_elf.specs.declared.elf.ElfEntry.{ElfEntry}
use Rattle.orc_elf.specs.Entries.{names}
use Rattle.orc_elf.proofs.Growing.{names_pushed}
use Rattle.orc_elf.proofs.Unless.{still}
use Rattle.orc_elf.proofs.Loop.{goes_on, stops, is_done, one_entry, all_entries}
use Rattle.orc_elf.proofs.reading.read_entries.Goals as goal

pub returns-in_err-entry-clause-told : goal.returns-in_err-entry-clause-told
returns-in_err-entry-clause-told c =
    let p = err_from_is_err_and c.from_residual.result c.from_residual.ensures.1 in
    let e = c.in_err-entry.field-0.0 in
    rw (p.1, p.2) (still ElfEntry ElfCode e _ _ (λ h. stops c.args.bytes.now (names c.loop.found.entries) c.loop.at c.args.sections.now.count c.loop.counter e _ c.loop-test.true h c.loop.invariant.told) c.in_err-entry.ensures.told)

pub loop-preserved : goal.loop-preserved
loop-preserved c =
    let es = c.loop.found.entries in
    let e = c.in_ok-entry.entry in
    let bytes = c.args.bytes.now in
    let count = c.args.sections.now.count in
    let grown : c.push.new.self.entries ≡ es ++ e ∷ [] = grind (arith, common_steps) in
    let name = ap (λ x. x.name) c.in_ok-entry.ensures.entry in
    let told = goes_on bytes (names es) c.loop.at count c.loop.counter e.name _ c.loop-test.true name c.in_ok-entry.ensures.told c.loop.invariant.told in
    let more = one_entry bytes es c.loop.at count c.loop.counter e _ c.loop-test.true c.in_ok-entry.ensures.entry c.loop.invariant.entries in
    record {
      kept = c.push.ensures.kept;
      number = omega (arith, ap length grown, length-append es (e ∷ []), c.loop.invariant.number);
      place = omega (arith, c.loop.invariant.place);
      told = rw (grown, names_pushed es e) told;
      entries = rw grown more;
    }

pub returns-clause-told : goal.returns-clause-told
returns-clause-told c = is_done c.args.bytes.now (names c.loop.found.entries) c.loop.at c.args.sections.now.count c.loop.counter _ c.loop-test.false c.loop.invariant.told

pub returns-clause-entries : goal.returns-clause-entries
returns-clause-entries c = all_entries c.args.bytes.now c.loop.found.entries c.loop.at c.args.sections.now.count c.loop.counter _ c.loop-test.false c.loop.invariant.entries
