use Rattle.std.proofs.Common.{ℕ, List, sym, subst, length-append, arith, rules}
use Rattle.std.specs.Prelude.{replicate}
use Rattle.std.proofs.lemmas.Grind.{common_steps}
use Rattle.orc_elf.specs.Fields.{ElfGives}
use Rattle.orc_elf.specs.Layout.{symbols_from}
use Rattle.orc_elf.proofs.Unless.{if_ok_more}
use Rattle.orc_elf.proofs.Whole.{object_gives}
use Rattle.orc_elf.proofs.Sizes.{parts_small}
use Rattle.orc_elf.proofs.writing.write_elf.Goals as goal

pub assemble_parts-requires-clause-code_in : goal.assemble_parts-requires-clause-code_in
assemble_parts-requires-clause-code_in c =
    let small = parts_small c.args.e.now.entries c.len.ensures.kept.each (omega (arith, c.len.ensures.kept.few)) in
    grind (arith, small.code)

pub assemble_parts-requires-clause-symbols_in : goal.assemble_parts-requires-clause-symbols_in
assemble_parts-requires-clause-symbols_in c =
    let small = parts_small c.args.e.now.entries c.len.ensures.kept.each (omega (arith, c.len.ensures.kept.few)) in
    grind (arith, small.symbols, c.len.ensures.kept.few, length-append (replicate 24 0) (symbols_from 1 0 c.args.e.now.entries))

pub assemble_parts-requires-clause-names_in : goal.assemble_parts-requires-clause-names_in
assemble_parts-requires-clause-names_in c =
    let small = parts_small c.args.e.now.entries c.len.ensures.kept.each (omega (arith, c.len.ensures.kept.few)) in
    grind (arith, small.names)

pub returns-clause-layout : goal.returns-clause-layout
returns-clause-layout c = first_of (search rules, grind (arith, common_steps))

pub returns-clause-gives : goal.returns-clause-gives
returns-clause-gives c =
    let e = c.args.e.now in
    if_ok_more c.assemble_parts.result _ _ (λ v h. subst (λ (b : List ℕ). ElfGives b e.entries) (sym h) (object_gives e c.len.ensures.kept)) (returns-clause-layout c)
