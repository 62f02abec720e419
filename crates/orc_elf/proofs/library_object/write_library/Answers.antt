use Rattle.std.proofs.Common.{ℕ, List, sym, subst, arith, rules}
use Rattle.std.proofs.lemmas.Grind.{common_steps}
use Rattle.orc_elf.specs.Layout.{assembled}
use Rattle.orc_elf.specs.LibraryFields.{LibraryGives}
use Rattle.orc_elf.proofs.Unless.{if_ok_more}
use Rattle.orc_elf.proofs.FrameLaws.{frame_part_size}
use Rattle.orc_elf.proofs.LibraryWhole.{table_length, library_gives}
use Rattle.orc_elf.proofs.Sizes.{parts_small}
use Rattle.orc_elf.proofs.library_object.write_library.Goals as goal

pub assemble_library-requires-clause-code_in : goal.assemble_library-requires-clause-code_in
assemble_library-requires-clause-code_in c =
    let small = parts_small c.args.e.now.entries c.len.ensures.kept.each c.len.ensures.kept.few in
    grind (arith, small.code)

pub assemble_library-requires-clause-symbols_in : goal.assemble_library-requires-clause-symbols_in
assemble_library-requires-clause-symbols_in c =
    let small = parts_small c.args.e.now.entries c.len.ensures.kept.each c.len.ensures.kept.few in
    grind (arith, table_length c.args.e.now.entries small.symbols, c.len.ensures.kept.few)

pub assemble_library-requires-clause-names_in : goal.assemble_library-requires-clause-names_in
assemble_library-requires-clause-names_in c =
    let small = parts_small c.args.e.now.entries c.len.ensures.kept.each c.len.ensures.kept.few in
    grind (arith, small.names)

pub assemble_library-requires-clause-frames_in : goal.assemble_library-requires-clause-frames_in
assemble_library-requires-clause-frames_in c = grind (arith, frame_part_size c.args.e.now.entries c.args.e.now.unwinds, c.len.ensures.kept.few)

pub returns-clause-layout : goal.returns-clause-layout
unfolding assembled
returns-clause-layout c = first_of (search rules, grind (arith, common_steps))

pub returns-clause-gives : goal.returns-clause-gives
returns-clause-gives c =
    let e = c.args.e.now in
    if_ok_more c.assemble_library.result _ _ (λ v h. subst (λ (b : List ℕ). LibraryGives b e.entries) (sym h) (library_gives e c.len.ensures.kept)) (returns-clause-layout c)
