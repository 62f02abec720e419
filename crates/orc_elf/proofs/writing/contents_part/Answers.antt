use Rattle.orc_elf.proofs.Joined.{joined}
use Rattle.orc_elf.proofs.writing.contents_part.Goals as goal

pub returns : goal.returns
returns c =
    joined c.args.code.now c.args.symbols.now c.args.names.now c.args.section_names.now _ _ _ _ _ _
    c.in_ok-out.ensures.items c.in_ok-pad.ensures c.in_ok-extend_from_slice.ensures.items c.in_ok-extend_from_slice-2.ensures.items
    c.in_ok-extend_from_slice-3.ensures.items c.in_ok-pad-2.ensures
