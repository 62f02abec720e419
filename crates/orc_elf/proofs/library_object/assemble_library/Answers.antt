use Rattle.std.proofs.Common.{◌++◌, length, ap, ◌∙◌, append_assoc}
use Rattle.orc_elf.specs.Sections.{library_symtab}
use Rattle.orc_elf.specs.Layout.{contents_part, headers_of, assembled}
use Rattle.orc_elf.specs.Library.{library_section_names, more_headers}
use Rattle.orc_elf.proofs.Unless.{if_ok_more}
use Rattle.orc_elf.proofs.library_object.assemble_library.Goals as goal

pub returns : goal.returns
returns c =
    let frames = c.args.frames.now in
    let relocations = c.args.relocations.now in
    let first = contents_part c.args.code.now c.args.symbols.now c.args.names.now library_section_names in
    let parts = first ++ (frames ++ relocations) in
    let p = c.places-p.result in
    let contents = c.as_slice.ensures.value ∙ c.in_ok-extend_from_slice-3.ensures.items ∙ ap (λ t. t ++ relocations) (c.in_ok-extend_from_slice-2.ensures.items ∙ ap (λ t. t ++ frames) c.in_ok-contents.ensures) ∙ append_assoc first frames relocations in
    let headers = c.as_slice-2.ensures.value ∙ c.in_ok-extend_from_slice.ensures.items ∙ ap (λ t. t ++ c.more_headers.result) (c.in_ok-headers.ensures.items ∙ c.headers_of.ensures) ∙ ap (λ t. headers_of library_symtab p ++ t) c.more_headers.ensures in
    if_ok_more c.assemble.result _ _ (λ v h. h
    ∙ ap (λ t. assembled t c.as_slice-2.result.now) contents
    ∙ ap (assembled parts) headers
    ∙ ap (λ q. assembled parts (headers_of library_symtab q ++ more_headers q (length frames) (length relocations))) c.places-p.ensures.places) c.assemble.ensures
