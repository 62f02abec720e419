-- What a library has, and the bytes that are written for it.
use Rattle.std.specs.Prelude.{ℕ, ◌+◌, ◌≤◌, ◌≡◌, true, Option, List, [], ◌∷◌, ◌++◌, length, codes, replicate}
use Rattle.orc_program.specs.Kept.{all_distinct}
use Rattle.orc_elf.specs.declared.library.Unwind.{Unwind}
use Rattle.orc_elf.specs.declared.section.Places.{Places}
use Rattle.orc_elf.specs.declared.section.SectionHeader.{SectionHeader}
use Rattle.orc_elf.specs.Sections.{library_symtab, no_stack, eh_frame, rela_eh_frame}
use Rattle.orc_elf.specs.Entries.{EntryValue, AreEntries, names}
use Rattle.orc_elf.specs.Frames.{frame_part, relocation_part}
use Rattle.orc_elf.specs.Layout.{aligned, symbol_bytes, symbols_from, code_part, name_part, contents_part, places, headers_of, assembled}

-- functions, and for each of them where its code moves the stack pointer
pub record LibraryValue : Type 0 where
  pub entries : List EntryValue
  pub unwinds : List (Option Unwind)

-- what a library keeps: at most 65 functions, of different names
pub record IsLibrary (l : LibraryValue) : Type 0 where
  pub few : length l.entries ≤ 65
  pub each : AreEntries l.entries
  pub distinct : all_distinct (names l.entries) ≡ true
  pub paired : length l.unwinds ≡ length l.entries

-- ---- the bytes

-- STN_UNDEF, and the symbol of section 1: STB_LOCAL and STT_SECTION
abbrev pub local_symbols : List ℕ
local_symbols = replicate 24 0 ++ symbol_bytes 0x03 0 0 0

abbrev pub library_symbol_part : List EntryValue → List ℕ
library_symbol_part es = local_symbols ++ symbols_from 1 0 es

abbrev pub library_section_names : List ℕ
library_section_names = codes "\0.text\0.symtab\0.strtab\0.shstrtab\0.note.GNU-stack\0.eh_frame\0.rela.eh_frame\0"

-- where what follows the names of the sections stands
abbrev pub end_of : Places → ℕ
end_of p = aligned (p.section_names.offset + p.section_names.size)

-- the headers of the sections behind section 4, of which the last two have so many bytes
abbrev pub more_headers : Places → ℕ → ℕ → List SectionHeader
more_headers p frames relocations =
    record { kind = no_stack; name = 33; place = record { offset = end_of p; size = 0 } }
    ∷ record { kind = eh_frame; name = 49; place = record { offset = end_of p; size = frames } }
    ∷ record { kind = rela_eh_frame; name = 59; place = record { offset = end_of p + frames; size = relocations } }
    ∷ []

-- the parts of a library whose sections have these contents
abbrev pub library_parts : List ℕ → List ℕ → List ℕ → List ℕ → List ℕ → List ℕ
library_parts code symbols names frames relocations =
    let p = places (length code) (length symbols) (length names) 74 in
    assembled (contents_part code symbols names library_section_names ++ (frames ++ relocations)) (headers_of library_symtab p ++ more_headers p (length frames) (length relocations))

abbrev pub library_bytes : LibraryValue → List ℕ
library_bytes l = library_parts (code_part l.entries) (library_symbol_part l.entries) (name_part l.entries) (frame_part l.entries l.unwinds) (relocation_part l.entries)
