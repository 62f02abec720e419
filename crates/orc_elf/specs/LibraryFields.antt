-- The fields of a library's object by their offsets, and what each may hold.
use Rattle.std.specs.Prelude.{◌≡◌, ℕ, ◌+◌, ◌-◌, ◌*◌, ◌/◌, ◌%◌, ◌==◌, ◌&&◌, Bool, nat_le, List, [], ◌∷◌, ◌++◌, Option, Some, codes}
use Rattle.orc_program.specs.Words.{Word}
use Rattle.orc_elf.specs.Sections.{text, strtab, library_symtab, no_stack, eh_frame, rela_eh_frame}
use Rattle.orc_elf.specs.Entries.{EntryValue}
use Rattle.orc_elf.specs.Fields.{Field, number_at, exact, zeros, identification, file_kind, file_sizes, headers_at, header_at, offset_of, size_of, contents, null_header, header_fields, section_header, within, string_at, symbols, entries_at, AreGood}

-- the size of a table with so many entries of 24 bytes, at least and at most
abbrev pub is_table : ℕ → ℕ → ℕ → Bool
is_table least most n = n % 24 == 0 && (nat_le (24 * least) n && nat_le n (24 * most))

-- the name of section k
abbrev pub section_name : List ℕ → ℕ → Option Word
section_name bytes k = string_at (contents bytes 4) (number_at bytes (header_at bytes k) 4)

unfoldable pub library_headers : List ℕ → List Field
library_headers bytes =
    null_header bytes (headers_at bytes)
    ++ (section_header bytes text (header_at bytes 1)
    ++ (header_fields bytes library_symtab (is_table 2 67) (header_at bytes 2)
    ++ (section_header bytes strtab (header_at bytes 3)
    ++ (section_header bytes strtab (header_at bytes 4)
    ++ (header_fields bytes no_stack (λ n. n == 0) (header_at bytes 5)
    ++ (section_header bytes eh_frame (header_at bytes 6)
    ++ header_fields bytes rela_eh_frame (is_table 0 65) (header_at bytes 7)))))))

-- the symbol at an offset is that of section 1
unfoldable pub section_symbol : List ℕ → ℕ → List Field
section_symbol bytes at =
    exact bytes at 4 0  -- st_name
    ∷ exact bytes (at + 4) 1 0x03  -- st_info: STB_LOCAL and STT_SECTION
    ∷ exact bytes (at + 5) 1 0  -- st_other: STV_DEFAULT
    ∷ exact bytes (at + 6) 2 1  -- st_shndx: section 1
    ∷ exact bytes (at + 8) 8 0  -- st_value
    ∷ exact bytes (at + 16) 8 0  -- st_size
    ∷ []

-- the contents of the sections, and the first symbol
unfoldable pub library_insides : List ℕ → List Field
library_insides bytes =
    within bytes 1
    ∷ within bytes 2
    ∷ within bytes 3
    ∷ within bytes 4
    ∷ within bytes 5
    ∷ within bytes 6
    ∷ within bytes 7
    ∷ zeros bytes (offset_of bytes 2) 24  -- STN_UNDEF
    ∷ []

-- how many symbols follow the first two
abbrev pub functions_of : List ℕ → ℕ
functions_of bytes = size_of bytes 2 / 24 - 2

unfoldable pub library_fields : List ℕ → List Field
library_fields bytes =
    identification bytes
    ++ (file_kind bytes
    ++ (file_sizes 8 bytes
    ++ (library_headers bytes
    ++ (library_insides bytes
    ++ (section_symbol bytes (offset_of bytes 2 + 24)
    ++ symbols bytes [] (offset_of bytes 2 + 48) (functions_of bytes))))))

-- the bytes are an object of a library with these functions, in order: each field is there and holds what it may, the symbols tell of these, section 5 is the note that no executable stack is wanted, and sections 6 and 7 are the call frame information and its relocations
pub record LibraryGives (bytes : List ℕ) (es : List EntryValue) : Type 0 where
  pub good : AreGood bytes (library_fields bytes)
  pub told : es ≡ entries_at bytes (offset_of bytes 2 + 48) (functions_of bytes)
  pub note : section_name bytes 5 ≡ Some (codes ".note.GNU-stack")
  pub frames : section_name bytes 6 ≡ Some (codes ".eh_frame")
  pub relocations : section_name bytes 7 ≡ Some (codes ".rela.eh_frame")
