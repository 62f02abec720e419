-- The bytes that are written for some functions: parts one after the other.
use Rattle.std.specs.Prelude.{ℕ, ◌+◌, ◌-◌, ◌%◌, List, [], ◌∷◌, ◌++◌, length, codes, replicate}
use Rattle.std.specs.List.{flat_map}
use Rattle.std.specs.Int.{w16, w32, w64, to_le_bytes}
use Rattle.orc_elf.specs.declared.section.SectionKind.{SectionKind}
use Rattle.orc_elf.specs.declared.section.SectionHeader.{SectionHeader}
use Rattle.orc_elf.specs.declared.section.Places.{Places}
use Rattle.orc_elf.specs.declared.number.Number.{Number}
use Rattle.orc_elf.specs.declared.number.Number.TheVariants.{Byte, Half, Word, Xword}
use Rattle.orc_elf.specs.Sections.{null, text, symtab, strtab}
use Rattle.orc_elf.specs.Entries.{EntryValue, ElfValue}

-- ---- numbers

-- a number's bytes, lowest first
abbrev pub spelled : Number → List ℕ
spelled (Byte n) = n ∷ []
spelled (Half n) = to_le_bytes w16 n
spelled (Word n) = to_le_bytes w32 n
spelled (Xword n) = to_le_bytes w64 n

-- numbers one after the other
abbrev pub spelling : List Number → List ℕ
spelling ns = flat_map spelled ns

-- how far it is from an offset to the next multiple
unfoldable pub gap : ℕ → ℕ → ℕ
gap multiple at = (multiple - at % multiple) % multiple

-- ---- contents of the sections

-- the codes from an offset of section 1 on, each at the next multiple of 16, with cc between
unfoldable pub codes_from : ℕ → List EntryValue → List ℕ
codes_from at [] = []
codes_from at (e ∷ es) = replicate (gap 16 at) 0xcc ++ (e.code ++ codes_from (at + gap 16 at + length e.code) es)

-- an Elf64_Sym of section 1: st_name, st_info, st_other, st_shndx, st_value, st_size
unfoldable pub symbol_bytes : ℕ → ℕ → ℕ → ℕ → List ℕ
symbol_bytes info name value size = spelling (Word name ∷ Byte info ∷ Byte 0 ∷ Half 1 ∷ Xword value ∷ Xword size ∷ [])

-- the symbols of functions whose names stand from an offset of section 3 on, and whose codes follow an offset of section 1: STB_GLOBAL and STT_FUNC
unfoldable pub symbols_from : ℕ → ℕ → List EntryValue → List ℕ
symbols_from name at [] = []
symbols_from name at (e ∷ es) = symbol_bytes 0x12 name (at + gap 16 at) (length e.code) ++ symbols_from (name + (length e.name + 1)) (at + gap 16 at + length e.code) es

-- each name and a byte 0
unfoldable pub names_from : List EntryValue → List ℕ
names_from [] = []
names_from (e ∷ es) = e.name ++ (0 ∷ names_from es)

-- the contents of sections 1 to 4
abbrev pub code_part : List EntryValue → List ℕ
code_part es = codes_from 0 es

abbrev pub symbol_part : List EntryValue → List ℕ
symbol_part es = replicate 24 0 ++ symbols_from 1 0 es

abbrev pub name_part : List EntryValue → List ℕ
name_part es = 0 ∷ names_from es

abbrev pub section_names : List ℕ
section_names = codes "\0.text\0.symtab\0.strtab\0.shstrtab\0"

-- zeros up to the next multiple of 8 bytes
abbrev pub padded : List ℕ → List ℕ
padded xs = xs ++ replicate (gap 8 (length xs)) 0

-- the contents of sections 1 to 4, one after the other: the symbols at a multiple of 8, as what follows the last
unfoldable pub contents_part : List ℕ → List ℕ → List ℕ → List ℕ → List ℕ
contents_part code symbols names section_names = padded (padded code ++ (symbols ++ (names ++ section_names)))

-- ---- headers

-- the Elf64_Ehdr of an object with so many section headers, which stand at an offset
unfoldable pub file_header : ℕ → ℕ → List ℕ
file_header shoff count = spelling (
    Word 0x464c457f ∷ Byte 2 ∷ Byte 1 ∷ Byte 1 ∷ Xword 0 ∷ Byte 0  -- e_ident
    ∷ Half 1 ∷ Half 62 ∷ Word 1  -- e_type, e_machine, e_version
    ∷ Xword 0 ∷ Xword 0 ∷ Xword shoff  -- e_entry, e_phoff, e_shoff
    ∷ Word 0 ∷ Half 64 ∷ Half 0 ∷ Half 0  -- e_flags, e_ehsize, e_phentsize, e_phnum
    ∷ Half 64 ∷ Half count ∷ Half 4 ∷ [])  -- e_shentsize, e_shnum, e_shstrndx

-- an Elf64_Shdr
unfoldable pub header_bytes : SectionHeader → List ℕ
header_bytes h = spelling (
    Word h.name ∷ Word h.kind.kind ∷ Xword h.kind.flags ∷ Xword 0  -- sh_name, sh_type, sh_flags, sh_addr
    ∷ Xword h.place.offset ∷ Xword h.place.size  -- sh_offset, sh_size
    ∷ Word h.kind.link ∷ Word h.kind.info ∷ Xword h.kind.align ∷ Xword h.kind.entry_size ∷ [])  -- sh_link, sh_info, sh_addralign, sh_entsize

abbrev pub headers_part : List SectionHeader → List ℕ
headers_part hs = flat_map header_bytes hs

-- the next multiple of 8
abbrev pub aligned : ℕ → ℕ
aligned at = at + gap 8 at

-- where the contents of sections 1 to 4 stand, where they have these sizes
unfoldable pub places : ℕ → ℕ → ℕ → ℕ → Places
places code symbols names section_names = record {
  code = record { offset = 64; size = code };
  symbols = record { offset = 64 + aligned code; size = symbols };
  names = record { offset = 64 + aligned code + symbols; size = names };
  section_names = record { offset = 64 + aligned code + symbols + names; size = section_names };
}

-- the headers of sections 0 to 4, where section 2 is of this kind
abbrev pub headers_of : SectionKind → Places → List SectionHeader
headers_of symbols p =
    record { kind = null; name = 0; place = record { offset = 0; size = 0 } }
    ∷ record { kind = text; name = 1; place = p.code }
    ∷ record { kind = symbols; name = 7; place = p.symbols }
    ∷ record { kind = strtab; name = 15; place = p.names }
    ∷ record { kind = strtab; name = 23; place = p.section_names }
    ∷ []

-- ---- the whole

-- an object: the file header, the contents of its sections, and their headers
unfoldable pub assembled : List ℕ → List SectionHeader → List ℕ
assembled contents headers = file_header (64 + length contents) (length headers) ++ (contents ++ headers_part headers)

-- where the parts of these functions stand
abbrev pub places_of : List EntryValue → Places
places_of es = places (length (code_part es)) (length (symbol_part es)) (length (name_part es)) 33

abbrev pub object_bytes : ElfValue → List ℕ
object_bytes e = assembled (contents_part (code_part e.entries) (symbol_part e.entries) (name_part e.entries) section_names) (headers_of symtab (places_of e.entries))
