-- The fields of a relocatable object by their offsets, and what each may hold (System V gABI, chapter 4, "Object Files": "ELF Header",
-- "Sections", "String Table" and "Symbol Table"; the machine is that of the x86-64 supplement). Numbers are lowest byte first.
use Rattle.std.specs.Prelude.{◌≡◌, ℕ, zero, suc, ◌≤◌, ◌+◌, ◌-◌, ◌*◌, ◌/◌, ◌%◌, ◌^◌, ◌==◌, ◌&&◌, Bool, true, false, not, nat_lt, nat_le, List, [], ◌∷◌, ◌++◌, length, take, drop, Option, Some, None, position, option_map, if◌then◌else◌}
use Rattle.std.specs.List.{list_all}
use Rattle.orc_bits.specs.Memory.{number}
use Rattle.orc_program.specs.Words.{Word, is_name}
use Rattle.orc_elf.specs.declared.error.ElfError.{ElfError}
use Rattle.orc_elf.specs.declared.error.ElfError.TheVariants.{Short, BadField}
use Rattle.orc_elf.specs.declared.section.SectionKind.{SectionKind}
use Rattle.orc_elf.specs.Sections.{text, symtab, strtab}
use Rattle.orc_elf.specs.Entries.{EntryValue, is_among}

-- ---- fields

-- a field: its first offset, its size in bytes, and whether what it holds is allowed
pub record Field : Type 0 where
  pub at : ℕ
  pub size : ℕ
  pub allowed : Bool

-- `size` bytes from an offset on
abbrev pub part : List ℕ → ℕ → ℕ → List ℕ
part bytes at size = take size (drop at bytes)

-- the number in them
unfoldable pub number_at : List ℕ → ℕ → ℕ → ℕ
number_at bytes at size = number (part bytes at size)

-- a field that holds this number
abbrev pub exact : List ℕ → ℕ → ℕ → ℕ → Field
exact bytes at size n = record { at = at; size = size; allowed = number_at bytes at size == n }

-- a field that holds a number of at most `most`
abbrev pub up_to : List ℕ → ℕ → ℕ → ℕ → Field
up_to bytes at size most = record { at = at; size = size; allowed = nat_le (number_at bytes at size) most }

-- a field whose bytes are all 0
abbrev pub zeros : List ℕ → ℕ → ℕ → Field
zeros bytes at size = record { at = at; size = size; allowed = list_all (λ b. b == 0) (part bytes at size) }

-- a field that may hold anything
abbrev pub free : ℕ → ℕ → Field
free at size = record { at = at; size = size; allowed = true }

-- ---- ELF header

-- e_ident
unfoldable pub identification : List ℕ → List Field
identification bytes =
    exact bytes 0 4 0x464c457f  -- EI_MAG0 to EI_MAG3: the bytes 7f 45 4c 46
    ∷ exact bytes 4 1 2  -- EI_CLASS: ELFCLASS64
    ∷ exact bytes 5 1 1  -- EI_DATA: ELFDATA2LSB
    ∷ exact bytes 6 1 1  -- EI_VERSION: EV_CURRENT
    ∷ zeros bytes 7 9  -- EI_OSABI, EI_ABIVERSION, EI_PAD
    ∷ []

unfoldable pub file_kind : List ℕ → List Field
file_kind bytes =
    exact bytes 16 2 1  -- e_type: ET_REL
    ∷ exact bytes 18 2 62  -- e_machine: EM_X86_64
    ∷ exact bytes 20 4 1  -- e_version: EV_CURRENT
    ∷ exact bytes 24 8 0  -- e_entry
    ∷ exact bytes 32 8 0  -- e_phoff
    ∷ []

-- where the section headers are, and how many
unfoldable pub file_sizes : ℕ → List ℕ → List Field
file_sizes count bytes =
    up_to bytes 40 8 (2 ^ 32 - 1)  -- e_shoff
    ∷ exact bytes 48 4 0  -- e_flags
    ∷ exact bytes 52 2 64  -- e_ehsize
    ∷ exact bytes 54 2 0  -- e_phentsize
    ∷ exact bytes 56 2 0  -- e_phnum
    ∷ exact bytes 58 2 64  -- e_shentsize
    ∷ exact bytes 60 2 count  -- e_shnum
    ∷ exact bytes 62 2 4  -- e_shstrndx
    ∷ []

-- ---- section headers

-- where the section headers stand, and header k of them
abbrev pub headers_at : List ℕ → ℕ
headers_at bytes = number_at bytes 40 8

abbrev pub header_at : List ℕ → ℕ → ℕ
header_at bytes k = headers_at bytes + 64 * k

-- its sh_offset and sh_size: where the section's contents stand, and how many bytes they have
abbrev pub offset_of : List ℕ → ℕ → ℕ
offset_of bytes k = number_at bytes (header_at bytes k + 24) 8

abbrev pub size_of : List ℕ → ℕ → ℕ
size_of bytes k = number_at bytes (header_at bytes k + 32) 8

-- the contents of section k
abbrev pub contents : List ℕ → ℕ → List ℕ
contents bytes k = part bytes (offset_of bytes k) (size_of bytes k)

-- the header of section 0, at an offset: SHN_UNDEF's, all 0
unfoldable pub null_header : List ℕ → ℕ → List Field
null_header bytes at =
    exact bytes at 4 0  -- sh_name
    ∷ exact bytes (at + 4) 4 0  -- sh_type: SHT_NULL
    ∷ exact bytes (at + 8) 8 0  -- sh_flags
    ∷ exact bytes (at + 16) 8 0  -- sh_addr
    ∷ exact bytes (at + 24) 8 0  -- sh_offset
    ∷ exact bytes (at + 32) 8 0  -- sh_size
    ∷ exact bytes (at + 40) 4 0  -- sh_link
    ∷ exact bytes (at + 44) 4 0  -- sh_info
    ∷ exact bytes (at + 48) 8 0  -- sh_addralign
    ∷ exact bytes (at + 56) 8 0  -- sh_entsize
    ∷ []

-- a section's size: 1 to 65 symbols, or else any below 2 ^ 32
abbrev pub is_size : SectionKind → ℕ → Bool
is_size kind n = if kind.entry_size == 24 then n % 24 == 0 && (nat_le 24 n && nat_le n 1560) else nat_lt n (2 ^ 32)

-- the header of a section of this kind, at an offset, with a size that fits
abbrev pub header_fields : List ℕ → SectionKind → (ℕ → Bool) → ℕ → List Field
header_fields bytes kind fits at =
    free at 4  -- sh_name
    ∷ exact bytes (at + 4) 4 kind.kind  -- sh_type
    ∷ exact bytes (at + 8) 8 kind.flags  -- sh_flags
    ∷ exact bytes (at + 16) 8 0  -- sh_addr
    ∷ up_to bytes (at + 24) 8 (2 ^ 32 - 1)  -- sh_offset
    ∷ record { at = at + 32; size = 8; allowed = fits (number_at bytes (at + 32) 8) }  -- sh_size
    ∷ exact bytes (at + 40) 4 kind.link  -- sh_link
    ∷ exact bytes (at + 44) 4 kind.info  -- sh_info
    ∷ exact bytes (at + 48) 8 kind.align  -- sh_addralign
    ∷ exact bytes (at + 56) 8 kind.entry_size  -- sh_entsize
    ∷ []

unfoldable pub section_header : List ℕ → SectionKind → ℕ → List Field
section_header bytes kind at = header_fields bytes kind (is_size kind) at

-- the contents of section k, which lie within the bytes
abbrev pub within : List ℕ → ℕ → Field
within bytes k = free (offset_of bytes k) (size_of bytes k)

-- ---- symbols

-- the bytes from an offset on, up to a byte 0 that follows them there (gABI, "String Table")
abbrev pub string_at : List ℕ → ℕ → Option Word
string_at strings n = option_map (λ i. take i (drop n strings)) (position (λ b. b == 0) (drop n strings))

-- the name of the symbol at an offset
unfoldable pub name_of : List ℕ → ℕ → Option Word
name_of bytes at = string_at (contents bytes 3) (number_at bytes at 4)

-- a name that isn't one of these
abbrev pub is_new : List Word → Option Word → Bool
is_new seen None = false
is_new seen (Some name) = is_name name && not (is_among seen name)

-- 1 to 1,048,576 bytes that end within section 1
abbrev pub is_code_size : ℕ → ℕ → ℕ → Bool
is_code_size whole value n = nat_le 1 n && (nat_le n 1048576 && nat_le (value + n) whole)

-- the symbol at an offset, after symbols of these names
unfoldable pub symbol : List ℕ → List Word → ℕ → List Field
symbol bytes seen at =
    exact bytes (at + 4) 1 0x12  -- st_info: STB_GLOBAL and STT_FUNC
    ∷ exact bytes (at + 5) 1 0  -- st_other: STV_DEFAULT
    ∷ exact bytes (at + 6) 2 1  -- st_shndx: section 1
    ∷ up_to bytes (at + 8) 8 (size_of bytes 1)  -- st_value: the code's offset in section 1
    ∷ record { at = at + 16; size = 8; allowed = is_code_size (size_of bytes 1) (number_at bytes (at + 8) 8) (number_at bytes (at + 16) 8) }  -- st_size
    ∷ record { at = at; size = 4; allowed = is_new seen (name_of bytes at) }  -- st_name
    ∷ []

abbrev pub word_of : Option Word → Word
word_of None = []
word_of (Some w) = w

-- so many symbols, 24 bytes each
unfoldable pub symbols : List ℕ → List Word → ℕ → ℕ → List Field
symbols bytes seen at zero = []
symbols bytes seen at (suc n) = symbol bytes seen at ++ symbols bytes (seen ++ word_of (name_of bytes at) ∷ []) (at + 24) n

-- the function that the symbol at an offset tells of: its name, and the code at its value in section 1
abbrev pub entry_at : List ℕ → ℕ → EntryValue
entry_at bytes at = record { name = word_of (name_of bytes at); code = part (contents bytes 1) (number_at bytes (at + 8) 8) (number_at bytes (at + 16) 8) }

-- those of so many symbols
unfoldable pub entries_at : List ℕ → ℕ → ℕ → List EntryValue
entries_at bytes at zero = []
entries_at bytes at (suc n) = entry_at bytes at ∷ entries_at bytes (at + 24) n

-- ---- the whole

-- how many symbols follow the first
abbrev pub count_of : List ℕ → ℕ
count_of bytes = size_of bytes 2 / 24 - 1

unfoldable pub headers : List ℕ → List Field
headers bytes =
    null_header bytes (headers_at bytes)
    ++ (section_header bytes text (header_at bytes 1)
    ++ (section_header bytes symtab (header_at bytes 2)
    ++ (section_header bytes strtab (header_at bytes 3)
    ++ section_header bytes strtab (header_at bytes 4))))

-- the contents of the sections, and the first symbol
unfoldable pub insides : List ℕ → List Field
insides bytes =
    within bytes 1
    ∷ within bytes 2
    ∷ within bytes 3
    ∷ within bytes 4
    ∷ zeros bytes (offset_of bytes 2) 24  -- STN_UNDEF
    ∷ []

-- all fields of an object, in the order in which they are tested
unfoldable pub fields : List ℕ → List Field
fields bytes =
    identification bytes
    ++ (file_kind bytes
    ++ (file_sizes 5 bytes
    ++ (headers bytes
    ++ (insides bytes
    ++ symbols bytes [] (offset_of bytes 2 + 24) (count_of bytes)))))

-- ---- objects

-- a field is all there, and what it holds is allowed
pub record IsGood (bytes : List ℕ) (f : Field) : Type 0 where
  pub there : f.at + f.size ≤ length bytes
  pub holds : f.allowed ≡ true

abbrev pub AreGood : List ℕ → List Field → Type 0
AreGood bytes [] = Unit {0}
AreGood bytes (f ∷ fs) = IsGood bytes f × AreGood bytes fs

-- the bytes are an object with these functions, in order: each field is there and holds what it may, and the symbols tell of these
pub record ElfGives (bytes : List ℕ) (es : List EntryValue) : Type 0 where
  pub good : AreGood bytes (fields bytes)
  pub told : es ≡ entries_at bytes (offset_of bytes 2 + 24) (count_of bytes)

-- bytes are an object with one list of functions
abbrev pub OneObject : Type 0
OneObject = (bytes : List ℕ) (x y : List EntryValue) → ElfGives bytes x → ElfGives bytes y → x ≡ y

-- ---- refusals

-- why a field is refused: it isn't all there, or what it holds isn't allowed
unfoldable pub refused : List ℕ → Field → Option ElfError
refused bytes f = if nat_lt (length bytes) (f.at + f.size) then Some (Short (f.at + f.size)) else (if f.allowed then None else Some (BadField f.at))

abbrev pub first_of : Option ElfError → Option ElfError → Option ElfError
first_of None later = later
first_of (Some e) later = Some e

-- the refusal of the first of some fields that is refused, if one is
abbrev pub first_refused : List ℕ → List Field → Option ElfError
first_refused bytes [] = None
first_refused bytes (f ∷ fs) = first_of (refused bytes f) (first_refused bytes fs)

-- the refusal of the first field that isn't all there or isn't allowed, if there is one
abbrev pub first_bad_field : List ℕ → Option ElfError
first_bad_field bytes = first_refused bytes (fields bytes)
