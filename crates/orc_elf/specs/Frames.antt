-- Call frame information of a library's functions (System V psABI for x86-64, "DWARF Definition" and "Unwind Library Interface"; DWARF 4, section 6.4).
use Rattle.std.specs.Prelude.{ℕ, ◌+◌, ◌-◌, ◌*◌, ◌/◌, ◌%◌, Option, Some, None, List, [], ◌∷◌, ◌++◌, length, replicate}
use Rattle.orc_elf.specs.declared.library.Unwind.{Unwind}
use Rattle.orc_elf.specs.declared.number.Number.TheVariants.{Byte, Half, Word, Xword}
use Rattle.orc_elf.specs.Entries.{EntryValue}
use Rattle.orc_elf.specs.Layout.{gap, spelling}

-- a ULEB128 number of two bytes, lowest byte first
abbrev pub uleb : ℕ → ℕ
uleb n = n % 128 + 128 + 256 * (n / 128)

-- the entry that all functions share: at a function's first instruction the CFA is RSP + 8, and the return address (register 16) is at CFA - 8
unfoldable pub common_entry : List ℕ
common_entry = spelling (
    Word 20 ∷ Word 0 ∷ Byte 1  -- length, CIE_id, version
    ∷ Byte 0x7a ∷ Byte 0x52 ∷ Byte 0  -- augmentation: "zR"
    ∷ Byte 1 ∷ Byte 0x78 ∷ Byte 16  -- code alignment factor 1, data alignment factor -8, return address register
    ∷ Byte 1 ∷ Byte 0x1b  -- augmentation data: DW_EH_PE_pcrel and DW_EH_PE_sdata4
    ∷ Byte 0x0c ∷ Byte 7 ∷ Byte 8  -- DW_CFA_def_cfa
    ∷ Byte 0x90 ∷ Byte 1 ∷ Half 0 ∷ [])  -- DW_CFA_offset, and two DW_CFA_nop

-- ---- rows

-- DW_CFA_advance_loc4
abbrev pub advance : ℕ → List ℕ
advance distance = spelling (Byte 0x04 ∷ Word distance ∷ [])

-- so many bytes on, the CFA is so far above RSP: DW_CFA_def_cfa_offset
unfoldable pub row : ℕ → ℕ → List ℕ
row distance above = spelling (Byte 0x04 ∷ Word distance ∷ Byte 0x0e ∷ Half (uleb above) ∷ [])

-- DW_CFA_offset of RBX, RBP and R12 to R15, each 8 bytes nearer to the CFA: 2400 - 832 - 8 * j bytes below it, in words
unfoldable pub saved : List ℕ
saved = spelling (
    Byte 0x83 ∷ Half (uleb 196) ∷ Byte 0x86 ∷ Half (uleb 195) ∷ Byte 0x8c ∷ Half (uleb 194)
    ∷ Byte 0x8d ∷ Half (uleb 193) ∷ Byte 0x8e ∷ Half (uleb 192) ∷ Byte 0x8f ∷ Half (uleb 191) ∷ [])

-- DW_CFA_restore of these
abbrev pub restored : List ℕ
restored = 0xc3 ∷ 0xc6 ∷ 0xcc ∷ 0xcd ∷ 0xce ∷ 0xcf ∷ []

-- the end of the last instruction before `ret`, where the CFA is RSP + 8 again, and three DW_CFA_nop
abbrev pub last_row : ℕ → List ℕ
last_row distance = advance distance ++ (0x0e ∷ 8 ∷ 0 ∷ 0 ∷ 0 ∷ [])

-- the rows of a function whose code has so many bytes: 344 bytes are taken by its first instruction, of 7 bytes, and 2048 by the body's, also of 7, behind which 6 instructions of 8 bytes save registers
unfoldable pub rows : ℕ → Option Unwind → List ℕ
rows size None = replicate 63 0
rows size (Some u) = row 7 352 ++ (row u.body 2400 ++ (advance 48 ++ (saved ++ (row (u.exit - u.body - 55) 352 ++ (restored ++ last_row (size - 1 - u.exit))))))

-- ---- the whole

-- the entry, at an offset of the section, of a function whose code has so many bytes: length, CIE_pointer, PC begin, PC range, augmentation length, rows
unfoldable pub frame_bytes : ℕ → ℕ → Option Unwind → List ℕ
frame_bytes at size u = spelling (Word 76 ∷ Word (at + 4) ∷ Word 0 ∷ Word size ∷ Byte 0 ∷ []) ++ rows size u

-- the entries of functions, of 80 bytes each, from an offset on
unfoldable pub frames_from : ℕ → List EntryValue → List (Option Unwind) → List ℕ
frames_from at [] us = []
frames_from at (e ∷ es) [] = []
frames_from at (e ∷ es) (u ∷ us) = frame_bytes at (length e.code) u ++ frames_from (at + 80) es us

-- an Elf64_Rela: PC begin, 8 bytes behind an offset, is that of the code at an offset of section 1: R_X86_64_PC32 with symbol 1
unfoldable pub relocation_bytes : ℕ → ℕ → List ℕ
relocation_bytes at code = spelling (Xword (at + 8) ∷ Word 2 ∷ Word 1 ∷ Xword code ∷ [])

-- those of functions whose codes follow an offset of section 1
unfoldable pub relocations_from : ℕ → ℕ → List EntryValue → List ℕ
relocations_from at code [] = []
relocations_from at code (e ∷ es) = relocation_bytes at (code + gap 16 code) ++ relocations_from (at + 80) (code + gap 16 code + length e.code) es

-- the contents of sections 6 and 7
abbrev pub frame_part : List EntryValue → List (Option Unwind) → List ℕ
frame_part es us = common_entry ++ frames_from 24 es us

abbrev pub relocation_part : List EntryValue → List ℕ
relocation_part es = relocations_from 24 0 es
