-- How many bytes the parts have.
use Rattle.std.proofs.Common.{◌≡◌, ℕ, ◌+◌, ◌*◌, ◌^◌, ◌<◌, ◌≤◌, List, [], ◌∷◌, ◌++◌, length, refl, arith, length-append}
use Rattle.std.specs.Prelude.{replicate}
use Rattle.std.proofs.lemmas.List.{length-replicate}
use Rattle.orc_elf.specs.declared.section.SectionHeader.{SectionHeader}
use Rattle.orc_elf.specs.Entries.{EntryValue, AreEntries}
use Rattle.orc_elf.specs.Layout.{gap, codes_from, symbol_bytes, symbols_from, names_from, code_part, name_part, file_header, header_bytes}
use Rattle.orc_elf.proofs.Written.{name_length}

pub gap_small : (multiple at : ℕ) → 0 < multiple → gap multiple at < multiple
unfolding gap
gap_small multiple at h = omega arith

pub codes_small : (at : ℕ) (es : List EntryValue) → AreEntries es → length (codes_from at es) ≤ 1048592 * length es
unfolding codes_from
codes_small at [] h = omega arith
codes_small at (e ∷ es) h =
    let fill : List ℕ = replicate (gap 16 at) 0xcc in
    let next = at + gap 16 at + length e.code in
    let more = codes_small next es h.1 in
    omega (arith, more, h.0.few_code, gap_small 16 at (omega arith), length-replicate {A = ℕ} (gap 16 at) 0xcc, length-append fill (e.code ++ codes_from next es), length-append e.code (codes_from next es))

pub names_small : (es : List EntryValue) → AreEntries es → length (names_from es) ≤ 65 * length es
unfolding names_from
names_small [] h = omega arith
names_small (e ∷ es) h = omega (arith, names_small es h.1, (name_length e.name h.0.name).1, length-append e.name (0 ∷ names_from es))

pub symbol_size : (info name value size : ℕ) → length (symbol_bytes info name value size) ≡ 24
unfolding symbol_bytes
symbol_size info name value size = refl

pub symbols_size : (name at : ℕ) (es : List EntryValue) → length (symbols_from name at es) ≡ 24 * length es
unfolding symbols_from
symbols_size name at [] = omega arith
symbols_size name at (e ∷ es) =
    let one = symbol_bytes 0x12 name (at + gap 16 at) (length e.code) in
    let next = symbols_from (name + (length e.name + 1)) (at + gap 16 at + length e.code) es in
    omega (arith, symbols_size (name + (length e.name + 1)) (at + gap 16 at + length e.code) es, symbol_size 0x12 name (at + gap 16 at) (length e.code), length-append one next)

pub file_header_size : (shoff count : ℕ) → length (file_header shoff count) ≡ 64
unfolding file_header
file_header_size shoff count = refl

pub header_size : (h : SectionHeader) → length (header_bytes h) ≡ 64
unfolding header_bytes
header_size h = refl

-- what is known of the sizes of an object's parts
pub record AreSmall (es : List EntryValue) : Type 0 where
  pub code : length (code_part es) < 2 ^ 28
  pub symbols : length (symbols_from 1 0 es) ≡ 24 * length es
  pub names : length (name_part es) < 2 ^ 13
  pub few : length es ≤ 65

pub parts_small : (es : List EntryValue) → AreEntries es → length es ≤ 65 → AreSmall es
parts_small es each few = record {
  code = omega (arith, codes_small 0 es each, few);
  symbols = symbols_size 1 0 es;
  names = omega (arith, names_small es each, few);
  few = few;
}
