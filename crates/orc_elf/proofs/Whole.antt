-- What is written is an object with the functions that were given.
use Rattle.std.proofs.Common.{◌≡◌, ℕ, ◌+◌, ◌*◌, ◌%◌, ◌≤◌, ◌==◌, true, List, [], ◌++◌, length, None, refl, sym, ap, subst, ◌∙◌, arith, length-append}
use Rattle.std.specs.Prelude.{replicate}
use Rattle.std.proofs.lemmas.Bool.{eq-eqb, le-leb}
use Rattle.std.proofs.lemmas.List.{append-nil}
use Rattle.orc_elf.specs.declared.section.Places.{Places}
use Rattle.orc_elf.specs.declared.section.SectionHeader.{SectionHeader}
use Rattle.orc_elf.specs.Sections.{text, symtab, strtab}
use Rattle.orc_elf.specs.Entries.{EntryValue, ElfValue, IsElf}
use Rattle.orc_elf.specs.Fields.{Field, first_refused, null_header, headers_at, header_at, offset_of, size_of, count_of, is_size, section_header, headers, insides, symbols, entries_at, fields, ElfGives}
use Rattle.orc_elf.specs.Layout.{symbols_from, code_part, symbol_part, name_part, contents_part, section_names, places_of, headers_of, object_bytes}
use Rattle.orc_elf.proofs.Refusals.{none_good}
use Rattle.orc_elf.proofs.HeaderLaws.{IsKind}
use Rattle.orc_elf.proofs.SymbolLaws.{symbols_good, entries_are}
use Rattle.orc_elf.proofs.Known.{both_good, headers_found, Known, known, file_good, null_good, Found, found, inside, zeros_again, stands}

symtab_kind : IsKind symtab
symtab_kind = record { kind_fits = omega arith; flags_fit = omega arith; link_fits = omega arith; info_fits = omega arith; align_fits = omega arith; entry_fits = omega arith }

table_size : (n size : ℕ) → n ≤ 64 → size ≡ 24 * n + 24 → is_size symtab size ≡ true
table_size n size few is =
    let whole : (size % 24) == 0 ≡ true = eq-eqb (size % 24) 0 (omega arith) in
    rw (whole, le-leb 24 size (omega arith), le-leb size 1560 (omega arith)) refl

headers_good : (bytes : List ℕ) (p : Places) (es : List EntryValue) (at : ℕ) → Known bytes p es (replicate 24 0) section_names at (headers_of symtab p) → Found bytes p symtab (is_size symtab) → first_refused bytes (headers bytes) ≡ None
unfolding headers section_header
headers_good bytes p es at k f =
    let null = null_good bytes p es (replicate 24 0) section_names at (headers_of symtab p) k (omega arith) refl in
    let last : section_header bytes strtab (header_at bytes 4) ++ [] ≡ section_header bytes strtab (header_at bytes 4) = append-nil _ in
    let all = headers_found bytes p symtab (is_size symtab) [] f null refl in
    subst (λ (l : List Field). first_refused bytes (null_header bytes (headers_at bytes) ++ (section_header bytes text (header_at bytes 1) ++ (section_header bytes symtab (header_at bytes 2) ++ (section_header bytes strtab (header_at bytes 3) ++ l)))) ≡ None) last all

insides_good : (bytes : List ℕ) (p : Places) (es : List EntryValue) (at : ℕ) → Known bytes p es (replicate 24 0) section_names at (headers_of symtab p) → Found bytes p symtab (is_size symtab) → first_refused bytes (insides bytes) ≡ None
unfolding insides
insides_good bytes p es at k f =
    rw (
      inside bytes (offset_of bytes 1) (size_of bytes 1) p.code.offset p.code.size f.code.offset f.code.size f.code.within,
      inside bytes (offset_of bytes 2) (size_of bytes 2) p.symbols.offset p.symbols.size f.symbols.offset f.symbols.size f.symbols.within,
      inside bytes (offset_of bytes 3) (size_of bytes 3) p.names.offset p.names.size f.names.offset f.names.size f.names.within,
      inside bytes (offset_of bytes 4) (size_of bytes 4) p.section_names.offset p.section_names.size f.section_names.offset f.section_names.size f.section_names.within,
      zeros_again bytes k.parts.symbols_front (symbols_from 1 0 es) k.parts.symbols_back (offset_of bytes 2) p.symbols.offset k.parts.symbols k.parts.symbols_place f.symbols.offset,
    ) refl

-- ---- the whole

pub object_gives : (e : ElfValue) → IsElf e → ElfGives (object_bytes e) e.entries
unfolding fields
object_gives e i =
    let es = e.entries in
    let bytes = object_bytes e in
    let p = places_of es in
    let z : List ℕ = replicate 24 0 in
    let hs : List SectionHeader = headers_of symtab p in
    let whole : List ℕ = contents_part (code_part es) (symbol_part es) (name_part es) section_names in
    let begins = 64 + length whole in
    let k = known es z section_names [] whole hs i.each (omega (arith, i.few)) (omega arith) (omega arith) (omega arith) (omega arith) (sym (append-nil whole)) in
    let size : p.symbols.size ≡ 24 * length es + 24 = k.places.symbols_have ∙ omega (arith, k.small.symbols, length-append z (symbols_from 1 0 es)) in
    let at = offset_of bytes 2 + 24 in
    let f = found bytes p es z section_names begins symtab (is_size symtab) [] k symtab_kind (table_size (length es) p.symbols.size i.few size) in
    let count : count_of bytes ≡ length es = omega (arith, f.symbols.size, size) in
    let s = stands bytes p es z section_names begins symtab (is_size symtab) hs k f in
    let g = file_good bytes p es z section_names begins hs k in
    let read : first_refused bytes (symbols bytes [] at (count_of bytes)) ≡ None = ap (λ n. first_refused bytes (symbols bytes [] at n)) count ∙ symbols_good bytes [] at 1 0 es s i.each i.distinct in
    record {
      good = none_good bytes (fields bytes) (both_good bytes _ _ g.0 (both_good bytes _ _ g.1 (both_good bytes _ _ g.2 (both_good bytes _ _ (headers_good bytes p es begins k f) (both_good bytes _ _ (insides_good bytes p es begins k f) read)))));
      told = sym (ap (λ n. entries_at bytes at n) count ∙ entries_are bytes at 1 0 es s i.each);
    }
