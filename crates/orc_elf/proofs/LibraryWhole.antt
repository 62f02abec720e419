-- What is written for a library is an object with its functions.
use Rattle.std.proofs.Common.{◌≡◌, ℕ, ◌+◌, ◌*◌, ◌%◌, ◌^◌, ◌≤◌, ◌==◌, true, List, [], ◌++◌, length, None, refl, sym, ap, ◌∙◌, arith, length-append}
use Rattle.std.proofs.lemmas.Bool.{eq-eqb, le-leb, lt-ltb}
use Rattle.orc_elf.specs.declared.section.Places.{Places}
use Rattle.orc_elf.specs.declared.section.SectionHeader.{SectionHeader}
use Rattle.orc_elf.specs.Sections.{library_symtab, no_stack, eh_frame, rela_eh_frame}
use Rattle.orc_elf.specs.Entries.{EntryValue}
use Rattle.orc_elf.specs.Fields.{number_at, first_refused, header_at, header_fields, section_header, is_size, offset_of, size_of, contents, string_at, symbols, entries_at}
use Rattle.orc_elf.specs.Layout.{symbol_bytes, symbols_from, code_part, name_part, contents_part, places, headers_of}
use Rattle.orc_elf.specs.Frames.{frame_part, relocation_part}
use Rattle.orc_elf.specs.Library.{LibraryValue, IsLibrary, local_symbols, library_symbol_part, library_section_names, end_of, more_headers, library_bytes}
use Rattle.orc_elf.specs.LibraryFields.{is_table, library_headers, section_symbol, library_insides, functions_of, library_fields, section_name, LibraryGives}
use Rattle.orc_elf.proofs.Refusals.{none_good}
use Rattle.orc_elf.proofs.HeaderLaws.{IsKind}
use Rattle.orc_elf.proofs.Offsets.{number_after, exact_good}
use Rattle.orc_elf.proofs.SymbolLaws.{symbols_good, entries_are}
use Rattle.orc_elf.proofs.FrameLaws.{frame_part_size, relocations_size}
use Rattle.orc_elf.proofs.Laid.{contents_size}
use Rattle.orc_elf.proofs.Known.{both_good, headers_found, Known, known, file_good, null_good, IsFound, find, Found, found, inside, zeros_again, part_is, stands}

symtab_kind : IsKind library_symtab
symtab_kind = record { kind_fits = omega arith; flags_fit = omega arith; link_fits = omega arith; info_fits = omega arith; align_fits = omega arith; entry_fits = omega arith }

no_stack_kind : IsKind no_stack
no_stack_kind = record { kind_fits = omega arith; flags_fit = omega arith; link_fits = omega arith; info_fits = omega arith; align_fits = omega arith; entry_fits = omega arith }

eh_frame_kind : IsKind eh_frame
eh_frame_kind = record { kind_fits = omega arith; flags_fit = omega arith; link_fits = omega arith; info_fits = omega arith; align_fits = omega arith; entry_fits = omega arith }

rela_kind : IsKind rela_eh_frame
rela_kind = record { kind_fits = omega arith; flags_fit = omega arith; link_fits = omega arith; info_fits = omega arith; align_fits = omega arith; entry_fits = omega arith }

relocations_fit : (n size : ℕ) → n ≤ 65 → size ≡ 24 * n → is_table 0 65 size ≡ true
relocations_fit n size few is =
    let whole : (size % 24) == 0 ≡ true = eq-eqb (size % 24) 0 (omega arith) in
    rw (whole, le-leb 0 size (omega arith), le-leb size 1560 (omega arith)) refl

table_size : (n size : ℕ) → n ≤ 65 → size ≡ 24 * n + 48 → is_table 2 67 size ≡ true
table_size n size few is =
    let whole : (size % 24) == 0 ≡ true = eq-eqb (size % 24) 0 (omega arith) in
    rw (whole, le-leb 48 size (omega arith), le-leb size 1608 (omega arith)) refl

pub table_length : (es : List EntryValue) → length (symbols_from 1 0 es) ≡ 24 * length es → length (library_symbol_part es) ≡ 24 * length es + 48
unfolding symbol_bytes
table_length es h = omega (arith, h, length-append local_symbols (symbols_from 1 0 es))

-- ---- the symbol of section 1

section_symbol_good : (bytes front s back : List ℕ) (at place : ℕ) → bytes ≡ front ++ ((local_symbols ++ s) ++ back) → place ≡ length front → at ≡ place → first_refused bytes (section_symbol bytes (at + 24)) ≡ None
unfolding section_symbol symbol_bytes number_at
section_symbol_good bytes front s back at place e p a =
    let more : List ℕ = (local_symbols ++ s) ++ back in
    let l : at + 48 ≤ length bytes = omega (arith, ap length e, length-append front more, length-append (local_symbols ++ s) back, length-append local_symbols s, a, p) in
    let n : (i m : ℕ) → number_at bytes (at + i) m ≡ number_at more i m = λ i m. number_after bytes front more at i m e (a ∙ p) in
    let m : (k v : ℕ) → (i : ℕ) → i ≡ 24 + k → (w : ℕ) → number_at more i w ≡ v → number_at bytes (at + 24 + k) w ≡ v =
    λ k v i is w h. ap (λ x. number_at bytes x w) (omega arith) ∙ n i w ∙ h in
    rw (
      exact_good bytes (at + 24) 4 0 (omega arith) (n 24 4),
      exact_good bytes (at + 24 + 4) 1 3 (omega arith) (m 4 3 28 refl 1 refl),
      exact_good bytes (at + 24 + 5) 1 0 (omega arith) (m 5 0 29 refl 1 refl),
      exact_good bytes (at + 24 + 6) 2 1 (omega arith) (m 6 1 30 refl 2 refl),
      exact_good bytes (at + 24 + 8) 8 0 (omega arith) (m 8 0 32 refl 8 refl),
      exact_good bytes (at + 24 + 16) 8 0 (omega arith) (m 16 0 40 refl 8 refl),
    ) refl

-- ---- the whole

-- the headers behind section 4
abbrev note : Places → SectionHeader
note p = record { kind = no_stack; name = 33; place = record { offset = end_of p; size = 0 } }

abbrev frames : Places → ℕ → SectionHeader
frames p n = record { kind = eh_frame; name = 49; place = record { offset = end_of p; size = n } }

abbrev relocations : Places → ℕ → ℕ → SectionHeader
relocations p n m = record { kind = rela_eh_frame; name = 59; place = record { offset = end_of p + n; size = m } }

abbrev all_headers : Places → ℕ → ℕ → List SectionHeader
all_headers p n m = headers_of library_symtab p ++ more_headers p n m

abbrev places_of : List EntryValue → Places
places_of es = places (length (code_part es)) (length (library_symbol_part es)) (length (name_part es)) 74

-- sections 5 to 7
record Behind (bytes : List ℕ) (p : Places) (n m : ℕ) : Type 0 where
  no_code : IsFound bytes 5 (note p) (λ k. k == 0)
  frames_are : IsFound bytes 6 (frames p n) (is_size eh_frame)
  relocations_are : IsFound bytes 7 (relocations p n m) (is_table 0 65)

headers_good : (bytes : List ℕ) (p : Places) (es : List EntryValue) (at n m : ℕ) → Known bytes p es local_symbols library_section_names at (all_headers p n m) → Found bytes p library_symtab (is_table 2 67) → Behind bytes p n m → first_refused bytes (library_headers bytes) ≡ None
unfolding library_headers section_header
headers_good bytes p es at n m k f g =
    let null = null_good bytes p es local_symbols library_section_names at (all_headers p n m) k (omega arith) refl in
    let h5 = header_fields bytes no_stack (λ k. k == 0) (header_at bytes 5) in
    let h6 = section_header bytes eh_frame (header_at bytes 6) in
    let h7 = header_fields bytes rela_eh_frame (is_table 0 65) (header_at bytes 7) in
    headers_found bytes p library_symtab (is_table 2 67) (h5 ++ (h6 ++ h7)) f null (both_good bytes h5 (h6 ++ h7) g.no_code.fields (both_good bytes h6 h7 g.frames_are.fields g.relocations_are.fields))

insides_good : (bytes : List ℕ) (p : Places) (es : List EntryValue) (at n m : ℕ) → Known bytes p es local_symbols library_section_names at (all_headers p n m) → Found bytes p library_symtab (is_table 2 67) → Behind bytes p n m → first_refused bytes (library_insides bytes) ≡ None
unfolding library_insides
insides_good bytes p es at n m k f g =
    rw (
      inside bytes (offset_of bytes 1) (size_of bytes 1) p.code.offset p.code.size f.code.offset f.code.size f.code.within,
      inside bytes (offset_of bytes 2) (size_of bytes 2) p.symbols.offset p.symbols.size f.symbols.offset f.symbols.size f.symbols.within,
      inside bytes (offset_of bytes 3) (size_of bytes 3) p.names.offset p.names.size f.names.offset f.names.size f.names.within,
      inside bytes (offset_of bytes 4) (size_of bytes 4) p.section_names.offset p.section_names.size f.section_names.offset f.section_names.size f.section_names.within,
      inside bytes (offset_of bytes 5) (size_of bytes 5) (end_of p) 0 g.no_code.offset g.no_code.size g.no_code.within,
      inside bytes (offset_of bytes 6) (size_of bytes 6) (end_of p) n g.frames_are.offset g.frames_are.size g.frames_are.within,
      inside bytes (offset_of bytes 7) (size_of bytes 7) (end_of p + n) m g.relocations_are.offset g.relocations_are.size g.relocations_are.within,
      zeros_again bytes k.parts.symbols_front (symbol_bytes 0x03 0 0 0 ++ symbols_from 1 0 es) k.parts.symbols_back (offset_of bytes 2) p.symbols.offset k.parts.symbols k.parts.symbols_place f.symbols.offset,
    ) refl

-- the name of a section
named : (bytes : List ℕ) (p : Places) (es : List EntryValue) (at n m : ℕ) → Known bytes p es local_symbols library_section_names at (all_headers p n m) → Found bytes p library_symtab (is_table 2 67)
    → (i name : ℕ) → number_at bytes (header_at bytes i) 4 ≡ name → section_name bytes i ≡ string_at library_section_names name
named bytes p es at n m k f i name is =
    let titles : contents bytes 4 ≡ library_section_names = part_is bytes (offset_of bytes 4) (size_of bytes 4) p.section_names.offset p.section_names.size library_section_names f.section_names.offset f.section_names.size k.parts.section_names in
    ap (λ t. string_at t (number_at bytes (header_at bytes i) 4)) titles ∙ ap (string_at library_section_names) is

pub library_gives : (l : LibraryValue) → IsLibrary l → LibraryGives (library_bytes l) l.entries
unfolding library_fields symbol_bytes
library_gives l i =
    let es = l.entries in
    let bytes = library_bytes l in
    let p = places_of es in
    let z : List ℕ = local_symbols in
    let fs : List ℕ = frame_part es l.unwinds in
    let rs : List ℕ = relocation_part es in
    let n : ℕ = length fs in
    let m : ℕ = length rs in
    let few_n : n ≤ 24 + 80 * length es = frame_part_size es l.unwinds in
    let is_m : m ≡ 24 * length es = relocations_size 24 0 es in
    let both : length (fs ++ rs) ≡ n + m = length-append fs rs in
    let hs : List SectionHeader = all_headers p n m in
    let whole : List ℕ = contents_part (code_part es) (library_symbol_part es) (name_part es) library_section_names ++ (fs ++ rs) in
    let begins = 64 + length whole in
    let k = known es z library_section_names (fs ++ rs) whole hs i.each i.few (omega arith) (omega arith) (omega (arith, both, few_n, is_m, i.few)) (omega arith) refl in
    let size : p.symbols.size ≡ 24 * length es + 48 = k.places.symbols_have ∙ table_length es k.small.symbols in
    let at = offset_of bytes 2 + 48 in
    let f = found bytes p es z library_section_names begins library_symtab (is_table 2 67) (more_headers p n m) k symtab_kind (table_size (length es) p.symbols.size i.few size) in
    let end = contents_size p (code_part es) (library_symbol_part es) (name_part es) library_section_names (fs ++ rs) whole k.places refl in
    let g : Behind bytes p n m = record {
      no_code = find bytes p es z library_section_names begins hs k 5 (note p) (λ k. k == 0) (omega arith) refl no_stack_kind (omega (arith, end)) refl;
      frames_are = find bytes p es z library_section_names begins hs k 6 (frames p n) (is_size eh_frame) (omega arith) refl eh_frame_kind (omega (arith, end, both)) (lt-ltb n (2 ^ 32) (omega (arith, few_n, i.few)));
      relocations_are = find bytes p es z library_section_names begins hs k 7 (relocations p n m) (is_table 0 65) (omega arith) refl rela_kind (omega (arith, end, both)) (relocations_fit (length es) m i.few is_m);
    } in
    let count : functions_of bytes ≡ length es = omega (arith, f.symbols.size, size) in
    let s = stands bytes p es z library_section_names begins library_symtab (is_table 2 67) hs k f in
    let h = file_good bytes p es z library_section_names begins hs k in
    let one = section_symbol_good bytes k.parts.symbols_front (symbols_from 1 0 es) k.parts.symbols_back (offset_of bytes 2) p.symbols.offset k.parts.symbols k.parts.symbols_place f.symbols.offset in
    let read : first_refused bytes (symbols bytes [] at (functions_of bytes)) ≡ None = ap (λ n. first_refused bytes (symbols bytes [] at n)) count ∙ symbols_good bytes [] at 1 0 es s i.each i.distinct in
    record {
      good = none_good bytes (library_fields bytes) (both_good bytes _ _ h.0 (both_good bytes _ _ h.1 (both_good bytes _ _ h.2 (both_good bytes _ _ (headers_good bytes p es begins n m k f g) (both_good bytes _ _ (insides_good bytes p es begins n m k f g) (both_good bytes _ _ one read))))));
      told = sym (ap (λ n. entries_at bytes at n) count ∙ entries_are bytes at 1 0 es s i.each);
      note = named bytes p es begins n m k f 5 33 (g.no_code.name (omega arith));
      frames = named bytes p es begins n m k f 6 49 (g.frames_are.name (omega arith));
      relocations = named bytes p es begins n m k f 7 59 (g.relocations_are.name (omega arith));
    }
