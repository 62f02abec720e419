-- What is known of a written object: where its sections are, and that what they hold is as asked.
use Rattle.std.proofs.Common.{◌≡◌, ℕ, ◌+◌, ◌^◌, ◌<◌, ◌≤◌, ◌==◌, Bool, true, List, [], ◌∷◌, ◌++◌, length, get_or, None, refl, sym, ap, ◌∙◌, append_assoc, arith, length-append}
use Rattle.std.specs.Prelude.{replicate}
use Rattle.std.specs.List.{list_all}
use Rattle.std.proofs.lemmas.Bool.{lt-ltb}
use Rattle.orc_elf.specs.declared.section.Places.{Places}
use Rattle.orc_elf.specs.declared.section.SectionHeader.{SectionHeader}
use Rattle.orc_elf.specs.declared.section.SectionKind.{SectionKind}
use Rattle.orc_elf.specs.Sections.{text, strtab}
use Rattle.orc_elf.specs.Entries.{EntryValue, AreEntries}
use Rattle.orc_elf.specs.Fields.{Field, part, number_at, zeros, free, refused, first_refused, headers_at, header_at, offset_of, size_of, contents, identification, file_kind, file_sizes, null_header, header_fields, section_header, is_size}
use Rattle.orc_elf.specs.Layout.{symbols_from, code_part, name_part, contents_part, places, headers_of, assembled}
use Rattle.orc_elf.proofs.Refusals.{refused_append}
use Rattle.orc_elf.proofs.Sizes.{AreSmall, parts_small, gap_small}
use Rattle.orc_elf.proofs.Offsets.{part_here, good}
use Rattle.orc_elf.proofs.HeaderLaws.{HasHeader, IsKind, first, has_header, shoff_is, identification_good, file_kind_good, file_sizes_good, offset_is, size_is, name_is, section_header_good, null_header_good}
use Rattle.orc_elf.proofs.SymbolLaws.{Stands}
use Rattle.orc_elf.proofs.Laid.{Sits, sits, IsLaid, laid, contents_size}

pub both_good : (bytes : List ℕ) (fs gs : List Field) → first_refused bytes fs ≡ None → first_refused bytes gs ≡ None → first_refused bytes (fs ++ gs) ≡ None
both_good bytes fs gs f g = refused_append bytes fs gs ∙ rw (f, g) refl

-- the symbols of some functions behind the first ones
abbrev pub table : List ℕ → List EntryValue → List ℕ
table firsts es = firsts ++ symbols_from 1 0 es

-- an object of functions, with these symbols before theirs, these names of sections, and section headers `hs` at `at`
pub record Known (bytes : List ℕ) (p : Places) (es : List EntryValue) (firsts ks : List ℕ) (at : ℕ) (hs : List SectionHeader) : Type 0 where
  pub small : AreSmall es
  pub places : Sits p (code_part es) (table firsts es) (name_part es) ks
  pub parts : IsLaid bytes p (code_part es) (table firsts es) (name_part es) ks at hs
  pub few : length hs < 2 ^ 16
  pub low : at < 2 ^ 31
  pub ends : p.section_names.offset + p.section_names.size ≤ at
  pub shoff : headers_at bytes ≡ at

pub known : (es : List EntryValue) (firsts ks more whole : List ℕ) (hs : List SectionHeader) → AreEntries es → length es ≤ 65 → length firsts ≤ 48 → length ks < 2 ^ 12 → length more < 2 ^ 20 → length hs < 2 ^ 16
    → whole ≡ contents_part (code_part es) (table firsts es) (name_part es) ks ++ more
    → Known (assembled whole hs) (places (length (code_part es)) (length (table firsts es)) (length (name_part es)) (length ks)) es firsts ks (64 + length whole) hs
known es firsts ks more whole hs each few before titles rest headers is =
    let small = parts_small es each few in
    let s = sits (code_part es) (table firsts es) (name_part es) ks in
    let p = places (length (code_part es)) (length (table firsts es)) (length (name_part es)) (length ks) in
    let parts = laid p (code_part es) (table firsts es) (name_part es) ks more whole hs s is in
    let size = contents_size p (code_part es) (table firsts es) (name_part es) ks more whole s is in
    let low : 64 + length whole < 2 ^ 31 =
    omega (arith, size, small.code, small.symbols, small.names, few, before, titles, rest, length-append firsts (symbols_from 1 0 es), s.symbols_at, s.names_at, s.section_names_at, s.section_names_have, gap_small 8 (length (code_part es)) (omega arith), gap_small 8 (p.section_names.offset + p.section_names.size) (omega arith)) in
    record {
      small = small;
      places = s;
      parts = parts;
      few = headers;
      low = low;
      ends = omega (arith, size);
      shoff = ap (λ b. number_at b 40 8) parts.headed ∙ shoff_is (64 + length whole) (length hs) parts.after_header (omega (arith, low));
    }

-- ---- the file header

pub file_good : (bytes : List ℕ) (p : Places) (es : List EntryValue) (firsts ks : List ℕ) (at : ℕ) (hs : List SectionHeader) → Known bytes p es firsts ks at hs
    → (first_refused bytes (identification bytes) ≡ None) × (first_refused bytes (file_kind bytes) ≡ None) × (first_refused bytes (file_sizes (length hs) bytes) ≡ None)
file_good bytes p es firsts ks at hs k =
    let h = k.parts.headed in
    let rest = k.parts.after_header in (
      ap (λ b. first_refused b (identification b)) h ∙ identification_good at (length hs) rest,
      ap (λ b. first_refused b (file_kind b)) h ∙ file_kind_good at (length hs) rest,
      ap (λ b. first_refused b (file_sizes (length hs) b)) h ∙ file_sizes_good at (length hs) rest (omega (arith, k.low)) k.few,
    )

-- ---- section headers

-- a section's header, where it is asked for
there : (bytes : List ℕ) (p : Places) (es : List EntryValue) (firsts ks : List ℕ) (at : ℕ) (hs : List SectionHeader) → Known bytes p es firsts ks at hs → (i : ℕ) (h : SectionHeader) → i < length hs → get_or hs i h ≡ h → HasHeader bytes (header_at bytes i) h
there bytes p es firsts ks at hs k i h lt is = has_header bytes k.parts.front [] hs i (header_at bytes i) h k.parts.headers lt is (omega (arith, k.shoff, k.parts.headers_place))

pub null_good : (bytes : List ℕ) (p : Places) (es : List EntryValue) (firsts ks : List ℕ) (at : ℕ) (hs : List SectionHeader) → Known bytes p es firsts ks at hs → 0 < length hs → get_or hs 0 first ≡ first → first_refused bytes (null_header bytes (headers_at bytes)) ≡ None
null_good bytes p es firsts ks at hs k lt is = null_header_good bytes (headers_at bytes) (has_header bytes k.parts.front [] hs 0 (headers_at bytes) first k.parts.headers lt is (omega (arith, k.shoff, k.parts.headers_place)))

-- section i is where its header says, and the header's fields are as asked
pub record IsFound (bytes : List ℕ) (i : ℕ) (h : SectionHeader) (fits : ℕ → Bool) : Type 0 where
  pub offset : offset_of bytes i ≡ h.place.offset
  pub size : size_of bytes i ≡ h.place.size
  pub fields : first_refused bytes (header_fields bytes h.kind fits (header_at bytes i)) ≡ None
  pub within : h.place.offset + h.place.size ≤ length bytes
  pub name : h.name < 2 ^ 32 → number_at bytes (header_at bytes i) 4 ≡ h.name

pub find : (bytes : List ℕ) (p : Places) (es : List EntryValue) (firsts ks : List ℕ) (at : ℕ) (hs : List SectionHeader) → Known bytes p es firsts ks at hs
    → (i : ℕ) (h : SectionHeader) (fits : ℕ → Bool) → i < length hs → get_or hs i h ≡ h → IsKind h.kind → h.place.offset + h.place.size ≤ at → fits h.place.size ≡ true → IsFound bytes i h fits
find bytes p es firsts ks at hs k i h fits lt is kind low allowed =
    let header = there bytes p es firsts ks at hs k i h lt is in
    record {
      offset = offset_is bytes (header_at bytes i) h header (omega (arith, k.low, low));
      size = size_is bytes (header_at bytes i) h header (omega (arith, k.low, low));
      fields = section_header_good bytes (header_at bytes i) h fits header kind (omega (arith, k.low, low)) (omega (arith, k.low, low)) allowed;
      within = omega (arith, k.parts.ends, low);
      name = name_is bytes (header_at bytes i) h header;
    }

text_kind : IsKind text
text_kind = record { kind_fits = omega arith; flags_fit = omega arith; link_fits = omega arith; info_fits = omega arith; align_fits = omega arith; entry_fits = omega arith }

strtab_kind : IsKind strtab
strtab_kind = record { kind_fits = omega arith; flags_fit = omega arith; link_fits = omega arith; info_fits = omega arith; align_fits = omega arith; entry_fits = omega arith }

-- sections 1 to 4, of which the symbols are of some kind and size
pub record Found (bytes : List ℕ) (p : Places) (kind : SectionKind) (fits : ℕ → Bool) : Type 0 where
  pub code : IsFound bytes 1 (record { kind = text; name = 1; place = p.code }) (is_size text)
  pub symbols : IsFound bytes 2 (record { kind = kind; name = 7; place = p.symbols }) fits
  pub names : IsFound bytes 3 (record { kind = strtab; name = 15; place = p.names }) (is_size strtab)
  pub section_names : IsFound bytes 4 (record { kind = strtab; name = 23; place = p.section_names }) (is_size strtab)

pub found : (bytes : List ℕ) (p : Places) (es : List EntryValue) (firsts ks : List ℕ) (at : ℕ) (kind : SectionKind) (fits : ℕ → Bool) (more : List SectionHeader) → Known bytes p es firsts ks at (headers_of kind p ++ more)
    → IsKind kind → fits p.symbols.size ≡ true → Found bytes p kind fits
found bytes p es firsts ks at kind fits more k is allowed =
    let hs : List SectionHeader = headers_of kind p ++ more in
    let s = k.places in
    let count : length hs ≡ 5 + length more = length-append (headers_of kind p) more in
    let low_3 : p.names.offset + p.names.size ≤ at = omega (arith, k.ends, s.names_have, s.section_names_at) in
    let low_2 : p.symbols.offset + p.symbols.size ≤ at = omega (arith, low_3, s.symbols_have, s.names_at) in
    let low_1 : p.code.offset + p.code.size ≤ at = omega (arith, low_2, s.code_at, s.code_has, s.symbols_at) in
    record {
      code = find bytes p es firsts ks at hs k 1 _ (is_size text) (omega (arith, count)) refl text_kind low_1 (lt-ltb p.code.size (2 ^ 32) (omega (arith, low_1, k.low)));
      symbols = find bytes p es firsts ks at hs k 2 _ fits (omega (arith, count)) refl is low_2 allowed;
      names = find bytes p es firsts ks at hs k 3 _ (is_size strtab) (omega (arith, count)) refl strtab_kind low_3 (lt-ltb p.names.size (2 ^ 32) (omega (arith, low_3, k.low)));
      section_names = find bytes p es firsts ks at hs k 4 _ (is_size strtab) (omega (arith, count)) refl strtab_kind k.ends (lt-ltb p.section_names.size (2 ^ 32) (omega (arith, k.ends, k.low)));
    }

-- the fields of the five headers are as asked
pub headers_found : (bytes : List ℕ) (p : Places) (kind : SectionKind) (fits : ℕ → Bool) (more : List Field) → Found bytes p kind fits → first_refused bytes (null_header bytes (headers_at bytes)) ≡ None → first_refused bytes more ≡ None
    → first_refused bytes (null_header bytes (headers_at bytes) ++ (section_header bytes text (header_at bytes 1) ++ (header_fields bytes kind fits (header_at bytes 2) ++ (section_header bytes strtab (header_at bytes 3) ++ (section_header bytes strtab (header_at bytes 4) ++ more))))) ≡ None
unfolding section_header
headers_found bytes p kind fits more f null rest =
    let h1 = section_header bytes text (header_at bytes 1) in
    let h2 = header_fields bytes kind fits (header_at bytes 2) in
    let h3 = section_header bytes strtab (header_at bytes 3) in
    let h4 = section_header bytes strtab (header_at bytes 4) in
    let g4 = both_good bytes h4 more f.section_names.fields rest in
    let g3 = both_good bytes h3 (h4 ++ more) f.names.fields g4 in
    let g2 = both_good bytes h2 (h3 ++ (h4 ++ more)) f.symbols.fields g3 in
    both_good bytes (null_header bytes (headers_at bytes)) (h1 ++ (h2 ++ (h3 ++ (h4 ++ more)))) null (both_good bytes h1 (h2 ++ (h3 ++ (h4 ++ more))) f.code.fields g2)

-- ---- the contents

pub inside : (bytes : List ℕ) (offset size o s : ℕ) → offset ≡ o → size ≡ s → o + s ≤ length bytes → refused bytes (free offset size) ≡ None
inside bytes offset size o s a b le = good bytes (free offset size) (omega arith) refl

pub zeros_again : (bytes front s back : List ℕ) (at place : ℕ) → bytes ≡ front ++ ((replicate 24 0 ++ s) ++ back) → place ≡ length front → at ≡ place → refused bytes (zeros bytes at 24) ≡ None
zeros_again bytes front s back at place e p a =
    let z : List ℕ = replicate 24 0 in
    let whole : bytes ≡ front ++ (z ++ (s ++ back)) = e ∙ ap (λ t. front ++ t) (append_assoc z s back) in
    let read : part bytes at 24 ≡ z = part_here bytes front z (s ++ back) at 24 whole (a ∙ p) refl in
    good bytes (zeros bytes at 24) (omega (arith, ap length whole, length-append front (z ++ (s ++ back)), length-append z (s ++ back))) (ap (list_all (λ b. b == 0)) read)

-- ---- the symbols

pub part_is : (bytes : List ℕ) (offset size o s : ℕ) (xs : List ℕ) → offset ≡ o → size ≡ s → part bytes o s ≡ xs → part bytes offset size ≡ xs
part_is bytes offset size o s xs a b e = ap (λ n. part bytes n size) a ∙ ap (part bytes o) b ∙ e

pub stands : (bytes : List ℕ) (p : Places) (es : List EntryValue) (firsts ks : List ℕ) (at : ℕ) (kind : SectionKind) (fits : ℕ → Bool) (hs : List SectionHeader) → Known bytes p es firsts ks at hs → Found bytes p kind fits
    → Stands bytes (offset_of bytes 2 + length firsts) 1 0 es
stands bytes p es firsts ks at kind fits hs k f =
    let s : List ℕ = symbols_from 1 0 es in
    let code : contents bytes 1 ≡ code_part es = part_is bytes (offset_of bytes 1) (size_of bytes 1) p.code.offset p.code.size (code_part es) f.code.offset f.code.size k.parts.code in
    let names : contents bytes 3 ≡ name_part es = part_is bytes (offset_of bytes 3) (size_of bytes 3) p.names.offset p.names.size (name_part es) f.names.offset f.names.size k.parts.names in
    record {
      front = k.parts.symbols_front ++ firsts;
      back = k.parts.symbols_back;
      whole = k.parts.symbols ∙ ap (λ t. k.parts.symbols_front ++ t) (append_assoc firsts s k.parts.symbols_back) ∙ sym (append_assoc k.parts.symbols_front firsts (s ++ k.parts.symbols_back));
      place = omega (arith, f.symbols.offset, k.parts.symbols_place, length-append k.parts.symbols_front firsts);
      names_front = 0 ∷ [];
      names_whole = names;
      names_place = refl;
      names_few = omega (arith, ap length names, k.small.names);
      code_front = [];
      code_whole = code;
      code_place = refl;
      code_few = omega (arith, ap length code, k.small.code);
      code_size = f.code.size ∙ k.places.code_has ∙ ap length (sym code);
    }
