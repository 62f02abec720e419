-- The headers of a written object hold what is asked of them.
use Rattle.std.proofs.Common.{◌≡◌, ℕ, zero, suc, ◌+◌, ◌*◌, ◌-◌, ◌^◌, ◌<◌, ◌≤◌, Bool, true, List, [], ◌∷◌, ◌++◌, length, get_or, None, refl, sym, ap, ◌∙◌, append_assoc, arith, length-append}
use Rattle.orc_elf.specs.declared.section.SectionKind.{SectionKind}
use Rattle.orc_elf.specs.declared.section.SectionHeader.{SectionHeader}
use Rattle.orc_elf.specs.Sections.{null}
use Rattle.orc_elf.specs.Fields.{number_at, zeros, free, first_refused, identification, file_kind, file_sizes, null_header, header_fields}
use Rattle.orc_elf.specs.Layout.{file_header, header_bytes, headers_part}
use Rattle.orc_elf.proofs.Sizes.{file_header_size, header_size}
use Rattle.orc_elf.proofs.Offsets.{number_2, number_4, number_8, number_after, number_here, good, exact_good, up_to_good}

-- ---- the file header

pub shoff_is : (shoff count : ℕ) (post : List ℕ) → shoff < 2 ^ 64 → number_at (file_header shoff count ++ post) 40 8 ≡ shoff
unfolding number_at file_header
shoff_is shoff count post h = number_8 shoff h

there : (shoff count n : ℕ) (post : List ℕ) → n ≤ 64 → n ≤ length (file_header shoff count ++ post)
there shoff count n post h = omega (arith, length-append (file_header shoff count) post, file_header_size shoff count)

pub identification_good : (shoff count : ℕ) (post : List ℕ) → first_refused (file_header shoff count ++ post) (identification (file_header shoff count ++ post)) ≡ None
unfolding identification number_at file_header
identification_good shoff count post =
    let b : List ℕ = file_header shoff count ++ post in
    let t : (n : ℕ) → n ≤ 64 → n ≤ length b = λ n h. there shoff count n post h in
    rw (
      exact_good b 0 4 0x464c457f (t 4 (omega arith)) refl,
      exact_good b 4 1 2 (t 5 (omega arith)) refl,
      exact_good b 5 1 1 (t 6 (omega arith)) refl,
      exact_good b 6 1 1 (t 7 (omega arith)) refl,
      good b (zeros b 7 9) (t 16 (omega arith)) refl,
    ) refl

pub file_kind_good : (shoff count : ℕ) (post : List ℕ) → first_refused (file_header shoff count ++ post) (file_kind (file_header shoff count ++ post)) ≡ None
unfolding file_kind number_at file_header
file_kind_good shoff count post =
    let b : List ℕ = file_header shoff count ++ post in
    let t : (n : ℕ) → n ≤ 64 → n ≤ length b = λ n h. there shoff count n post h in
    rw (
      exact_good b 16 2 1 (t 18 (omega arith)) refl,
      exact_good b 18 2 62 (t 20 (omega arith)) refl,
      exact_good b 20 4 1 (t 24 (omega arith)) refl,
      exact_good b 24 8 0 (t 32 (omega arith)) refl,
      exact_good b 32 8 0 (t 40 (omega arith)) refl,
    ) refl

pub file_sizes_good : (shoff count : ℕ) (post : List ℕ) → shoff < 2 ^ 32 → count < 2 ^ 16 → first_refused (file_header shoff count ++ post) (file_sizes count (file_header shoff count ++ post)) ≡ None
unfolding file_sizes number_at file_header
file_sizes_good shoff count post h few =
    let b : List ℕ = file_header shoff count ++ post in
    let t : (n : ℕ) → n ≤ 64 → n ≤ length b = λ n h. there shoff count n post h in
    rw (
      up_to_good b 40 8 (2 ^ 32 - 1) shoff (t 48 (omega arith)) (shoff_is shoff count post (omega arith)) (omega arith),
      exact_good b 48 4 0 (t 52 (omega arith)) refl,
      exact_good b 52 2 64 (t 54 (omega arith)) refl,
      exact_good b 54 2 0 (t 56 (omega arith)) refl,
      exact_good b 56 2 0 (t 58 (omega arith)) refl,
      exact_good b 58 2 64 (t 60 (omega arith)) refl,
      exact_good b 60 2 count (t 62 (omega arith)) (number_2 count few),
      exact_good b 62 2 4 (t 64 (omega arith)) refl,
    ) refl

-- ---- section headers

-- a section header that stands at an offset of the bytes
pub record HasHeader (bytes : List ℕ) (at : ℕ) (s : SectionHeader) : Type 0 where
  pub front : List ℕ
  pub back : List ℕ
  pub whole : bytes ≡ front ++ (header_bytes s ++ back)
  pub place : at ≡ length front

-- the numbers of a kind fit their fields
pub record IsKind (kind : SectionKind) : Type 0 where
  pub kind_fits : kind.kind < 2 ^ 32
  pub flags_fit : kind.flags < 2 ^ 64
  pub link_fits : kind.link < 2 ^ 32
  pub info_fits : kind.info < 2 ^ 32
  pub align_fits : kind.align < 2 ^ 64
  pub entry_fits : kind.entry_size < 2 ^ 64

-- one of the headers that stand one after the other
pub has_header : (bytes front back : List ℕ) (hs : List SectionHeader) (k at : ℕ) (h : SectionHeader) → bytes ≡ front ++ (headers_part hs ++ back) → k < length hs → get_or hs k h ≡ h → at ≡ length front + 64 * k → HasHeader bytes at h
has_header bytes front back [] k at h w lt is a = absurd (omega arith)
has_header bytes front back (x ∷ hs) zero at h w lt is a = record {
  front = front;
  back = headers_part hs ++ back;
  whole = w ∙ ap (λ t. front ++ t) (append_assoc (header_bytes x) (headers_part hs) back) ∙ ap (λ y. front ++ (header_bytes y ++ (headers_part hs ++ back))) is;
  place = omega arith;
}
has_header bytes front back (x ∷ hs) (suc k) at h w lt is a =
    let whole : bytes ≡ (front ++ header_bytes x) ++ (headers_part hs ++ back) = w ∙ ap (λ t. front ++ t) (append_assoc (header_bytes x) (headers_part hs) back) ∙ sym (append_assoc front (header_bytes x) (headers_part hs ++ back)) in
    has_header bytes (front ++ header_bytes x) back hs k at h whole (omega arith) is (omega (arith, length-append front (header_bytes x), header_size x))

long : (bytes : List ℕ) (at : ℕ) (s : SectionHeader) → HasHeader bytes at s → at + 64 ≤ length bytes
long bytes at s h =
    let header = header_bytes s in
    omega (arith, h.place, ap length h.whole, length-append h.front (header ++ h.back), length-append header h.back, header_size s)

pub offset_is : (bytes : List ℕ) (at : ℕ) (s : SectionHeader) → HasHeader bytes at s → s.place.offset < 2 ^ 64 → number_at bytes (at + 24) 8 ≡ s.place.offset
unfolding number_at header_bytes
offset_is bytes at s h lt = number_after bytes h.front (header_bytes s ++ h.back) at 24 8 h.whole h.place ∙ number_8 s.place.offset lt

pub size_is : (bytes : List ℕ) (at : ℕ) (s : SectionHeader) → HasHeader bytes at s → s.place.size < 2 ^ 64 → number_at bytes (at + 32) 8 ≡ s.place.size
unfolding number_at header_bytes
size_is bytes at s h lt = number_after bytes h.front (header_bytes s ++ h.back) at 32 8 h.whole h.place ∙ number_8 s.place.size lt

pub name_is : (bytes : List ℕ) (at : ℕ) (s : SectionHeader) → HasHeader bytes at s → s.name < 2 ^ 32 → number_at bytes at 4 ≡ s.name
unfolding number_at header_bytes
name_is bytes at s h lt = number_here bytes h.front (header_bytes s ++ h.back) at 4 h.whole h.place ∙ number_4 s.name lt

pub section_header_good : (bytes : List ℕ) (at : ℕ) (s : SectionHeader) (fits : ℕ → Bool) → HasHeader bytes at s → IsKind s.kind → s.place.offset < 2 ^ 32 → s.place.size < 2 ^ 32 → fits s.place.size ≡ true
    → first_refused bytes (header_fields bytes s.kind fits at) ≡ None
unfolding number_at header_bytes
section_header_good bytes at s fits h k o few allowed =
    let more : List ℕ = header_bytes s ++ h.back in
    let l : at + 64 ≤ length bytes = long bytes at s h in
    let n : (i m : ℕ) → number_at bytes (at + i) m ≡ number_at more i m = λ i m. number_after bytes h.front more at i m h.whole h.place in
    let has : fits (number_at bytes (at + 32) 8) ≡ true = ap fits (size_is bytes at s h (omega arith)) ∙ allowed in
    rw (
      good bytes (free at 4) (omega arith) refl,
      exact_good bytes (at + 4) 4 s.kind.kind (omega arith) (n 4 4 ∙ number_4 s.kind.kind k.kind_fits),
      exact_good bytes (at + 8) 8 s.kind.flags (omega arith) (n 8 8 ∙ number_8 s.kind.flags k.flags_fit),
      exact_good bytes (at + 16) 8 0 (omega arith) (n 16 8),
      up_to_good bytes (at + 24) 8 (2 ^ 32 - 1) s.place.offset (omega arith) (offset_is bytes at s h (omega arith)) (omega arith),
      good bytes (record { at = at + 32; size = 8; allowed = fits (number_at bytes (at + 32) 8) }) (omega arith) has,
      exact_good bytes (at + 40) 4 s.kind.link (omega arith) (n 40 4 ∙ number_4 s.kind.link k.link_fits),
      exact_good bytes (at + 44) 4 s.kind.info (omega arith) (n 44 4 ∙ number_4 s.kind.info k.info_fits),
      exact_good bytes (at + 48) 8 s.kind.align (omega arith) (n 48 8 ∙ number_8 s.kind.align k.align_fits),
      exact_good bytes (at + 56) 8 s.kind.entry_size (omega arith) (n 56 8 ∙ number_8 s.kind.entry_size k.entry_fits),
    ) refl

-- the header of section 0
abbrev pub first : SectionHeader
first = record { kind = null; name = 0; place = record { offset = 0; size = 0 } }

pub null_header_good : (bytes : List ℕ) (at : ℕ) → HasHeader bytes at first → first_refused bytes (null_header bytes at) ≡ None
unfolding null_header number_at header_bytes
null_header_good bytes at h =
    let more : List ℕ = header_bytes first ++ h.back in
    let l : at + 64 ≤ length bytes = long bytes at first h in
    let n : (i m : ℕ) → number_at bytes (at + i) m ≡ number_at more i m = λ i m. number_after bytes h.front more at i m h.whole h.place in
    rw (
      exact_good bytes at 4 0 (omega arith) (number_here bytes h.front more at 4 h.whole h.place),
      exact_good bytes (at + 4) 4 0 (omega arith) (n 4 4),
      exact_good bytes (at + 8) 8 0 (omega arith) (n 8 8),
      exact_good bytes (at + 16) 8 0 (omega arith) (n 16 8),
      exact_good bytes (at + 24) 8 0 (omega arith) (n 24 8),
      exact_good bytes (at + 32) 8 0 (omega arith) (n 32 8),
      exact_good bytes (at + 40) 4 0 (omega arith) (n 40 4),
      exact_good bytes (at + 44) 4 0 (omega arith) (n 44 4),
      exact_good bytes (at + 48) 8 0 (omega arith) (n 48 8),
      exact_good bytes (at + 56) 8 0 (omega arith) (n 56 8),
    ) refl
