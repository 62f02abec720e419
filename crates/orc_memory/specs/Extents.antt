-- Parts in the order of their addresses.
use Rattle.std.specs.Prelude.{◌≡◌, ℕ, ◌+◌, ◌<◌, ◌≤◌, ◌^◌, List, length, map, sum_by, All}
use Rattle.orc_bits.specs.Parts.{Span, span_at}
use Rattle.orc_memory.specs.declared.extents.Extent.{Extent}

abbrev pub span_of : Extent → Span
span_of e = record { at = e.at; count = e.count }

abbrev pub spans : List Extent → List Span
spans es = map span_of es

-- each ends where a later one begins, or before it
abbrev pub AreApart : List Span → Type 0
AreApart ss = (i j : ℕ) → i < j → j < length ss → (span_at ss i).at + (span_at ss i).count ≤ (span_at ss j).at

-- the extent says where the part at its place lies, which has a byte
abbrev pub IsExtent : List Span → Extent → Type 0
IsExtent ss e = (e.place < length ss) × (span_at ss e.place ≡ span_of e) × (0 < e.count)

-- the same total of whatever is counted of spans that aren't empty
abbrev pub CountsAlike : List Span → List Span → Type 0
CountsAlike ss ts = (f : Span → ℕ) → ((s : Span) → s.count ≡ 0 → f s ≡ 0) → sum_by f ss ≡ sum_by f ts

-- the extents of the parts that have bytes, in any order
pub record AreExtents (ss : List Span) (es : List Extent) : Type 0 where
  pub each : All (IsExtent ss) es
  pub alike : CountsAlike (spans es) ss

-- the same, sorted, where no two parts share an address
pub record IsIndex (ss : List Span) (es : List Extent) : Type 0 where
  pub extents : AreExtents ss es
  pub apart : AreApart (spans es)

-- the span at place k has n bytes from the address on, side by side, from its byte `first` on, and none passes the last address
pub record IsSpot (ss : List Span) (a n k first : ℕ) : Type 0 where
  pub within : k < length ss
  pub low : a + n ≤ 2 ^ 64
  pub at : (span_at ss k).at + first ≡ a
  pub high : first + n ≤ (span_at ss k).count
