-- Parts of a memory: bytes at addresses, and the memory that has them.
use Rattle.std.specs.Prelude.{◌≡◌, ℕ, zero, suc, ◌+◌, ◌-◌, ◌<◌, ◌≤◌, ◌&&◌, Bool, true, false, nat_le, nat_lt, List, [], ◌∷◌, Option, Some, None, if◌then◌else◌, length, map, slice_index, slice_index_or}
use Rattle.orc_bits.specs.Memory.{Memory}
use Rattle.orc_bits.specs.declared.parts.Part.{Part}

-- where a part lies: its address, and its number of bytes
pub record Span : Type 0 where
  pub at : ℕ
  pub count : ℕ

abbrev pub span : Part → Span
span p = record { at = p.at; count = length p.bytes }

abbrev pub layout : List Part → List Span
layout ps = map span ps

abbrev pub covers : Span → ℕ → Bool
covers s a = nat_le s.at a && nat_lt a (s.at + s.count)

-- byte i of a part stands at its address plus i
abbrev pub memory_of : List Part → Memory
memory_of [] a = None
memory_of (p ∷ ps) a = if covers (span p) a then Some (slice_index p.bytes (a - p.at)) else memory_of ps a

abbrev pub Covers : Span → ℕ → Type 0
Covers s a = (s.at ≤ a) × (a < s.at + s.count)

-- some address is in both
abbrev pub Meets : Span → Span → Type 0
Meets s t = (a : ℕ) × Covers s a × Covers t a

abbrev pub no_span : Span
no_span = record { at = 0; count = 0 }

abbrev pub span_at : List Span → ℕ → Span
span_at ss i = slice_index_or ss i no_span

-- two of them share an address
abbrev pub Overlaps : List Span → Type 0
Overlaps ss = (i : ℕ) × (j : ℕ) × (i < j) × Meets (span_at ss i) (span_at ss j)

-- the part at place k is the first that covers the address
abbrev pub IsFirst : List Part → ℕ → ℕ → Type 0
IsFirst [] k a = ⊥
IsFirst (p ∷ ps) zero a = covers (span p) a ≡ true
IsFirst (p ∷ ps) (suc k) a = (covers (span p) a ≡ false) × IsFirst ps k a

-- what a search for it says
abbrev pub Finds : List Part → ℕ → Option ℕ → Type 0
Finds ps a None = memory_of ps a ≡ None
Finds ps a (Some k) = IsFirst ps k a
