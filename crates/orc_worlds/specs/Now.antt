-- Parts with their bytes as a memory has them.
use Rattle.std.specs.Prelude.{◌≡◌, ℕ, ◌+◌, ◌<◌, List, length, Some, slice_index}
use Rattle.std.specs.List.{AllByRecursion}
use Rattle.orc_bits.specs.declared.parts.Part.{Part}
use Rattle.orc_bits.specs.Memory.{Memory}
use Rattle.orc_bits.specs.Parts.{layout}

-- a segment's bytes are those of the memory
abbrev pub IsPartOf : Memory → Part → Type 0
IsPartOf mem p = (i : ℕ) → i < length p.bytes → mem (p.at + i) ≡ Some (slice_index p.bytes i)

-- the segments, in order, with their bytes as the memory has them
pub record AreNow (mem : Memory) (before after : List Part) : Type 0 where
  pub lie : layout after ≡ layout before
  pub have : AllByRecursion (IsPartOf mem) after
