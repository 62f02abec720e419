-- Parts whose bytes are all mapped.
use Rattle.std.specs.Prelude.{ℕ, ◌+◌, ◌≤◌, ◌<◌, ◌^◌, List, length}
use Rattle.std.specs.List.{AllByRecursion}
use Rattle.orc_bits.specs.declared.parts.Part.{Part}
use Rattle.orc_bits.specs.Memory.{Memory, IsMapped}

pub record IsMappedPart (mem : Memory) (p : Part) : Type 0 where
  pub low : p.at + length p.bytes ≤ 2 ^ 64
  pub mapped : (i : ℕ) → i < length p.bytes → IsMapped mem (p.at + i)

abbrev pub AreMapped : Memory → List Part → Type 0
AreMapped mem ps = AllByRecursion (IsMappedPart mem) ps
