use Rattle.std.proofs.Common.{◌≡◌, ℕ, take}
use Rattle.std.specs.List.{sum_by, All}
use Rattle.orc_bits.specs.Parts.{Span, layout}
use Rattle.orc_memory.specs.Extents.{spans, IsExtent}
use Rattle.orc_memory.proofs.extents.gather.Given as goal

abbrev pub invariant-loop-place : goal.invariant-loop-place
invariant-loop-place l = record {
  each : All (IsExtent (layout l.parts)) l.extents.items;
  alike : (f : Span → ℕ) → ((s : Span) → s.count ≡ 0 → f s ≡ 0) → sum_by f (spans l.extents.items) ≡ sum_by f (take l.place (layout l.parts));
}
