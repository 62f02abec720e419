-- Extents that are gathered from parts, and sorted.
use Rattle.std.proofs.Common.{◌≡◌, ℕ, zero, suc, ◌+◌, ◌<◌, List, [], ◌∷◌, ◌++◌, length, get_or, take, sym, ap, ◌∙◌, subst, arith}
use Rattle.std.specs.List.{sum_by, All}
use Rattle.std.specs.List.Sorted.{IsPermutation}
use Rattle.std.proofs.lemmas.List.{length-map, map-append}
use Rattle.std.proofs.lemmas.List.Elements.{All-push}
use Rattle.std.proofs.lemmas.List.Sums.{sum_by_push, sum_by_more}
use Rattle.std.proofs.lemmas.List.Sorted.{IsPermutation-map, All-permutation, sum_by-IsPermutation}
use Rattle.orc_bits.specs.declared.parts.Part.{Part}
use Rattle.orc_bits.specs.Parts.{Span, span, span_at, no_span, layout}
use Rattle.orc_bits.proofs.PartLaws.{span_there}
use Rattle.orc_memory.specs.declared.extents.Extent.{Extent}
use Rattle.orc_memory.specs.Extents.{span_of, spans, IsExtent, AreExtents}

-- the same total of whatever is counted of spans that aren't empty, so far as the parts before a place go
abbrev pub AlikeBelow : List Part → List Extent → ℕ → Type 0
AlikeBelow ps es k = (f : Span → ℕ) → ((s : Span) → s.count ≡ 0 → f s ≡ 0) → sum_by f (spans es) ≡ sum_by f (take k (layout ps))

-- a part at a place
pub record Placed (ps : List Part) (k : ℕ) (p : Part) : Type 0 where
  pub inside : k < length ps
  pub is : p ≡ get_or ps k p

there : (ps : List Part) (k : ℕ) (p : Part) → Placed ps k p → span_at (layout ps) k ≡ span p
there ps k p h = span_there ps k p h.inside h.is

total_more : (ps : List Part) (k : ℕ) (p : Part) (f : Span → ℕ) → Placed ps k p → sum_by f (take (k + 1) (layout ps)) ≡ sum_by f (take k (layout ps)) + f (span p)
total_more ps k p f h =
    sum_by_more f (layout ps) k no_span (omega (arith, h.inside, length-map ps span)) ∙ ap (λ s. sum_by f (take k (layout ps)) + f s) (there ps k p h)

pub each_more : (ps : List Part) (es : List Extent) (k : ℕ) (p : Part) (e : Extent) → Placed ps k p → e ≡ record { at = p.at; count = length p.bytes; place = k } → 0 < length p.bytes → All (IsExtent (layout ps)) es → All (IsExtent (layout ps)) (es ++ e ∷ [])
each_more ps es k p e h is some all =
    let here : IsExtent (layout ps) (record { at = p.at; count = length p.bytes; place = k }) = (omega (arith, h.inside, length-map ps span), there ps k p h, some) in
    All-push (IsExtent (layout ps)) es e all (subst (IsExtent (layout ps)) (sym is) here)

pub alike_more : (ps : List Part) (es : List Extent) (k : ℕ) (p : Part) (e : Extent) → Placed ps k p → e ≡ record { at = p.at; count = length p.bytes; place = k } → AlikeBelow ps es k → AlikeBelow ps (es ++ e ∷ []) (k + 1)
alike_more ps es k p e h is before f z =
    ap (sum_by f) (map-append span_of es (e ∷ []))
    ∙ sum_by_push f (spans es) (span_of e)
    ∙ ap (λ n. n + f (span_of e)) (before f z)
    ∙ ap (λ x. sum_by f (take k (layout ps)) + f (span_of x)) is
    ∙ sym (total_more ps k p f h)

pub alike_skipped : (ps : List Part) (es : List Extent) (k : ℕ) (p : Part) → Placed ps k p → length p.bytes ≡ 0 → AlikeBelow ps es k → AlikeBelow ps es (k + 1)
alike_skipped ps es k p h none before f z = omega (arith, before f z, total_more ps k p f h, z (span p) none)

pub sorted_too : (ss : List Span) (es fs : List Extent) → IsPermutation es fs → AreExtents ss es → AreExtents ss fs
sorted_too ss es fs perm h = record {
  each = All-permutation (IsExtent ss) es fs perm h.each;
  alike = λ f z. sum_by-IsPermutation f (spans es) (spans fs) (IsPermutation-map span_of es fs perm) ∙ h.alike f z;
}
