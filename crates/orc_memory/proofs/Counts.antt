-- How many spans have an address, as a sum over the spans: it doesn't depend on their order.
use Rattle.std.proofs.Common.{◌≡◌, ℕ, zero, suc, ◌+◌, ◌-◌, ◌<◌, ◌≤◌, ◌⊎◌, inl, inr, Bool, true, false, if◌then◌else◌, List, [], ◌∷◌, length, get_or, Option, Some, None, refl, sym, ap, ◌∙◌, subst, arith}
use Rattle.std.specs.List.{sum_by}
use Rattle.std.proofs.lemmas.Bool.{cases_lt}
use Rattle.std.proofs.lemmas.List.Sums.{sum_by-cons}
use Rattle.orc_bits.specs.declared.parts.Part.{Part}
use Rattle.orc_bits.specs.Parts.{Span, span, span_at, no_span, layout, covers, memory_of, Covers, Overlaps, IsFirst}
use Rattle.orc_bits.proofs.PartLaws.{covers_is, is_covers}
use Rattle.orc_memory.specs.Extents.{CountsAlike, AreApart}

-- 1 for a span that has the address
abbrev pub one_at : ℕ → Span → ℕ
one_at a s = if covers s a then 1 else 0

abbrev pub count : ℕ → List Span → ℕ
count a ss = sum_by (one_at a) ss

-- ---- empty spans count nothing

pub not_covers : (s : Span) (a : ℕ) → (Covers s a → ⊥) → covers s a ≡ false
not_covers s a h = go (covers s a) refl
  where
    go : (t : Bool) → covers s a ≡ t → covers s a ≡ false
    go true e = absurd (h (covers_is s a e))
    go false e = e

no_count : (a : ℕ) (s : Span) → s.count ≡ 0 → one_at a s ≡ 0
no_count a s e = ap (λ t. if t then 1 else 0) (not_covers s a (λ c. omega (arith, e, c)))

pub counts_same : (ss ts : List Span) (a : ℕ) → CountsAlike ss ts → count a ss ≡ count a ts
counts_same ss ts a h = h (one_at a) (no_count a)

-- ---- spans that have an address

one_there : (ss : List Span) (a j : ℕ) → Covers (span_at ss j) a → 1 ≤ count a ss
one_there [] a j c = absurd (let z : Covers no_span a = c in omega (arith, z))
one_there (s ∷ ss) a zero c =
    let z : one_at a s ≡ 1 = ap (λ t. if t then 1 else 0) (is_covers s a c) in
    omega (arith, z, sum_by-cons (one_at a) s ss)
one_there (s ∷ ss) a (suc j) c = omega (arith, one_there ss a j c, sum_by-cons (one_at a) s ss)

two_there : (ss : List Span) (a i j : ℕ) → i < j → Covers (span_at ss i) a → Covers (span_at ss j) a → 2 ≤ count a ss
two_there [] a i j l c d = absurd (let z : Covers no_span a = c in omega (arith, z))
two_there (s ∷ ss) a i zero l c d = absurd (omega (arith, l))
two_there (s ∷ ss) a zero (suc j) l c d =
    let z : one_at a s ≡ 1 = ap (λ t. if t then 1 else 0) (is_covers s a c) in
    omega (arith, z, one_there ss a j d, sum_by-cons (one_at a) s ss)
two_there (s ∷ ss) a (suc i) (suc j) l c d = omega (arith, two_there ss a i j (omega (arith, l)) c d, sum_by-cons (one_at a) s ss)

one_found : (ss : List Span) (a : ℕ) → 1 ≤ count a ss → (j : ℕ) × (j < length ss) × Covers (span_at ss j) a
one_found [] a h = absurd (omega (arith, h))
one_found (s ∷ ss) a h = go (covers s a) refl (one_found ss a)
  where
    go : (t : Bool) → covers s a ≡ t → (1 ≤ count a ss → (j : ℕ) × (j < length ss) × Covers (span_at ss j) a) → (j : ℕ) × (j < suc (length ss)) × Covers (span_at (s ∷ ss) j) a
    go true c more = (0, omega arith, covers_is s a c)
    go false c more =
        let z : one_at a s ≡ 0 = ap (λ t. if t then 1 else 0) c in
        let r = more (omega (arith, h, z, sum_by-cons (one_at a) s ss)) in
        (suc r.0, omega (arith, r.1), r.2)

-- the places of two spans that have the address
record Two (ss : List Span) (a : ℕ) : Type 0 where
  i : ℕ
  j : ℕ
  before : i < j
  within : j < length ss
  one : Covers (span_at ss i) a
  two : Covers (span_at ss j) a

two_found : (ss : List Span) (a : ℕ) → 2 ≤ count a ss → Two ss a
two_found [] a h = absurd (omega (arith, h))
two_found (s ∷ ss) a h = go (covers s a) refl (two_found ss a)
  where
    go : (t : Bool) → covers s a ≡ t → (2 ≤ count a ss → Two ss a) → Two (s ∷ ss) a
    go true c more =
        let z : one_at a s ≡ 1 = ap (λ t. if t then 1 else 0) c in
        let r = one_found ss a (omega (arith, h, z, sum_by-cons (one_at a) s ss)) in
        record { i = 0; j = suc r.0; before = omega arith; within = omega (arith, r.1); one = covers_is s a c; two = r.2 }
    go false c more =
        let z : one_at a s ≡ 0 = ap (λ t. if t then 1 else 0) c in
        let r = more (omega (arith, h, z, sum_by-cons (one_at a) s ss)) in
        record { i = suc r.i; j = suc r.j; before = omega (arith, r.before); within = omega (arith, r.within); one = r.one; two = r.two }

overlaps_counted : (ss : List Span) (o : Overlaps ss) → 2 ≤ count o.3.0 ss
overlaps_counted ss o = two_there ss o.3.0 o.0 o.1 o.2 o.3.1 o.3.2

counted_overlaps : (ss : List Span) (a : ℕ) → 2 ≤ count a ss → Overlaps ss
counted_overlaps ss a h = let t = two_found ss a h in (t.i, t.j, t.before, (a, t.one, t.two))

-- of spans that are apart at most one has an address
pub apart_counted : (ss : List Span) → AreApart ss → (a : ℕ) → count a ss ≤ 1
apart_counted ss h a = go (cases_lt (count a ss) 2)
  where
    go : (count a ss < 2) ⊎ (2 ≤ count a ss) → count a ss ≤ 1
    go (inl l) = omega (arith, l)
    go (inr m) =
        let t = two_found ss a m in
        let d = h t.i t.j t.before t.within in
        absurd (omega (arith, d, t.one, t.two))

-- of no span that has it there is no count
pub none_counted : (ss : List Span) (a : ℕ) → ((j : ℕ) → j < length ss → Covers (span_at ss j) a → ⊥) → count a ss ≡ 0
none_counted ss a h = go (cases_lt (count a ss) 1)
  where
    go : (count a ss < 1) ⊎ (1 ≤ count a ss) → count a ss ≡ 0
    go (inl l) = omega (arith, l)
    go (inr m) = let r = one_found ss a m in absurd (h r.0 r.1 r.2)

-- ---- what spans of the same counts tell of each other

pub overlaps_too : (ss ts : List Span) → CountsAlike ss ts → Overlaps ss → Overlaps ts
overlaps_too ss ts h o = counted_overlaps ts o.3.0 (subst (λ n. 2 ≤ n) (counts_same ss ts o.3.0 h) (overlaps_counted ss o))

pub none_overlaps : (ss ts : List Span) → CountsAlike ss ts → AreApart ss → Overlaps ts → ⊥
none_overlaps ss ts h apart o =
    let two = overlaps_counted ts o in
    let c = counts_same ss ts o.3.0 h in
    let f = apart_counted ss apart o.3.0 in
    omega (arith, two, c, f)

-- ---- what the count tells of the memory

pub none_mapped : (ps : List Part) (a : ℕ) → count a (layout ps) ≡ 0 → memory_of ps a ≡ None
none_mapped [] a e = refl
none_mapped (p ∷ ps) a e = go (covers (span p) a) refl (none_mapped ps a)
  where
    sums : count a (layout (p ∷ ps)) ≡ one_at a (span p) + count a (layout ps)
    sums = sum_by-cons (one_at a) (span p) (layout ps)

    go : (t : Bool) → covers (span p) a ≡ t → (count a (layout ps) ≡ 0 → memory_of ps a ≡ None) → memory_of (p ∷ ps) a ≡ None
    go true c more = absurd (let z : one_at a (span p) ≡ 1 = ap (λ t. if t then 1 else 0) c in omega (arith, e, z, sums))
    go false c more = ap (λ t. if t then Some (get_or p.bytes (a - p.at) 0) else memory_of ps a) c ∙ more (omega (arith, e, sums))

-- the only part that has an address is the first
pub only_first : (ps : List Part) (a k : ℕ) → count a (layout ps) ≤ 1 → Covers (span_at (layout ps) k) a → IsFirst ps k a
only_first [] a k h c = absurd (let z : Covers no_span a = c in omega (arith, z))
only_first (p ∷ ps) a zero h c = is_covers (span p) a c
only_first (p ∷ ps) a (suc k) h c =
    let one = one_there (layout ps) a k c in
    let sums = sum_by-cons (one_at a) (span p) (layout ps) in
    let none : covers (span p) a ≡ false = not_covers (span p) a (λ d. let z : one_at a (span p) ≡ 1 = ap (λ t. if t then 1 else 0) (is_covers (span p) a d) in omega (arith, h, one, sums, z)) in
    (none, only_first ps a k (omega (arith, h, sums)) c)
