-- Extents in order: those that begin at an address or before it, and the one that has its byte.
use Rattle.std.proofs.Common.{◌≡◌, ◌≢◌, ℕ, zero, suc, ◌+◌, ◌-◌, ◌<◌, ◌≤◌, inl, inr, Bool, true, false, leb, List, [], ◌∷◌, length, get_or, None, refl, sym, ap, ◌∙◌, subst, arith}
use Rattle.std.specs.List.{All}
use Rattle.std.specs.List.Sorted.{IsNonDecreasingBy, IsPartitionPoint}
use Rattle.std.proofs.lemmas.Bool.{cases_eq, cases_lt, leb-true, leb-false}
use Rattle.std.proofs.lemmas.List.{get_or-map, get_or_default, length-map}
use Rattle.std.proofs.lemmas.List.Elements.{All-get_or}
use Rattle.std.proofs.lemmas.List.Sorted.{IsNonDecreasingBy-from_default}
use Rattle.orc_bits.specs.declared.parts.Part.{Part}
use Rattle.orc_bits.specs.Parts.{Span, span_at, no_span, layout, memory_of, Covers, Overlaps, IsFirst}
use Rattle.orc_memory.specs.declared.extents.Extent.{Extent}
use Rattle.orc_memory.specs.Extents.{span_of, spans, AreApart, IsExtent, IsIndex}
use Rattle.orc_memory.proofs.Counts.{count, counts_same, apart_counted, none_counted, none_mapped, only_first}

abbrev pub no_extent : Extent
no_extent = record { at = 0; count = 0; place = 0 }

pub span_there : (es : List Extent) (i : ℕ) (d : Extent) → i < length es → span_at (spans es) i ≡ span_of (get_or es i d)
span_there es i d l = get_or-map span_of es i d no_span l

pub length_of : (es : List Extent) → length (spans es) ≡ length es
length_of es = length-map es span_of

pub in_order : (es : List Extent) → AreApart (spans es) → IsNonDecreasingBy (λ e. e.at) es
in_order es h = IsNonDecreasingBy-from_default (λ e. e.at) es no_extent go
  where
    go : (i j : ℕ) → i ≤ j → j < length es → (get_or es i no_extent).at ≤ (get_or es j no_extent).at
    go i j le l = elim (cases_lt i j) [
      | inl lt ↦ (let e = ap (λ s. s.at) (span_there es i no_extent (omega (arith, lt, l))) in
          let f = ap (λ s. s.at) (span_there es j no_extent l) in
          let a = h i j lt (omega (arith, l, length_of es)) in
          omega (arith, e, f, a))
      | inr ge ↦ (let same : i ≡ j = omega (arith, le, ge) in
          let e : (get_or es i no_extent).at ≡ (get_or es j no_extent).at = ap (λ k. (get_or es k no_extent).at) same in
          omega (arith, e))
    ]

-- ---- the part that has an address

-- what the count of extents that begin at the address or before it tells
pub record Begun (es : List Extent) (a n : ℕ) : Type 0 where
  pub within : n ≤ length es
  pub before : (j : ℕ) → j < n → (span_at (spans es) j).at ≤ a
  pub behind : (j : ℕ) → n ≤ j → j < length es → a < (span_at (spans es) j).at

nowhere : (ps : List Part) (es : List Extent) (a : ℕ) → IsIndex (layout ps) es → ((j : ℕ) → j < length es → Covers (span_at (spans es) j) a → ⊥) → memory_of ps a ≡ None
nowhere ps es a x h =
    let none = none_counted (spans es) a (λ j l c. h j (omega (arith, l, length_of es)) c) in
    none_mapped ps a (sym (counts_same (spans es) (layout ps) a x.extents.alike) ∙ none)

pub none_begun : (ps : List Part) (es : List Extent) (a n : ℕ) → IsIndex (layout ps) es → Begun es a n → n ≡ 0 → memory_of ps a ≡ None
none_begun ps es a n x b e = nowhere ps es a x (λ j l c. let d = b.behind j (omega (arith, e)) l in omega (arith, d, c))

-- the last of them
pub last_there : (es : List Extent) (a n : ℕ) (d : Extent) → Begun es a n → n ≢ 0 → span_at (spans es) (n - 1) ≡ span_of (get_or es (n - 1) d)
last_there es a n d b some = span_there es (n - 1) d (omega (arith, some, b.within))

pub last_low : (es : List Extent) (a n : ℕ) (d : Extent) → Begun es a n → n ≢ 0 → (get_or es (n - 1) d).at ≤ a
last_low es a n d b some =
    let s = ap (λ s. s.at) (last_there es a n d b some) in
    let l = b.before (n - 1) (omega (arith, some)) in
    omega (arith, s, l)

last_is : (ps : List Part) (es : List Extent) (a n : ℕ) (d : Extent) → IsIndex (layout ps) es → Begun es a n → n ≢ 0 → IsExtent (layout ps) (get_or es (n - 1) d)
last_is ps es a n d x b some = All-get_or (IsExtent (layout ps)) es (n - 1) d (omega (arith, some, b.within)) x.extents.each

pub last_within : (ps : List Part) (es : List Extent) (a n : ℕ) (d : Extent) → IsIndex (layout ps) es → Begun es a n → n ≢ 0 → (get_or es (n - 1) d).place < length (layout ps)
last_within ps es a n d x b some = (last_is ps es a n d x b some).0

pub last_has : (ps : List Part) (es : List Extent) (a n : ℕ) (d : Extent) → IsIndex (layout ps) es → Begun es a n → n ≢ 0 → a - (get_or es (n - 1) d).at < (get_or es (n - 1) d).count → IsFirst ps (get_or es (n - 1) d).place a
last_has ps es a n d x b some l =
    let e : Extent = get_or es (n - 1) d in
    let low = last_low es a n d b some in
    let c : Covers (span_of e) a = (low, omega (arith, l, low)) in
    let few = apart_counted (spans es) x.apart a in
    let same = counts_same (spans es) (layout ps) a x.extents.alike in
    only_first ps a e.place (omega (arith, few, same)) (subst (λ s. Covers s a) (sym (last_is ps es a n d x b some).1) c)

pub last_lacks : (ps : List Part) (es : List Extent) (a n : ℕ) (d : Extent) → IsIndex (layout ps) es → Begun es a n → n ≢ 0 → (get_or es (n - 1) d).count ≤ a - (get_or es (n - 1) d).at → memory_of ps a ≡ None
last_lacks ps es a n d x b some l = nowhere ps es a x no
  where
    e : Extent
    e = get_or es (n - 1) d

    there : span_at (spans es) (n - 1) ≡ span_of e
    there = last_there es a n d b some

    low : e.at ≤ a
    low = last_low es a n d b some

    here : (j : ℕ) → j ≡ n - 1 → Covers (span_at (spans es) j) a → ⊥
    here j q c = let f : Covers (span_of e) a = subst (λ s. Covers s a) (ap (span_at (spans es)) q ∙ there) c in omega (arith, f, l, low)

    no : (j : ℕ) → j < length es → Covers (span_at (spans es) j) a → ⊥
    no j m c = elim (cases_lt j (n - 1)) [
      | inl before ↦ (let f = x.apart j (n - 1) before (omega (arith, some, b.within, length_of es)) in
          let s = ap (λ s. s.at) there in
          omega (arith, f, s, low, c))
      | inr after ↦ elim (cases_eq j (n - 1)) [
        | inl q ↦ here j q c
        | inr ne ↦ (let f = b.behind j (omega (arith, after, ne, some)) m in omega (arith, f, c))
      ]
    ]

-- ---- whether each extent ends before the next one begins

abbrev pub ApartBelow : List Extent → ℕ → Type 0
ApartBelow es n = (x y : ℕ) → x < y → y < n → (span_at (spans es) x).at + (span_at (spans es) x).count ≤ (span_at (spans es) y).at

-- an extent and the one before it
pub record Neighbours (es : List Extent) (i : ℕ) : Type 0 where
  pub some : 1 ≤ i
  pub within : i < length es
  pub order : IsNonDecreasingBy (λ e. e.at) es

pub rises : (es : List Extent) (i : ℕ) (d : Extent) → Neighbours es i → (get_or es (i - 1) d).at ≤ (get_or es i d).at
rises es i d h = h.order (i - 1) i d (omega arith) h.within

pub meets : (es : List Extent) (i : ℕ) (d : Extent) → Neighbours es i → All (λ e. 0 < e.count) es → (get_or es i d).at - (get_or es (i - 1) d).at < (get_or es (i - 1) d).count → Overlaps (spans es)
meets es i d h some l =
    let p : Extent = get_or es (i - 1) d in
    let q : Extent = get_or es i d in
    let up = rises es i d h in
    let has : 0 < q.count = All-get_or (λ e. 0 < e.count) es i d h.within some in
    let one : Covers (span_of p) q.at = (up, omega (arith, l, up)) in
    let two : Covers (span_of q) q.at = (omega arith, omega (arith, has)) in
    let s = span_there es (i - 1) d (omega (arith, h.within)) in
    let t = span_there es i d h.within in
    (i - 1, i, omega (arith, h.some), (q.at, subst (λ s. Covers s q.at) (sym s) one, subst (λ s. Covers s q.at) (sym t) two))

pub apart_more : (es : List Extent) (i : ℕ) (d : Extent) → Neighbours es i → (get_or es (i - 1) d).count ≤ (get_or es i d).at - (get_or es (i - 1) d).at → ApartBelow es i → ApartBelow es (i + 1)
apart_more es i d h l before x y lt m = elim (cases_lt y i) [
  | inl below ↦ before x y lt below
  | inr here ↦ at_end (omega (arith, here, m))
]
  where
    up : (get_or es (i - 1) d).at ≤ (get_or es i d).at
    up = rises es i d h

    s : span_at (spans es) (i - 1) ≡ span_of (get_or es (i - 1) d)
    s = span_there es (i - 1) d (omega (arith, h.within))

    t : span_at (spans es) i ≡ span_of (get_or es i d)
    t = span_there es i d h.within

    last : x ≡ i - 1 → (span_at (spans es) x).at + (span_at (spans es) x).count ≤ (span_at (spans es) i).at
    last e =
        let u : span_at (spans es) x ≡ span_of (get_or es (i - 1) d) = ap (span_at (spans es)) e ∙ s in
        omega (arith, l, up, ap (λ s. s.at) u, ap (λ s. s.count) u, ap (λ s. s.at) t)

    earlier : x < i - 1 → (span_at (spans es) x).at + (span_at (spans es) x).count ≤ (span_at (spans es) i).at
    earlier e =
        let b = before x (i - 1) e (omega (arith, h.some)) in
        omega (arith, b, up, ap (λ s. s.at) s, ap (λ s. s.at) t)

    at_end : y ≡ i → (span_at (spans es) x).at + (span_at (spans es) x).count ≤ (span_at (spans es) y).at
    at_end e = subst (λ k. (span_at (spans es) x).at + (span_at (spans es) x).count ≤ (span_at (spans es) k).at) (sym e)
        (elim (cases_eq x (i - 1)) [ inl q ↦ last q | inr ne ↦ earlier (omega (arith, ne, lt, e)) ])

pub all_apart : (es : List Extent) (n : ℕ) → length es ≤ n → ApartBelow es n → AreApart (spans es)
all_apart es n l h i j lt m = h i j lt (omega (arith, l, m, length_of es))

-- ---- the extents that begin at an address or before it, from the test of each

abbrev pub IsPointAt : List Extent → ℕ → ℕ → Type 0
IsPointAt es a n = IsPartitionPoint (λ (e : Extent). leb e.at a ≡ true) (λ (e : Extent). leb e.at a ≡ false) es n

pub begun_before : (es : List Extent) (a n : ℕ) → n ≤ length es → IsPointAt es a n → (j : ℕ) → j < n → (span_at (spans es) j).at ≤ a
begun_before es a n l h j m =
    let e = ap (λ s. s.at) (span_there es j no_extent (omega (arith, l, m))) in
    let le : (get_or es j no_extent).at ≤ a = leb-true _ _ (h.0 j no_extent (omega arith) m) in
    omega (arith, e, le)

pub begun_behind : (es : List Extent) (a n : ℕ) → IsPointAt es a n → (j : ℕ) → n ≤ j → j < length es → a < (span_at (spans es) j).at
begun_behind es a n h j l m =
    let e = ap (λ s. s.at) (span_there es j no_extent m) in
    let lt : a < (get_or es j no_extent).at = leb-false _ _ (h.1 j no_extent l m) in
    omega (arith, e, lt)
