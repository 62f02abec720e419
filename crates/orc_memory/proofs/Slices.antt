-- Bytes that stand side by side in one part.
use Rattle.std.proofs.Common.{◌≡◌, ℕ, ◌+◌, ◌-◌, ◌%◌, ◌^◌, ◌<◌, ◌≤◌, true, List, length, suc, get_or, set, take, drop, Some, is_some, refl, sym, ap, ap₂, ◌∙◌, subst, arith, mod-eq_of_lt}
use Rattle.std.proofs.lemmas.List.{length-map, get_or_default, get_or-take, get_or-drop}
use Rattle.orc_bits.specs.Memory.{Memory, put, fill, all_mapped}
use Rattle.orc_bits.specs.declared.parts.Part.{Part}
use Rattle.orc_bits.specs.Parts.{Span, span, span_at, layout, memory_of, Covers, IsFirst}
use Rattle.orc_bits.proofs.PartLaws.{no_part, Found, found, span_there, memory_changed, layout_changed}
use Rattle.orc_bits.proofs.Memories.{all_mapped_there}
use Rattle.orc_memory.specs.declared.extents.Extent.{Extent}
use Rattle.orc_memory.specs.Extents.{spans, IsIndex, IsSpot}
use Rattle.orc_memory.proofs.Counts.{counts_same, apart_counted, only_first}

-- the part whose span has an address is the first that has it
pub first_too : (ps : List Part) (es : List Extent) (k a : ℕ) → IsIndex (layout ps) es → Covers (span_at (layout ps) k) a → IsFirst ps k a
first_too ps es k a x c = only_first ps a k (let few = apart_counted (spans es) x.apart a in let same = counts_same (spans es) (layout ps) a x.extents.alike in omega (arith, few, same)) c

pub covered : {ss : List Span} {a n k first : ℕ} → IsSpot ss a n k first → (j : ℕ) → j < n → Covers (span_at ss k) (a + j)
covered h j l = (omega (arith, h.at), omega (arith, h.at, h.high, l))

-- no address of a spot comes round
pub straight : {ss : List Span} {a n k first : ℕ} → IsSpot ss a n k first → (j : ℕ) → j < n → (a + j) % 2 ^ 64 ≡ a + j
straight h j l = mod-eq_of_lt (omega (arith, h.low, l))

-- the spot of a part
pub is_spot : (ps : List Part) (a n k first : ℕ) (p : Part) → Found ps a k p → p ≡ get_or ps k p → first ≡ a - p.at → n ≤ length p.bytes - first → a + n ≤ 2 ^ 64 → IsSpot (layout ps) a n k first
is_spot ps a n k first p f e is fits low =
    let s = span_there ps k p f.inside e in
    let t = ap (λ s. s.at) s in
    let u = ap (λ s. s.count) s in
    record {
      within = omega (arith, f.inside, length-map ps span);
      low = low;
      at = omega (arith, t, is, f.low);
      high = omega (arith, u, is, fits, f.high);
    }

-- a byte of a spot
pub byte_there : (ps : List Part) (es : List Extent) (a n k first : ℕ) (p : Part) → IsIndex (layout ps) es → IsSpot (layout ps) a n k first → p ≡ get_or ps k p
    → (j : ℕ) → j < n → memory_of ps (a + j) ≡ Some (get_or p.bytes (first + j) 0)
byte_there ps es a n k first p x h e j l =
    let f = found ps (a + j) k p (first_too ps es k (a + j) x (covered h j l)) e in
    let s = ap (λ s. s.at) (span_there ps k p f.inside e) in
    let i : a + j - p.at ≡ first + j = omega (arith, h.at, s) in
    f.byte ∙ ap (λ i. Some (get_or p.bytes i 0)) i

pub all_there : (ps : List Part) (es : List Extent) (a n k first : ℕ) → IsIndex (layout ps) es → IsSpot (layout ps) a n k first → all_mapped n (memory_of ps) a ≡ true
all_there ps es a n k first x h =
    let p : Part = get_or ps k no_part in
    let e : p ≡ get_or ps k p = get_or_default ps k no_part p (omega (arith, h.within, length-map ps span)) in
    all_mapped_there n (memory_of ps) a (λ j l. ap (λ b. is_some (memory_of ps b)) (straight h j l) ∙ ap is_some (byte_there ps es a n k first p x h e j l))

-- the bytes of a spot, cut out of its part
pub cut_there : (ps : List Part) (es : List Extent) (a n k first : ℕ) (p : Part) (cut : List ℕ) → IsIndex (layout ps) es → IsSpot (layout ps) a n k first → p ≡ get_or ps k p
    → cut ≡ take n (drop first p.bytes) → (j : ℕ) → j < n → memory_of ps ((a + j) % 2 ^ 64) ≡ Some (get_or cut j 0)
cut_there ps es a n k first p cut x h e is j l =
    ap (memory_of ps) (straight h j l)
    ∙ byte_there ps es a n k first p x h e j l
    ∙ ap Some (sym (ap (λ r. get_or r j 0) is ∙ get_or-take n (drop first p.bytes) j 0 l ∙ get_or-drop first p.bytes j 0))

-- ---- one byte after the other is changed

-- parts whose first j bytes of a spot are changed
pub record IsChanged (ps qs : List Part) (a j : ℕ) (f : ℕ → ℕ) : Type 0 where
  pub memory : memory_of qs ≡ fill j (memory_of ps) a f
  pub layout : layout qs ≡ layout ps

pub none_changed : (ps : List Part) (a : ℕ) (f : ℕ → ℕ) → IsChanged ps ps a 0 f
unfolding fill
none_changed ps a f = record { memory = refl; layout = refl }

-- the part at the spot now
pub part_now : (ps qs : List Part) (es : List Extent) (a n k first : ℕ) (f : ℕ → ℕ) (p : Part) (j : ℕ) → IsIndex (layout ps) es → IsSpot (layout ps) a n k first → IsChanged ps qs a j f → p ≡ get_or qs k p → j < n
    → Found qs (a + j) k p × (a + j - p.at ≡ first + j)
part_now ps qs es a n k first f p j x h c e l =
    let y = subst (λ ss. IsIndex ss es) (sym c.layout) x in
    let i = subst (λ ss. IsSpot ss a n k first) (sym c.layout) h in
    let g = found qs (a + j) k p (first_too qs es k (a + j) y (covered i j l)) e in
    let s = ap (λ s. s.at) (span_there qs k p g.inside e) in
    (g, omega (arith, i.at, s))

pub one_changed : (ps qs : List Part) (es : List Extent) (a n k first : ℕ) (f : ℕ → ℕ) (p : Part) (bs : List ℕ) (j : ℕ) → IsIndex (layout ps) es → IsSpot (layout ps) a n k first → IsChanged ps qs a j f → p ≡ get_or qs k p → j < n
    → bs ≡ set p.bytes (first + j) (f j) → IsChanged ps (set qs k (record { at = p.at; bytes = bs })) a (j + 1) f
unfolding fill
one_changed ps qs es a n k first f p bs j x h c e l is =
    let y = subst (λ ss. IsIndex ss es) (sym c.layout) x in
    let i = subst (λ ss. IsSpot ss a n k first) (sym c.layout) h in
    let here = part_now ps qs es a n k first f p j x h c e l in
    let bytes : bs ≡ set p.bytes (a + j - p.at) (f j) = is ∙ ap (λ m. set p.bytes m (f j)) (sym here.1) in
    record {
      memory =
          memory_changed qs (a + j) (f j) k p bs (first_too qs es k (a + j) y (covered i j l)) e bytes
          ∙ ap₂ (λ (m : Memory) b. put m b (f j)) c.memory (sym (straight h j l))
          ∙ ap (λ m. fill m (memory_of ps) a f) (let q : suc j ≡ j + 1 = omega arith in q);
      layout = layout_changed qs (a + j) (f j) k p bs e bytes ∙ c.layout;
    }
