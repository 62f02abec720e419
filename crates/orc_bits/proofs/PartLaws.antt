-- The part that has the byte at an address, and a change of that byte.
use Rattle.std.proofs.Common.{◌≡◌, ◌≢◌, ℕ, zero, suc, ◌+◌, ◌-◌, ◌<◌, ◌≤◌, ◌&&◌, ◌⊎◌, inl, inr, nat_le, nat_lt, Bool, true, false, not, if◌then◌else◌, List, [], ◌∷◌, length, map, get_or, set, Option, Some, None, is_some, position, MatchOption, refl, sym, ap, ◌∙◌, subst, arith, true≢false, get_or-set_same, get_or-set_other, length-set}
use Rattle.std.specs.List.{position_or_len}
use Rattle.std.proofs.lemmas.Bool.{cases_eq, cases_lt}
use Rattle.std.proofs.lemmas.Bool.Decides.{nat_tests}
use Rattle.std.proofs.lemmas.List.{get_or-map, get_or_past}
use Rattle.std.proofs.Math.Seq.{map-set_same}
use Rattle.orc_bits.specs.Memory.{put}
use Rattle.orc_bits.specs.declared.parts.Part.{Part}
use Rattle.orc_bits.proofs.Memories.{put_same, put_other, none_some, some_one}
use Rattle.orc_bits.specs.Parts.{Span, span, layout, covers, memory_of, Covers, IsFirst, Finds, span_at, no_span, Meets, Overlaps}

abbrev pub no_part : Part
no_part = record { at = 0; bytes = [] }

abbrev len_of : List Part → ℕ → ℕ
len_of ps a = position_or_len (λ p. covers (span p) a) ps

past : (ps : List Part) (a : ℕ) → length ps ≤ len_of ps a → memory_of ps a ≡ None
past [] a h = refl
past (p ∷ ps) a h = go (covers (span p) a) refl (past ps a)
  where
    go : (t : Bool) → covers (span p) a ≡ t → (length ps ≤ len_of ps a → memory_of ps a ≡ None) → memory_of (p ∷ ps) a ≡ None
    go true e rest = absurd (let z : len_of (p ∷ ps) a ≡ 0 = ap (λ t. if not t then 1 + len_of ps a else 0) e in omega (arith, h, z))
    go false e rest =
        let z : len_of (p ∷ ps) a ≡ 1 + len_of ps a = ap (λ t. if not t then 1 + len_of ps a else 0) e in
        ap (λ t. if t then Some (get_or p.bytes (a - p.at) 0) else memory_of ps a) e ∙ rest (omega (arith, h, z))

within : (ps : List Part) (a k : ℕ) → len_of ps a ≡ k → k < length ps → IsFirst ps k a
within [] a k e h = absurd (omega (arith, h))
within (p ∷ ps) a k e h = go (covers (span p) a) refl k e h (within ps a)
  where
    go : (t : Bool) → covers (span p) a ≡ t → (k : ℕ) → len_of (p ∷ ps) a ≡ k → k < suc (length ps) → ((k : ℕ) → len_of ps a ≡ k → k < length ps → IsFirst ps k a) → IsFirst (p ∷ ps) k a
    go true c zero e h rest = c
    go true c (suc k) e h rest = absurd (let z : len_of (p ∷ ps) a ≡ 0 = ap (λ t. if not t then 1 + len_of ps a else 0) c in omega (arith, e, z))
    go false c zero e h rest = absurd (let z : len_of (p ∷ ps) a ≡ 1 + len_of ps a = ap (λ t. if not t then 1 + len_of ps a else 0) c in omega (arith, e, z))
    go false c (suc k) e h rest =
        let z : len_of (p ∷ ps) a ≡ 1 + len_of ps a = ap (λ t. if not t then 1 + len_of ps a else 0) c in
        (c, rest k (omega (arith, e, z)) (omega (arith, h)))

pub position_finds : (ps : List Part) (a : ℕ) → Finds ps a (position (λ p. covers (span p) a) ps)
position_finds ps a = go (nat_lt (len_of ps a) (length ps)) refl
  where
    go : (t : Bool) → nat_lt (len_of ps a) (length ps) ≡ t → Finds ps a (if t then Some (len_of ps a) else None)
    go true e = within ps a (len_of ps a) refl (grind (arith, nat_tests, e))
    go false e = past ps a (grind (arith, nat_tests, e))

pub covers_is : (s : Span) (a : ℕ) → covers s a ≡ true → Covers s a
covers_is s a e = grind (arith, nat_tests, e)

pub is_covers : (s : Span) (a : ℕ) → Covers s a → covers s a ≡ true
is_covers s a h = grind (arith, nat_tests, h)

-- what is known of the part that is found
pub record Found (ps : List Part) (a k : ℕ) (p : Part) : Type 0 where
  pub inside : k < length ps
  pub low : p.at ≤ a
  pub high : a - p.at < length p.bytes
  pub byte : memory_of ps a ≡ Some (get_or p.bytes (a - p.at) 0)

head_found : (p : Part) (ps : List Part) (a : ℕ) → covers (span p) a ≡ true → Found (p ∷ ps) a 0 p
head_found p ps a h =
    let c = covers_is (span p) a h in
    record {
      inside = omega arith;
      low = c.0;
      high = omega (arith, c);
      byte = ap (λ t. if t then Some (get_or p.bytes (a - p.at) 0) else memory_of ps a) h;
    }

pub found : (ps : List Part) (a k : ℕ) (p : Part) → IsFirst ps k a → p ≡ get_or ps k p → Found ps a k p
found [] a k p h e = absurd h
found (q ∷ ps) a zero p h e = subst (Found (q ∷ ps) a 0) (sym e) (head_found q ps a h)
found (q ∷ ps) a (suc k) p h e =
    let r = found ps a k p h.1 e in
    record {
      inside = omega (arith, r.inside);
      low = r.low;
      high = r.high;
      byte = ap (λ t. if t then Some (get_or q.bytes (a - q.at) 0) else memory_of ps a) h.0 ∙ r.byte;
    }

abbrev pub changed : Part → ℕ → ℕ → Part
changed p a b = record { at = p.at; bytes = set p.bytes (a - p.at) b }

pub span_changed : (p : Part) (a b : ℕ) → span (changed p a b) ≡ span p
span_changed p a b = ap (λ (n : ℕ). let s : Span = record { at = p.at; count = n } in s) (length-set p.bytes (a - p.at) b)

abbrev part : ℕ → List ℕ → Part
part at bytes = record { at = at; bytes = bytes }

pub layout_changed : (ps : List Part) (a b k : ℕ) (p : Part) (bs : List ℕ) → p ≡ get_or ps k p → bs ≡ set p.bytes (a - p.at) b → layout (set ps k (record { at = p.at; bytes = bs })) ≡ layout ps
layout_changed ps a b k p bs e c =
    ap (λ (x : List ℕ). layout (set ps k (part p.at x))) c ∙ map-set_same span ps k (changed p a b) p (span_changed p a b ∙ ap span e)

here : (p : Part) (ps : List Part) (a b x : ℕ) → covers (span p) a ≡ true → memory_of (changed p a b ∷ ps) x ≡ put (memory_of (p ∷ ps)) a b x
here p ps a b x h =
    ap (λ (s : Span). if covers s x then Some (get_or (set p.bytes (a - p.at) b) (x - p.at) 0) else memory_of ps x) (span_changed p a b) ∙ go (cases_eq x a)
  where
    inside : Covers (span p) a
    inside = covers_is (span p) a h

    go : (x ≡ a) ⊎ (x ≢ a) → (if covers (span p) x then Some (get_or (set p.bytes (a - p.at) b) (x - p.at) 0) else memory_of ps x) ≡ put (memory_of (p ∷ ps)) a b x
    go (inl e) =
        ap (λ y. if covers (span p) y then Some (get_or (set p.bytes (a - p.at) b) (y - p.at) 0) else memory_of ps y) e
        ∙ ap (λ t. if t then Some (get_or (set p.bytes (a - p.at) b) (a - p.at) 0) else memory_of ps a) h
        ∙ ap Some (get_or-set_same p.bytes (a - p.at) b 0 (omega (arith, inside)))
        ∙ sym (ap (put (memory_of (p ∷ ps)) a b) e ∙ put_same (memory_of (p ∷ ps)) a b)
    go (inr ne) = other (covers (span p) x) refl ∙ sym (put_other (memory_of (p ∷ ps)) a b x ne)
      where
        other : (t : Bool) → covers (span p) x ≡ t → (if covers (span p) x then Some (get_or (set p.bytes (a - p.at) b) (x - p.at) 0) else memory_of ps x) ≡ memory_of (p ∷ ps) x
        other true e =
            let c = covers_is (span p) x e in
            ap (λ t. if t then Some (get_or (set p.bytes (a - p.at) b) (x - p.at) 0) else memory_of ps x) e
            ∙ ap Some (get_or-set_other p.bytes (a - p.at) (x - p.at) b 0 (λ q. ne (omega (arith, q, c, inside))))
            ∙ sym (ap (λ t. if t then Some (get_or p.bytes (x - p.at) 0) else memory_of ps x) e)
        other false e = ap (λ t. if t then Some (get_or (set p.bytes (a - p.at) b) (x - p.at) 0) else memory_of ps x) e ∙ sym (ap (λ t. if t then Some (get_or p.bytes (x - p.at) 0) else memory_of ps x) e)

put_tail : (p : Part) (ps : List Part) (a b x : ℕ) → covers (span p) a ≡ false → (if covers (span p) x then Some (get_or p.bytes (x - p.at) 0) else put (memory_of ps) a b x) ≡ put (memory_of (p ∷ ps)) a b x
put_tail p ps a b x h = go (cases_eq x a)
  where
    go : (x ≡ a) ⊎ (x ≢ a) → (if covers (span p) x then Some (get_or p.bytes (x - p.at) 0) else put (memory_of ps) a b x) ≡ put (memory_of (p ∷ ps)) a b x
    go (inl e) =
        ap (λ y. if covers (span p) y then Some (get_or p.bytes (y - p.at) 0) else put (memory_of ps) a b y) e
        ∙ ap (λ t. if t then Some (get_or p.bytes (a - p.at) 0) else put (memory_of ps) a b a) h
        ∙ put_same (memory_of ps) a b
        ∙ sym (ap (put (memory_of (p ∷ ps)) a b) e ∙ put_same (memory_of (p ∷ ps)) a b)
    go (inr ne) =
        ap (λ o. if covers (span p) x then Some (get_or p.bytes (x - p.at) 0) else o) (put_other (memory_of ps) a b x ne)
        ∙ sym (put_other (memory_of (p ∷ ps)) a b x ne)

at_changed : (ps : List Part) (a b k x : ℕ) (p : Part) → IsFirst ps k a → p ≡ get_or ps k p → memory_of (set ps k (changed p a b)) x ≡ put (memory_of ps) a b x
at_changed [] a b k x p h e = absurd h
at_changed (q ∷ ps) a b zero x p h e = ap (λ (r : Part). memory_of (changed r a b ∷ ps) x) e ∙ here q ps a b x h
at_changed (q ∷ ps) a b (suc k) x p h e =
    ap (λ o. if covers (span q) x then Some (get_or q.bytes (x - q.at) 0) else o) (at_changed ps a b k x p h.1 e) ∙ put_tail q ps a b x h.0

pub memory_changed : (ps : List Part) (a b k : ℕ) (p : Part) (bs : List ℕ) → IsFirst ps k a → p ≡ get_or ps k p → bs ≡ set p.bytes (a - p.at) b → memory_of (set ps k (record { at = p.at; bytes = bs })) ≡ put (memory_of ps) a b
memory_changed ps a b k p bs h e c = ap (λ (x : List ℕ). memory_of (set ps k (part p.at x))) c ∙ (λ i x. at_changed ps a b k x p h e i)

-- ---- overlaps

pub span_there : (ps : List Part) (i : ℕ) (p : Part) → i < length ps → p ≡ get_or ps i p → span_at (layout ps) i ≡ span p
span_there ps i p l e = get_or-map span ps i p no_span l ∙ ap span (sym e)

-- one more that shares no address with those before it
pub one_more : (ss : List Span) (i j : ℕ) → ((x y : ℕ) → x < y → y < j → Meets (span_at ss x) (span_at ss y) → ⊥) → ((x : ℕ) → x < i → Meets (span_at ss x) (span_at ss j) → ⊥) → j ≤ i
    → (x y : ℕ) → x < y → y < j + 1 → Meets (span_at ss x) (span_at ss y) → ⊥
one_more ss i j before here e x y l m meets = go (cases_eq y j)
  where
    go : (y ≡ j) ⊎ (y ≢ j) → ⊥
    go (inl q) = here x (omega (arith, l, e, q)) (subst (λ k. Meets (span_at ss x) (span_at ss k)) q meets)
    go (inr ne) = before x y l (omega (arith, m, ne)) meets

pub none_overlap : (ss : List Span) (n : ℕ) → length ss ≤ n → ((x y : ℕ) → x < y → y < n → Meets (span_at ss x) (span_at ss y) → ⊥) → Overlaps ss → ⊥
none_overlap ss n h none (x, y, l, meets) = go (cases_lt y n)
  where
    go : (y < n) ⊎ (n ≤ y) → ⊥
    go (inl m) = none x y l m meets
    go (inr m) =
        let past : span_at ss y ≡ no_span = get_or_past ss y no_span (omega (arith, h, m)) in
        let c : Covers no_span meets.0 = subst (λ s. Covers s meets.0) past meets.2 in
        omega (arith, c)

pub meets_there : (ps : List Part) (i j : ℕ) (p q : Part) → i < length ps → j < length ps → p ≡ get_or ps i p → q ≡ get_or ps j q → Meets (span_at (layout ps) i) (span_at (layout ps) j) → Meets (span p) (span q)
meets_there ps i j p q li lj ep eq (a, c, d) = (a, subst (λ s. Covers s a) (span_there ps i p li ep) c, subst (λ s. Covers s a) (span_there ps j q lj eq) d)
