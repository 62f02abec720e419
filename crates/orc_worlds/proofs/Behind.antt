-- Bytes of parts that stand behind others.
use Rattle.std.proofs.Common.{◌≡◌, ℕ, ◌+◌, ◌-◌, ◌<◌, ◌≤◌, Bool, true, false, if◌then◌else◌, List, [], ◌∷◌, ◌++◌, length, get_or, Option, Some, None, is_some, true≢false, refl, sym, ap, ◌∙◌, subst, arith, ◌⊎◌, inl, inr, ⊎_elim}
use Rattle.std.specs.List.{list_all}
use Rattle.std.proofs.lemmas.Bool.Decides.{nat_tests}
use Rattle.orc_bits.specs.declared.parts.Part.{Part}
use Rattle.orc_bits.specs.Memory.{IsMapped}
use Rattle.orc_bits.specs.Parts.{span, covers, memory_of}
use Rattle.orc_bits.specs.Lanes.{AreBytes}
use Rattle.orc_bits.proofs.Memories.{none_some, some_one}
use Rattle.orc_bits.proofs.PartLaws.{covers_is, is_covers}
use Rattle.orc_job.specs.Forms.{is_within}
use Rattle.orc_worlds.specs.Placement.{code_at}

-- segments end at the code's address
pub below_code : (ps : List Part) (a : ℕ) → list_all is_within ps ≡ true → code_at ≤ a → (qs : List Part) → memory_of (ps ++ qs) a ≡ memory_of qs a
below_code [] a h l qs = refl
below_code (p ∷ ps) a h l qs =
    let low : p.at + length p.bytes ≤ code_at = grind (arith, nat_tests, h) in
    let e : covers (span p) a ≡ false = grind (arith, nat_tests, low, l) in
    ap (λ t. if t then Some (get_or p.bytes (a - p.at) 0) else memory_of (ps ++ qs) a) e ∙ below_code ps a (grind (arith, h)) l qs

pub in_segments : (ps : List Part) (a : ℕ) → list_all is_within ps ≡ true → IsMapped (memory_of ps) a → a < code_at
in_segments [] a h m = absurd (true≢false (sym m))
in_segments (p ∷ ps) a h m = go (covers (span p) a) refl (in_segments ps a (grind (arith, h)))
  where
    go : (t : Bool) → covers (span p) a ≡ t → (IsMapped (memory_of ps) a → a < code_at) → a < code_at
    go true e rest =
        let low : p.at + length p.bytes ≤ code_at = grind (arith, nat_tests, h) in
        let c = covers_is (span p) a e in
        omega (arith, low, c)
    go false e rest = rest (sym (ap (λ t. is_some (if t then Some (get_or p.bytes (a - p.at) 0) else memory_of ps a)) e) ∙ m)

-- what segments have they have with parts behind them
pub more_behind : (ps qs : List Part) (a : ℕ) → IsMapped (memory_of ps) a → memory_of (ps ++ qs) a ≡ memory_of ps a
more_behind [] qs a m = absurd (true≢false (sym m))
more_behind (p ∷ ps) qs a m = go (covers (span p) a) refl (more_behind ps qs a)
  where
    go : (t : Bool) → covers (span p) a ≡ t → (IsMapped (memory_of ps) a → memory_of (ps ++ qs) a ≡ memory_of ps a) → memory_of ((p ∷ ps) ++ qs) a ≡ memory_of (p ∷ ps) a
    go true e rest =
        ap (λ t. if t then Some (get_or p.bytes (a - p.at) 0) else memory_of (ps ++ qs) a) e
        ∙ sym (ap (λ t. if t then Some (get_or p.bytes (a - p.at) 0) else memory_of ps a) e)
    go false e rest =
        ap (λ t. if t then Some (get_or p.bytes (a - p.at) 0) else memory_of (ps ++ qs) a) e
        ∙ rest (sym (ap (λ t. is_some (if t then Some (get_or p.bytes (a - p.at) 0) else memory_of ps a)) e) ∙ m)
        ∙ sym (ap (λ t. if t then Some (get_or p.bytes (a - p.at) 0) else memory_of ps a) e)

-- where segments have nothing there is what the parts behind them have
pub none_before : (ps qs : List Part) (a : ℕ) → memory_of ps a ≡ None → memory_of (ps ++ qs) a ≡ memory_of qs a
none_before [] qs a m = refl
none_before (p ∷ ps) qs a m = go (covers (span p) a) refl (none_before ps qs a)
  where
    go : (t : Bool) → covers (span p) a ≡ t → (memory_of ps a ≡ None → memory_of (ps ++ qs) a ≡ memory_of qs a) → memory_of ((p ∷ ps) ++ qs) a ≡ memory_of qs a
    go true e rest = absurd (none_some (sym m ∙ ap (λ t. if t then Some (get_or p.bytes (a - p.at) 0) else memory_of ps a) e))
    go false e rest =
        ap (λ t. if t then Some (get_or p.bytes (a - p.at) 0) else memory_of (ps ++ qs) a) e
        ∙ rest (sym (ap (λ t. if t then Some (get_or p.bytes (a - p.at) 0) else memory_of ps a) e) ∙ m)

-- a byte is one of the segments' or of the parts' behind them
pub byte_of_either : (ps qs : List Part) (a v : ℕ) → memory_of (ps ++ qs) a ≡ Some v → (memory_of ps a ≡ Some v) ⊎ (memory_of qs a ≡ Some v)
byte_of_either ps qs a v e = go (memory_of ps a) refl
  where
    go : (o : Option ℕ) → memory_of ps a ≡ o → (memory_of ps a ≡ Some v) ⊎ (memory_of qs a ≡ Some v)
    go None n = inr (sym (none_before ps qs a n) ∙ e)
    go (Some w) s = inl (sym (more_behind ps qs a (ap is_some s)) ∙ e)

-- the first part's bytes, and those behind it
pub first_byte : (p : Part) (qs : List Part) (i : ℕ) → i < length p.bytes → memory_of (p ∷ qs) (p.at + i) ≡ Some (get_or p.bytes i 0)
first_byte p qs i l =
    let e : covers (span p) (p.at + i) ≡ true = is_covers (span p) (p.at + i) (omega arith, omega (arith, l)) in
    ap (λ t. if t then Some (get_or p.bytes (p.at + i - p.at) 0) else memory_of qs (p.at + i)) e ∙ ap (λ k. Some (get_or p.bytes k 0)) (let q : p.at + i - p.at ≡ i = omega arith in q)

pub next_byte : (p : Part) (qs : List Part) (a : ℕ) → p.at + length p.bytes ≤ a ⊎ a < p.at → memory_of (p ∷ qs) a ≡ memory_of qs a
next_byte p qs a out = go (covers (span p) a) refl
  where
    go : (t : Bool) → covers (span p) a ≡ t → memory_of (p ∷ qs) a ≡ memory_of qs a
    go true e = absurd (let c = covers_is (span p) a e in ⊎_elim (λ o. omega (arith, o, c)) (λ o. omega (arith, o, c)) out)
    go false e = ap (λ t. if t then Some (get_or p.bytes (a - p.at) 0) else memory_of qs a) e

pub mapped_in : (p : Part) (qs : List Part) (a : ℕ) → IsMapped (memory_of (p ∷ qs)) a → ((p.at ≤ a) × (a < p.at + length p.bytes)) ⊎ IsMapped (memory_of qs) a
mapped_in p qs a m = go (covers (span p) a) refl
  where
    go : (t : Bool) → covers (span p) a ≡ t → ((p.at ≤ a) × (a < p.at + length p.bytes)) ⊎ IsMapped (memory_of qs) a
    go true e = inl (covers_is (span p) a e)
    go false e = inr (sym (ap (λ t. is_some (if t then Some (get_or p.bytes (a - p.at) 0) else memory_of qs a)) e) ∙ m)

pub small_in : (p : Part) (qs : List Part) → AreBytes p.bytes → ((a v : ℕ) → memory_of qs a ≡ Some v → v < 256) → (a v : ℕ) → memory_of (p ∷ qs) a ≡ Some v → v < 256
small_in p qs f g a v e = go (covers (span p) a) refl
  where
    go : (t : Bool) → covers (span p) a ≡ t → v < 256
    go true c = subst (λ n. n < 256) (some_one _ v (sym (ap (λ t. if t then Some (get_or p.bytes (a - p.at) 0) else memory_of qs a) c) ∙ e)) (f (a - p.at))
    go false c = g a v (sym (ap (λ t. if t then Some (get_or p.bytes (a - p.at) 0) else memory_of qs a) c) ∙ e)
