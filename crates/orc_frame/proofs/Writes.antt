-- Lists that fill adjacent slots, one behind another, with an invariant of the cores between them.
use Rattle.std.proofs.Common.{◌≡◌, ℕ, zero, suc, ◌+◌, ◌*◌, ◌/◌, ◌%◌, ◌^◌, ◌<◌, ◌≤◌, if◌then◌else◌, List, [], ◌∷◌, Some, refl, sym, ap, ◌∙◌, subst, arith, ⊎_elim}
use Rattle.std.proofs.lemmas.Bool.{cases_eq, lt-ltb}
use Rattle.orc_bits.specs.Lanes.{byte_of}
use Rattle.orc_bits.specs.Memory.{fill}
use Rattle.orc_bits.proofs.Memories.{fill_in, fill_out}
use Rattle.x86_ins.specs.declared.ins.Ins.{Ins}
use Rattle.x86_ins.specs.Machine.{Core, Bounded}
use Rattle.x86_ins.specs.Spelling.{IsIns}
use Rattle.x86_ins.specs.Way.{Each}
use Rattle.x86_ins.proofs.Bounds.{work_bounded}
use Rattle.x86_flow.specs.Does.{Line}
use Rattle.x86_flow.proofs.Moves.{line_append}
use Rattle.orc_frame.specs.Code.{joined}

-- so many bytes from an address on are new, and no others
pub record Wrote (a w : ℕ) (f : ℕ → ℕ) (c d : Core) : Type 0 where
  pub bytes : (q : ℕ) → q < w → d.memory (a + q) ≡ Some (f q)
  pub outside : (x : ℕ) → (a ≤ x → x < a + w → ⊥) → d.memory x ≡ c.memory x

-- and of so many adjacent slots
pub record Wrotes (a w n : ℕ) (f : ℕ → ℕ → ℕ) (c d : Core) : Type 0 where
  pub bytes : (k : ℕ) → k < n → (q : ℕ) → q < w → d.memory (a + w * k + q) ≡ Some (f k q)
  pub outside : (x : ℕ) → (a ≤ x → x < a + w * n → ⊥) → d.memory x ≡ c.memory x

slot_below : (w k n q : ℕ) → k < n → q < w → w * k + q < w * n
slot_below w k zero q l h = absurd (omega (arith, l))
slot_below w k (suc n) q l h = ⊎_elim
    (λ e. subst (λ m. w * m + q < w * suc n) (sym e) (omega (arith, h, more n)))
    (λ ne. omega (arith, slot_below w k n q (omega (arith, l, ne)) h, more n))
    (cases_eq k n)
  where
    more : (n : ℕ) → w * suc n ≡ w * n + w
    more n = grind (arith)

pub filled : (a w : ℕ) (f g : ℕ → ℕ) (c d : Core) → a + w < 2 ^ 63 → d.memory ≡ fill w c.memory a f → ((q : ℕ) → q < w → f q ≡ g q) → Wrote a w g c d
filled a w f g c d low e same = record {
  bytes = λ q l. ap (λ m. m (a + q)) e ∙ fill_in w c.memory a f q low l ∙ ap Some (same q l);
  outside = λ x out. ap (λ m. m x) e ∙ fill_out w c.memory a f x low (λ j l q. out (omega (arith, q)) (omega (arith, q, l)));
}

pub byte_in : (v q : ℕ) → q < 8 → byte_of 8 v q ≡ v / 256 ^ q % 256
byte_in v q h = ap (λ t. if t then v / 256 ^ q % 256 else 0) (lt-ltb q 8 h)

module _ (Q : Core → Ins → Type 0) where
  pub line_bounded : (is : List Ins) (c d : Core) → Each IsIns is → Bounded c → Line Q is c d → Bounded d
  line_bounded [] c d each b e = subst Bounded e b
  line_bounded (i ∷ is) c d each b h = line_bounded is h.1.0 d each.1 (work_bounded i c h.1.0 each.0 b h.1.1) h.1.2

  module _ (Inv : Core → Type 0) (a w m : ℕ) (f : ℕ → ℕ → ℕ) (code : ℕ → List Ins)
      (piece : (k : ℕ) → k < m → (c : Core) → Inv c → (d : Core) × Line Q (code k) c d × Wrote (a + w * k) w (f k) c d × Inv d) where
    pub joined_line : (n : ℕ) → n ≤ m → (c : Core) → Inv c → (d : Core) × Line Q (joined code n) c d × Wrotes a w n f c d × Inv d
    joined_line zero l c inv = (c, refl, record { bytes = λ k h. absurd (omega (arith, h)); outside = λ x out. refl }, inv)
    joined_line (suc n) l c inv =
        let x = joined_line n (omega (arith, l)) c inv in
        let y = piece n (omega (arith, l)) x.0 x.3 in
        let d : Core = y.0 in
        let more : w * suc n ≡ w * n + w = grind (arith) in (
          d,
          line_append Q (joined code n) (code n) c x.0 d x.1 y.1,
          record {
            bytes = λ k h q i. ⊎_elim
                (λ e. subst (λ t. d.memory (a + w * t + q) ≡ Some (f t q)) (sym e) (y.2.bytes q i))
                (λ ne. y.2.outside (a + w * k + q) (λ s t. omega (arith, s, slot_below w k n q (omega (arith, h, ne)) i)) ∙ x.2.bytes k (omega (arith, h, ne)) q i)
                (cases_eq k n);
            outside = λ t out. y.2.outside t (λ s u. out (omega (arith, s)) (omega (arith, u, more))) ∙ x.2.outside t (λ s u. out s (omega (arith, u, more)));
          },
          y.3,
        )
