-- The quotient of a word by a byte: a long division in eight steps.
-- Before a step the divisor is in register 1, the rest in 0 and the quotient so far in 5; 4 holds 0.
use Rattle.std.proofs.Common.{◌≡◌, ℕ, zero, suc, ◌+◌, ◌*◌, ◌/◌, ◌%◌, ◌^◌, ◌-◌, ◌<◌, ◌≤◌, List, [], ◌∷◌, refl, lit<, lit≤, arith, true, false, cond, min, inl, inr, ◌⊎◌, ◌∙◌}
use Rattle.std.specs.Prelude.{nat_eq}
use Rattle.std.specs.Int.Bits.{xor_self}
use Rattle.std.proofs.lemmas.Bool.{cases_lt}
use Rattle.std.proofs.lemmas.Bool.Decides.{nat_tests}
use Rattle.std.proofs.lemmas.Nat.{le-div, div-mul-add, mul-le}
use Rattle.std.proofs.Math.Nat.{mul_comm}
use Rattle.std.proofs.Math.Pow.{pow_mono}
use Rattle.orc_bits.proofs.Bits.{masks_16}
use Rattle.orc_ops.specs.declared.opcode.Op.{Op}
use Rattle.x86_ins.specs.declared.ins.VecOp.TheVariants as vec
use Rattle.x86_ins.specs.declared.ins.VecImmOp.TheVariants as imm
use Rattle.x86_ins.specs.declared.ins.Ins.{Ins}
use Rattle.x86_ins.specs.declared.ins.Ins.TheVariants.{Vec, VecImm}
use Rattle.x86_ins.specs.Vectors.{shl}
use Rattle.sse_laws.proofs.Lanewise.{exec}
use Rattle.sse_w.proofs.Equations.{Computes}

-- ---- the sequence: `head`, the steps 7 to 0, and the quotient to register 0

-- what comes first: the divisor is the low byte, and the quotient 0
abbrev head : List Ins
head = VecImm imm.Psllw 1 8 ∷ VecImm imm.Psrlw 1 8 ∷ Vec vec.Pxor 4 4 ∷ Vec vec.Pxor 5 5 ∷ []

-- the step n: where the rest is at least 2 ^ n times the divisor, that is taken from it, and a bit 1 joins the quotient; else a bit 0
abbrev step : ℕ → List Ins
step n =
    Vec vec.Movdqa 2 1 ∷ VecImm imm.Psllw 2 n ∷ Vec vec.Movdqa 3 2 ∷ Vec vec.Psubusw 3 0 ∷ Vec vec.Pcmpeqw 3 4 ∷ Vec vec.Pand 2 3
    ∷ Vec vec.Psubw 0 2 ∷ Vec vec.Paddw 5 5 ∷ Vec vec.Psubw 5 3 ∷ []

-- ---- a step

-- before the step n, where p is 2 ^ (n + 1) and k is 2 ^ (7 - n): a0 is p times the quotient times the divisor and the rest, and the rest is below p times the divisor unless the quotient is all ones
record Divided (d a0 p k : ℕ) (σ : ℕ → ℕ) : Type 0 where
  divisor : σ 1 ≡ d
  zero_kept : σ 4 ≡ 0
  is_word : σ 0 < 2 ^ 16
  sum : p * (σ 5 * d) + σ 0 ≡ a0
  below : σ 5 < k
  rest : (σ 0 < p * d) ⊎ (σ 5 + 1 ≡ k)

-- what a step leaves of the rest, and of the quotient
step_rest : (σ : ℕ → ℕ) (n t : ℕ) → shl 16 (σ 1) n ≡ t → t < 2 ^ 16 → σ 4 ≡ 0 → σ 0 < 2 ^ 16 → exec 2 0 (step n) σ 0 ≡ cond (nat_eq (t - σ 0) 0) (σ 0 - t) (σ 0)
step_rest σ n t e l z h = rw (e, z) (simp masks_16 (grind (arith, nat_tests)))

step_quotient : (σ : ℕ → ℕ) (n t : ℕ) → shl 16 (σ 1) n ≡ t → σ 4 ≡ 0 → σ 5 < 2 ^ 8 → exec 2 0 (step n) σ 5 ≡ cond (nat_eq (t - σ 0) 0) (2 * σ 5 + 1) (2 * σ 5)
step_quotient σ n t e z h = rw (e, z) (grind (arith, nat_tests))

-- the step n, where p is 2 ^ n
next : (d a0 n p k : ℕ) (σ : ℕ → ℕ) → shl 16 d n ≡ p * d → p * d < 2 ^ 16 → k ≤ 2 ^ 7 → Divided d a0 (2 * p) k σ → Divided d a0 p (2 * k) (exec 2 0 (step n) σ)
next d a0 n p k σ e l m g = elim (cases_lt (σ 0) (p * d)) [ inl h ↦ left h | inr h ↦ taken h ]
  where
    t_is : shl 16 (σ 1) n ≡ p * d
    t_is = rw g.divisor e

    q_small : σ 5 < 2 ^ 8
    q_small = let b = g.below in omega (arith, b)

    left : σ 0 < p * d → Divided d a0 p (2 * k) (exec 2 0 (step n) σ)
    left h =
        let t : nat_eq (p * d - σ 0) 0 ≡ false = grind (arith, nat_tests) in
        let r : exec 2 0 (step n) σ 0 ≡ σ 0 = step_rest σ n (p * d) t_is l g.zero_kept g.is_word ∙ rw t refl in
        let u : exec 2 0 (step n) σ 5 ≡ 2 * σ 5 = step_quotient σ n (p * d) t_is g.zero_kept q_small ∙ rw t refl in
        let s = g.sum in
        let b = g.below in
        record {
          divisor = g.divisor;
          zero_kept = g.zero_kept;
          is_word = rw r g.is_word;
          sum = rw (r, u) (omega (arith, s));
          below = rw u (omega (arith, b));
          rest = inl (rw r h);
        }

    taken : p * d ≤ σ 0 → Divided d a0 p (2 * k) (exec 2 0 (step n) σ)
    taken h =
        let t : nat_eq (p * d - σ 0) 0 ≡ true = grind (arith, nat_tests) in
        let r : exec 2 0 (step n) σ 0 ≡ σ 0 - p * d = step_rest σ n (p * d) t_is l g.zero_kept g.is_word ∙ rw t refl in
        let u : exec 2 0 (step n) σ 5 ≡ 2 * σ 5 + 1 = step_quotient σ n (p * d) t_is g.zero_kept q_small ∙ rw t refl in
        let s = g.sum in
        let b = g.below in
        let w = g.is_word in
        record {
          divisor = g.divisor;
          zero_kept = g.zero_kept;
          is_word = rw r (omega (arith, w));
          sum = rw (r, u) (omega (arith, s, h));
          below = rw u (omega (arith, b));
          rest = elim g.rest [
            | inl i ↦ inl (let f : σ 0 - p * d < p * d = omega arith in rw r f)
            | inr i ↦ inr (let f : 2 * σ 5 + 1 + 1 ≡ 2 * k = omega arith in rw u f)
          ];
        }

-- ---- the start, the steps and the end

-- the steps shift a byte without loss
shifted_byte : (d n : ℕ) → d < 2 ^ 8 → n < 8 → (shl 16 d n ≡ 2 ^ n * d) × (2 ^ n * d < 2 ^ 16)
shifted_byte d n h l =
    let q : 2 ^ n ≤ 2 ^ 7 = pow_mono (let k : n ≤ 7 = omega arith in k) in
    let m : 2 ^ n * d ≤ 2 ^ 7 * 255 = mul-le (2 ^ n) d (2 ^ 7) 255 q (omega arith) in
    let c : d * 2 ^ n ≡ 2 ^ n * d = mul_comm d (2 ^ n) in
    ((let k : n < 16 = omega arith in rw c (grind (arith, nat_tests))), omega arith)

-- the first step's start, and what the last one leaves
started : (a d : ℕ) (σ : ℕ → ℕ) → σ 0 ≡ a → a < 2 ^ 16 → σ 1 ≡ d → Divided (d % 2 ^ 8) a (2 ^ 8) 1 (exec 2 0 head σ)
started a d σ e h f =
    record {
      divisor = rw f (omega arith);
      zero_kept = xor_self (σ 4);
      is_word = rw e h;
      sum = rw (xor_self (σ 5), e) (omega arith);
      below = rw xor_self (lit< tt);
      rest = inr (rw xor_self refl);
    }

ended : (a d : ℕ) (σ : ℕ → ℕ) → Divided d a 1 (2 ^ 8) σ → σ 5 ≡ cond (nat_eq d 0) 255 (min 255 (a / d))
ended a zero σ g = elim g.rest [ inl h ↦ absurd (omega arith) | inr h ↦ omega arith ]
ended a (suc d) σ g = let t : nat_eq (suc d) 0 ≡ false = grind (arith, nat_tests) in rw t (elim g.rest [ inl h ↦ exact h | inr h ↦ full h ])
  where
    exact : σ 0 < 1 * suc d → σ 5 ≡ min 255 (a / suc d)
    exact h =
        let l : σ 0 < suc d = omega arith in
        let s : a ≡ σ 5 * suc d + σ 0 = let t = g.sum in omega (arith, t) in
        let e : a / suc d ≡ σ 5 = rw s (div-mul-add (σ 5) (suc d) (σ 0) l) in
        let b = g.below in
        rw e (omega (arith, b))

    full : σ 5 + 1 ≡ 256 → σ 5 ≡ min 255 (a / suc d)
    full h =
        let q : σ 5 ≡ 255 = omega arith in
        let s : 255 * suc d ≤ a = let t : 1 * (255 * suc d) + σ 0 ≡ a = rw q at g.sum in omega (arith, t) in
        let e : 255 ≤ a / suc d = le-div 255 a (suc d) (omega arith) s in
        omega (arith, q, e)

pub divluw_eq : Computes Op.Divluw
divluw_eq σ h k =
    let d : ℕ = σ 1 % 2 ^ 8 in
    let l : d < 2 ^ 8 = omega arith in
    let at = λ (n : ℕ) (m : n < 8). shifted_byte d n l m in
    let s8 = started (σ 0) (σ 1) σ refl h refl in
    let s7 = next d (σ 0) 7 (2 ^ 7) 1 _ (at 7 (lit< tt)).0 (at 7 (lit< tt)).1 (lit≤ tt) s8 in
    let s6 = next d (σ 0) 6 (2 ^ 6) 2 _ (at 6 (lit< tt)).0 (at 6 (lit< tt)).1 (lit≤ tt) s7 in
    let s5 = next d (σ 0) 5 (2 ^ 5) 4 _ (at 5 (lit< tt)).0 (at 5 (lit< tt)).1 (lit≤ tt) s6 in
    let s4 = next d (σ 0) 4 (2 ^ 4) 8 _ (at 4 (lit< tt)).0 (at 4 (lit< tt)).1 (lit≤ tt) s5 in
    let s3 = next d (σ 0) 3 (2 ^ 3) 16 _ (at 3 (lit< tt)).0 (at 3 (lit< tt)).1 (lit≤ tt) s4 in
    let s2 = next d (σ 0) 2 (2 ^ 2) 32 _ (at 2 (lit< tt)).0 (at 2 (lit< tt)).1 (lit≤ tt) s3 in
    let s1 = next d (σ 0) 1 (2 ^ 1) 64 _ (at 1 (lit< tt)).0 (at 1 (lit< tt)).1 (lit≤ tt) s2 in
    let s0 = next d (σ 0) 0 (2 ^ 0) 128 _ (at 0 (lit< tt)).0 (at 0 (lit< tt)).1 (lit≤ tt) s1 in
    ended (σ 0) d _ s0
