-- Each instruction computes its opcode.
use Rattle.std.proofs.Common.{◌≡◌, ℕ, ◌+◌, ◌*◌, ◌-◌, ◌^◌, ◌<◌, ◌≤◌, List, [], ◌∷◌, refl, lit≤, sym, ◌∙◌, ap, ap₂, arith, true, false, min, ⊎_elim}
use Rattle.std.specs.Prelude.{nat_lt, IfSome}
use Rattle.std.proofs.lemmas.Bool.{cases_lt}
use Rattle.std.proofs.lemmas.Bool.Decides.{nat_tests}
use Rattle.std.proofs.Math.Nat.{mod-eq_of_lt}
use Rattle.orc_bits.specs.Lanes.{lane}
use Rattle.orc_bits.proofs.LaneLaws.{lane-lt}
use Rattle.orc_ops.specs.declared.opcode.Op.{Op}
use Rattle.orc_ops.specs.Formula.{formula}
use Rattle.x86_ins.specs.declared.ins.Ins.TheVariants.{VecImm}
use Rattle.x86_ins.specs.declared.ins.VecImmOp.{VecImmOp}
use Rattle.x86_ins.specs.declared.ins.VecImmOp.TheVariants as imm
use Rattle.x86_ins.specs.Vectors.{Registers, after, shl, shr, sar, sar_by}
use Rattle.orc_bits.specs.Numbers.{cut}
use Rattle.sse_laws.proofs.Lanewise.{exec}
use Rattle.sse_laws.proofs.Runs.{all_lanewise, run_lane, run_keeps}
use Rattle.sse_laws.proofs.Formulas.{sar_is}
use Rattle.sse_laws.proofs.Ways.{cut_lane, first_result, no_second}
use Rattle.sse_shift.specs.Meets.{MeetsAt}
use Rattle.sse_shift.specs.Shifts.{instruction}

-- ---- a count that is cut to a byte

-- of a function that is the same for all counts from the width on
cut_count : (w n z : ℕ) (f : ℕ → ℕ) → w ≤ 255 → ((k : ℕ) → w ≤ k → f k ≡ z) → f (min n 255) ≡ f n
cut_count w n z f l past = ⊎_elim small large (cases_lt n w)
  where
    small : n < w → f (min n 255) ≡ f n
    small h = ap f (let e : min n 255 ≡ n = omega (arith, l, h) in e)

    large : w ≤ n → f (min n 255) ≡ f n
    large h = past (min n 255) (omega (arith, l, h)) ∙ sym (past n h)

past_width : (w k : ℕ) → w ≤ k → nat_lt k w ≡ false
past_width w k h = grind (arith, nat_tests)

shl_cut : (w a n : ℕ) → w ≤ 255 → shl w a (min n 255) ≡ shl w a n
shl_cut w a n l = cut_count w n 0 (shl w a) l (λ k h. rw (past_width w k h) refl)

shr_cut : (w a n : ℕ) → w ≤ 255 → shr w a (min n 255) ≡ shr w a n
shr_cut w a n l = cut_count w n 0 (shr w a) l (λ k h. rw (past_width w k h) refl)

sar_cut : (w a n : ℕ) → w ≤ 255 → sar w a (min n 255) ≡ sar w a n
sar_cut w a n l = cut_count w n (sar_by w a (w - 1)) (sar w a) l (λ k h. rw (past_width w k h) refl)

-- ---- from the number in a lane to lanes

-- the instruction makes the opcode's result of the number in a lane of XMM0 and the count
abbrev Computes : ℕ → Op → VecImmOp → Type 0
Computes w op i = (σ : ℕ → ℕ) (n : ℕ) → σ 0 < 256 ^ w → exec w 0 (VecImm i 0 (min n 255) ∷ []) σ 0 ≡ first_result op (σ 0) n

by_count : (w : ℕ) (op : Op) (i : VecImmOp) (n : ℕ) → n < 2 ^ 64 → ((c : ℕ) → all_lanewise w false (VecImm i 0 c ∷ []) ≡ true) → Computes w op i →
    (x : ℕ → List ℕ) → Registers x → (q : ℕ) → q * w + w ≤ 16 → lane w q (after (VecImm i 0 (min n 255) ∷ []) x 0) ≡ first_result op (cut (8 * w) (lane w q (x 0))) (cut 64 n)
by_count w op i n small k e x g q h =
    run_lane w false 0 q (VecImm i 0 (min n 255) ∷ []) x g (k (min n 255)) h (λ f. absurd (let b : ⊥ = cc in b)) (λ r. lane w q (x r)) (λ r. refl) 0
    ∙ e (λ r. lane w q (x r)) n (lane-lt (x 0) (g 0) w q)
    ∙ ap₂ (first_result op) (sym (cut_lane (x 0) (g 0) w q)) (sym (mod-eq_of_lt small))

-- no second result
none : (w : ℕ) (i : VecImmOp) (n : ℕ) (x : ℕ → List ℕ) → Registers x → (q : ℕ) → q * w + w ≤ 16 → lane 0 q (after (VecImm i 0 (min n 255) ∷ []) x 1) ≡ 0
none w i n = no_second w (VecImm i 0 (min n 255) ∷ [])

kept : (i : VecImmOp) (n : ℕ) (x : ℕ → List ℕ) (r : ℕ) → 6 ≤ r → after (VecImm i 0 (min n 255) ∷ []) x r ≡ x r
kept i n = run_keeps (VecImm i 0 (min n 255) ∷ []) refl

pub meets : (op : Op) (n : ℕ) → n < 2 ^ 64 → IfSome (instruction op) (λ i. MeetsAt op n (VecImm i 0 (min n 255) ∷ []))
unfolding formula
meets Op.Shlw n h = record { vectors = refl; first = by_count 2 Op.Shlw imm.Psllw n h (λ c. refl) (λ σ n l. shl_cut 16 (σ 0) n (lit≤ tt)); second = none 2 imm.Psllw n; keeps = kept imm.Psllw n }
meets Op.Shll n h = record { vectors = refl; first = by_count 4 Op.Shll imm.Pslld n h (λ c. refl) (λ σ n l. shl_cut 32 (σ 0) n (lit≤ tt)); second = none 4 imm.Pslld n; keeps = kept imm.Pslld n }
meets Op.Shlq n h = record { vectors = refl; first = by_count 8 Op.Shlq imm.Psllq n h (λ c. refl) (λ σ n l. shl_cut 64 (σ 0) n (lit≤ tt)); second = none 8 imm.Psllq n; keeps = kept imm.Psllq n }
meets Op.Shrsw n h = record { vectors = refl; first = by_count 2 Op.Shrsw imm.Psraw n h (λ c. refl) (λ σ n l. sar_cut 16 (σ 0) n (lit≤ tt) ∙ sar_is 16 (σ 0) n l); second = none 2 imm.Psraw n; keeps = kept imm.Psraw n }
meets Op.Shrsl n h = record { vectors = refl; first = by_count 4 Op.Shrsl imm.Psrad n h (λ c. refl) (λ σ n l. sar_cut 32 (σ 0) n (lit≤ tt) ∙ sar_is 32 (σ 0) n l); second = none 4 imm.Psrad n; keeps = kept imm.Psrad n }
meets Op.Shruw n h = record { vectors = refl; first = by_count 2 Op.Shruw imm.Psrlw n h (λ c. refl) (λ σ n l. shr_cut 16 (σ 0) n (lit≤ tt)); second = none 2 imm.Psrlw n; keeps = kept imm.Psrlw n }
meets Op.Shrul n h = record { vectors = refl; first = by_count 4 Op.Shrul imm.Psrld n h (λ c. refl) (λ σ n l. shr_cut 32 (σ 0) n (lit≤ tt)); second = none 4 imm.Psrld n; keeps = kept imm.Psrld n }
meets Op.Shruq n h = record { vectors = refl; first = by_count 8 Op.Shruq imm.Psrlq n h (λ c. refl) (λ σ n l. shr_cut 64 (σ 0) n (lit≤ tt)); second = none 8 imm.Psrlq n; keeps = kept imm.Psrlq n }
meets op n h = tt
