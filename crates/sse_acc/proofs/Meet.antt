-- Each sequence adds its opcode's numbers to the running sums.
use Rattle.std.proofs.Common.{◌≡◌, ℕ, suc, ◌+◌, ◌-◌, ◌*◌, ◌/◌, ◌%◌, ◌^◌, ◌<◌, ◌≤◌, ◌==◌, if◌then◌else◌, Bool, eqb-true, List, [], ◌∷◌, refl, sym, ◌∙◌, ap, ap₂, lit<, lit≤, arith, true, false}
use Rattle.std.proofs.lemmas.Bool.{false≢true}
use Rattle.std.proofs.lemmas.Nat.{mul-le}
use Rattle.orc_bits.specs.Numbers.{cut}
use Rattle.orc_bits.specs.Lanes.{lane, AreBytes}
use Rattle.orc_bits.proofs.LaneLaws.{lane-lt, AreBytes-from_lanes}
use Rattle.orc_bits.proofs.Bytewise.{InRange, each_same}
use Rattle.orc_ops.specs.declared.opcode.Op.{Op}
use Rattle.orc_ops.specs.Table.{row, size_of_result}
use Rattle.orc_ops.specs.Formula.{formula}
use Rattle.x86_ins.specs.declared.ins.Ins.TheVariants.{Vec, VecImm}
use Rattle.x86_ins.specs.declared.ins.VecImmOp.TheVariants.{Pslldq}
use Rattle.x86_ins.specs.declared.ins.VecOp.TheVariants.{Paddw, Paddd}
use Rattle.x86_ins.specs.Vectors.{Registers, after, result_of, each, distances, distance, add_wrap}
use Rattle.sse_laws.specs.Meets.{is_sum}
use Rattle.sse_laws.proofs.Ranges.{good}
use Rattle.sse_laws.proofs.Runs.{run_keeps}
use Rattle.sse_laws.proofs.Ways.{cut_lane}
use Rattle.sse_acc.specs.Rules.{rule_of}
use Rattle.sse_acc.specs.Sums.{sum_below, sum_of, number_of, AddsUp}
use Rattle.sse_acc.proofs.Totals.{sum_below-same, sum_below-moved, sum_below-mod}
use Rattle.sse_acc.proofs.Moved.{up, lane-up_low, lane-up_high}
use Rattle.sse_acc.proofs.Distances.{apart, sum_of-distances}

-- ---- lanes that are added to lanes, modulo 2 ^ (8 * w)

in_register : (w t q : ℕ) → t * w ≤ 16 → q < t → q * w + w ≤ 16
in_register w t q l m =
    let a : suc q * w ≤ t * w = mul-le (suc q) w t w m (omega arith) in
    let b : suc q * w ≡ q * w + w = omega arith in
    omega arith

added : (w t : ℕ) → 0 < w → t * w ≤ 16 → InRange w add_wrap → (x y : List ℕ) → AreBytes x → AreBytes y →
    sum_below t (λ q. lane w q (result_of (each w add_wrap) x y)) % 2 ^ (8 * w) ≡ (sum_below t (λ q. lane w q x) + sum_below t (λ q. lane w q y)) % 2 ^ (8 * w)
added w t p l r x y hx hy =
    sum_below-mod (2 ^ (8 * w)) t (λ q. lane w q x) (λ q. lane w q y) (λ q. lane w q (result_of (each w add_wrap) x y))
    (λ q m. each_same w add_wrap p r x y hx hy q (in_register w t q l m))

-- only the first n lanes are left where the k lanes beyond them are shifted out
first_lanes : (w k n t c : ℕ) → n + k ≡ t → k * w ≡ c → t * w ≤ 16 → (y : List ℕ) → AreBytes y →
    sum_below t (λ q. lane w q (up c y)) ≡ sum_below n (λ q. lane w q y)
first_lanes w k n t c e d l y h =
    let a : c ≤ 16 = let b : (n + k) * w ≤ 16 = rw e l in omega arith in
    ap (λ m. sum_below m (λ q. lane w q (up c y))) (sym e)
    ∙ sum_below-moved k n (λ q. lane w q y) (λ q. lane w q (up c y))
    (λ q m. lane-up_low w k c q d a y h m)
    (λ q m. lane-up_high w k c q d y h (in_register w t (q + k) l (omega arith)))

first_distances : (k n : ℕ) → n + k ≡ 16 → (x y : List ℕ) → AreBytes x → AreBytes y →
    sum_below 16 (apart (up k x) (up k y)) ≡ sum_below n (apart x y)
first_distances k n e x y hx hy =
    let d : k * 1 ≡ k = omega arith in
    let l : k ≤ 16 = omega arith in
    ap (λ m. sum_below m (apart (up k x) (up k y))) (sym e)
    ∙ sum_below-moved k n (apart x y) (apart (up k x) (up k y))
    (λ q m. ap₂ distance (lane-up_low 1 k k q d l x hx m) (lane-up_low 1 k k q d l y hy m))
    (λ q m. ap₂ distance (lane-up_high 1 k k q d x hx (omega arith)) (lane-up_high 1 k k q d y hy (omega arith)))

-- ---- the opcodes

-- words: all lanes, or the first n
accw : (n : ℕ) → n ≤ 8 → (b : Bool) → (n == 8) ≡ b → AddsUp Op.Accw n (if b then Vec Paddw 2 0 ∷ [] else VecImm Pslldq 0 (16 - 2 * n) ∷ Vec Paddw 2 0 ∷ [])
unfolding after formula
accw n h true e = record {
  vectors = refl;
  grows = λ x g.
      added 2 8 (lit< tt) (lit≤ tt) (good Paddw).1 (x 2) (x 0) (g 2) (g 0)
      ∙ ap (λ s. cut 16 (sum_of 2 (x 2) + s)) (ap (λ m. sum_below m (λ q. lane 2 q (x 0))) (sym (eqb-true n 8 e)) ∙ sum_below-same n (λ q. lane 2 q (x 0)) (λ q. number_of Op.Accw q x) (λ q l. sym (cut_lane (x 0) (g 0) 2 q)));
  keeps = run_keeps (Vec Paddw 2 0 ∷ []) refl;
}
accw n h false e = record {
  vectors = refl;
  grows = λ x g.
      added 2 8 (lit< tt) (lit≤ tt) (good Paddw).1 (x 2) (up (16 - 2 * n) (x 0)) (g 2) (AreBytes-from_lanes 1 _)
      ∙ ap (λ s. cut 16 (sum_of 2 (x 2) + s)) (first_lanes 2 (8 - n) n 8 (16 - 2 * n) (omega arith) (omega arith) (lit≤ tt) (x 0) (g 0)
      ∙ sum_below-same n (λ q. lane 2 q (x 0)) (λ q. number_of Op.Accw q x) (λ q l. sym (cut_lane (x 0) (g 0) 2 q)));
  keeps = run_keeps (VecImm Pslldq 0 (16 - 2 * n) ∷ Vec Paddw 2 0 ∷ []) refl;
}

-- longs
accl : (n : ℕ) → n ≤ 4 → (b : Bool) → (n == 4) ≡ b → AddsUp Op.Accl n (if b then Vec Paddd 2 0 ∷ [] else VecImm Pslldq 0 (16 - 4 * n) ∷ Vec Paddd 2 0 ∷ [])
unfolding after formula
accl n h true e = record {
  vectors = refl;
  grows = λ x g.
      added 4 4 (lit< tt) (lit≤ tt) (good Paddd).1 (x 2) (x 0) (g 2) (g 0)
      ∙ ap (λ s. cut 32 (sum_of 4 (x 2) + s)) (ap (λ m. sum_below m (λ q. lane 4 q (x 0))) (sym (eqb-true n 4 e)) ∙ sum_below-same n (λ q. lane 4 q (x 0)) (λ q. number_of Op.Accl q x) (λ q l. sym (cut_lane (x 0) (g 0) 4 q)));
  keeps = run_keeps (Vec Paddd 2 0 ∷ []) refl;
}
accl n h false e = record {
  vectors = refl;
  grows = λ x g.
      added 4 4 (lit< tt) (lit≤ tt) (good Paddd).1 (x 2) (up (16 - 4 * n) (x 0)) (g 2) (AreBytes-from_lanes 1 _)
      ∙ ap (λ s. cut 32 (sum_of 4 (x 2) + s)) (first_lanes 4 (4 - n) n 4 (16 - 4 * n) (omega arith) (omega arith) (lit≤ tt) (x 0) (g 0)
      ∙ sum_below-same n (λ q. lane 4 q (x 0)) (λ q. number_of Op.Accl q x) (λ q l. sym (cut_lane (x 0) (g 0) 4 q)));
  keeps = run_keeps (VecImm Pslldq 0 (16 - 4 * n) ∷ Vec Paddd 2 0 ∷ []) refl;
}

-- a distance of bytes is what the formula adds
distance_is : (a b : ℕ) → a < 256 → b < 256 → distance a b ≡ (formula Op.Accsadubl a b).0
unfolding formula
distance_is a b k l = omega arith

accsadubl : (n : ℕ) → n ≤ 16 → (x : ℕ → List ℕ) → Registers x →
    cut 32 (sum_of 4 (after (rule_of Op.Accsadubl n) x 2)) ≡ cut 32 (sum_of 4 (x 2) + sum_below n (λ q. number_of Op.Accsadubl q x))
unfolding after
accsadubl n h x g =
    let a : List ℕ = up (16 - n) (x 0) in
    let b : List ℕ = up (16 - n) (x 1) in
    added 4 4 (lit< tt) (lit≤ tt) (good Paddd).1 (x 2) (result_of distances a b) (g 2) (AreBytes-from_lanes 8 _)
    ∙ ap (λ s. cut 32 (sum_of 4 (x 2) + s)) (sum_of-distances a b (AreBytes-from_lanes 1 _) (AreBytes-from_lanes 1 _)
    ∙ first_distances (16 - n) n (omega arith) (x 0) (x 1) (g 0) (g 1)
    ∙ sum_below-same n (apart (x 0) (x 1)) (λ q. number_of Op.Accsadubl q x) (λ q l. distance_is (lane 1 q (x 0)) (lane 1 q (x 1)) (lane-lt (x 0) (g 0) 1 q) (lane-lt (x 1) (g 1) 1 q)))

pub adds_up : (op : Op) (n : ℕ) → is_sum (row op).kind ≡ true → n ≤ 16 / size_of_result op 0 → AddsUp op n (rule_of op n)
adds_up Op.Accw n t h = accw n h (n == 8) refl
adds_up Op.Accl n t h = accl n h (n == 4) refl
adds_up Op.Accsadubl n t h = record { vectors = refl; grows = accsadubl n (omega (arith, h)); keeps = run_keeps (rule_of Op.Accsadubl n) refl }
adds_up _ n t h = absurd (false≢true t)
