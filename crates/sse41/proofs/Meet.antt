-- Each sequence computes its opcode.
use Rattle.std.proofs.Common.{◌≡◌, ℕ, ◌+◌, ◌*◌, ◌<◌, ◌≤◌, List, refl, lit<, true, false}
use Rattle.std.proofs.lemmas.Bool.{false≢true}
use Rattle.orc_bits.specs.Numbers.{cut}
use Rattle.orc_bits.specs.Lanes.{lane}
use Rattle.orc_ops.specs.declared.opcode.Op.{Op}
use Rattle.orc_ops.specs.Formula.{formula}
use Rattle.orc_ops.specs.Targets.{is_shortened}
use Rattle.x86_ins.specs.Vectors.{Registers, after}
use Rattle.sse_laws.specs.Meets.{Meets}
use Rattle.sse_laws.proofs.Runs.{all_lanewise, targets_below_six, run_keeps}
use Rattle.sse_laws.proofs.Two.{two_exec, start}
use Rattle.sse_laws.proofs.Ways.{OnLanes, plain, first_result, widens, narrows, no_second}
use Rattle.sse41.specs.Rules.{rule_of}
use Rattle.sse41.proofs.Equations.{Computes, Widens, Narrows}
use Rattle.sse41.proofs.Equations as eqs

-- on lanes of w bytes
same : (w : ℕ) (op : Op) → all_lanewise w false (rule_of op) ≡ true → Computes w op → OnLanes w (rule_of op) (first_result op)
same w op t e = plain w (rule_of op) (first_result op) t e

-- from sources of w bytes to a result twice as large
wide : (w : ℕ) (op : Op) → 0 < w → ((q : ℕ) (x : ℕ → List ℕ) → (two_exec w (rule_of op) (start w q x)).wide_known 0 ≡ true) → Widens w op →
    (x : ℕ → List ℕ) → Registers x → (q : ℕ) → q * (w + w) + (w + w) ≤ 16 →
    lane (w + w) q (after (rule_of op) x 0) ≡ first_result op (cut (8 * w) (lane w q (x 0))) (cut (8 * w) (lane w q (x 1)))
wide w op p known e = widens w (rule_of op) (first_result op) p known e

-- from a source of twice w bytes to a result of w bytes
narrow : (w : ℕ) (op : Op) → 0 < w → ((q : ℕ) (x : ℕ → List ℕ) → (two_exec w (rule_of op) (start w q x)).narrow_known 0 ≡ true) → Narrows w op →
    (x : ℕ → List ℕ) → Registers x → (q : ℕ) → q * (w + w) + (w + w) ≤ 16 →
    lane w q (after (rule_of op) x 0) ≡ first_result op (cut (8 * (w + w)) (lane (w + w) q (x 0))) 0
narrow w op p known e = narrows w 0 (rule_of op) (λ a. first_result op a 0) p known e

-- no second result, where the largest operand has so many bytes
none : (w : ℕ) (op : Op) (x : ℕ → List ℕ) → Registers x → (q : ℕ) → q * w + w ≤ 16 → lane 0 q (after (rule_of op) x 1) ≡ 0
none w op = no_second w (rule_of op)

kept : (op : Op) → targets_below_six (rule_of op) ≡ true → (x : ℕ → List ℕ) (r : ℕ) → 6 ≤ r → after (rule_of op) x r ≡ x r
kept op = run_keeps (rule_of op)

pub meets : (op : Op) → is_shortened op ≡ true → Meets op (rule_of op)
unfolding formula
meets Op.Absl t = record { vectors = refl; first = same 4 Op.Absl refl eqs.absl_eq; second = none 4 Op.Absl; keeps = kept Op.Absl refl }
meets Op.Maxsb t = record { vectors = refl; first = same 1 Op.Maxsb refl eqs.maxsb_eq; second = none 1 Op.Maxsb; keeps = kept Op.Maxsb refl }
meets Op.Minsb t = record { vectors = refl; first = same 1 Op.Minsb refl eqs.minsb_eq; second = none 1 Op.Minsb; keeps = kept Op.Minsb refl }
meets Op.Maxsl t = record { vectors = refl; first = same 4 Op.Maxsl refl eqs.maxsl_eq; second = none 4 Op.Maxsl; keeps = kept Op.Maxsl refl }
meets Op.Minsl t = record { vectors = refl; first = same 4 Op.Minsl refl eqs.minsl_eq; second = none 4 Op.Minsl; keeps = kept Op.Minsl refl }
meets Op.Maxul t = record { vectors = refl; first = same 4 Op.Maxul refl eqs.maxul_eq; second = none 4 Op.Maxul; keeps = kept Op.Maxul refl }
meets Op.Minul t = record { vectors = refl; first = same 4 Op.Minul refl eqs.minul_eq; second = none 4 Op.Minul; keeps = kept Op.Minul refl }
meets Op.Mulll t = record { vectors = refl; first = same 4 Op.Mulll refl eqs.mulll_eq; second = none 4 Op.Mulll; keeps = kept Op.Mulll refl }
meets Op.Convsuslw t = record { vectors = refl; first = narrow 2 Op.Convsuslw (lit< tt) (λ q x. refl) eqs.convsuslw_eq; second = none 4 Op.Convsuslw; keeps = kept Op.Convsuslw refl }
meets Op.Mulsbw t = record { vectors = refl; first = wide 1 Op.Mulsbw (lit< tt) (λ q x. refl) eqs.mulsbw_eq; second = none 2 Op.Mulsbw; keeps = kept Op.Mulsbw refl }
meets Op.Mulubw t = record { vectors = refl; first = wide 1 Op.Mulubw (lit< tt) (λ q x. refl) eqs.mulubw_eq; second = none 2 Op.Mulubw; keeps = kept Op.Mulubw refl }
meets Op.Mulswl t = record { vectors = refl; first = wide 2 Op.Mulswl (lit< tt) (λ q x. refl) eqs.mulswl_eq; second = none 4 Op.Mulswl; keeps = kept Op.Mulswl refl }
meets Op.Muluwl t = record { vectors = refl; first = wide 2 Op.Muluwl (lit< tt) (λ q x. refl) eqs.muluwl_eq; second = none 4 Op.Muluwl; keeps = kept Op.Muluwl refl }
meets Op.Mulslq t = record { vectors = refl; first = wide 4 Op.Mulslq (lit< tt) (λ q x. refl) eqs.mulslq_eq; second = none 8 Op.Mulslq; keeps = kept Op.Mulslq refl }
meets Op.Mululq t = record { vectors = refl; first = wide 4 Op.Mululq (lit< tt) (λ q x. refl) eqs.mululq_eq; second = none 8 Op.Mululq; keeps = kept Op.Mululq refl }
meets _ t = absurd (false≢true t)
