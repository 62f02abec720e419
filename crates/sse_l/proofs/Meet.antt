-- Each sequence computes its opcode.
use Rattle.std.proofs.Common.{◌≡◌, ℕ, ◌+◌, ◌*◌, ◌^◌, ◌<◌, ◌≤◌, List, refl, arith, true, false}
use Rattle.std.proofs.lemmas.Bool.{false≢true}
use Rattle.orc_bits.specs.Lanes.{lane}
use Rattle.orc_ops.specs.declared.opcode.Op.{Op}
use Rattle.orc_ops.specs.Formula.{formula}
use Rattle.x86_ins.specs.Vectors.{Registers, after}
use Rattle.sse_laws.specs.Meets.{Meets, is_of_size}
use Rattle.sse_laws.proofs.Ranges.{wrap-lt}
use Rattle.sse_laws.proofs.Runs.{all_lanewise, targets_below_six, run_keeps}
use Rattle.sse_laws.proofs.Ways.{OnLanes, OnLanesByCount, plain, shifted, doubled, first_result, no_second}
use Rattle.sse_l.specs.Rules.{rule_of}
use Rattle.sse_l.proofs.Equations.{Computes, ComputesByCount}
use Rattle.sse_l.proofs.Equations as longs
use Rattle.sse_l.proofs.Products.{ComputesTwice}
use Rattle.sse_l.proofs.Products as products
use Rattle.sse_l.proofs.Swaps as swaps

-- on longs, and on longs by a count
long : (op : Op) → all_lanewise 4 false (rule_of op) ≡ true → Computes op → OnLanes 4 (rule_of op) (first_result op)
long op t e = plain 4 (rule_of op) (first_result op) t e

counted : (op : Op) → all_lanewise 4 true (rule_of op) ≡ true → ComputesByCount op → OnLanesByCount 4 (rule_of op) (first_result op)
counted op t e = shifted 4 (rule_of op) (first_result op) t e

-- on longs by the quads that hold them
in_quads : (op : Op) → all_lanewise 8 false (rule_of op) ≡ true → ((a b : ℕ) → first_result op a b < 2 ^ 32) → ComputesTwice op → OnLanes 4 (rule_of op) (first_result op)
in_quads op t fits e = doubled 4 (rule_of op) (first_result op) t (λ q h. omega arith) (λ a b h k. fits a b) e

-- no second result
none : (op : Op) (x : ℕ → List ℕ) → Registers x → (q : ℕ) → q * 4 + 4 ≤ 16 → lane 0 q (after (rule_of op) x 1) ≡ 0
none op = no_second 4 (rule_of op)

kept : (op : Op) → targets_below_six (rule_of op) ≡ true → (x : ℕ → List ℕ) (r : ℕ) → 6 ≤ r → after (rule_of op) x r ≡ x r
kept op = run_keeps (rule_of op)

pub meets : (op : Op) → is_of_size 4 op ≡ true → Meets op (rule_of op)
unfolding formula
meets Op.Absl t = record { vectors = refl; first = long Op.Absl refl longs.absl_eq; second = none Op.Absl; keeps = kept Op.Absl refl }
meets Op.Addl t = record { vectors = refl; first = long Op.Addl refl longs.addl_eq; second = none Op.Addl; keeps = kept Op.Addl refl }
meets Op.Addssl t = record { vectors = refl; first = long Op.Addssl refl longs.addssl_eq; second = none Op.Addssl; keeps = kept Op.Addssl refl }
meets Op.Addusl t = record { vectors = refl; first = long Op.Addusl refl longs.addusl_eq; second = none Op.Addusl; keeps = kept Op.Addusl refl }
meets Op.Andl t = record { vectors = refl; first = long Op.Andl refl longs.andl_eq; second = none Op.Andl; keeps = kept Op.Andl refl }
meets Op.Andnl t = record { vectors = refl; first = long Op.Andnl refl longs.andnl_eq; second = none Op.Andnl; keeps = kept Op.Andnl refl }
meets Op.Avgsl t = record { vectors = refl; first = long Op.Avgsl refl longs.avgsl_eq; second = none Op.Avgsl; keeps = kept Op.Avgsl refl }
meets Op.Avgul t = record { vectors = refl; first = long Op.Avgul refl longs.avgul_eq; second = none Op.Avgul; keeps = kept Op.Avgul refl }
meets Op.Cmpeql t = record { vectors = refl; first = long Op.Cmpeql refl longs.cmpeql_eq; second = none Op.Cmpeql; keeps = kept Op.Cmpeql refl }
meets Op.Cmpgtsl t = record { vectors = refl; first = long Op.Cmpgtsl refl longs.cmpgtsl_eq; second = none Op.Cmpgtsl; keeps = kept Op.Cmpgtsl refl }
meets Op.Copyl t = record { vectors = refl; first = long Op.Copyl refl longs.copyl_eq; second = none Op.Copyl; keeps = kept Op.Copyl refl }
meets Op.Loadl t = record { vectors = refl; first = long Op.Loadl refl longs.loadl_eq; second = none Op.Loadl; keeps = kept Op.Loadl refl }
meets Op.Loadpl t = record { vectors = refl; first = long Op.Loadpl refl longs.loadpl_eq; second = none Op.Loadpl; keeps = kept Op.Loadpl refl }
meets Op.Maxsl t = record { vectors = refl; first = long Op.Maxsl refl longs.maxsl_eq; second = none Op.Maxsl; keeps = kept Op.Maxsl refl }
meets Op.Maxul t = record { vectors = refl; first = long Op.Maxul refl longs.maxul_eq; second = none Op.Maxul; keeps = kept Op.Maxul refl }
meets Op.Minsl t = record { vectors = refl; first = long Op.Minsl refl longs.minsl_eq; second = none Op.Minsl; keeps = kept Op.Minsl refl }
meets Op.Minul t = record { vectors = refl; first = long Op.Minul refl longs.minul_eq; second = none Op.Minul; keeps = kept Op.Minul refl }
meets Op.Mulhsl t = record { vectors = refl; first = in_quads Op.Mulhsl refl (λ a b. wrap-lt 32 _) products.mulhsl_eq; second = none Op.Mulhsl; keeps = kept Op.Mulhsl refl }
meets Op.Mulhul t = record { vectors = refl; first = in_quads Op.Mulhul refl (λ a b. omega arith) products.mulhul_eq; second = none Op.Mulhul; keeps = kept Op.Mulhul refl }
meets Op.Mulll t = record { vectors = refl; first = in_quads Op.Mulll refl (λ a b. omega arith) products.mulll_eq; second = none Op.Mulll; keeps = kept Op.Mulll refl }
meets Op.Orl t = record { vectors = refl; first = long Op.Orl refl longs.orl_eq; second = none Op.Orl; keeps = kept Op.Orl refl }
meets Op.Shll t = record { vectors = refl; first = counted Op.Shll refl longs.shll_eq; second = none Op.Shll; keeps = kept Op.Shll refl }
meets Op.Shrsl t = record { vectors = refl; first = counted Op.Shrsl refl longs.shrsl_eq; second = none Op.Shrsl; keeps = kept Op.Shrsl refl }
meets Op.Shrul t = record { vectors = refl; first = counted Op.Shrul refl longs.shrul_eq; second = none Op.Shrul; keeps = kept Op.Shrul refl }
meets Op.Signl t = record { vectors = refl; first = long Op.Signl refl longs.signl_eq; second = none Op.Signl; keeps = kept Op.Signl refl }
meets Op.Storel t = record { vectors = refl; first = long Op.Storel refl longs.storel_eq; second = none Op.Storel; keeps = kept Op.Storel refl }
meets Op.Subl t = record { vectors = refl; first = long Op.Subl refl longs.subl_eq; second = none Op.Subl; keeps = kept Op.Subl refl }
meets Op.Subssl t = record { vectors = refl; first = long Op.Subssl refl longs.subssl_eq; second = none Op.Subssl; keeps = kept Op.Subssl refl }
meets Op.Subusl t = record { vectors = refl; first = long Op.Subusl refl longs.subusl_eq; second = none Op.Subusl; keeps = kept Op.Subusl refl }
meets Op.Swapl t = record { vectors = refl; first = swaps.swapl_lanes; second = none Op.Swapl; keeps = kept Op.Swapl refl }
meets Op.Swapwl t = record { vectors = refl; first = swaps.swapwl_lanes; second = none Op.Swapwl; keeps = kept Op.Swapwl refl }
meets Op.Xorl t = record { vectors = refl; first = long Op.Xorl refl longs.xorl_eq; second = none Op.Xorl; keeps = kept Op.Xorl refl }
meets Op.Loadoffl t = record { vectors = refl; first = long Op.Loadoffl refl longs.copyl_eq; second = none Op.Loadoffl; keeps = kept Op.Loadoffl refl }
meets Op.Ldresnearl t = record { vectors = refl; first = long Op.Ldresnearl refl longs.copyl_eq; second = none Op.Ldresnearl; keeps = kept Op.Ldresnearl refl }
meets Op.Ldreslinl t = record { vectors = refl; first = long Op.Ldreslinl refl longs.copyl_eq; second = none Op.Ldreslinl; keeps = kept Op.Ldreslinl refl }
meets _ t = absurd (false≢true t)
