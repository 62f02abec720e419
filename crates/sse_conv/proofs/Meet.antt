-- Each sequence computes its opcode.
use Rattle.std.proofs.Common.{◌≡◌, ℕ, ◌+◌, ◌*◌, ◌<◌, ◌≤◌, List, refl, lit<, arith, true, false}
use Rattle.std.proofs.lemmas.Bool.{false≢true}
use Rattle.orc_bits.specs.Numbers.{cut}
use Rattle.orc_bits.specs.Lanes.{lane}
use Rattle.orc_ops.specs.declared.opcode.Op.{Op}
use Rattle.orc_ops.specs.Formula.{formula}
use Rattle.x86_ins.specs.Vectors.{Registers, after}
use Rattle.sse_laws.specs.Meets.{Meets}
use Rattle.sse_laws.proofs.Runs.{all_lanewise, targets_below_six, run_keeps}
use Rattle.sse_laws.proofs.Two.{two_exec, start}
use Rattle.std.proofs.Math.Nat.{mul-le-mul_left, le_trans}
use Rattle.sse_laws.proofs.Ways.{Equation, plain, first_result, second_result, widens, narrows, no_second}
use Rattle.sse_conv.specs.Rules.{rule_of}
use Rattle.sse_conv.specs.Sizes.{changes_size}
use Rattle.sse_conv.proofs.Equations.{Widens, Narrows, NarrowsSecond}
use Rattle.sse_conv.proofs.Widenings as wider
use Rattle.sse_conv.proofs.Narrowings as narrower
use Rattle.sse_conv.proofs.Clamps as clamped
use Rattle.sse_conv.proofs.Products as products

-- from sources of w bytes to a result twice as large
wide : (w : ℕ) (op : Op) → 0 < w → ((q : ℕ) (x : ℕ → List ℕ) → (two_exec w (rule_of op) (start w q x)).wide_known 0 ≡ true) → Widens w op →
    (x : ℕ → List ℕ) → Registers x → (q : ℕ) → q * (w + w) + (w + w) ≤ 16 →
    lane (w + w) q (after (rule_of op) x 0) ≡ first_result op (cut (8 * w) (lane w q (x 0))) (cut (8 * w) (lane w q (x 1)))
wide w op p known e = widens w (rule_of op) (first_result op) p known e

-- from a source of twice w bytes to a result of w bytes, and to a second one
narrow : (w : ℕ) (op : Op) → 0 < w → ((q : ℕ) (x : ℕ → List ℕ) → (two_exec w (rule_of op) (start w q x)).narrow_known 0 ≡ true) → Narrows w op →
    (x : ℕ → List ℕ) → Registers x → (q : ℕ) → q * (w + w) + (w + w) ≤ 16 →
    lane w q (after (rule_of op) x 0) ≡ first_result op (cut (8 * (w + w)) (lane (w + w) q (x 0))) 0
narrow w op p known e = narrows w 0 (rule_of op) (λ a. first_result op a 0) p known e

narrow_second : (w : ℕ) (op : Op) → 0 < w → ((q : ℕ) (x : ℕ → List ℕ) → (two_exec w (rule_of op) (start w q x)).narrow_known 1 ≡ true) → NarrowsSecond w op →
    (x : ℕ → List ℕ) → Registers x → (q : ℕ) → q * (w + w) + (w + w) ≤ 16 →
    lane w q (after (rule_of op) x 1) ≡ second_result op (cut (8 * (w + w)) (lane (w + w) q (x 0))) 0
narrow_second w op p known e = narrows w 1 (rule_of op) (λ a. second_result op a 0) p known e

-- from a source of w bytes to a result of w bytes, beside scalars of 4 bytes
loaded : (w : ℕ) (op : Op) → all_lanewise w false (rule_of op) ≡ true → Equation w (rule_of op) (first_result op) → w ≤ 4 →
    (x : ℕ → List ℕ) → Registers x → (q : ℕ) → q * 4 + 4 ≤ 16 → lane w q (after (rule_of op) x 0) ≡ first_result op (cut (8 * w) (lane w q (x 0))) (cut (8 * w) (lane w q (x 1)))
loaded w op t e l x h q k = plain w (rule_of op) (first_result op) t e x h q (le_trans (room w q l) k)
  where
    room : (w q : ℕ) → w ≤ 4 → q * w + w ≤ q * 4 + 4
    room w q l = let m = mul-le-mul_left q l in omega (arith, l, m)

-- no second result, where the largest operand has so many bytes
none : (w : ℕ) (op : Op) (x : ℕ → List ℕ) → Registers x → (q : ℕ) → q * w + w ≤ 16 → lane 0 q (after (rule_of op) x 1) ≡ 0
none w op = no_second w (rule_of op)

kept : (op : Op) → targets_below_six (rule_of op) ≡ true → (x : ℕ → List ℕ) (r : ℕ) → 6 ≤ r → after (rule_of op) x r ≡ x r
kept op = run_keeps (rule_of op)

pub meets : (op : Op) → changes_size op ≡ true → Meets op (rule_of op)
unfolding formula
meets Op.Convhlw t = record { vectors = refl; first = narrow 2 Op.Convhlw (lit< tt) (λ q x. refl) narrower.convhlw_eq; second = none 4 Op.Convhlw; keeps = kept Op.Convhlw refl }
meets Op.Convhql t = record { vectors = refl; first = narrow 4 Op.Convhql (lit< tt) (λ q x. refl) narrower.convhql_eq; second = none 8 Op.Convhql; keeps = kept Op.Convhql refl }
meets Op.Convhwb t = record { vectors = refl; first = narrow 1 Op.Convhwb (lit< tt) (λ q x. refl) narrower.convhwb_eq; second = none 2 Op.Convhwb; keeps = kept Op.Convhwb refl }
meets Op.Convlw t = record { vectors = refl; first = narrow 2 Op.Convlw (lit< tt) (λ q x. refl) narrower.convlw_eq; second = none 4 Op.Convlw; keeps = kept Op.Convlw refl }
meets Op.Convql t = record { vectors = refl; first = narrow 4 Op.Convql (lit< tt) (λ q x. refl) narrower.convql_eq; second = none 8 Op.Convql; keeps = kept Op.Convql refl }
meets Op.Convsbw t = record { vectors = refl; first = wide 1 Op.Convsbw (lit< tt) (λ q x. refl) wider.convsbw_eq; second = none 2 Op.Convsbw; keeps = kept Op.Convsbw refl }
meets Op.Convslq t = record { vectors = refl; first = wide 4 Op.Convslq (lit< tt) (λ q x. refl) wider.convslq_eq; second = none 8 Op.Convslq; keeps = kept Op.Convslq refl }
meets Op.Convssslw t = record { vectors = refl; first = narrow 2 Op.Convssslw (lit< tt) (λ q x. refl) clamped.convssslw_eq; second = none 4 Op.Convssslw; keeps = kept Op.Convssslw refl }
meets Op.Convsssql t = record { vectors = refl; first = narrow 4 Op.Convsssql (lit< tt) (λ q x. refl) clamped.convsssql_eq; second = none 8 Op.Convsssql; keeps = kept Op.Convsssql refl }
meets Op.Convssswb t = record { vectors = refl; first = narrow 1 Op.Convssswb (lit< tt) (λ q x. refl) clamped.convssswb_eq; second = none 2 Op.Convssswb; keeps = kept Op.Convssswb refl }
meets Op.Convsuslw t = record { vectors = refl; first = narrow 2 Op.Convsuslw (lit< tt) (λ q x. refl) clamped.convsuslw_eq; second = none 4 Op.Convsuslw; keeps = kept Op.Convsuslw refl }
meets Op.Convsusql t = record { vectors = refl; first = narrow 4 Op.Convsusql (lit< tt) (λ q x. refl) clamped.convsusql_eq; second = none 8 Op.Convsusql; keeps = kept Op.Convsusql refl }
meets Op.Convsuswb t = record { vectors = refl; first = narrow 1 Op.Convsuswb (lit< tt) (λ q x. refl) clamped.convsuswb_eq; second = none 2 Op.Convsuswb; keeps = kept Op.Convsuswb refl }
meets Op.Convswl t = record { vectors = refl; first = wide 2 Op.Convswl (lit< tt) (λ q x. refl) wider.convswl_eq; second = none 4 Op.Convswl; keeps = kept Op.Convswl refl }
meets Op.Convubw t = record { vectors = refl; first = wide 1 Op.Convubw (lit< tt) (λ q x. refl) wider.convubw_eq; second = none 2 Op.Convubw; keeps = kept Op.Convubw refl }
meets Op.Convulq t = record { vectors = refl; first = wide 4 Op.Convulq (lit< tt) (λ q x. refl) wider.convulq_eq; second = none 8 Op.Convulq; keeps = kept Op.Convulq refl }
meets Op.Convusslw t = record { vectors = refl; first = narrow 2 Op.Convusslw (lit< tt) (λ q x. refl) clamped.convusslw_eq; second = none 4 Op.Convusslw; keeps = kept Op.Convusslw refl }
meets Op.Convussql t = record { vectors = refl; first = narrow 4 Op.Convussql (lit< tt) (λ q x. refl) clamped.convussql_eq; second = none 8 Op.Convussql; keeps = kept Op.Convussql refl }
meets Op.Convusswb t = record { vectors = refl; first = narrow 1 Op.Convusswb (lit< tt) (λ q x. refl) clamped.convusswb_eq; second = none 2 Op.Convusswb; keeps = kept Op.Convusswb refl }
meets Op.Convuuslw t = record { vectors = refl; first = narrow 2 Op.Convuuslw (lit< tt) (λ q x. refl) clamped.convuuslw_eq; second = none 4 Op.Convuuslw; keeps = kept Op.Convuuslw refl }
meets Op.Convuusql t = record { vectors = refl; first = narrow 4 Op.Convuusql (lit< tt) (λ q x. refl) clamped.convuusql_eq; second = none 8 Op.Convuusql; keeps = kept Op.Convuusql refl }
meets Op.Convuuswb t = record { vectors = refl; first = narrow 1 Op.Convuuswb (lit< tt) (λ q x. refl) clamped.convuuswb_eq; second = none 2 Op.Convuuswb; keeps = kept Op.Convuuswb refl }
meets Op.Convuwl t = record { vectors = refl; first = wide 2 Op.Convuwl (lit< tt) (λ q x. refl) wider.convuwl_eq; second = none 4 Op.Convuwl; keeps = kept Op.Convuwl refl }
meets Op.Convwb t = record { vectors = refl; first = narrow 1 Op.Convwb (lit< tt) (λ q x. refl) narrower.convwb_eq; second = none 2 Op.Convwb; keeps = kept Op.Convwb refl }
meets Op.Mergebw t = record { vectors = refl; first = wide 1 Op.Mergebw (lit< tt) (λ q x. refl) wider.mergebw_eq; second = none 2 Op.Mergebw; keeps = kept Op.Mergebw refl }
meets Op.Mergelq t = record { vectors = refl; first = wide 4 Op.Mergelq (lit< tt) (λ q x. refl) wider.mergelq_eq; second = none 8 Op.Mergelq; keeps = kept Op.Mergelq refl }
meets Op.Mergewl t = record { vectors = refl; first = wide 2 Op.Mergewl (lit< tt) (λ q x. refl) wider.mergewl_eq; second = none 4 Op.Mergewl; keeps = kept Op.Mergewl refl }
meets Op.Mulsbw t = record { vectors = refl; first = wide 1 Op.Mulsbw (lit< tt) (λ q x. refl) products.mulsbw_eq; second = none 2 Op.Mulsbw; keeps = kept Op.Mulsbw refl }
meets Op.Mulslq t = record { vectors = refl; first = wide 4 Op.Mulslq (lit< tt) (λ q x. refl) products.mulslq_eq; second = none 8 Op.Mulslq; keeps = kept Op.Mulslq refl }
meets Op.Mulswl t = record { vectors = refl; first = wide 2 Op.Mulswl (lit< tt) (λ q x. refl) products.mulswl_eq; second = none 4 Op.Mulswl; keeps = kept Op.Mulswl refl }
meets Op.Mulubw t = record { vectors = refl; first = wide 1 Op.Mulubw (lit< tt) (λ q x. refl) products.mulubw_eq; second = none 2 Op.Mulubw; keeps = kept Op.Mulubw refl }
meets Op.Mululq t = record { vectors = refl; first = wide 4 Op.Mululq (lit< tt) (λ q x. refl) products.mululq_eq; second = none 8 Op.Mululq; keeps = kept Op.Mululq refl }
meets Op.Muluwl t = record { vectors = refl; first = wide 2 Op.Muluwl (lit< tt) (λ q x. refl) products.muluwl_eq; second = none 4 Op.Muluwl; keeps = kept Op.Muluwl refl }
meets Op.Select0lw t = record { vectors = refl; first = narrow 2 Op.Select0lw (lit< tt) (λ q x. refl) narrower.select0lw_eq; second = none 4 Op.Select0lw; keeps = kept Op.Select0lw refl }
meets Op.Select0ql t = record { vectors = refl; first = narrow 4 Op.Select0ql (lit< tt) (λ q x. refl) narrower.select0ql_eq; second = none 8 Op.Select0ql; keeps = kept Op.Select0ql refl }
meets Op.Select0wb t = record { vectors = refl; first = narrow 1 Op.Select0wb (lit< tt) (λ q x. refl) narrower.select0wb_eq; second = none 2 Op.Select0wb; keeps = kept Op.Select0wb refl }
meets Op.Select1lw t = record { vectors = refl; first = narrow 2 Op.Select1lw (lit< tt) (λ q x. refl) narrower.select1lw_eq; second = none 4 Op.Select1lw; keeps = kept Op.Select1lw refl }
meets Op.Select1ql t = record { vectors = refl; first = narrow 4 Op.Select1ql (lit< tt) (λ q x. refl) narrower.select1ql_eq; second = none 8 Op.Select1ql; keeps = kept Op.Select1ql refl }
meets Op.Select1wb t = record { vectors = refl; first = narrow 1 Op.Select1wb (lit< tt) (λ q x. refl) narrower.select1wb_eq; second = none 2 Op.Select1wb; keeps = kept Op.Select1wb refl }
meets Op.Splatbl t = record { vectors = refl; first = wider.splatbl_lanes; second = none 4 Op.Splatbl; keeps = kept Op.Splatbl refl }
meets Op.Splatbw t = record { vectors = refl; first = wide 1 Op.Splatbw (lit< tt) (λ q x. refl) wider.splatbw_eq; second = none 2 Op.Splatbw; keeps = kept Op.Splatbw refl }
meets Op.Splitlw t = record { vectors = refl; first = narrow 2 Op.Splitlw (lit< tt) (λ q x. refl) narrower.splitlw_high; second = narrow_second 2 Op.Splitlw (lit< tt) (λ q x. refl) narrower.splitlw_low; keeps = kept Op.Splitlw refl }
meets Op.Splitql t = record { vectors = refl; first = narrow 4 Op.Splitql (lit< tt) (λ q x. refl) narrower.splitql_high; second = narrow_second 4 Op.Splitql (lit< tt) (λ q x. refl) narrower.splitql_low; keeps = kept Op.Splitql refl }
meets Op.Splitwb t = record { vectors = refl; first = narrow 1 Op.Splitwb (lit< tt) (λ q x. refl) narrower.splitwb_high; second = narrow_second 1 Op.Splitwb (lit< tt) (λ q x. refl) narrower.splitwb_low; keeps = kept Op.Splitwb refl }
meets Op.Loadoffb t = record { vectors = refl; first = loaded 1 Op.Loadoffb refl (λ σ h k. refl) (omega arith); second = none 4 Op.Loadoffb; keeps = kept Op.Loadoffb refl }
meets Op.Loadoffw t = record { vectors = refl; first = loaded 2 Op.Loadoffw refl (λ σ h k. refl) (omega arith); second = none 4 Op.Loadoffw; keeps = kept Op.Loadoffw refl }
meets Op.Ldresnearb t = record { vectors = refl; first = loaded 1 Op.Ldresnearb refl (λ σ h k. refl) (omega arith); second = none 4 Op.Ldresnearb; keeps = kept Op.Ldresnearb refl }
meets Op.Ldreslinb t = record { vectors = refl; first = loaded 1 Op.Ldreslinb refl (λ σ h k. refl) (omega arith); second = none 4 Op.Ldreslinb; keeps = kept Op.Ldreslinb refl }
meets _ t = absurd (false≢true t)
