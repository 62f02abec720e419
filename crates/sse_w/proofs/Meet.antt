-- Each sequence computes its opcode.
use Rattle.std.proofs.Common.{◌≡◌, ℕ, ◌+◌, ◌*◌, ◌≤◌, List, refl, true, false}
use Rattle.std.proofs.lemmas.Bool.{false≢true}
use Rattle.orc_bits.specs.Lanes.{lane}
use Rattle.orc_ops.specs.declared.opcode.Op.{Op}
use Rattle.orc_ops.specs.Formula.{formula}
use Rattle.x86_ins.specs.Vectors.{Registers, after}
use Rattle.sse_laws.specs.Meets.{Meets, is_of_size}
use Rattle.sse_laws.proofs.Runs.{all_lanewise, targets_below_six, run_keeps}
use Rattle.sse_laws.proofs.Ways.{OnLanes, OnLanesByCount, plain, shifted, first_result, no_second}
use Rattle.sse_w.specs.Rules.{rule_of}
use Rattle.sse_w.proofs.Equations.{Computes, ComputesByCount}
use Rattle.sse_w.proofs.Equations as words
use Rattle.sse_w.proofs.Division as division

-- on words, and on words by a count
word : (op : Op) → all_lanewise 2 false (rule_of op) ≡ true → Computes op → OnLanes 2 (rule_of op) (first_result op)
word op t e = plain 2 (rule_of op) (first_result op) t e

counted : (op : Op) → all_lanewise 2 true (rule_of op) ≡ true → ComputesByCount op → OnLanesByCount 2 (rule_of op) (first_result op)
counted op t e = shifted 2 (rule_of op) (first_result op) t e

-- no second result
none : (op : Op) (x : ℕ → List ℕ) → Registers x → (q : ℕ) → q * 2 + 2 ≤ 16 → lane 0 q (after (rule_of op) x 1) ≡ 0
none op = no_second 2 (rule_of op)

kept : (op : Op) → targets_below_six (rule_of op) ≡ true → (x : ℕ → List ℕ) (r : ℕ) → 6 ≤ r → after (rule_of op) x r ≡ x r
kept op = run_keeps (rule_of op)

pub meets : (op : Op) → is_of_size 2 op ≡ true → Meets op (rule_of op)
unfolding formula
meets Op.Absw t = record { vectors = refl; first = word Op.Absw refl words.absw_eq; second = none Op.Absw; keeps = kept Op.Absw refl }
meets Op.Addssw t = record { vectors = refl; first = word Op.Addssw refl words.addssw_eq; second = none Op.Addssw; keeps = kept Op.Addssw refl }
meets Op.Addusw t = record { vectors = refl; first = word Op.Addusw refl words.addusw_eq; second = none Op.Addusw; keeps = kept Op.Addusw refl }
meets Op.Addw t = record { vectors = refl; first = word Op.Addw refl words.addw_eq; second = none Op.Addw; keeps = kept Op.Addw refl }
meets Op.Andnw t = record { vectors = refl; first = word Op.Andnw refl words.andnw_eq; second = none Op.Andnw; keeps = kept Op.Andnw refl }
meets Op.Andw t = record { vectors = refl; first = word Op.Andw refl words.andw_eq; second = none Op.Andw; keeps = kept Op.Andw refl }
meets Op.Avgsw t = record { vectors = refl; first = word Op.Avgsw refl words.avgsw_eq; second = none Op.Avgsw; keeps = kept Op.Avgsw refl }
meets Op.Avguw t = record { vectors = refl; first = word Op.Avguw refl words.avguw_eq; second = none Op.Avguw; keeps = kept Op.Avguw refl }
meets Op.Cmpeqw t = record { vectors = refl; first = word Op.Cmpeqw refl words.cmpeqw_eq; second = none Op.Cmpeqw; keeps = kept Op.Cmpeqw refl }
meets Op.Cmpgtsw t = record { vectors = refl; first = word Op.Cmpgtsw refl words.cmpgtsw_eq; second = none Op.Cmpgtsw; keeps = kept Op.Cmpgtsw refl }
meets Op.Copyw t = record { vectors = refl; first = word Op.Copyw refl words.copyw_eq; second = none Op.Copyw; keeps = kept Op.Copyw refl }
meets Op.Div255w t = record { vectors = refl; first = word Op.Div255w refl words.div255w_eq; second = none Op.Div255w; keeps = kept Op.Div255w refl }
meets Op.Divluw t = record { vectors = refl; first = word Op.Divluw refl division.divluw_eq; second = none Op.Divluw; keeps = kept Op.Divluw refl }
meets Op.Loadpw t = record { vectors = refl; first = word Op.Loadpw refl words.loadpw_eq; second = none Op.Loadpw; keeps = kept Op.Loadpw refl }
meets Op.Loadw t = record { vectors = refl; first = word Op.Loadw refl words.loadw_eq; second = none Op.Loadw; keeps = kept Op.Loadw refl }
meets Op.Maxsw t = record { vectors = refl; first = word Op.Maxsw refl words.maxsw_eq; second = none Op.Maxsw; keeps = kept Op.Maxsw refl }
meets Op.Maxuw t = record { vectors = refl; first = word Op.Maxuw refl words.maxuw_eq; second = none Op.Maxuw; keeps = kept Op.Maxuw refl }
meets Op.Minsw t = record { vectors = refl; first = word Op.Minsw refl words.minsw_eq; second = none Op.Minsw; keeps = kept Op.Minsw refl }
meets Op.Minuw t = record { vectors = refl; first = word Op.Minuw refl words.minuw_eq; second = none Op.Minuw; keeps = kept Op.Minuw refl }
meets Op.Mulhsw t = record { vectors = refl; first = word Op.Mulhsw refl words.mulhsw_eq; second = none Op.Mulhsw; keeps = kept Op.Mulhsw refl }
meets Op.Mulhuw t = record { vectors = refl; first = word Op.Mulhuw refl words.mulhuw_eq; second = none Op.Mulhuw; keeps = kept Op.Mulhuw refl }
meets Op.Mullw t = record { vectors = refl; first = word Op.Mullw refl words.mullw_eq; second = none Op.Mullw; keeps = kept Op.Mullw refl }
meets Op.Orw t = record { vectors = refl; first = word Op.Orw refl words.orw_eq; second = none Op.Orw; keeps = kept Op.Orw refl }
meets Op.Shlw t = record { vectors = refl; first = counted Op.Shlw refl words.shlw_eq; second = none Op.Shlw; keeps = kept Op.Shlw refl }
meets Op.Shrsw t = record { vectors = refl; first = counted Op.Shrsw refl words.shrsw_eq; second = none Op.Shrsw; keeps = kept Op.Shrsw refl }
meets Op.Shruw t = record { vectors = refl; first = counted Op.Shruw refl words.shruw_eq; second = none Op.Shruw; keeps = kept Op.Shruw refl }
meets Op.Signw t = record { vectors = refl; first = word Op.Signw refl words.signw_eq; second = none Op.Signw; keeps = kept Op.Signw refl }
meets Op.Storew t = record { vectors = refl; first = word Op.Storew refl words.storew_eq; second = none Op.Storew; keeps = kept Op.Storew refl }
meets Op.Subssw t = record { vectors = refl; first = word Op.Subssw refl words.subssw_eq; second = none Op.Subssw; keeps = kept Op.Subssw refl }
meets Op.Subusw t = record { vectors = refl; first = word Op.Subusw refl words.subusw_eq; second = none Op.Subusw; keeps = kept Op.Subusw refl }
meets Op.Subw t = record { vectors = refl; first = word Op.Subw refl words.subw_eq; second = none Op.Subw; keeps = kept Op.Subw refl }
meets Op.Swapw t = record { vectors = refl; first = word Op.Swapw refl words.swapw_eq; second = none Op.Swapw; keeps = kept Op.Swapw refl }
meets Op.Xorw t = record { vectors = refl; first = word Op.Xorw refl words.xorw_eq; second = none Op.Xorw; keeps = kept Op.Xorw refl }
meets _ t = absurd (false≢true t)
