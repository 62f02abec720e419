-- Each sequence computes its opcode.
use Rattle.std.proofs.Common.{◌≡◌, ℕ, ◌+◌, ◌*◌, ◌≤◌, List, refl, true, false}
use Rattle.std.proofs.lemmas.Bool.{false≢true}
use Rattle.orc_bits.specs.Lanes.{lane}
use Rattle.orc_ops.specs.declared.opcode.Op.{Op}
use Rattle.orc_ops.specs.Formula.{formula}
use Rattle.x86_ins.specs.Vectors.{Registers, after}
use Rattle.sse_laws.specs.Meets.{Meets, is_of_size}
use Rattle.sse_laws.proofs.Runs.{all_lanewise, targets_below_six, run_keeps}
use Rattle.sse_laws.proofs.Ways.{OnLanes, OnLanesByCount, plain, shifted, first_result, no_second}
use Rattle.sse_q.specs.Rules.{rule_of}
use Rattle.sse_q.proofs.Equations.{Computes, ComputesByCount}
use Rattle.sse_q.proofs.Equations as quads
use Rattle.sse_q.proofs.Words as words

-- on quads, and on quads by a count
quad : (op : Op) → all_lanewise 8 false (rule_of op) ≡ true → Computes op → OnLanes 8 (rule_of op) (first_result op)
quad op t e = plain 8 (rule_of op) (first_result op) t e

counted : (op : Op) → all_lanewise 8 true (rule_of op) ≡ true → ComputesByCount op → OnLanesByCount 8 (rule_of op) (first_result op)
counted op t e = shifted 8 (rule_of op) (first_result op) t e

-- no second result
none : (op : Op) (x : ℕ → List ℕ) → Registers x → (q : ℕ) → q * 8 + 8 ≤ 16 → lane 0 q (after (rule_of op) x 1) ≡ 0
none op = no_second 8 (rule_of op)

kept : (op : Op) → targets_below_six (rule_of op) ≡ true → (x : ℕ → List ℕ) (r : ℕ) → 6 ≤ r → after (rule_of op) x r ≡ x r
kept op = run_keeps (rule_of op)

pub meets : (op : Op) → is_of_size 8 op ≡ true → Meets op (rule_of op)
unfolding formula
meets Op.Addq t = record { vectors = refl; first = quad Op.Addq refl quads.addq_eq; second = none Op.Addq; keeps = kept Op.Addq refl }
meets Op.Andnq t = record { vectors = refl; first = quad Op.Andnq refl quads.andnq_eq; second = none Op.Andnq; keeps = kept Op.Andnq refl }
meets Op.Andq t = record { vectors = refl; first = quad Op.Andq refl quads.andq_eq; second = none Op.Andq; keeps = kept Op.Andq refl }
meets Op.Cmpeqq t = record { vectors = refl; first = quad Op.Cmpeqq refl quads.cmpeqq_eq; second = none Op.Cmpeqq; keeps = kept Op.Cmpeqq refl }
meets Op.Cmpgtsq t = record { vectors = refl; first = quad Op.Cmpgtsq refl quads.cmpgtsq_eq; second = none Op.Cmpgtsq; keeps = kept Op.Cmpgtsq refl }
meets Op.Copyq t = record { vectors = refl; first = quad Op.Copyq refl quads.copyq_eq; second = none Op.Copyq; keeps = kept Op.Copyq refl }
meets Op.Loadpq t = record { vectors = refl; first = quad Op.Loadpq refl quads.loadpq_eq; second = none Op.Loadpq; keeps = kept Op.Loadpq refl }
meets Op.Loadq t = record { vectors = refl; first = quad Op.Loadq refl quads.loadq_eq; second = none Op.Loadq; keeps = kept Op.Loadq refl }
meets Op.Orq t = record { vectors = refl; first = quad Op.Orq refl quads.orq_eq; second = none Op.Orq; keeps = kept Op.Orq refl }
meets Op.Shlq t = record { vectors = refl; first = counted Op.Shlq refl quads.shlq_eq; second = none Op.Shlq; keeps = kept Op.Shlq refl }
meets Op.Shrsq t = record { vectors = refl; first = counted Op.Shrsq refl quads.shrsq_eq; second = none Op.Shrsq; keeps = kept Op.Shrsq refl }
meets Op.Shruq t = record { vectors = refl; first = counted Op.Shruq refl quads.shruq_eq; second = none Op.Shruq; keeps = kept Op.Shruq refl }
meets Op.Splatw3q t = record { vectors = refl; first = words.splatw3q_lanes; second = none Op.Splatw3q; keeps = kept Op.Splatw3q refl }
meets Op.Storeq t = record { vectors = refl; first = quad Op.Storeq refl quads.storeq_eq; second = none Op.Storeq; keeps = kept Op.Storeq refl }
meets Op.Subq t = record { vectors = refl; first = quad Op.Subq refl quads.subq_eq; second = none Op.Subq; keeps = kept Op.Subq refl }
meets Op.Swaplq t = record { vectors = refl; first = quad Op.Swaplq refl quads.swaplq_eq; second = none Op.Swaplq; keeps = kept Op.Swaplq refl }
meets Op.Swapq t = record { vectors = refl; first = words.swapq_lanes; second = none Op.Swapq; keeps = kept Op.Swapq refl }
meets Op.Xorq t = record { vectors = refl; first = quad Op.Xorq refl quads.xorq_eq; second = none Op.Xorq; keeps = kept Op.Xorq refl }
meets _ t = absurd (false≢true t)
