-- Rules that compute an opcode, with a count in themselves or without.
use Rattle.std.proofs.Common.{◌≡◌, ℕ, ◌+◌, ◌*◌, ◌≤◌, true, List, Option, None, Some}
use Rattle.orc_bits.specs.Lanes.{lane}
use Rattle.orc_ops.specs.declared.opcode.Op.{Op}
use Rattle.orc_ops.specs.Table.{size_of_result, size_of_source}
use Rattle.orc_ops.specs.Formula.{formula}
use Rattle.x86_ins.specs.declared.ins.Ins.{Ins}
use Rattle.x86_ins.specs.Vectors.{Registers, after, all_simd}
use Rattle.sse_laws.specs.Meets.{widest, results_at}
use Rattle.orc_region.specs.Code.{MeetsBy}

-- both results on a lane of the sources, of which the second may be a count that the rule has
abbrev pub results_by : Option ℕ → Op → ℕ → (ℕ → List ℕ) → ℕ × ℕ
results_by None op q x = results_at op q x
results_by (Some n) op q x = formula op (lane (size_of_source op 0) q (x 0)) n

pub record Meeting (by : Option ℕ) (op : Op) (rule : List Ins) : Type 0 where
  pub vectors : all_simd rule ≡ true
  pub first : (x : ℕ → List ℕ) → Registers x → (q : ℕ) → q * widest op + widest op ≤ 16 → lane (size_of_result op 0) q (after rule x 0) ≡ (results_by by op q x).0
  pub second : (x : ℕ → List ℕ) → Registers x → (q : ℕ) → q * widest op + widest op ≤ 16 → lane (size_of_result op 1) q (after rule x 1) ≡ (results_by by op q x).1
  pub keeps : (x : ℕ → List ℕ) (r : ℕ) → 6 ≤ r → after rule x r ≡ x r

pub meeting : (by : Option ℕ) (op : Op) (rule : List Ins) → MeetsBy by op rule → Meeting by op rule
meeting None op rule h = record { vectors = h.vectors; first = h.first; second = h.second; keeps = h.keeps }
meeting (Some n) op rule h = record { vectors = h.vectors; first = h.first; second = h.second; keeps = h.keeps }
