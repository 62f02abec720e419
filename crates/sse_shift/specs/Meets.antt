-- What it means that a list of instructions computes a shift by a count that is known.
use Rattle.std.specs.Prelude.{◌≡◌, ℕ, ◌+◌, ◌*◌, ◌≤◌, true, List}
use Rattle.orc_bits.specs.Lanes.{lane}
use Rattle.orc_ops.specs.declared.opcode.Op.{Op}
use Rattle.orc_ops.specs.Table.{size_of_result, size_of_source}
use Rattle.orc_ops.specs.Formula.{formula}
use Rattle.x86_ins.specs.declared.ins.Ins.{Ins}
use Rattle.x86_ins.specs.Vectors.{Registers, after, all_simd}
use Rattle.sse_laws.specs.Meets.{widest}

-- The list computes the opcode by the count n, whatever the registers hold: lane q of the result in XMM0, and of the second result in XMM1, is the formula on lane q of XMM0 and n, for each q that fits into 16 bytes at the largest operand's size.
pub record MeetsAt (op : Op) (n : ℕ) (is : List Ins) : Type 0 where
  -- there is no jump, and no access to memory or to a general register
  pub vectors : all_simd is ≡ true
  pub first : (x : ℕ → List ℕ) → Registers x → (q : ℕ) → q * widest op + widest op ≤ 16 → lane (size_of_result op 0) q (after is x 0) ≡ (formula op (lane (size_of_source op 0) q (x 0)) n).0
  pub second : (x : ℕ → List ℕ) → Registers x → (q : ℕ) → q * widest op + widest op ≤ 16 → lane (size_of_result op 1) q (after is x 1) ≡ (formula op (lane (size_of_source op 0) q (x 0)) n).1
  -- nothing but XMM0 to XMM5 changes
  pub keeps : (x : ℕ → List ℕ) (r : ℕ) → 6 ≤ r → after is x r ≡ x r
