-- What it means that a list of instructions computes an opcode on all lanes of the vector registers.
use Rattle.std.specs.Prelude.{◌≡◌, ℕ, ◌+◌, ◌*◌, ◌≤◌, ◌==◌, Bool, true, false, not, ◌&&◌, ◌||◌, if◌then◌else◌, max, List}
use Rattle.orc_bits.specs.Lanes.{lane}
use Rattle.orc_ops.specs.declared.opcode.Op.{Op}
use Rattle.orc_ops.specs.declared.opcode.Kind.{Kind}
use Rattle.orc_ops.specs.declared.opcode.Kind.TheVariants as kind
use Rattle.orc_ops.specs.Table.{row, size_of_result, size_of_source}
use Rattle.orc_ops.specs.Formula.{formula}
use Rattle.x86_ins.specs.declared.ins.Ins.{Ins}
use Rattle.x86_ins.specs.Vectors.{Registers, after, all_simd}

-- ---- operands

-- an opcode whose second source is a count: one number for all lanes
abbrev pub is_shift : Kind → Bool
is_shift kind.Shift = true
is_shift k = false

-- an opcode that adds to an accumulator
abbrev pub is_sum : Kind → Bool
is_sum kind.Sum = true
is_sum k = false

-- the bytes of the second source, none of a count
abbrev pub size_beside : Op → ℕ
size_beside op = if is_shift (row op).kind then 0 else size_of_source op 1

-- the bytes of the largest operand, counts apart
abbrev pub widest : Op → ℕ
widest op = max (max (size_of_result op 0) (size_of_result op 1)) (max (size_of_source op 0) (size_beside op))

-- ---- lanes; register r is `x r`

-- lane q of the second source, which is in XMM1; of a count the low 64 bits there, for every lane
abbrev pub second_of : Op → ℕ → (ℕ → List ℕ) → ℕ
second_of op q x = if is_shift (row op).kind then lane 8 0 (x 1) else lane (size_of_source op 1) q (x 1)

-- both results on lane q of the sources, the first of which is in XMM0
abbrev pub results_at : Op → ℕ → (ℕ → List ℕ) → ℕ × ℕ
results_at op q x = formula op (lane (size_of_source op 0) q (x 0)) (second_of op q x)

-- The list computes the opcode, whatever the registers hold: lane q of the result in XMM0, and of the second result in XMM1, is the formula on lane q of the sources, for each q that fits into 16 bytes at the largest operand's size.
pub record Meets (op : Op) (is : List Ins) : Type 0 where
  -- there is no jump, and no access to memory or to a general register
  pub vectors : all_simd is ≡ true
  pub first : (x : ℕ → List ℕ) → Registers x → (q : ℕ) → q * widest op + widest op ≤ 16 → lane (size_of_result op 0) q (after is x 0) ≡ (results_at op q x).0
  pub second : (x : ℕ → List ℕ) → Registers x → (q : ℕ) → q * widest op + widest op ≤ 16 → lane (size_of_result op 1) q (after is x 1) ≡ (results_at op q x).1
  -- nothing but XMM0 to XMM5 changes
  pub keeps : (x : ℕ → List ℕ) (r : ℕ) → 6 ≤ r → after is x r ≡ x r

-- ---- which crate has an opcode's rule

-- all operands, counts apart, have so many bytes, and it adds to no accumulator
abbrev pub is_of_size : ℕ → Op → Bool
is_of_size w op = not (is_sum (row op).kind) && ((size_of_result op 0 == w) && ((size_of_result op 1 == 0) && ((size_of_source op 0 == w) && (size_beside op == 0 || size_beside op == w))))
