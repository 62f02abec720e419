-- What it means that a list of instructions adds an opcode's numbers to running sums.
use Rattle.std.specs.Prelude.{◌≡◌, ℕ, ◌+◌, ◌/◌, ◌≤◌, true, List}
use Rattle.std.specs.List.{sum_by, range_with_len}
use Rattle.orc_bits.specs.Numbers.{cut}
use Rattle.orc_bits.specs.Lanes.{lane}
use Rattle.orc_ops.specs.declared.opcode.Op.{Op}
use Rattle.orc_ops.specs.Table.{size_of_result, to}
use Rattle.x86_ins.specs.declared.ins.Ins.{Ins}
use Rattle.x86_ins.specs.Vectors.{Registers, after, all_simd}
use Rattle.sse_laws.specs.Meets.{results_at}

-- f 0 + f 1 + .. + f (n - 1)
unfoldable pub sum_below : ℕ → (ℕ → ℕ) → ℕ
sum_below n f = sum_by f (range_with_len 0 n)

-- the sum of all lanes of so many bytes of a register
abbrev pub sum_of : ℕ → List ℕ → ℕ
sum_of size register = sum_below (16 / size) (λ q. lane size q register)

-- what an opcode adds for element q: its formula on lane q of the sources, which are in XMM0 and XMM1
abbrev pub number_of : Op → ℕ → (ℕ → List ℕ) → ℕ
number_of op q x = (results_at op q x).0

-- The list adds the opcode's numbers of the first `lanes` elements to the running sums in XMM2, whatever the registers hold.
pub record AddsUp (op : Op) (lanes : ℕ) (is : List Ins) : Type 0 where
  -- there is no jump, and no access to memory or to a general register
  pub vectors : all_simd is ≡ true
  -- modulo 2 ^ (8 * size), the sum of XMM2's lanes of the accumulator's size grows by the numbers of these elements, and by nothing else
  pub grows : (x : ℕ → List ℕ) → Registers x →
      cut (to op) (sum_of (size_of_result op 0) (after is x 2)) ≡ cut (to op) (sum_of (size_of_result op 0) (x 2) + sum_below lanes (λ q. number_of op q x))
  -- nothing but XMM0 to XMM5 changes
  pub keeps : (x : ℕ → List ℕ) (r : ℕ) → 6 ≤ r → after is x r ≡ x r
