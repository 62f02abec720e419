-- What a list that computes an opcode does on the machine.
use Rattle.std.specs.Prelude.{◌≡◌, ℕ, ◌+◌, ◌*◌, ◌≤◌, List, length}
use Rattle.orc_bits.specs.Lanes.{lane}
use Rattle.orc_ops.specs.declared.opcode.Op.{Op}
use Rattle.orc_ops.specs.Table.{size_of_result}
use Rattle.x86_ins.specs.declared.ins.Ins.{Ins}
use Rattle.x86_ins.specs.Laws.{Leads}
use Rattle.x86_ins.specs.Machine.{Core}
use Rattle.x86_ins.specs.Vectors.{Registers}
use Rattle.sse_laws.specs.Meets.{Meets, widest, results_at}

-- The list leads from core c to core d, one step an instruction: general registers, flags, memory and XMM6 to XMM15 stay.
pub record Kept (is : List Ins) (c d : Core) : Type 0 where
  pub leads : Leads is c (length is) d
  pub gpr : d.gpr ≡ c.gpr
  pub flags : d.flags ≡ c.flags
  pub memory : d.memory ≡ c.memory
  pub vectors : (r : ℕ) → 6 ≤ r → d.xmm r ≡ c.xmm r

-- and each lane of the results is in XMM0 and XMM1
pub record Computed (op : Op) (is : List Ins) (c d : Core) : Type 0 where
  pub kept : Kept is c d
  pub first : (q : ℕ) → q * widest op + widest op ≤ 16 → lane (size_of_result op 0) q (d.xmm 0) ≡ (results_at op q c.xmm).0
  pub second : (q : ℕ) → q * widest op + widest op ≤ 16 → lane (size_of_result op 1) q (d.xmm 1) ≡ (results_at op q c.xmm).1

-- A list that computes an opcode does so from every core.
abbrev pub Computes : Op → List Ins → Type 0
Computes op is = Meets op is → (c : Core) → Registers c.xmm → (d : Core) × Computed op is c d
