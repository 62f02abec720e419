-- What a list that adds to running sums does on the machine.
use Rattle.std.specs.Prelude.{◌≡◌, ℕ, ◌+◌, List}
use Rattle.orc_bits.specs.Numbers.{cut}
use Rattle.orc_ops.specs.declared.opcode.Op.{Op}
use Rattle.orc_ops.specs.Table.{size_of_result, to}
use Rattle.x86_ins.specs.declared.ins.Ins.{Ins}
use Rattle.x86_ins.specs.Machine.{Core}
use Rattle.x86_ins.specs.Vectors.{Registers}
use Rattle.sse_laws.specs.Laws.{Kept}
use Rattle.sse_acc.specs.Sums.{AddsUp, sum_below, sum_of, number_of}

-- From every core such a list comes to one in which the sum of XMM2's lanes has grown by the numbers of these elements; general registers, flags, memory and XMM6 to XMM15 stay.
abbrev pub Adds : Op → ℕ → List Ins → Type 0
Adds op lanes is = AddsUp op lanes is → (c : Core) → Registers c.xmm → (d : Core) × Kept is c d
    × (cut (to op) (sum_of (size_of_result op 0) (d.xmm 2)) ≡ cut (to op) (sum_of (size_of_result op 0) (c.xmm 2) + sum_below lanes (λ q. number_of op q c.xmm)))
