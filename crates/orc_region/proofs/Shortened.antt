-- The opcodes that rules of SSSE3 and SSE4.1 shorten, and all others.
use Rattle.std.proofs.Common.{◌≡◌, ◌≤◌, ℕ, true, false, if◌then◌else◌, List, refl, sym, ◌∙◌, subst}
use Rattle.std.proofs.lemmas.Bool.{false≢true}
use Rattle.orc_ops.specs.declared.opcode.Op.{Op}
use Rattle.orc_ops.specs.declared.target.Target.TheVariants as target
use Rattle.orc_ops.specs.Table.{row}
use Rattle.orc_ops.specs.Targets.{is_shortened, class_for}
use Rattle.sse_laws.specs.Meets.{is_sum}
use Rattle.sse_acc.specs.Sums.{AddsUp}
use Rattle.x86_ins.specs.declared.ins.Ins.{Ins}

-- none of them adds to an accumulator
no_sum : (op : Op) → is_shortened op ≡ true → is_sum (row op).kind ≡ false
no_sum Op.Absl t = refl
no_sum Op.Maxsb t = refl
no_sum Op.Minsb t = refl
no_sum Op.Maxsl t = refl
no_sum Op.Minsl t = refl
no_sum Op.Maxul t = refl
no_sum Op.Minul t = refl
no_sum Op.Mulll t = refl
no_sum Op.Convsuslw t = refl
no_sum Op.Mulsbw t = refl
no_sum Op.Mulubw t = refl
no_sum Op.Mulswl t = refl
no_sum Op.Muluwl t = refl
no_sum Op.Mulslq t = refl
no_sum Op.Mululq t = refl
no_sum _ t = absurd (false≢true t)

pub never_adds : (op : Op) (count : ℕ) (list : List Ins) → true ≡ is_shortened op → is_sum (row op).kind ≡ true → AddsUp op count list
never_adds op count list shortened sum = absurd (false≢true (sym (no_sum op (sym shortened)) ∙ sum))

-- the class of all others is as for SSE2
pub class_of_others : (op : Op) (n : ℕ) → false ≡ is_shortened op → n ≤ (row op).class → n ≤ class_for op target.Sse41
class_of_others op n other few = subst (λ b. n ≤ (if b then 3 else (row op).class)) other few
