use Rattle.std.proofs.Common.{◌≤◌, arith, length, ap}
use Rattle.orc_program.specs.Program.{FunctionValue}
use Rattle.orc_program.proofs.Counts.{vars_few}
use Rattle.orc_text.proofs.instruction.operand_at.Goals as goal

pub overflow_cast-result : goal.overflow_cast-result
overflow_cast-result c =
    let f : FunctionValue = record { name = c.f.inside.name; two_d = c.f.inside.two_d; vars = c.f.inside.vars; insns = c.f.inside.insns; notes = c.f.inside.notes } in
    let few : length c.f.inside.vars ≤ 184 = vars_few f c.f.invariant in
    omega (arith, ap (λ (g : FunctionValue). length g.vars) c.f.view_is, c.requires, few)
