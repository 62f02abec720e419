use Rattle.std.proofs.Common.{◌≤◌, ap, arith, length}
use Rattle.orc_program.specs.Program.{FunctionValue}
use Rattle.orc_program.proofs.Counts.{vars_few}
use Rattle.orc_program.proofs.lookup.find_var.Goals as goal

pub find_from-requires : goal.find_from-requires
find_from-requires c =
    let f : FunctionValue = record { name = c.f.inside.name; two_d = c.f.inside.two_d; vars = c.f.inside.vars; insns = c.f.inside.insns; notes = c.f.inside.notes } in
    let few : length c.f.inside.vars ≤ 184 = vars_few f c.f.invariant in
    omega (arith, ap length c.as_slice.ensures, few)
