use Rattle.std.proofs.Common.{◌≡◌, ◌+◌, ◌-◌, ◌%◌, ◌^◌, sym, subst, ap, ◌∙◌}
use Rattle.std.specs.Prelude.{bit_and}
use Rattle.x86_ins.specs.Machine.{core_of, with_gpr}
use Rattle.x86_apply.specs.Steps.{with_result}
use Rattle.x86_apply.proofs.registers.write_result.Goals as goal

pub returns-in-Add-clause-core : goal.returns-in-Add-clause-core
returns-in-Add-clause-core c m = subst (λ op. core_of c.set_gpr.new.s m ≡ with_result op (core_of c.args.s.now m) c.args.d c.args.b) (sym c.in-Add.is)
    (c.set_gpr.ensures.core m ∙ ap (λ a. with_gpr (core_of c.args.s.now m) c.args.d ((a + c.args.b) % 2 ^ 64)) c.requires)

pub returns-in-Sub-clause-core : goal.returns-in-Sub-clause-core
returns-in-Sub-clause-core c m = subst (λ op. core_of c.set_gpr-in-Sub.new.s m ≡ with_result op (core_of c.args.s.now m) c.args.d c.args.b) (sym c.in-Sub.is)
    (c.set_gpr-in-Sub.ensures.core m ∙ ap (λ a. with_gpr (core_of c.args.s.now m) c.args.d ((a + (2 ^ 64 - c.args.b)) % 2 ^ 64)) c.requires)

pub returns-in-And-clause-core : goal.returns-in-And-clause-core
returns-in-And-clause-core c m = subst (λ op. core_of c.set_gpr-in-And.new.s m ≡ with_result op (core_of c.args.s.now m) c.args.d c.args.b) (sym c.in-And.is)
    (c.set_gpr-in-And.ensures.core m ∙ ap (λ a. with_gpr (core_of c.args.s.now m) c.args.d (bit_and a c.args.b)) c.requires)
