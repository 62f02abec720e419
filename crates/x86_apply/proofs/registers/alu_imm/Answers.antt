use Rattle.std.proofs.Common.{◌≡◌, sym, ap, ap₂, ◌∙◌}
use Rattle.std.proofs.lemmas.Int.{to_z-of_z}
use Rattle.std.specs.Int.{w32}
use Rattle.orc_bits.specs.Numbers.{wrap}
use Rattle.x86_ins.specs.Machine.{core_of, alu_core}
use Rattle.x86_apply.proofs.Rows.{ok_point}
use Rattle.x86_apply.proofs.registers.alu_imm.Goals as goal

pub returns : goal.returns
returns c m =
    let b : c.extended.result ≡ wrap 64 c.args.value = c.extended.ensures ∙ ap (wrap 64) (to_z-of_z w32 c.args.value c.ranges.value) in
    ap₂ ok_point (ap (alu_core c.args.op (core_of c.args.s.now m) c.args.dst) (sym b) ∙ c.alu_with.ensures.core m) (sym c.alu_with.ensures.rip)
