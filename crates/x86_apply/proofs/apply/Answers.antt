use Rattle.std.proofs.Common.{rules, sym, ap, ◌∙◌}
use Rattle.std.proofs.lemmas.Int.{to_z-of_z}
use Rattle.std.specs.Int.{w32}
use Rattle.std.specs.Int.RustNames.{FitsSigned}
use Rattle.x86_ins.specs.declared.ins.Ins.TheVariants.{AluImm, Jump, JumpIf}
use Rattle.x86_ins.specs.Machine.{effect, core_of}
use Rattle.x86_apply.proofs.Rows.{done, with_outcome}
use Rattle.x86_apply.proofs.apply.Goals as goal

pub returns-in-Vec : goal.returns-in-Vec
returns-in-Vec g c = done _ _ c.args.s.now c.vec.new.s (g.B.Bytes.bytes c.args.mem.now) c.in-Vec.is c.vec.ensures

pub returns-in-VecImm : goal.returns-in-VecImm
returns-in-VecImm g c = done _ _ c.args.s.now c.vec_imm.new.s (g.B.Bytes.bytes c.args.mem.now) c.in-VecImm.is c.vec_imm.ensures

pub returns-in-Shuffle : goal.returns-in-Shuffle
returns-in-Shuffle g c = done _ _ c.args.s.now c.shuffle.new.s (g.B.Bytes.bytes c.args.mem.now) c.in-Shuffle.is c.shuffle.ensures

pub returns-in-FromGpr : goal.returns-in-FromGpr
returns-in-FromGpr g c = done _ _ c.args.s.now c.from_gpr.new.s (g.B.Bytes.bytes c.args.mem.now) c.in-FromGpr.is c.from_gpr.ensures

pub returns-in-ToGpr : goal.returns-in-ToGpr
returns-in-ToGpr g c = done _ _ c.args.s.now c.to_gpr.new.s (g.B.Bytes.bytes c.args.mem.now) c.in-ToGpr.is c.to_gpr.ensures

pub returns-in-Move : goal.returns-in-Move
returns-in-Move g c = done _ _ c.args.s.now c.mov.new.s (g.B.Bytes.bytes c.args.mem.now) c.in-Move.is c.mov.ensures

pub returns-in-MovImm : goal.returns-in-MovImm
returns-in-MovImm g c = done _ _ c.args.s.now c.mov_imm.new.s (g.B.Bytes.bytes c.args.mem.now) c.in-MovImm.is c.mov_imm.ensures

pub returns-in-Alu : goal.returns-in-Alu
returns-in-Alu g c = done _ _ c.args.s.now c.alu.new.s (g.B.Bytes.bytes c.args.mem.now) c.in-Alu.is c.alu.ensures

pub returns-in-Test : goal.returns-in-Test
returns-in-Test g c = done _ _ c.args.s.now c.test.new.s (g.B.Bytes.bytes c.args.mem.now) c.in-Test.is c.test.ensures

pub returns-in-Shift : goal.returns-in-Shift
returns-in-Shift g c = done _ _ c.args.s.now c.shift.new.s (g.B.Bytes.bytes c.args.mem.now) c.in-Shift.is c.shift.ensures

pub returns-in-Imul : goal.returns-in-Imul
returns-in-Imul g c = done _ _ c.args.s.now c.imul.new.s (g.B.Bytes.bytes c.args.mem.now) c.in-Imul.is c.imul.ensures

pub returns-in-Lea : goal.returns-in-Lea
returns-in-Lea g c = done _ _ c.args.s.now c.lea.new.s (g.B.Bytes.bytes c.args.mem.now) c.in-Lea.is c.lea.ensures

pub returns-in-AluImm : goal.returns-in-AluImm
returns-in-AluImm g c =
    let f : FitsSigned w32 c.in-AluImm.value = search rules in
    done _ _ c.args.s.now c.alu_imm.new.s (g.B.Bytes.bytes c.args.mem.now) (c.in-AluImm.is ∙ ap (AluImm c.in-AluImm.op c.in-AluImm.dst) (sym (to_z-of_z w32 c.in-AluImm.value f))) c.alu_imm.ensures

pub returns-in-Jump : goal.returns-in-Jump
returns-in-Jump g c =
    let f : FitsSigned w32 c.in-Jump.rel = search rules in
    done _ _ c.args.s.now c.jump.new.s (g.B.Bytes.bytes c.args.mem.now) (c.in-Jump.is ∙ ap Jump (sym (to_z-of_z w32 c.in-Jump.rel f))) c.jump.ensures

pub returns-in-JumpIf : goal.returns-in-JumpIf
returns-in-JumpIf g c =
    let f : FitsSigned w32 c.in-JumpIf.rel = search rules in
    let m = g.B.Bytes.bytes c.args.mem.now in
    with_outcome _ _ c.args.s.now m c.jump_if.new.s m c.jump_if.result
    (ap (λ i. effect i (core_of c.args.s.now m) c.args.s.now.rip) (c.in-JumpIf.is ∙ ap (JumpIf c.in-JumpIf.cond) (sym (to_z-of_z w32 c.in-JumpIf.rel f)))) (c.jump_if.ensures m)
