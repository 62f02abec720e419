use Rattle.std.proofs.Common.{◌≡◌, ◌+◌, ap₂, length, rules}
use Rattle.x86_ins.specs.declared.ins.Ins.TheVariants.{VecLoad}
use Rattle.x86_ins.specs.declared.ins.MoveOp.TheVariants.{Movdqu}
use Rattle.orc_region.specs.Code.{loaded, resident_register}
use Rattle.orc_region.proofs.Built.Actions.{residents_more}
use Rattle.orc_region.proofs.residents.push_patterns.Goals as goal

pub loop-pattern-preserved : goal.loop-pattern-preserved
loop-pattern-preserved c =
    let number : c.pattern_number-number.result ≡ length c.args.layout.now.acc_sizes.items + c.loop-pattern.pattern = search rules in
    residents_more c.args.list.now c.loop-pattern.list c.push_load.new.list c.args.at.now (λ j. length c.args.layout.now.acc_sizes.items + j) (loaded (length c.args.layout.now.acc_sizes.items)) c.loop-pattern.pattern _ _ c.loop-pattern.invariant c.in_ok-push_load.ensures number
    (ap₂ (λ g a. VecLoad Movdqu (resident_register g) a) number c.slot_of_pattern.ensures)
