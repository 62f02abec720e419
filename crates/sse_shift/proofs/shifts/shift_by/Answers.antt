use Rattle.std.proofs.Common.{rules, [], ◌∷◌, ◌∙◌, sym, subst, min}
use Rattle.std.specs.Prelude.{IfSome}
use Rattle.x86_ins.specs.declared.ins.Ins.TheVariants.{VecImm}
use Rattle.sse_shift.specs.Meets.{MeetsAt}
use Rattle.sse_shift.proofs.Meet.{meets}
use Rattle.sse_shift.proofs.shifts.shift_by.Goals as goal

pub returns-clause-meets : goal.returns-clause-meets
returns-clause-meets c =
    rw c.min.ensures (subst (λ i. IfSome i (λ i. MeetsAt c.args.op c.args.count (VecImm i 0 (min c.args.count 255) ∷ []))) (sym c.instruction.ensures ∙ c.in_ok-op.was {u = tt})
    (meets c.args.op c.args.count (search rules)))
