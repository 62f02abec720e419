use Rattle.std.proofs.Common.{◌-◌, sym, ap₂, ◌∙◌, subst, arith}
use Rattle.std.proofs.lemmas.Result.{err_from_is_err_and}
use Rattle.orc_image.specs.Fields.{aligns_at}
use Rattle.orc_image.specs.Told.{with_aligns, HasAligns}
use Rattle.orc_image.proofs.Aligned.{one_read, one_refused, one_added}
use Rattle.orc_image.proofs.reading.Reader.+aligns.Goals as goal

pub returns-in_err-align-clause-gives : goal.returns-in_err-align-clause-gives
returns-in_err-align-clause-gives t c =
    let p = err_from_is_err_and c.from_residual.result c.from_residual.ensures.1 in
    rw (p.1, p.2) (one_refused c.args.slots c.args.used c.args.aligns.now.items c.args.self.now _ (omega arith) c.in_err-align.ensures.gives)

pub returns-in_err-aligns-clause-gives : goal.returns-in_err-aligns-clause-gives
returns-in_err-aligns-clause-gives t c =
    let p = err_from_is_err_and c.from_residual-in_err-aligns.result c.from_residual-in_err-aligns.ensures.1 in
    let one = one_read c.args.slots c.args.used c.args.aligns.now.items c.args.self.now c.align.new.self c.in_ok-align.align (omega arith) c.in_ok-align.ensures.gives in
    let go = ap₂ (λ xs k. with_aligns xs (aligns_at (c.args.slots - 1) k c.align.new.self)) (sym c.push_if.ensures) (sym c.saturating_sub.ensures) in
    rw (p.1, p.2) (one ∙ go ∙ c.in_err-aligns.ensures.gives)

pub returns-clause-gives : goal.returns-clause-gives
returns-clause-gives t c =
    let one = one_read c.args.slots c.args.used c.args.aligns.now.items c.args.self.now c.align.new.self c.in_ok-align.align (omega arith) c.in_ok-align.ensures.gives in
    let go = ap₂ (λ xs k. with_aligns xs (aligns_at (c.args.slots - 1) k c.align.new.self)) (sym c.push_if.ensures) (sym c.saturating_sub.ensures) in
    one ∙ go ∙ c.in_ok-aligns.ensures.gives

pub returns-clause-spelled : goal.returns-clause-spelled
returns-clause-spelled t c =
    let more = subst (λ k. HasAligns (c.args.slots - 1) k c.align.new.self c.aligns.new.self c.push_if.new.aligns.items c.aligns.new.aligns.items) c.saturating_sub.ensures c.in_ok-aligns.ensures.spelled in
    one_added c.args.slots c.args.used c.args.self.now c.align.new.self c.aligns.new.self c.args.aligns.now.items c.push_if.new.aligns.items c.aligns.new.aligns.items c.in_ok-align.align (omega arith) c.requires.few c.in_ok-align.ensures.spelled.0 c.in_ok-align.ensures.spelled.1 c.in_ok-align.ensures.within c.push_if.ensures more
