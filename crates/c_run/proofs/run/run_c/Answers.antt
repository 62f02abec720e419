use Rattle.std.proofs.Common.{Result, sym, ap, ◌∙◌}
use Rattle.c_run.specs.Meaning.{CState, Stop, Ended, go_on, run_from, ended}
use Rattle.c_run.proofs.run.run_c.Goals as goal

pub returns-clause-end : goal.returns-clause-end
returns-clause-end c =
    let run = run_from c.args.f.now c.args.call.now c.args.budget in
    let whole : CState → Result Ended Stop = λ s. go_on (run s) ended in
    ap whole (sym (c.start-values.ensures c.args.store.now))
    ∙ ap (λ (x : Result CState Stop). go_on x ended) c.run_from-done.ensures.value
    ∙ c.end_with.ensures c.run_from-done.new.store
