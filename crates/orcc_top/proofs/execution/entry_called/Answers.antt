use Rattle.std.proofs.Common.{◌≡◌, ℕ, ◌+◌, ap, ap₂, sym, ◌∙◌}
use Rattle.orc_image.specs.Spelling.{FunctionValue}
use Rattle.orcc_top.proofs.Calls.{entry_fit, entry_unfit}
use Rattle.orcc_top.proofs.execution.entry_called.Goals as goal

pub returns-in-Ok-clause-called : goal.returns-in-Ok-clause-called
returns-in-Ok-clause-called c =
    let arrays = ap₂ (λ (m n : ℕ). m + n) c.from.ensures c.from-2.ensures ∙ ap (λ (x : FunctionValue). x.dests + x.sources) c.f.view_is in
    let params = c.from-3.ensures ∙ ap (λ (x : FunctionValue). x.params) c.f.view_is in
    entry_fit c.args.functions.now c.args.job.now c.in-Some.f.now c.as_slice.result.now (c.from.result + c.from-2.result) c.from-3.result c.as_slice.ensures.bytes c.in-Some.ensures.first arrays params c.in-Ok.ensures.value

pub returns-in-Err-clause-called : goal.returns-in-Err-clause-called
returns-in-Err-clause-called c =
    let arrays = ap₂ (λ (m n : ℕ). m + n) c.from.ensures c.from-2.ensures ∙ ap (λ (x : FunctionValue). x.dests + x.sources) c.f.view_is in
    let params = c.from-3.ensures ∙ ap (λ (x : FunctionValue). x.params) c.f.view_is in
    entry_unfit c.args.functions.now c.args.job.now c.in-Some.f.now c.as_slice.result.now c.in-Err.error (c.from.result + c.from-2.result) c.from-3.result c.as_slice.ensures.bytes c.in-Some.ensures.first arrays params c.in-Err.ensures.value
