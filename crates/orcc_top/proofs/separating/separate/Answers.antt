use Rattle.std.proofs.Common.{◌≡◌, ◌+◌, ◌≤◌, ◌∙◌, take, drop, length, ap, sym, arith, length-drop}
use Rattle.std.proofs.lemmas.List.{take_rest}
use Rattle.orcc_top.specs.Inputs.{is_separator}
use Rattle.orcc_top.proofs.Separated.{FirstLine, passed_first, passed_more, separated_text, separated_job, unseparated}
use Rattle.orcc_top.proofs.separating.separate.Goals as goal

pub loop-at-init : goal.loop-at-init
loop-at-init c = passed_first c.args.input.now

pub returns-then-is_separator-clause-text : goal.returns-then-is_separator-clause-text
returns-then-is_separator-clause-text c =
    let line : FirstLine (drop c.loop-at.at c.args.input.now) c.line_length.result = rw take_rest at c.line_length.ensures.line in
    let front : c.split_at.result.0.now ≡ take c.line_length.result (drop c.loop-at.at c.args.input.now) = rw take_rest at c.split_at.ensures.front in
    separated_text c.args.input.now c.loop-at.at c.line_length.result c.loop-at.invariant line (ap is_separator (sym front) ∙ (sym c.is_separator.ensures ∙ c.if-is_separator.true))

pub returns-then-is_separator-clause-job : goal.returns-then-is_separator-clause-job
returns-then-is_separator-clause-job c =
    let line : FirstLine (drop c.loop-at.at c.args.input.now) c.line_length.result = rw take_rest at c.line_length.ensures.line in
    let front : c.split_at.result.0.now ≡ take c.line_length.result (drop c.loop-at.at c.args.input.now) = rw take_rest at c.split_at.ensures.front in
    let back : c.split_at.result.1.now ≡ drop c.line_length.result (drop c.loop-at.at c.args.input.now) = rw take_rest at c.split_at.ensures.back in
    back ∙ separated_job c.args.input.now c.loop-at.at c.line_length.result c.loop-at.invariant line (ap is_separator (sym front) ∙ (sym c.is_separator.ensures ∙ c.if-is_separator.true))

pub loop-at-preserved : goal.loop-at-preserved
loop-at-preserved c =
    let line : FirstLine (drop c.loop-at.at c.args.input.now) c.line_length.result = rw take_rest at c.line_length.ensures.line in
    let front : c.split_at.result.0.now ≡ take c.line_length.result (drop c.loop-at.at c.args.input.now) = rw take_rest at c.split_at.ensures.front in
    let short : c.line_length.result ≤ length (drop c.loop-at.at c.args.input.now) = rw take_rest at c.line_length.ensures.within in
    passed_more c.args.input.now c.loop-at.at c.line_length.result _ c.loop-at.invariant (ap (λ k. c.loop-at.at + k) c.split_at.ensures.front_len)
    (omega (arith, c.split_at.ensures.front_len, short, length-drop c.loop-at.at c.args.input.now, c.loop-at.invariant.within)) line (ap is_separator (sym front) ∙ (sym c.is_separator.ensures ∙ c.if-is_separator.false))

pub returns-clause-text : goal.returns-clause-text
returns-clause-text c = (unseparated c.args.input.now c.loop-at.at c.loop-at.invariant c.loop-at-test.false).0

pub returns-clause-job : goal.returns-clause-job
returns-clause-job c = (unseparated c.args.input.now c.loop-at.at c.loop-at.invariant c.loop-at-test.false).1
