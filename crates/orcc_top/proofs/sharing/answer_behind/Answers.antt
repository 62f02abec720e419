use Rattle.std.proofs.Common.{◌≡◌, ◌∙◌, List, Some, None, option_map, ap, sym, subst}
use Rattle.orc_image.specs.Spelling.{FunctionValue, ImageValue}
use Rattle.orc_worlds.specs.declared.playing.Played.{Played}
use Rattle.orcc_top.specs.declared.command.Command.TheVariants as command
use Rattle.orcc_top.specs.declared.refusal.Refusal.TheVariants as refusal
use Rattle.orcc_top.specs.Sharing.{SharedOut, refusal_of_sharing}
use Rattle.orcc_top.proofs.Behind.{cut_is, refused_behind}
use Rattle.orcc_top.proofs.Emulated.{told}
use Rattle.orcc_top.proofs.Limits.{within_limit}
use Rattle.orcc_top.proofs.sharing.answer_behind.Goals as goal

pub returns-in_ok-print_played-in-Ok : goal.returns-in_ok-print_played-in-Ok
returns-in_ok-print_played-in-Ok c =
    let functions : c.as_slice.result.now ≡ c.args.image.now.functions = c.as_slice.ensures ∙ ap (λ (i : ImageValue). i.functions) c.image.view_is in
    let none : refusal_of_sharing c.args.workers.count c.args.image.now.functions c.split_at.result.1.now ≡ None
    = ap (λ (fs : List FunctionValue). refusal_of_sharing c.args.workers.count fs c.split_at.result.1.now) (sym functions) ∙ sym c.in-Ok.ensures.refused in (
      within_limit (command.Jobs c.args.workers) c.args.input.now c.requires.short
          ∙ refused_behind (refusal_of_sharing c.args.workers.count) c.args.input.now c.split_at.result.1.now c.args.image.now c.args.size c.requires.begins c.split_at.ensures.back ∙ ap (option_map (λ x. refusal.Job x)) none,
      record {
        image = c.args.image.now;
        allowed = c.requires.begins.allowed;
        rest = c.split_at.result.1.now;
        cut = cut_is c.args.input.now c.split_at.result.1.now c.args.image.now c.args.size c.requires.begins c.split_at.ensures.back;
        outcome = c.in-Ok.outcome;
        gives = subst (λ (fs : List FunctionValue). SharedOut fs c.split_at.result.1.now c.args.workers c.in-Ok.outcome) functions c.in-Ok.ensures.outcome;
        printed = c.in_ok-print_played-in-Ok.ensures;
      },
    )

pub returns-in_ok-line_of-in_default : goal.returns-in_ok-line_of-in_default
returns-in_ok-line_of-in_default c =
    let functions : c.as_slice.result.now ≡ c.args.image.now.functions = c.as_slice.ensures ∙ ap (λ (i : ImageValue). i.functions) c.image.view_is in
    let e : Some c.in-Err.error ≡ refusal_of_sharing c.args.workers.count c.as_slice.result.now c.split_at.result.1.now = told Played c.in-Err.error _ c.in_default.not-Memory c.in-Err.ensures.refused in
    let same : refusal_of_sharing c.args.workers.count c.args.image.now.functions c.split_at.result.1.now ≡ Some c.in-Err.error
    = ap (λ (fs : List FunctionValue). refusal_of_sharing c.args.workers.count fs c.split_at.result.1.now) (sym functions) ∙ sym e in
    record {
      refusal = refusal.Job c.in-Err.error;
      refused = within_limit (command.Jobs c.args.workers) c.args.input.now c.requires.short
          ∙ refused_behind (refusal_of_sharing c.args.workers.count) c.args.input.now c.split_at.result.1.now c.args.image.now c.args.size c.requires.begins c.split_at.ensures.back ∙ ap (option_map (λ x. refusal.Job x)) same;
      says = c.in_ok-line_of-in_default.ensures;
    }
