use Rattle.std.proofs.Common.{List, length, ap, subst, sym, ◌≡◌, ◌<◌, ◌%◌, ◌/◌, ◌^◌, ◌∙◌, slice_index}
use Rattle.orc_jobs.specs.declared.world.Runner.{Runner}
use Rattle.orc_jobs.specs.World.{seen, stands_of}
use Rattle.orc_jobs.specs.Drawn.{left, left_from}
use Rattle.orc_jobs.proofs.Lefts.{left_count}
use Rattle.orc_jobs.proofs.Draws.{none_left, draw_is, draw_within}
use Rattle.orc_jobs.proofs.drawing.draw.Goals as goal

pub returns-then-left-eq0-clause-runner : goal.returns-then-left-eq0-clause-runner
returns-then-left-eq0-clause-runner c =
    let w = seen c.args.w.now in
    let rs = c.as_slice-runners.result.now in
    let e : c.count_left-left.result ≡ length (left w) = c.count_left-left.ensures ∙ left_count 0 rs ∙ ap (λ (l : List Runner). length (left_from 0 (stands_of l))) c.as_slice-runners.ensures.value in
    none_left w (sym e ∙ c.if-left-eq0.true)

pub nth_left-requires : goal.nth_left-requires
nth_left-requires c =
    let w = seen c.args.w.now in
    let rs = c.as_slice-runners.result.now in
    let v = c.as_slice-runners.ensures.value in
    let e : c.count_left-left.result ≡ length (left w) = c.count_left-left.ensures ∙ left_count 0 rs ∙ ap (λ (l : List Runner). length (left_from 0 (stands_of l))) v in
    let m = c.next_seed-number.result / 2 ^ 32 in
    subst (λ (l : List Runner). m % c.count_left-left.result < length (left_from 0 (stands_of l))) (sym v) (draw_within w m c.count_left-left.result e c.if-left-eq0.false)

pub returns-clause-runner : goal.returns-clause-runner
returns-clause-runner c =
    let w = seen c.args.w.now in
    let rs = c.as_slice-runners.result.now in
    let v = c.as_slice-runners.ensures.value in
    let e : c.count_left-left.result ≡ length (left w) = c.count_left-left.ensures ∙ left_count 0 rs ∙ ap (λ (l : List Runner). length (left_from 0 (stands_of l))) v in
    let m = c.next_seed-number.result / 2 ^ 32 in
    let q = c.nth_left.ensures.value ∙ ap (λ (l : List Runner). slice_index (left_from 0 (stands_of l)) (m % c.count_left-left.result)) v in
    draw_is w c.args.x c.next_seed-number.result c.count_left-left.result c.nth_left.result e c.if-left-eq0.false c.next_seed-number.ensures q
