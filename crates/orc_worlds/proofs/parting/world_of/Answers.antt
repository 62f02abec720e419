use Rattle.std.proofs.Common.{◌++◌, ◌≤◌, ◌∙◌, length, ap, subst, arith}
use Rattle.orc_program.specs.declared.call.Call.{Call}
use Rattle.orc_image.specs.Spelling.{FunctionValue}
use Rattle.orc_parts.specs.Even.{even_part}
use Rattle.orc_worlds.specs.Worlds.{part_call, own_parts}
use Rattle.orc_worlds.proofs.Placed.{moved_count, one_placed}
use Rattle.orc_worlds.proofs.parting.world_of.Goals as goal

pub put_own-requires : goal.put_own-requires
put_own-requires c =
    let count = ap (λ (x : Call). length x.arrays.items) c.in_ok-call.ensures.value ∙ moved_count c.rect_of.result c.args.job.now.call.arrays.items c.args.sizes.now c.requires.sized in
    let dests = c.from.ensures ∙ ap (λ (x : FunctionValue). x.dests) c.f.view_is in
    let fits = c.requires.counts in
    omega (arith, count, dests, fits)

pub loop-k-preserved : goal.loop-k-preserved
loop-k-preserved c =
    let job = c.args.job.now in
    let k = c.loop-k.k in
    let dests = c.from.ensures ∙ ap (λ (x : FunctionValue). x.dests) c.f.view_is in
    let rect = c.rect_of.ensures ∙ ap (λ (x : FunctionValue). even_part x.two_d job.call c.args.workers k) c.f.view_is in
    one_placed c.args.f.now job c.args.sizes.now c.args.workers k c.loop-k.parts c.put_own.new.parts c.loop-k.runners.items c.push.new.self.items c.in_ok-call.call c.in_ok-runner_of.field-0 c.loop-k.invariant
    (c.in_ok-call.ensures.value ∙ ap (part_call job.call c.args.sizes.now) rect)
    c.in_ok-call.ensures.signed
    (subst (λ (x : Call). length x.params.items ≤ 8) c.in_ok-call.ensures.value c.in_ok-put_own.ensures.few)
    (c.in_ok-put_own.ensures.value ∙ ap (λ n. c.loop-k.parts ++ own_parts n c.in_ok-call.call k) dests)
    c.in_ok-runner_of.ensures
    c.in_ok-push.ensures.items
