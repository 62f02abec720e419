use Rattle.std.proofs.Common.{refl}
use Rattle.orc_bits.specs.Parts.{memory_of}
use Rattle.orc_jobs.proofs.Turns.{not_ended, is_stuck, moves, unmoved}
use Rattle.orc_jobs.proofs.playing.turn.Goals as goal

pub returns-in-Ok : goal.returns-in-Ok
returns-in-Ok c =
    let mem = memory_of c.args.w.now.memory in
    let rs = c.args.w.now.runners.items in
    let r = c.index_mut-runner.result.now in
    let is = c.index_mut-runner.ensures.value in
    let done = c.in-Ok.ensures.done in (
      not_ended mem rs c.args.k r c.requires.inside is (c.has_ended.ensures.no c.if-has_ended.false),
      moves mem rs c.args.k r c.requires.inside is (memory_of c.step_on.new.memory) c.step_on.new.state _ c.as_slice.result.now done.0 c.as_slice.ensures done.1 refl,
    )

pub returns-in-Err : goal.returns-in-Err
returns-in-Err c =
    let mem = memory_of c.args.w.now.memory in
    let rs = c.args.w.now.runners.items in
    let r = c.index_mut-runner.result.now in
    let is = c.index_mut-runner.ensures.value in (
      not_ended mem rs c.args.k r c.requires.inside is (c.has_ended.ensures.no c.if-has_ended.false),
      is_stuck mem rs c.args.k r c.requires.inside is c.as_slice.result.now c.in-Err.trap c.as_slice.ensures c.in-Err.ensures.stuck,
      unmoved mem rs c.args.k r c.requires.inside is (memory_of c.step_on.new.memory) c.step_on.new.state _ c.in-Err.ensures.unchanged refl,
    )
