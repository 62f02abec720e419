use Rattle.std.proofs.Common.{◌≤◌, length, ap, sym, subst, arith}
use Rattle.std.proofs.lemmas.List.{length-map}
use Rattle.orc_bits.specs.Parts.{memory_of}
use Rattle.orc_image.specs.Spelling.{FunctionValue}
use Rattle.orc_jobs.specs.World.{seen, stand_of}
use Rattle.orc_worlds.specs.Mapped.{AreMapped}
use Rattle.orc_worlds.specs.Played.{AreTotals}
use Rattle.orc_worlds.proofs.Keeping.{has_room, runners_count, blocks_kept, segments_kept, played_out}
use Rattle.orc_worlds.proofs.Wholly.{does_whole}
use Rattle.orc_worlds.proofs.playing.play_job.Goals as goal

pub play_drawn-drawn-requires : goal.play_drawn-drawn-requires
play_drawn-drawn-requires c =
    let few = c.requires.kept.budget in
    record { room = has_room c.args.f.now c.args.job.now c.args.sizes.now c.args.workers (seen c.in_ok-world.world) c.in_ok-world.ensures.world c.args.job.now.budget (omega (arith, few)) }

pub parts_now-requires : goal.parts_now-requires
parts_now-requires c =
    subst (AreMapped (memory_of c.play_drawn-drawn.new.w.memory)) (sym c.as_slice.ensures)
    (segments_kept c.args.f.now c.args.job.now c.args.sizes.now c.args.workers (seen c.in_ok-world.world) c.in_ok-world.ensures.world c.args.seed _ _ _ (seen c.play_drawn-drawn.new.w) c.play_drawn-drawn.ensures.plays c.requires.kept)

pub steps_of-requires : goal.steps_of-requires
steps_of-requires c =
    let count = runners_count c.args.f.now c.args.job.now c.args.sizes.now c.args.workers (seen c.in_ok-world.world) c.in_ok-world.ensures.world c.args.seed _ _ _ (seen c.play_drawn-drawn.new.w) c.play_drawn-drawn.ensures.plays in
    let same = length-map c.play_drawn-drawn.new.w.runners.items stand_of in
    let few = c.requires.few in
    subst (λ l. length l ≤ 64) (sym c.as_slice-2.ensures.value) (omega (arith, count, same, few))

pub totals_of-requires-clause-mapped : goal.totals_of-requires-clause-mapped
totals_of-requires-clause-mapped c =
    blocks_kept c.args.f.now c.args.job.now c.args.sizes.now c.args.workers (seen c.in_ok-world.world) c.in_ok-world.ensures.world c.args.seed _ _ _ (seen c.play_drawn-drawn.new.w) c.play_drawn-drawn.ensures.plays

pub returns-clause-played : goal.returns-clause-played
returns-clause-played c =
    played_out c.args.f.now c.args.job.now c.args.sizes.now c.args.workers c.args.seed c.in_ok-world.world c.play_drawn-drawn.new.w _ c.as_slice-2.result.now c.as_slice.result.now (c.in_ok-world.ensures.signed c.requires.some) c.in_ok-world.ensures.world
    c.play_drawn-drawn.ensures.plays c.as_slice-2.ensures.value c.steps_of.ensures (subst (λ n. AreTotals (memory_of c.play_drawn-drawn.new.w.memory) c.args.workers n c.totals_of.result.items) (ap (λ (x : FunctionValue). x.accs) c.f.view_is) c.totals_of.ensures) c.as_slice.ensures c.in_ok-memory.ensures

pub returns-clause-whole : goal.returns-clause-whole
returns-clause-whole c =
    does_whole c.args.f.now c.args.job.now c.args.sizes.now c.args.workers c.args.seed _ c.requires.kept c.requires.counts c.requires.sized (c.in_ok-world.ensures.few c.requires.some) c.requires.some
    (played_out c.args.f.now c.args.job.now c.args.sizes.now c.args.workers c.args.seed c.in_ok-world.world c.play_drawn-drawn.new.w _ c.as_slice-2.result.now c.as_slice.result.now (c.in_ok-world.ensures.signed c.requires.some) c.in_ok-world.ensures.world
    c.play_drawn-drawn.ensures.plays c.as_slice-2.ensures.value c.steps_of.ensures (subst (λ n. AreTotals (memory_of c.play_drawn-drawn.new.w.memory) c.args.workers n c.totals_of.result.items) (ap (λ (x : FunctionValue). x.accs) c.f.view_is) c.totals_of.ensures) c.as_slice.ensures c.in_ok-memory.ensures)
