use Rattle.orc_jobs.specs.World.{seen}
use Rattle.orc_parts.proofs.Together.{plays_as_one}
use Rattle.orc_parts.proofs.playing.play_parts.Goals as goal

pub returns : goal.returns
returns c target split =
    plays_as_one c.args.f.now c.check_kept.ensures c.args.call.now c.args.parts.now (seen c.args.w.now) split c.args.schedule.now c.play.result (seen c.play.new.w) c.requires.inside c.play.ensures.plays
