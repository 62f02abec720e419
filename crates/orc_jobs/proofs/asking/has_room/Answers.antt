use Rattle.std.proofs.Common.{◌+◌, ◌<◌, ◌^◌, All, subst}
use Rattle.orc_bits.specs.Parts.{memory_of}
use Rattle.orc_jobs.proofs.Turns.{room_of}
use Rattle.orc_jobs.proofs.asking.has_room.Goals as goal

pub returns : goal.returns
returns c h =
    room_of (memory_of c.args.w.now.memory) c.args.w.now.runners.items c.args.turns (subst (All (λ r. r.steps + c.args.turns < 2 ^ 64)) c.as_slice.ensures.value (c.have_room.ensures.0 h))
