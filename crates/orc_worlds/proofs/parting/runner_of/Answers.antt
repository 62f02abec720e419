use Rattle.std.proofs.Common.{ap₂, ◌∙◌}
use Rattle.orc_worlds.specs.Placement.{state_at}
use Rattle.orc_worlds.proofs.Started.{stand_placed}
use Rattle.orc_worlds.proofs.parting.runner_of.Goals as goal

pub returns : goal.returns
returns c =
    stand_placed c.args.f.now c.args.k c.state_at.result c.in_ok-from_slice.field-0 c.stack_of-2.result
    (c.state_at.ensures ∙ ap₂ state_at c.block_of.ensures c.stack_of.ensures)
    (c.in_ok-from_slice.ensures ∙ c.code_bytes.ensures.bytes)
    c.stack_of-2.ensures
