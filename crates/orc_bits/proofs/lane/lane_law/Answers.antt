use Rattle.orc_bits.proofs.LaneLaws.{halves_lanes}
use Rattle.orc_bits.proofs.lane.lane_law.Goals as goal

pub returns : goal.returns
returns c = halves_lanes
