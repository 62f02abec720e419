use Rattle.std.proofs.Common.{arith}
use Rattle.x86_vector.proofs.arithmetic.lane_value.Goals as goal

pub returns-in-MinUnsigned : goal.returns-in-MinUnsigned
returns-in-MinUnsigned c = rw c.in-MinUnsigned.is (omega arith)

pub returns-in-MaxUnsigned : goal.returns-in-MaxUnsigned
returns-in-MaxUnsigned c = rw c.in-MaxUnsigned.is (omega arith)
