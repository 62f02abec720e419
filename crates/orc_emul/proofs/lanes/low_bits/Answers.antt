use Rattle.std.proofs.Common.{◌≤◌, ◌^◌, ◌<◌, arith, sym, mod-eq_of_lt}
use Rattle.std.proofs.Math.Pow.{pow_mono}
use Rattle.orc_emul.proofs.lanes.low_bits.Goals as goal

pub returns-then-bits-ge64 : goal.returns-then-bits-ge64
returns-then-bits-ge64 c =
    let m : 2 ^ 64 ≤ 2 ^ c.args.bits = pow_mono {i = 64} {j = c.args.bits} (omega arith) in
    sym (mod-eq_of_lt (omega (arith, m)))
