-- RCX and the flags.
use Rattle.std.proofs.Common.{◌≡◌, ◌^◌, ◌==◌, nat_le, not, Some}
use Rattle.x86_ins.specs.declared.ins.Cond.TheVariants.{Ne, Ns}
use Rattle.x86_ins.specs.Machine.{Core, test}

-- the flags tell whether RCX is 0, and its sign
pub record Tested (c : Core) : Type 0 where
  pub zero : test Ne c.flags ≡ Some (not (c.gpr 1 == 0))
  pub sign : test Ns c.flags ≡ Some (not (nat_le (2 ^ 63) (c.gpr 1)))
