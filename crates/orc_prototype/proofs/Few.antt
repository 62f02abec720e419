-- A function has few arguments.
use Rattle.std.proofs.Common.{◌≡◌, true}
use Rattle.orc_program.specs.Program.{FunctionValue}
use Rattle.orc_program.specs.Kept.{is_function}
use Rattle.orc_program.proofs.Sizes.{kept_of}
use Rattle.orc_program.proofs.Counts.{few_vars}
use Rattle.orc_prototype.specs.Arguments.{IsSmall, shape_of}

pub small : (f : FunctionValue) → is_function f ≡ true → IsSmall (shape_of f)
small f h =
    let few = few_vars f.vars (kept_of f h).limits in
    record { dests = few.dests; sums = few.accumulators; sources = few.sources; params = few.params }
