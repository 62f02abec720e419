use Rattle.std.proofs.Common.{◌≡◌}
use Rattle.orc_program.specs.declared.program.VarKind.TheVariants as kind
use Rattle.orc_program.proofs.Places.{places_before}
use Rattle.orc_frame.proofs.slots.params.Given as goal

abbrev pub invariant-loop-place : goal.invariant-loop-place
invariant-loop-place l = l.places.items ≡ places_before kind.Param l.vars l.place
