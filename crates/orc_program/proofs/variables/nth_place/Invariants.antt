use Rattle.std.proofs.Common.{◌≡◌, slice_index}
use Rattle.orc_program.specs.Program.{places_of}
use Rattle.orc_program.proofs.Nth.{places_from}
use Rattle.orc_program.proofs.variables.nth_place.Given as goal

abbrev pub invariant-loop-place : goal.invariant-loop-place
invariant-loop-place l = slice_index (places_of l.kind l.vars) l.k ≡ slice_index (places_from l.kind l.vars l.place) l.left
