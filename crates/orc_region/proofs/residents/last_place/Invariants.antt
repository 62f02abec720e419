use Rattle.std.proofs.Common.{◌≡◌, take}
use Rattle.orc_region.specs.Code.{last_place}
use Rattle.orc_region.proofs.residents.last_place.Given as goal

abbrev pub invariant-loop-place : goal.invariant-loop-place
invariant-loop-place l = l.last ≡ last_place (take l.place-index l.at)
