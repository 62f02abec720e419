use Rattle.std.proofs.Common.{◌≡◌, None, take}
use Rattle.orcc_top.specs.Assembly.{EntriesOf, version_of, first_pressure_in}
use Rattle.orcc_top.proofs.assembly.image_of.Given as goal

abbrev pub invariant-loop-f : goal.invariant-loop-f
invariant-loop-f l = record {
  entries : EntriesOf l.target (take l.f-index l.functions) l.image.functions;
  version : l.image.version ≡ version_of l.functions;
  placed : first_pressure_in (take l.f-index l.functions) ≡ None;
}
