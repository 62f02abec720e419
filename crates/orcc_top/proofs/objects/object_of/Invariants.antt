use Rattle.std.proofs.Common.{◌≡◌, None, take}
use Rattle.orcc_top.specs.Assembly.{first_pressure_in}
use Rattle.orc_text.specs.Each.{OneForEach}
use Rattle.orcc_top.specs.Objects.{CompiledOf}
use Rattle.orcc_top.proofs.objects.object_of.Given as goal

abbrev pub invariant-loop-f : goal.invariant-loop-f
invariant-loop-f l = record {
  entries : OneForEach CompiledOf (take l.f-index l.functions) l.object.entries;
  placed : first_pressure_in (take l.f-index l.functions) ≡ None;
}
