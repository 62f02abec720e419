use Rattle.std.proofs.Common.{◌≡◌, None, take}
use Rattle.orcc_top.specs.Assembly.{first_pressure_in}
use Rattle.orc_text.specs.Each.{OneForEach}
use Rattle.orcc_top.specs.Libraries.{EnteredOf}
use Rattle.orcc_top.proofs.library.library_of.Given as goal

abbrev pub invariant-loop-f : goal.invariant-loop-f
invariant-loop-f l = record {
  entries : OneForEach (EnteredOf l.text l.target) (take l.f-index l.functions) l.library.entries;
  placed : first_pressure_in (take l.f-index l.functions) ≡ None;
}
