use Rattle.std.proofs.Common.{take}
use Rattle.orc_text.specs.Each.{OneForEach}
use Rattle.orcc_top.specs.Translation.{MeansAs}
use Rattle.orcc_top.proofs.translating.functions_of.Given as goal

abbrev pub invariant-loop-f : goal.invariant-loop-f
invariant-loop-f l = OneForEach MeansAs (take l.f-index l.functions) l.found
