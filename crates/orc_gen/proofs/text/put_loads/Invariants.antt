use Rattle.std.proofs.Common.{◌≡◌, ◌++◌}
use Rattle.orc_gen.specs.Generator.{load_line, joined}
use Rattle.orc_gen.proofs.text.put_loads.Given as goal

abbrev pub invariant-loop-number : goal.invariant-loop-number
invariant-loop-number l = l.out.items ≡ l.initial.out.items ++ joined load_line l.number
