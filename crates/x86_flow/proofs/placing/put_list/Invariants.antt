use Rattle.std.proofs.Common.{◌≡◌, ◌++◌, take}
use Rattle.x86_flow.specs.Flow.{spell_all}
use Rattle.x86_flow.proofs.placing.put_list.Given as goal

abbrev pub invariant-loop-ins : goal.invariant-loop-ins
invariant-loop-ins l = l.code.items ≡ l.initial.code.items ++ spell_all (take l.ins-index l.list)
