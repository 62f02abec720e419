use Rattle.std.proofs.Common.{◌≡◌, ◌++◌, take, map}
use Rattle.x86_flow.specs.Flow.{spell_all}
use Rattle.x86_flow.specs.Tree.{flat_of, all_behind}
use Rattle.x86_flow.proofs.tree.+put_flow.Given as goal

abbrev pub invariant-each : goal.invariant-each
invariant-each l = l.code.items ≡ l.initial.code.items ++ spell_all (all_behind (map flat_of (take l.one-index l.one-items)))
