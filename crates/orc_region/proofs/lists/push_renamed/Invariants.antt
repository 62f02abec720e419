use Rattle.std.proofs.Common.{◌≡◌, ◌++◌, map, take}
use Rattle.x86_ins.specs.Renaming.{renamed, renaming}
use Rattle.x86_ins.specs.Spelling.{IsIns}
use Rattle.x86_ins.specs.Way.{Each}
use Rattle.orc_region.proofs.lists.push_renamed.Given as goal

abbrev pub invariant-loop-ins : goal.invariant-loop-ins
invariant-loop-ins l = (l.list ≡ l.initial.list ++ map (renamed (renaming l.names)) (take l.ins-index l.more)) × Each IsIns (take l.ins-index l.more)
