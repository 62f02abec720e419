use Rattle.std.proofs.Common.{take}
use Rattle.x86_ins.specs.Spelling.{IsIns}
use Rattle.x86_ins.specs.Way.{Each}
use Rattle.orc_resample.proofs.pieces.look_through.Given as goal

abbrev pub invariant-loop-ins : goal.invariant-loop-ins
invariant-loop-ins l = Each IsIns (take l.ins-index l.list)
