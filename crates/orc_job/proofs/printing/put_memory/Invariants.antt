use Rattle.std.proofs.Common.{◌≡◌, ◌++◌, length}
use Rattle.orc_job.specs.Printed.{memory_text}
use Rattle.orc_job.proofs.printing.put_memory.Given as goal

abbrev pub invariant-loop-left : goal.invariant-loop-left
invariant-loop-left l = l.out.items ++ memory_text l.left ≡ l.initial.out.items ++ memory_text l.parts

abbrev pub decreases-loop-left : goal.decreases-loop-left
decreases-loop-left l = length l.left
