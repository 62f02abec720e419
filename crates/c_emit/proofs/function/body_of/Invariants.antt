use Rattle.std.proofs.Common.{◌≡◌, take}
use Rattle.c_emit.specs.Body.{body_of}
use Rattle.c_emit.proofs.function.body_of.Given as goal

abbrev pub invariant-loop-insn : goal.invariant-loop-insn
invariant-loop-insn l = l.statements ≡ body_of l.f.vars (take l.insn-index l.f.insns)
