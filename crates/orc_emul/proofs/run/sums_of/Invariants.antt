use Rattle.std.proofs.Common.{◌≡◌, map, get_or}
use Rattle.orc_program.specs.declared.program.VarKind.TheVariants as kind
use Rattle.orc_emul.proofs.Functions.{places_before}
use Rattle.orc_emul.proofs.run.sums_of.Given as goal

abbrev pub invariant-loop-p : goal.invariant-loop-p
invariant-loop-p l = l.sums.items ≡ map (λ p. get_or l.values.sums p 0) (places_before kind.Accumulator l.f.vars l.p)
