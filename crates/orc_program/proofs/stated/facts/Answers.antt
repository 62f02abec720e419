use Rattle.std.proofs.Common.{◌≡◌, true, sym, subst, arith, rules}
use Rattle.orc_program.specs.declared.program.VarKind.TheVariants as kind
use Rattle.orc_program.proofs.FactLaws.{aligns_count, aligns_few, note_sound, free_sound, facts_kept}
use Rattle.orc_program.specs.declared.known.Facts.{Facts}
use Rattle.orc_program.specs.Program.{array_count}
use Rattle.orc_program.specs.Facts.{facts_of, is_facts}
use Rattle.orc_program.proofs.stated.facts.Goals as goal
use Rattle.orc_program.proofs.stated.facts.Goals.{then-f, else-f}

pub add_aligns-requires : goal.add_aligns-requires
add_aligns-requires c = rw (c.new-aligns.ensures, c.as_slice.ensures) (omega (arith, aligns_few _ c.f.invariant))

pub add_aligns-requires-2 : goal.add_aligns-requires-2
add_aligns-requires-2 c =
    rw (c.add_aligns.ensures, c.new-aligns.ensures, c.as_slice.ensures, c.as_slice-2.ensures, aligns_count kind.Dest c.f.inside.vars) (aligns_few _ c.f.invariant)

pub returns-clause-met_n : goal.returns-clause-met_n
returns-clause-met_n c = let s = note_sound c.f.inside.notes.n in (s.count, rw c.note_states.ensures s.met)

pub returns-clause-met_m : goal.returns-clause-met_m
returns-clause-met_m c =
    elim c.if-f.branch [
      | then-f w ↦ (let s = note_sound c.f.inside.notes.m in (s.count, rw (w.result-is, w.note_states-then-f.ensures) s.met))
      | else-f w ↦ (free_sound.count, rw w.result-is free_sound.met)
    ]

pub returns-clause-value : goal.returns-clause-value
unfolding facts_of
returns-clause-value c = search rules

pub returns-clause-kept : goal.returns-clause-kept
returns-clause-kept c = subst (λ (x : Facts). is_facts c.args.f.now.two_d (array_count c.args.f.now.vars) x ≡ true) (sym (returns-clause-value c)) (facts_kept c.args.f.now)
