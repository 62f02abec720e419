use Rattle.std.proofs.Common.{◌≡◌, ◌<◌, ◌++◌, ◌∷◌, [], false, length, sym, ap, subst, arith}
use Rattle.std.proofs.lemmas.Grind.{common_steps}
use Rattle.orc_elf.specs.Entries.{is_among, names}
use Rattle.orc_elf.proofs.Growing.{library_pushed}
use Rattle.orc_elf.proofs.library.Library.push.Goals as goal

pub invariant_of-self-else-is_err : goal.invariant_of-self-else-is_err
invariant_of-self-else-is_err c =
    let e = sym (ap (λ i. i.entries) c.self.view_is) in
    let room = subst (λ fs. length fs < 65) e c.requires.room in
    let new = subst (λ fs. is_among (names fs) c.args.e.name ≡ false) e c.requires.new in
    let functions : c.push-pushed.new.self ≡ c.self.inside.entries ++ c.args.e ∷ [] = grind (arith, common_steps) in
    rw (functions, c.in_ok-push.ensures.ok) (library_pushed c.self.inside.entries c.self.inside.unwinds c.args.e c.args.unwind c.self.invariant c.name_bytes.ensures.kept room new)

pub returns-else-is_err-clause-kept : goal.returns-else-is_err-clause-kept
returns-else-is_err-clause-kept c = invariant_of-self-else-is_err c
