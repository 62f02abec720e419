use Rattle.std.proofs.Common.{◌≡◌, ◌<◌, false, length, sym, ap, subst}
use Rattle.orc_elf.specs.Entries.{is_among, names}
use Rattle.orc_elf.proofs.Growing.{elf_pushed}
use Rattle.orc_elf.proofs.elf.ElfCode.push.Goals as goal

pub invariant_of-self-2 : goal.invariant_of-self-2
invariant_of-self-2 c =
    let e = sym (ap (λ i. i.entries) c.self.view_is) in
    let room = subst (λ fs. length fs < 64) e c.requires.room in
    let new = subst (λ fs. is_among (names fs) c.args.e.name ≡ false) e c.requires.new in
    rw c.in_ok-push.ensures.ok (elf_pushed c.self.inside.entries c.args.e c.self.invariant c.name_bytes.ensures.kept room new)

pub returns-clause-kept : goal.returns-clause-kept
returns-clause-kept c = invariant_of-self-2 c
