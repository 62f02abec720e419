use Rattle.std.proofs.Common.{◌≡◌, ◌<◌, true, false, length, sym, ap, subst}
use Rattle.orc_program.specs.Facts.{is_free}
use Rattle.orc_image.specs.Spelling.{is_among, names}
use Rattle.orc_image.proofs.Growing.{image_pushed}
use Rattle.orc_image.proofs.image.Image.push.Goals as goal

pub invariant_of-self-2 : goal.invariant_of-self-2
invariant_of-self-2 c =
    let e = sym (ap (λ i. i.functions) c.self.view_is) in
    let v = sym (ap (λ i. i.version) c.self.view_is) in
    let room = subst (λ fs. length fs < 64) e c.requires.room in
    let new = subst (λ fs. is_among (names fs) c.args.f.name ≡ false) e c.requires.new in
    let free = subst (λ n. n ≡ 1 → is_free c.args.f.facts ≡ true) v c.requires.free in
    rw c.in_ok-push.ensures.ok (image_pushed c.self.inside.version c.self.inside.functions c.args.f c.self.invariant c.name_bytes.ensures.kept room new free)

pub returns-clause-kept : goal.returns-clause-kept
returns-clause-kept c = invariant_of-self-2 c
