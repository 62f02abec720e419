use Rattle.std.proofs.Common.{sym, ◌∙◌, ◌≡◌, ltb, length, true, false, Some, None, arith}
use Rattle.orc_image.specs.declared.error.ImageError.TheVariants.{BadField}
use Rattle.orcc_top.specs.Images.{trailing}
use Rattle.orcc_top.proofs.Images.{behind}
use Rattle.orcc_top.proofs.listing.only_image.Goals as goal

pub returns-then-size-bytes-clause-refused : goal.returns-then-size-bytes-clause-refused
returns-then-size-bytes-clause-refused c =
    let more : ltb c.in_ok-image.size (length c.args.bytes.now) ≡ true = grind arith in
    let e : trailing c.in_ok-image.size c.args.bytes.now ≡ Some (BadField c.in_ok-image.size) = rw more in
    sym (behind _ _ _ c.in_ok-image.ensures.found ∙ e)

pub returns-clause-refused : goal.returns-clause-refused
returns-clause-refused c =
    let none : ltb c.in_ok-image.size (length c.args.bytes.now) ≡ false = grind arith in
    let e : trailing c.in_ok-image.size c.args.bytes.now ≡ None = rw none in
    sym (behind _ _ _ c.in_ok-image.ensures.found ∙ e)
