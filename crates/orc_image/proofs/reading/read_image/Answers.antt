use Rattle.std.proofs.Common.{◌≡◌, ℕ, length, arith, ap, sym, refl, ◌∙◌}
use Rattle.std.proofs.lemmas.Result.{err_from_is_err_and}
use Rattle.orc_image.specs.declared.image.Image.{Image}
use Rattle.orc_image.specs.Spelling.{image_bytes}
use Rattle.orc_image.specs.Fields.{image_at}
use Rattle.orc_image.proofs.Unless.{still}
use Rattle.orc_image.proofs.Again.{only_one, not_refused}
use Rattle.orc_image.proofs.reading.read_image.Goals as goal

pub returns-in_err-image-clause-only : goal.returns-in_err-image-clause-only
returns-in_err-image-clause-only c = λ i n b.
    let p = err_from_is_err_and c.from_residual.result c.from_residual.ensures.1 in
    let e = c.in_err-image.field-0.0 in
    rw (p.1, p.2) (still Image (Image × ℕ) e _ _ (λ h. absurd (not_refused c.args.bytes.now i n e b (ap image_at (sym c.new-reader.ensures) ∙ h))) c.in_err-image.ensures.gives)

pub returns-clause-only : goal.returns-clause-only
returns-clause-only c = λ i n b.
    let j = c.in_ok-image.image in
    let same : j ≡ i = only_one c.args.bytes.now i j n _ b (ap image_at (sym c.new-reader.ensures) ∙ c.in_ok-image.ensures.gives) in
    let size : c.offset-size.result ≡ n = omega (arith, ap (λ x. length (image_bytes x)) same, b.size, c.in_ok-image.ensures.spelled.2, c.offset-size.ensures, ap (λ r. r.at) c.new-reader.ensures) in
    rw (same, size) refl
