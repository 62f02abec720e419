-- Refusals of images, by the image that begins the bytes.
use Rattle.std.proofs.Common.{◌≡◌, ℕ, List, Err, ap, refl, ◌∙◌}
use Rattle.orc_image.specs.declared.error.ImageError.{ImageError}
use Rattle.orc_image.specs.declared.error.ImageError.TheVariants.{BadMagic, BadVersion, Short, BadField, Memory}
use Rattle.orc_image.specs.Spelling.{ImageValue, ImageBegins}
use Rattle.orc_image.specs.Fields.{image_at}
use Rattle.orc_image.specs.Told.{UnlessMemory}
use Rattle.orc_image.proofs.Again.{image_again}
use Rattle.orcc_top.specs.Images.{trailing, refusal_of_read, image_refusal}

-- an image begins the bytes, so they are refused for what stands behind it alone
pub behind : (bytes : List ℕ) (i : ImageValue) (n : ℕ) → ImageBegins bytes i n → image_refusal bytes ≡ trailing n bytes
behind bytes i n b =
    let again = image_again i b.begins.0 b.allowed in
    ap (λ t. refusal_of_read bytes (image_at record { at = 0; rest = t })) b.begins.1 ∙ ap (refusal_of_read bytes) again.1 ∙ ap (λ k. trailing k bytes) b.size

-- a refusal that is not for want of memory tells what it tells
pub told : (X : Type 0) (e : ImageError) (P : Type 0) → (e ≡ Memory → ⊥) → UnlessMemory {X = X} (Err e) P → P
told X BadMagic P other p = p
told X BadVersion P other p = p
told X (Short need) P other p = p
told X (BadField at) P other p = p
told X Memory P other p = absurd (other refl)
