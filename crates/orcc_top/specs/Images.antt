-- The listing of an image, and why bytes are not one image.
use Rattle.std.specs.Prelude.{List, ℕ, length, nat_lt, Ok, Err, Option, Some, None, if◌then◌else◌}
use Rattle.orc_image.specs.declared.error.ImageError.{ImageError}
use Rattle.orc_image.specs.declared.error.ImageError.TheVariants.{BadField}
use Rattle.orc_image.specs.Spelling.{ImageValue, ImageOf, image_bytes}
use Rattle.orc_image.specs.Fields.{Field, image_at}
use Rattle.orc_image.specs.Listing.{IsListing}

-- the text is the listing of the image that the bytes are
abbrev pub ListsImage : List ℕ → List ℕ → Type 0
ListsImage bytes text = (image : ImageValue) × ImageOf bytes image × IsListing image text

-- bytes behind an image of this length are a field that is not allowed
abbrev pub trailing : ℕ → List ℕ → Option ImageError
trailing size bytes = if nat_lt size (length bytes) then Some (BadField size) else None

abbrev pub refusal_of_read : List ℕ → Field ImageValue → Option ImageError
refusal_of_read bytes (Err e) = Some e
refusal_of_read bytes (Ok x) = trailing (length (image_bytes x.0)) bytes

-- the first field that is not all there or not allowed, if there is one; bytes behind the image are such a field
abbrev pub image_refusal : List ℕ → Option ImageError
image_refusal bytes = refusal_of_read bytes (image_at record { at = 0; rest = bytes })
