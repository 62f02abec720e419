-- What holds also holds unless memory ran out.
use Rattle.std.proofs.Common.{Result, Ok, Err}
use Rattle.orc_image.specs.declared.error.ImageError.{ImageError}
use Rattle.orc_image.specs.declared.error.ImageError.TheVariants.{BadMagic, BadVersion, Short, BadField, Memory}
use Rattle.orc_image.specs.Told.{UnlessMemory}

pub unless : {X : Type 0} (r : Result X ImageError) (P : Type 0) → P → UnlessMemory r P
unless (Ok x) P p = p
unless (Err BadMagic) P p = p
unless (Err BadVersion) P p = p
unless (Err (Short need)) P p = p
unless (Err (BadField at)) P p = p
unless (Err Memory) P p = tt

-- a refusal that is passed on
pub still : (X Y : Type 0) (e : ImageError) (P Q : Type 0) → (P → Q) → UnlessMemory {X = X} (Err e) P → UnlessMemory {X = Y} (Err e) Q
still X Y BadMagic P Q f p = f p
still X Y BadVersion P Q f p = f p
still X Y (Short need) P Q f p = f p
still X Y (BadField at) P Q f p = f p
still X Y Memory P Q f p = tt
