-- What holds also holds unless memory ran out.
use Rattle.std.proofs.Common.{Result, Ok, Err, IfOk}
use Rattle.orc_elf.specs.declared.error.ElfError.{ElfError}
use Rattle.orc_elf.specs.declared.error.ElfError.TheVariants.{Short, BadField, Memory}
use Rattle.orc_elf.specs.Told.{UnlessMemory}

pub unless : {X : Type 0} (r : Result X ElfError) (P : Type 0) → P → UnlessMemory r P
unless (Ok x) P p = p
unless (Err (Short need)) P p = p
unless (Err (BadField at)) P p = p
unless (Err Memory) P p = tt

-- a refusal that is passed on
pub still : (X Y : Type 0) (e : ElfError) (P Q : Type 0) → (P → Q) → UnlessMemory {X = X} (Err e) P → UnlessMemory {X = Y} (Err e) Q
still X Y (Short need) P Q f p = f p
still X Y (BadField at) P Q f p = f p
still X Y Memory P Q f p = tt

-- what a value holds says something else of it
pub if_ok_more : {X E : Type 0} (r : Result X E) (P Q : X → Type 0) → ((x : X) → P x → Q x) → IfOk r P → IfOk r Q
if_ok_more (Ok x) P Q f p = f x p
if_ok_more (Err e) P Q f p = tt
