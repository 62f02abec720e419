-- Refusals of objects.
use Rattle.std.proofs.Common.{◌≡◌, Err, refl}
use Rattle.orc_elf.specs.declared.error.ElfError.{ElfError}
use Rattle.orc_elf.specs.declared.error.ElfError.TheVariants.{Short, BadField, Memory}
use Rattle.orc_elf.specs.Told.{UnlessMemory}

-- a refusal that is not for want of memory tells what it tells
pub told : (X : Type 0) (e : ElfError) (P : Type 0) → (e ≡ Memory → ⊥) → UnlessMemory {X = X} (Err e) P → P
told X (Short need) P other p = p
told X (BadField at) P other p = p
told X Memory P other p = absurd (other refl)
