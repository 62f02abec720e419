use Rattle.std.proofs.Common.{◌≡◌, ◌++◌, ◌∷◌, length, take}
use Rattle.orc_image.specs.Spelling.{functions_bytes, magic}
use Rattle.orc_image.proofs.writing.write_image.Given as goal

abbrev pub invariant-loop-f : goal.invariant-loop-f
invariant-loop-f l = l.out.items ≡ magic ++ (l.image.version ∷ length l.image.functions ∷ functions_bytes l.image.version (take l.f-index l.f-items))
