-- Refusals of inputs within their limits.
use Rattle.std.proofs.Common.{◌≡◌, ◌≤◌, ℕ, List, length, ltb, true, false, refl, option_map}
use Rattle.std.proofs.lemmas.Bool.{le-ltb}
use Rattle.orc_elf.specs.Fields.{first_bad_field}
use Rattle.orcc_top.specs.declared.command.Command.{Command}
use Rattle.orcc_top.specs.declared.refusal.Refusal.TheVariants as refusal
use Rattle.orcc_top.specs.Answer.{limit_of, refusal_of, refusal_within, dis_refusal}
use Rattle.orcc_top.specs.Images.{image_refusal}
use Rattle.orcc_top.specs.Objects.{begins_elf}

-- an input within the limit is refused for what it says alone
pub within_limit : (command : Command) (input : List ℕ) → length input ≤ limit_of command → refusal_of command input ≡ refusal_within command input
within_limit command input short =
    let e : ltb (limit_of command) (length input) ≡ false = le-ltb _ _ short in
    rw e

-- ---- `dis`

pub as_object : (input : List ℕ) → begins_elf input ≡ true → dis_refusal input ≡ option_map (λ e. refusal.Object e) (first_bad_field input)
as_object input h = rw h refl

pub as_image : (input : List ℕ) → begins_elf input ≡ false → dis_refusal input ≡ option_map (λ e. refusal.Image e) (image_refusal input)
as_image input h = rw h refl
