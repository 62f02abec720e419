-- The refusal of an image and a job, by the image that begins the bytes.
use Rattle.std.proofs.Common.{◌≡◌, ℕ, List, Option, Some, option_map, Ok, Err, drop, length, ◌++◌, sym, ap, ◌∙◌}
use Rattle.std.proofs.Math.Seq.{drop-append_seam}
use Rattle.orc_image.specs.declared.error.ImageError.{ImageError}
use Rattle.orc_image.specs.Spelling.{ImageValue, ImageBegins, FunctionValue, image_bytes}
use Rattle.orc_image.specs.Fields.{Field, image_at, refusal_in}
use Rattle.orc_image.proofs.Again.{image_again}
use Rattle.orc_job.specs.declared.error.JobError.{JobError}
use Rattle.orcc_top.specs.declared.refusal.Refusal.TheVariants as refusal
use Rattle.orcc_top.specs.Execution.{refusal_behind}

-- what stands behind the image
pub rest_is : (bytes : List ℕ) (i : ImageValue) (n : ℕ) (b : ImageBegins bytes i n) → drop n bytes ≡ b.begins.0
rest_is bytes i n b =
    ap (λ k. drop k bytes) (sym b.size) ∙ ap (drop (length (image_bytes i))) b.begins.1 ∙ drop-append_seam (image_bytes i) b.begins.0

pub cut_is : (bytes rest : List ℕ) (i : ImageValue) (n : ℕ) → ImageBegins bytes i n → rest ≡ drop n bytes → bytes ≡ image_bytes i ++ rest
cut_is bytes rest i n b e = b.begins.1 ∙ ap (λ l. image_bytes i ++ l) (sym (e ∙ rest_is bytes i n b))

-- an image begins the bytes, so they are refused for the job behind it alone
pub refused_behind : (on_image : List FunctionValue → List ℕ → Option JobError) (bytes rest : List ℕ) (i : ImageValue) (n : ℕ) → ImageBegins bytes i n → rest ≡ drop n bytes
    → refusal_behind on_image (image_at record { at = 0; rest = bytes }) ≡ option_map (λ e. refusal.Job e) (on_image i.functions rest)
refused_behind on_image bytes rest i n b e =
    let again = image_again i b.begins.0 b.allowed in
    ap (λ t. refusal_behind on_image (image_at record { at = 0; rest = t })) b.begins.1 ∙ ap (refusal_behind on_image) again.1
    ∙ ap (λ t. option_map (λ e. refusal.Job e) (on_image i.functions t)) (sym (e ∙ rest_is bytes i n b))

-- a bad field stands before all that the job is refused for
pub refused_image : (on_image : List FunctionValue → List ℕ → Option JobError) (bytes : List ℕ) (e : ImageError) → Some e ≡ refusal_in (image_at record { at = 0; rest = bytes })
    → refusal_behind on_image (image_at record { at = 0; rest = bytes }) ≡ Some (refusal.Image e)
refused_image on_image bytes e h = go (image_at record { at = 0; rest = bytes }) h
  where
    go : (r : Field ImageValue) → Some e ≡ refusal_in r → refusal_behind on_image r ≡ Some (refusal.Image e)
    go (Ok x) q = cc
    go (Err f) q = ap (option_map (λ x. refusal.Image x)) (sym q)
