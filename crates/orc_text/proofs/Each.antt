-- Lists whose items belong to each other, one for one.
use Rattle.std.proofs.Common.{◌≡◌, suc, List, [], ◌∷◌, ◌++◌, length, refl, ap}
use Rattle.orc_text.specs.Each.{OneForEach}

pub each_appended : {A B : Type 0} (R : A → B → Type 0) (xs more : List A) (ys others : List B) → OneForEach R xs ys → OneForEach R more others → OneForEach R (xs ++ more) (ys ++ others)
each_appended R [] more [] others all rest = rest
each_appended R [] more (b ∷ ys) others all rest = absurd all
each_appended R (a ∷ xs) more [] others all rest = absurd all
each_appended R (a ∷ xs) more (b ∷ ys) others all rest = (all.0, each_appended R xs more ys others all.1 rest)

pub count_kept : {A B : Type 0} (R : A → B → Type 0) (xs : List A) (ys : List B) → OneForEach R xs ys → length ys ≡ length xs
count_kept R [] [] all = refl
count_kept R [] (b ∷ ys) all = absurd all
count_kept R (a ∷ xs) [] all = absurd all
count_kept R (a ∷ xs) (b ∷ ys) all = ap suc (count_kept R xs ys all.1)
