-- Lists whose items belong to each other, one for one, as they grow.
use Rattle.std.proofs.Common.{◌≡◌, ℕ, suc, ◌+◌, ◌<◌, ◌≤◌, true, false, List, [], ◌∷◌, ◌++◌, length, map, take, drop, get_or, refl, sym, ap, ◌∙◌, arith, length-take-le}
use Rattle.std.specs.List.{list_any}
use Rattle.std.specs.Str.{bytes_eq}
use Rattle.std.proofs.lemmas.List.{take-append-drop, map-append, take_more}
use Rattle.std.proofs.lemmas.List.Folds.{list_any-append}
use Rattle.std.proofs.lemmas.Slice.Eq.{bytes_eq-Decides}
use Rattle.std.proofs.Math.Seq.{drop-cons}
use Rattle.orc_program.specs.Kept.{all_distinct}
use Rattle.orc_image.specs.Spelling.{is_among}
use Rattle.orc_text.specs.Each.{OneForEach}
use Rattle.orc_text.proofs.Each.{each_appended, count_kept}

-- ---- lists

-- the items before a place, the one at it, and those behind it
pub parted : {A : Type 0} (xs : List A) (i : ℕ) (d : A) → i < length xs → xs ≡ take i xs ++ get_or xs i d ∷ drop (suc i) xs
parted xs i d lt = sym (take-append-drop i xs) ∙ ap (λ r. take i xs ++ r) (drop-cons xs i d lt)

pub one_further : {A : Type 0} (xs : List A) (i : ℕ) (x : A) → i < length xs → x ≡ get_or xs i x → take (i + 1) xs ≡ take i xs ++ x ∷ []
one_further xs i x lt is = take_more xs i x lt ∙ ap (λ y. take i xs ++ y ∷ []) (sym is)

-- of words that differ, one that follows others is none of them
none_before : (seen : List (List ℕ)) (w : List ℕ) (ws : List (List ℕ)) → all_distinct (seen ++ w ∷ ws) ≡ true → is_among seen w ≡ false
none_before [] w ws d = refl
none_before (x ∷ seen) w ws d =
    let rest : all_distinct (seen ++ w ∷ ws) ≡ true = grind arith in
    let apart : list_any (bytes_eq x) (seen ++ w ∷ ws) ≡ false = grind arith in
    let e : bytes_eq x w ≡ false = grind (arith, list_any-append (bytes_eq x) seen (w ∷ ws)) in
    let s : bytes_eq w x ≡ false = grind (arith, bytes_eq-Decides w x, bytes_eq-Decides x w) in
    rw (s, none_before seen w ws rest) refl

-- ---- one for each

pub each_and_one : {A B : Type 0} (R : A → B → Type 0) (xs : List A) (ys : List B) (x : A) (y : B) → OneForEach R xs ys → R x y → OneForEach R (xs ++ x ∷ []) (ys ++ y ∷ [])
each_and_one R xs ys x y all one = each_appended R xs (x ∷ []) ys (y ∷ []) all (one, tt)

-- what belongs to each other has one name
abbrev pub AreNamed : {A B : Type 0} → (A → B → Type 0) → (A → List ℕ) → (B → List ℕ) → Type 0
AreNamed {A = A} {B = B} R named called = (x : A) (y : B) → R x y → called y ≡ named x

pub names_kept : {A B : Type 0} (R : A → B → Type 0) (named : A → List ℕ) (called : B → List ℕ) (same : AreNamed R named called) (xs : List A) (ys : List B) → OneForEach R xs ys → map called ys ≡ map named xs
names_kept R named called same [] [] all = refl
names_kept R named called same [] (b ∷ ys) all = absurd all
names_kept R named called same (a ∷ xs) [] all = absurd all
names_kept R named called same (a ∷ xs) (b ∷ ys) all = cc (same a b all.0, names_kept R named called same xs ys all.1)

-- ---- the next one

pub each_further : {A B : Type 0} (R : A → B → Type 0) (xs : List A) (i : ℕ) (ys grown : List B) (x : A) (y : B) → i < length xs → x ≡ get_or xs i x → grown ≡ ys ++ y ∷ [] → OneForEach R (take i xs) ys → R x y → OneForEach R (take (i + 1) xs) grown
each_further R xs i ys grown x y lt is more all one = rw (one_further xs i x lt is, more) (each_and_one R (take i xs) ys x y all one)

-- there is room for it
pub next_room : {A B : Type 0} (R : A → B → Type 0) (xs : List A) (ys : List B) (i : ℕ) → i < length xs → length xs ≤ 64 → OneForEach R (take i xs) ys → length ys < 64
next_room R xs ys i lt few all =
    let front : length (take i xs) ≡ i = length-take-le i xs (omega arith) in
    omega (arith, count_kept R (take i xs) ys all)

-- and its name is new
pub next_new : {A B : Type 0} (R : A → B → Type 0) (named : A → List ℕ) (called : B → List ℕ) (same : AreNamed R named called) (xs : List A) (ys : List B) (i : ℕ) (x : A) (y : B)
    → i < length xs → x ≡ get_or xs i x → all_distinct (map named xs) ≡ true → OneForEach R (take i xs) ys → R x y → is_among (map called ys) (called y) ≡ false
next_new R named called same xs ys i x y lt is distinct all one =
    let before = map named (take i xs) in
    let after = map named (drop (suc i) xs) in
    let e : map named xs ≡ before ++ named (get_or xs i x) ∷ after
    = ap (map named) (parted xs i x lt) ∙ map-append named (take i xs) (get_or xs i x ∷ drop (suc i) xs) in
    let last : called y ≡ named (get_or xs i x) = same x y one ∙ ap named is in
    let none = none_before before (named (get_or xs i x)) after (ap all_distinct (sym e) ∙ distinct) in
    ap (is_among (map called ys)) last ∙ ap (λ ns. is_among ns (named (get_or xs i x))) (names_kept R named called same (take i xs) ys all) ∙ none

-- ---- one for each by a function

pub each_is_map : {A B : Type 0} (g : A → B) (xs : List A) (ys : List B) → OneForEach (λ x y. y ≡ g x) xs ys → ys ≡ map g xs
each_is_map g [] [] all = refl
each_is_map g [] (b ∷ ys) all = absurd all
each_is_map g (a ∷ xs) [] all = absurd all
each_is_map g (a ∷ xs) (b ∷ ys) all = cc (all.0, each_is_map g xs ys all.1)
