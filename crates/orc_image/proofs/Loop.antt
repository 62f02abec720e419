-- Reading functions one after the other, as a loop does.
use Rattle.std.proofs.Common.{◌≡◌, ℕ, suc, ◌-◌, ◌+◌, ◌≤◌, ◌<◌, List, [], ◌∷◌, ◌++◌, Ok, Err, refl, sym, ap, ◌∙◌, append_assoc, arith}
use Rattle.std.proofs.lemmas.List.{append-nil}
use Rattle.orc_image.specs.declared.error.ImageError.{ImageError}
use Rattle.orc_image.specs.Spelling.{FunctionValue}
use Rattle.orc_image.specs.Fields.{Cursor, Field, ◌>>=◌, function_at, functions_at}

abbrev pub with_front : List FunctionValue → Field (List FunctionValue) → Field (List FunctionValue)
with_front front read = read >>= λ x. Ok (front ++ x.0, x.1)

regroup : (front : List FunctionValue) (f : FunctionValue) (read : Field (List FunctionValue)) → with_front front (read >>= λ x. Ok (f ∷ x.0, x.1)) ≡ with_front (front ++ f ∷ []) read
regroup front f (Ok x) = ap (λ (fs : List FunctionValue). Ok (fs, x.1)) (simp append_assoc)
regroup front f (Err e) = refl

pub goes_on : (version : ℕ) (front : List FunctionValue) (seen : List (List ℕ)) (count i : ℕ) (c : Cursor) (f : FunctionValue) (after : Cursor) (total : Field (List FunctionValue)) → i < count → function_at version seen c ≡ Ok (f, after)
    → with_front front (functions_at version (count - i) seen c) ≡ total → with_front (front ++ f ∷ []) (functions_at version (count - (i + 1)) (seen ++ f.name ∷ []) after) ≡ total
unfolding functions_at
goes_on version front seen count i c f after total lt h so_far =
    let k : count - i ≡ suc (count - (i + 1)) = omega arith in
    let one : with_front front (functions_at version (count - i) seen c) ≡ with_front (front ++ f ∷ []) (functions_at version (count - (i + 1)) (seen ++ f.name ∷ []) after) = rw (k, h) (regroup front f (functions_at version (count - (i + 1)) (seen ++ f.name ∷ []) after)) in
    sym one ∙ so_far

pub ends : (version : ℕ) (front : List FunctionValue) (seen : List (List ℕ)) (count i : ℕ) (c : Cursor) (e : ImageError) (total : Field (List FunctionValue)) → i < count → function_at version seen c ≡ Err e
    → with_front front (functions_at version (count - i) seen c) ≡ total → total ≡ Err e
unfolding functions_at
ends version front seen count i c e total lt h so_far =
    let k : count - i ≡ suc (count - (i + 1)) = omega arith in
    let one : with_front front (functions_at version (count - i) seen c) ≡ Err e = rw (k, h) refl in
    sym so_far ∙ one

pub is_done : (version : ℕ) (front : List FunctionValue) (seen : List (List ℕ)) (count i : ℕ) (c : Cursor) (total : Field (List FunctionValue)) → count ≤ i → with_front front (functions_at version (count - i) seen c) ≡ total → total ≡ Ok (front, c)
unfolding functions_at
is_done version front seen count i c total le so_far =
    let k : count - i ≡ 0 = omega arith in
    let one : with_front front (functions_at version (count - i) seen c) ≡ Ok (front, c) = rw k (ap (λ (fs : List FunctionValue). Ok (fs, c)) (append-nil front)) in
    sym so_far ∙ one
