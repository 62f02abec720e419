-- Lists in pieces, one for each number of a range.
use Rattle.std.proofs.Common.{◌≡◌, ℕ, zero, suc, ◌+◌, ◌*◌, ◌<◌, List, [], ◌∷◌, ◌++◌, Some, length, map, slice_get, refl, sym, ap, ◌∙◌, arith, append_assoc}
use Rattle.std.specs.List.{flat_map, range_with_len}
use Rattle.std.proofs.lemmas.List.FromFn.{map-range_with_len_more}

append_nil : {A : Type 0} (xs : List A) → xs ++ [] ≡ xs
append_nil [] = refl
append_nil (x ∷ xs) = ap (λ t. x ∷ t) (append_nil xs)

-- ---- one piece more

pieces_next : {A : Type 0} (g : ℕ → List A) (a n j : ℕ) → a + n ≡ j → flat_map g (range_with_len a (suc n)) ≡ flat_map g (range_with_len a n) ++ g j
pieces_next g a zero j e =
    let here : a ≡ j = omega (arith, e) in
    append_nil (g a) ∙ ap g here
pieces_next g a (suc n) j e =
    ap (λ t. g a ++ t) (pieces_next g (a + 1) n j (omega (arith, e))) ∙ sym (append_assoc (g a) (flat_map g (range_with_len (a + 1) n)) (g j))

pieces_more : {A : Type 0} (g : ℕ → List A) (n : ℕ) → flat_map g (range_with_len 0 (n + 1)) ≡ flat_map g (range_with_len 0 n) ++ g n
pieces_more g n =
    let e : n + 1 ≡ suc n = omega arith in
    ap (λ k. flat_map g (range_with_len 0 k)) e ∙ pieces_next g 0 n n (omega arith)

singles_more : {A : Type 0} (f : ℕ → A) (n : ℕ) → map f (range_with_len 0 (n + 1)) ≡ map f (range_with_len 0 n) ++ f n ∷ []
singles_more f n = map-range_with_len_more f 0 n n (omega arith)

-- what a loop has appended, with one piece more
pub grown : {A : Type 0} (g : ℕ → List A) (n : ℕ) (start before after : List A) → before ≡ start ++ flat_map g (range_with_len 0 n) → after ≡ before ++ g n → after ≡ start ++ flat_map g (range_with_len 0 (n + 1))
grown g n start before after e one =
    one ∙ ap (λ t. t ++ g n) e ∙ append_assoc start (flat_map g (range_with_len 0 n)) (g n) ∙ ap (λ t. start ++ t) (sym (pieces_more g n))

pub grown_by_one : {A : Type 0} (f : ℕ → A) (n : ℕ) (start before after : List A) → before ≡ start ++ map f (range_with_len 0 n) → after ≡ before ++ f n ∷ [] → after ≡ start ++ map f (range_with_len 0 (n + 1))
grown_by_one f n start before after e one =
    one ∙ ap (λ t. t ++ f n ∷ []) e ∙ append_assoc start (map f (range_with_len 0 n)) (f n ∷ []) ∙ ap (λ t. start ++ t) (sym (singles_more f n))

-- ---- what stands at a place

pub get_left : {A : Type 0} (xs ys : List A) (i : ℕ) (x : A) → slice_get xs i ≡ Some x → slice_get (xs ++ ys) i ≡ Some x
get_left [] ys i x e = absurd (grind (arith, e))
get_left (y ∷ xs) ys zero x e = e
get_left (y ∷ xs) ys (suc i) x e = get_left xs ys i x e

get_behind : {A : Type 0} (xs ys : List A) (i : ℕ) → slice_get (xs ++ ys) (length xs + i) ≡ slice_get ys i
get_behind [] ys i = ap (slice_get ys) (omega arith)
get_behind (x ∷ xs) ys i =
    let e : suc (length xs) + i ≡ suc (length xs + i) = omega arith in
    ap (slice_get (x ∷ (xs ++ ys))) e ∙ get_behind xs ys i

-- behind a list of a known length
pub get_right : {A : Type 0} (xs ys : List A) (n i j : ℕ) (x : A) → length xs ≡ n → n + j ≡ i → slice_get ys j ≡ Some x → slice_get (xs ++ ys) i ≡ Some x
get_right xs ys n i j x l e there =
    let k : i ≡ length xs + j = omega (arith, l, e) in
    ap (slice_get (xs ++ ys)) k ∙ get_behind xs ys j ∙ there

pub length_append : {A : Type 0} (xs ys : List A) → length (xs ++ ys) ≡ length xs + length ys
length_append [] ys = omega arith
length_append (x ∷ xs) ys = omega (arith, length_append xs ys)

-- pieces of one length
module _ {A : Type 0} (g : ℕ → List A) (w : ℕ) (even : (k : ℕ) → length (g k) ≡ w) where
  pub pieces_length : (a n : ℕ) → length (flat_map g (range_with_len a n)) ≡ w * n
  pieces_length a zero = omega arith
  pieces_length a (suc n) =
      let e : w * suc n ≡ w + w * n = grind arith in
      length_append (g a) (flat_map g (range_with_len (a + 1) n)) ∙ omega (arith, even a, pieces_length (a + 1) n, e)

  pub piece_at : (a n k m i j : ℕ) (x : A) → k < n → a + k ≡ m → w * k + j ≡ i → slice_get (g m) j ≡ Some x → slice_get (flat_map g (range_with_len a n)) i ≡ Some x
  piece_at a zero k m i j x low here place e = absurd (omega (arith, low))
  piece_at a (suc n) zero m i j x low here place e =
      let z : w * zero ≡ 0 = grind arith in
      let same : i ≡ j = omega (arith, place, z) in
      let this : m ≡ a = omega (arith, here) in
      get_left (g a) (flat_map g (range_with_len (a + 1) n)) i x (ap (slice_get (g a)) same ∙ ap (λ t. slice_get (g t) j) (sym this) ∙ e)
  piece_at a (suc n) (suc k) m i j x low here place e =
      let s : w * suc k ≡ w + w * k = grind arith in
      get_right (g a) (flat_map g (range_with_len (a + 1) n)) w i (w * k + j) x (even a) (omega (arith, place, s))
      (piece_at (a + 1) n k m (w * k + j) j x (omega (arith, low)) (omega (arith, here)) refl e)

pub single_at : {A : Type 0} (f : ℕ → A) (a n k m : ℕ) → k < n → a + k ≡ m → slice_get (map f (range_with_len a n)) k ≡ Some (f m)
single_at f a zero k m low here = absurd (omega (arith, low))
single_at f a (suc n) zero m low here =
    let this : a ≡ m = omega (arith, here) in
    ap (λ t. Some (f t)) this
single_at f a (suc n) (suc k) m low here = single_at f (a + 1) n k m (omega (arith, low)) (omega (arith, here))
