-- Ranges of numbers, and what passes of them.
use Rattle.std.proofs.Common.{◌≡◌, ℕ, zero, suc, ◌+◌, ◌<◌, ◌≤◌, Bool, true, false, ◌||◌, ◌==◌, List, [], ◌∷◌, ◌++◌, refl, ap, ◌∙◌, arith, length, filter, if◌then◌else◌, add-one, sum_by}
use Rattle.std.specs.List.{list_any, flat_map, range_with_len}
use Rattle.std.proofs.lemmas.List.Folds.{list_any-append}
use Rattle.std.proofs.lemmas.List.Sums.{sum_by-append}
use Rattle.orc_program.specs.Need.{is_in}

pub range_more : (a n : ℕ) → range_with_len a (suc n) ≡ range_with_len a n ++ (a + n) ∷ []
range_more a zero = ap (λ k. k ∷ []) (let e : a ≡ a + 0 = omega arith in e)
range_more a (suc n) = ap (λ (xs : List ℕ). a ∷ xs) (range_more (a + 1) n ∙ ap (λ k. range_with_len (a + 1) n ++ k ∷ []) (let e : a + 1 + n ≡ a + suc n = omega arith in e))

-- ---- some number of a range passes

pub any_next : (g : ℕ → Bool) (a n : ℕ) → list_any g (range_with_len (a + 1) n) ≡ list_any (λ k. g (suc k)) (range_with_len a n)
any_next g a zero = refl
any_next g a (suc n) = ap (λ k. g k || list_any g (range_with_len (a + 1 + 1) n)) (add-one a) ∙ ap (λ b. g (suc a) || b) (any_next g (a + 1) n)

pub any_same : (f g : ℕ → Bool) (a n : ℕ) → ((k : ℕ) → a ≤ k → f k ≡ g k) → list_any f (range_with_len a n) ≡ list_any g (range_with_len a n)
any_same f g a zero h = refl
any_same f g a (suc n) h = ap (λ b. b || list_any f (range_with_len (a + 1) n)) (h a (omega arith)) ∙ ap (λ b. g a || b) (any_same f g (a + 1) n (λ k l. h k (omega arith)))

pub in_flat : (t : ℕ) (f : ℕ → List ℕ) (xs : List ℕ) → is_in t (flat_map f xs) ≡ list_any (λ x. is_in t (f x)) xs
in_flat t f [] = refl
in_flat t f (x ∷ xs) = list_any-append (λ q. t == q) (f x) (flat_map f xs) ∙ ap (λ b. is_in t (f x) || b) (in_flat t f xs)

-- ---- how many numbers of a range pass

pub passed_next : (p : ℕ → Bool) (a b n : ℕ) → length (filter p (range_with_len (a + b) n)) ≡ length (filter (λ k. p (a + k)) (range_with_len b n))
passed_next p a b zero = refl
passed_next p a b (suc n) = go (p (a + b)) (ap (λ k. length (filter p (range_with_len k n))) (let e : a + b + 1 ≡ a + (b + 1) = omega arith in e) ∙ passed_next p a (b + 1) n)
  where
    go : (c : Bool) → length (filter p (range_with_len (a + b + 1) n)) ≡ length (filter (λ k. p (a + k)) (range_with_len (b + 1) n))
        → length (if c then (a + b) ∷ filter p (range_with_len (a + b + 1) n) else filter p (range_with_len (a + b + 1) n)) ≡ length (if c then b ∷ filter (λ k. p (a + k)) (range_with_len (b + 1) n) else filter (λ k. p (a + k)) (range_with_len (b + 1) n))
    go true h = ap suc h
    go false h = h

pub passed_same : (p q : ℕ → Bool) (b n : ℕ) → ((k : ℕ) → b ≤ k → k < b + n → p k ≡ q k) → length (filter p (range_with_len b n)) ≡ length (filter q (range_with_len b n))
passed_same p q b zero h = refl
passed_same p q b (suc n) h = go (p b) (q b) (h b (omega arith) (omega arith)) (passed_same p q (b + 1) n (λ k l m. h k (omega arith) (omega arith)))
  where
    go : (c d : Bool) → c ≡ d → length (filter p (range_with_len (b + 1) n)) ≡ length (filter q (range_with_len (b + 1) n))
        → length (if c then b ∷ filter p (range_with_len (b + 1) n) else filter p (range_with_len (b + 1) n)) ≡ length (if d then b ∷ filter q (range_with_len (b + 1) n) else filter q (range_with_len (b + 1) n))
    go c d e h = ap (λ x. length (if x then b ∷ filter p (range_with_len (b + 1) n) else filter p (range_with_len (b + 1) n))) e ∙ last d h
      where
        last : (d : Bool) → length (filter p (range_with_len (b + 1) n)) ≡ length (filter q (range_with_len (b + 1) n))
            → length (if d then b ∷ filter p (range_with_len (b + 1) n) else filter p (range_with_len (b + 1) n)) ≡ length (if d then b ∷ filter q (range_with_len (b + 1) n) else filter q (range_with_len (b + 1) n))
        last true h = ap suc h
        last false h = h

-- ---- sums over a range from 0

pub sum_more : (f : ℕ → ℕ) (n : ℕ) → sum_by f (range_with_len 0 (suc n)) ≡ sum_by f (range_with_len 0 n) + f n
sum_more f n = ap (sum_by f) (range_more 0 n) ∙ sum_by-append f (range_with_len 0 n) ((0 + n) ∷ []) ∙ ap (λ k. sum_by f (range_with_len 0 n) + k) (let e : f (0 + n) ≡ f n = ap f (let z : 0 + n ≡ n = omega arith in z) in let g : 0 + f (0 + n) ≡ f n = omega (arith, e) in g)

pub sum_same : (f g : ℕ → ℕ) (n : ℕ) → ((k : ℕ) → k < n → f k ≡ g k) → sum_by f (range_with_len 0 n) ≡ sum_by g (range_with_len 0 n)
sum_same f g zero h = refl
sum_same f g (suc n) h = omega (arith, sum_more f n, sum_more g n, sum_same f g n (λ k l. h k (omega arith)), h n (omega arith))
