-- The largest of some numbers.
use Rattle.std.proofs.Common.{◌≡◌, ℕ, zero, suc, ◌+◌, ◌<◌, ◌≤◌, ◌⊎◌, inl, inr, [], ◌∷◌, ap, ◌∙◌, arith, map, max}
use Rattle.std.specs.List.{fold, range_with_len}
use Rattle.std.proofs.lemmas.Bool.{cases_lt}
use Rattle.std.proofs.lemmas.List.FromFn.{map-range_with_len_more}
use Rattle.std.proofs.lemmas.List.Sums.{fold-append}

-- the largest of one more
pub widest_more : (f : ℕ → ℕ) (n : ℕ) → fold max 0 (map f (range_with_len 0 (n + 1))) ≡ max (fold max 0 (map f (range_with_len 0 n))) (f n)
widest_more f n = ap (fold max 0) (map-range_with_len_more f 0 n n (omega arith)) ∙ fold-append max 0 (map f (range_with_len 0 n)) (f n ∷ [])

-- none is above the largest
pub below_widest : (f : ℕ → ℕ) (n j : ℕ) → j < n → f j ≤ fold max 0 (map f (range_with_len 0 n))
below_widest f zero j l = absurd (omega (arith, l))
below_widest f (suc n) j l = go (below_widest f n j) (cases_lt j n)
  where
    more : fold max 0 (map f (range_with_len 0 (suc n))) ≡ max (fold max 0 (map f (range_with_len 0 n))) (f n)
    more = ap (λ k. fold max 0 (map f (range_with_len 0 k))) (let e : suc n ≡ n + 1 = omega arith in e) ∙ widest_more f n

    go : (j < n → f j ≤ fold max 0 (map f (range_with_len 0 n))) → (j < n) ⊎ (n ≤ j) → f j ≤ fold max 0 (map f (range_with_len 0 (suc n)))
    go before (inl h) = omega (arith, more, before h)
    go before (inr h) = omega (arith, more, ap f (let e : j ≡ n = omega (arith, l, h) in e))
