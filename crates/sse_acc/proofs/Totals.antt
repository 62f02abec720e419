-- Sums of numbers by their index.
use Rattle.std.proofs.Common.{◌≡◌, ℕ, zero, suc, ◌+◌, ◌%◌, ◌<◌, refl, sym, ◌∙◌, ap, ap₂, arith}
use Rattle.std.specs.List.{sum_by, range_with_len}
use Rattle.std.proofs.lemmas.List.Sums.{sum-map}
use Rattle.std.proofs.lemmas.List.FromFn.{sum_by-map-range_with_len_more}
use Rattle.std.proofs.Math.Nat.{add-mod-mod, mod-add-mod}
use Rattle.sse_acc.specs.Sums.{sum_below}

pub sum_below-zero : (f : ℕ → ℕ) → sum_below 0 f ≡ 0
unfolding sum_below
sum_below-zero f = refl

pub sum_below-suc : (n : ℕ) (f : ℕ → ℕ) → sum_below (suc n) f ≡ sum_below n f + f n
unfolding sum_below
sum_below-suc n f =
    let e : suc n ≡ n + 1 = omega arith in
    ap (λ k. sum_by f (range_with_len 0 k)) e
    ∙ sym (sum-map f (range_with_len 0 (n + 1)))
    ∙ sum_by-map-range_with_len_more (λ k. k) f 0 n n (omega arith)
    ∙ ap (λ s. s + f n) (sum-map f (range_with_len 0 n))

-- equal numbers
pub sum_below-same : (n : ℕ) (f g : ℕ → ℕ) → ((q : ℕ) → q < n → f q ≡ g q) → sum_below n f ≡ sum_below n g
sum_below-same zero f g h = sum_below-zero f ∙ sym (sum_below-zero g)
sum_below-same (suc n) f g h =
    let ih = sum_below-same n f g (λ q l. h q (omega arith)) in
    let e : f n ≡ g n = h n (omega arith) in
    sum_below-suc n f ∙ ap₂ (λ p q. p + q) ih e ∙ sym (sum_below-suc n g)

-- k zeros, and then n numbers
none : (k : ℕ) (g : ℕ → ℕ) → ((q : ℕ) → q < k → g q ≡ 0) → sum_below k g ≡ 0
none zero g z = sum_below-zero g
none (suc k) g z =
    let ih = none k g (λ q l. z q (omega arith)) in
    let e : g k ≡ 0 = z k (omega arith) in
    sum_below-suc k g ∙ omega (arith, ih, e)

pub sum_below-moved : (k n : ℕ) (f g : ℕ → ℕ) → ((q : ℕ) → q < k → g q ≡ 0) → ((q : ℕ) → q < n → g (q + k) ≡ f q) → sum_below (n + k) g ≡ sum_below n f
sum_below-moved k zero f g z h =
    let e : 0 + k ≡ k = omega arith in
    ap (λ m. sum_below m g) e ∙ none k g z ∙ sym (sum_below-zero f)
sum_below-moved k (suc n) f g z h =
    let e : suc n + k ≡ suc (n + k) = omega arith in
    let ih = sum_below-moved k n f g z (λ q l. h q (omega arith)) in
    ap (λ m. sum_below m g) e ∙ sum_below-suc (n + k) g ∙ ap₂ (λ p q. p + q) ih (h n (omega arith)) ∙ sym (sum_below-suc n f)

-- numbers that are added one by one, modulo m
mod_step : (m s a b c d : ℕ) → s % m ≡ (a + b) % m → (s + (c + d) % m) % m ≡ (a + c + (b + d)) % m
mod_step m s a b c d e =
    let r : a + b + (c + d) ≡ a + c + (b + d) = omega arith in
    add-mod-mod s (c + d) m
    ∙ sym (mod-add-mod s m (c + d))
    ∙ ap (λ k. (k + (c + d)) % m) e
    ∙ mod-add-mod (a + b) m (c + d)
    ∙ ap (λ k. k % m) r

pub sum_below-mod : (m n : ℕ) (f g h : ℕ → ℕ) → ((q : ℕ) → q < n → h q ≡ (f q + g q) % m) → sum_below n h % m ≡ (sum_below n f + sum_below n g) % m
sum_below-mod m zero f g h e = rw (sum_below-zero f, sum_below-zero g, sum_below-zero h) refl
sum_below-mod m (suc n) f g h e =
    let ih = sum_below-mod m n f g h (λ q l. e q (omega arith)) in
    rw (sum_below-suc n f, sum_below-suc n g, sum_below-suc n h, e n (omega arith)) (mod_step m (sum_below n h) (sum_below n f) (sum_below n g) (f n) (g n) ih)
