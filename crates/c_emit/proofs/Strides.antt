-- In a good call no row's address wraps: where all rows lie below 2 ^ 47, the exact base of a row is its base modulo 2 ^ 64.
use Rattle.std.proofs.Common.{◌≡◌, ℕ, zero, suc, ◌+◌, ◌-◌, ◌*◌, ◌%◌, ◌^◌, ◌<◌, ◌≤◌, ap, ◌∙◌, arith}
use Rattle.std.proofs.Math.Nat.{mod-eq_of_lt}

-- a stride that isn't negative
pub rows_up : (base n m r : ℕ) → base < 2 ^ 64 → n < 2 ^ 63 → ((r : ℕ) → r < m → (base + r * n) % 2 ^ 64 < 2 ^ 47) → r < m → base + r * n < 2 ^ 47
rows_up base n m zero b s h l =
    let e = h 0 l in
    let f : (base + 0 * n) % 2 ^ 64 ≡ base = ap (λ i. i % 2 ^ 64) (let q : base + 0 * n ≡ base = omega arith in q) ∙ mod-eq_of_lt b in
    omega (arith, e, f)
rows_up base n m (suc r) b s h l =
    let c = rows_up base n m r b s h (omega (arith, l)) in
    let e = h (suc r) l in
    let step : base + suc r * n ≡ base + r * n + n = grind arith in
    let f : (base + suc r * n) % 2 ^ 64 ≡ base + suc r * n = mod-eq_of_lt (let q : base + suc r * n < 2 ^ 64 = omega (arith, step, c, s) in q) in
    omega (arith, e, f)

-- a negative one, -1 - n
pub rows_down : (base n m r : ℕ) → base < 2 ^ 64 → n < 2 ^ 63 → ((r : ℕ) → r < m → (base + r * (2 ^ 64 - 1 - n)) % 2 ^ 64 < 2 ^ 47) → r < m → r * suc n ≤ base × ((base + r * (2 ^ 64 - 1 - n)) % 2 ^ 64 ≡ base - r * suc n) × (base - r * suc n < 2 ^ 47)
rows_down base n m zero b s h l =
    let e = h 0 l in
    let f : (base + 0 * (2 ^ 64 - 1 - n)) % 2 ^ 64 ≡ base = ap (λ i. i % 2 ^ 64) (let q : base + 0 * (2 ^ 64 - 1 - n) ≡ base = omega arith in q) ∙ mod-eq_of_lt b in
    (omega arith, f ∙ (omega arith), omega (arith, e, f))
rows_down base n m (suc r) b s h l =
    let c = rows_down base n m r b s h (omega (arith, l)) in
    let e = h (suc r) l in
    let k : ℕ = 2 ^ 64 - 1 - n in
    let step : base + suc r * k ≡ base + r * k + k = grind arith in
    let down : suc r * suc n ≡ r * suc n + suc n = grind arith in
    let low : (base + r * k) % 2 ^ 64 ≡ base - r * suc n = c.1 in
    let f : (base + suc r * k) % 2 ^ 64 ≡ (base - r * suc n + k) % 2 ^ 64 = ap (λ i. i % 2 ^ 64) step ∙ (omega (arith, low)) in
    let small : suc n ≤ base - r * suc n = omega (arith, e, f, c, s) in
    let g : (base - r * suc n + k) % 2 ^ 64 ≡ base - r * suc n - suc n = omega (arith, small, c, s) in
    (omega (arith, c, down, small), f ∙ g ∙ (omega (arith, down)), omega (arith, e, f, g, down))
