-- The workers that words say.
use Rattle.std.proofs.Common.{◌≡◌, ℕ, ◌<◌, ◌≤◌, ◌^◌, sym, ◌∙◌, subst, arith}
use native.Mathlib.Bridge.{le_prop}
use Rattle.std.specs.Fmt.{decimal}
use Rattle.std.proofs.lemmas.Fmt.{decimal_injective}
use Rattle.orcc_top.specs.declared.workers.Workers.{Workers}
use Rattle.orcc_top.specs.Commands.{Word, AreSaid}

module _ (count seed : Word) (w : Workers) (said : AreSaid w count seed) where
  count_small : w.count < 2 ^ 64
  count_small = let f = w.few in omega (arith, f)

  pub same_count : (n : ℕ) → n < 2 ^ 64 → count ≡ decimal n → n ≡ w.count
  same_count n small e = decimal_injective n w.count small count_small (sym e ∙ said.0)

-- no workers, or too many
pub some_workers : (count seed : Word) (n : ℕ) → n < 2 ^ 64 → count ≡ decimal n → n < 1 → (w : Workers) → AreSaid w count seed → ⊥
some_workers count seed n small e less w said = let s = same_count count seed w said n small e in let a = w.some in omega (arith, s, a, less)

pub few_workers : (count seed : Word) (n : ℕ) → n < 2 ^ 64 → count ≡ decimal n → 64 < n → (w : Workers) → AreSaid w count seed → ⊥
few_workers count seed n small e more w said = let s = same_count count seed w said n small e in let a = w.few in omega (arith, s, a, more)

-- workers of the same numbers are the same
workers_with : (a x : ℕ) → 1 ≤ a → a ≤ 64 → x < 2 ^ 64 → Workers
workers_with a x p q r = record { count = a; seed = x; some = p; few = q; word = r }

abbrev Alike : ℕ → ℕ → ℕ → ℕ → Type 0
Alike a x b y = (p : 1 ≤ a) (q : a ≤ 64) (r : x < 2 ^ 64) (p2 : 1 ≤ b) (q2 : b ≤ 64) (r2 : y < 2 ^ 64) → workers_with a x p q r ≡ workers_with b y p2 q2 r2

alike : (a x : ℕ) → Alike a x a x
unfolding workers_with
alike a x p q r p2 q2 r2 i = record { count = a; seed = x; some = le_prop p p2 i; few = le_prop q q2 i; word = le_prop r r2 i }

pub same_workers : (v w : Workers) → decimal v.count ≡ decimal w.count → decimal v.seed ≡ decimal w.seed → v ≡ w
unfolding workers_with
same_workers v w e d =
    let small : v.count < 2 ^ 64 = (let f = v.few in omega (arith, f)) in
    let other : w.count < 2 ^ 64 = (let f = w.few in omega (arith, f)) in
    let counts = decimal_injective v.count w.count small other e in
    let seeds = decimal_injective v.seed w.seed v.word w.word d in
    let all : Alike v.count v.seed w.count w.seed = subst (λ b. Alike v.count v.seed b w.seed) counts (subst (λ y. Alike v.count v.seed v.count y) seeds (alike v.count v.seed)) in
    all v.some v.few v.word w.some w.few w.word
