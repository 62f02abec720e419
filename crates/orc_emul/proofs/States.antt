-- The state that the code has, as the meaning changes it.
use Rattle.std.proofs.Common.{◌≡◌, ◌≢◌, ℕ, zero, suc, ◌+◌, ◌-◌, ◌*◌, ◌%◌, ◌^◌, ◌<◌, ◌≤◌, ◌==◌, ◌⊎◌, inl, inr, Bool, true, false, if◌then◌else◌, List, length, get_or, set, replicate, Result, Ok, Err, refl, sym, ap, ap₂, ◌∙◌, subst, arith, get_or-set_same, get_or-set_other}
use Rattle.std.proofs.lemmas.Bool.{cases_eq}
use Rattle.std.proofs.Math.Pow.{mod-mod-pow}
use Rattle.orc_bits.specs.Memory.{Memory}
use Rattle.orc_bits.specs.Lanes.{change}
use Rattle.orc_bits.specs.declared.parts.Part.{Part}
use Rattle.orc_bits.proofs.LaneLaws.{eq_false, eq_true}
use Rattle.orc_program.specs.Meaning.{State, Gap, go_on}
use Rattle.orc_emul.specs.declared.state.Values.{Values}
use Rattle.orc_emul.specs.declared.state.Unmapped.{Unmapped}
use Rattle.orc_bits.specs.Parts.{memory_of}
use Rattle.orc_emul.specs.State.{state_of, memory_or, after}

set_at : (xs : List ℕ) (p v x : ℕ) → p < length xs → get_or (set xs p v) x 0 ≡ change (λ i. get_or xs i 0) p v x
set_at xs p v x l = go (cases_eq x p)
  where
    go : (x ≡ p) ⊎ (x ≢ p) → get_or (set xs p v) x 0 ≡ (if x == p then v else get_or xs x 0)
    go (inl e) = ap (λ i. get_or (set xs p v) i 0) e ∙ get_or-set_same xs p v 0 l ∙ sym (ap (λ i. if i == p then v else get_or xs i 0) e ∙ ap (λ t. if t then v else get_or xs p 0) (eq_true p))
    go (inr ne) = get_or-set_other xs p x v 0 ne ∙ sym (ap (λ t. if t then v else get_or xs x 0) (eq_false x p ne))

pub set_change : (xs : List ℕ) (p v : ℕ) → p < length xs → (λ x. get_or (set xs p v) x 0) ≡ change (λ i. get_or xs i 0) p v
set_change xs p v l = λ i x. set_at xs p v x l i

-- a write that ended, or met a byte that isn't mapped
pub stored : (r : Result Unit Unmapped) (parts new : List Part) (v : Values) → go_on (memory_or r (memory_of new)) (λ mem. Ok (record (state_of parts v) { memory = mem })) ≡ after r new v
stored (Ok x) parts new v = refl
stored (Err u) parts new v = refl

-- a sum that is cut twice
pub cut_twice : (x k : ℕ) → k ≤ 64 → x % 2 ^ 64 % 2 ^ k ≡ x % 2 ^ k
cut_twice x k h = subst (λ n. x % 2 ^ n % 2 ^ k ≡ x % 2 ^ k) (let e : 64 - k + k ≡ 64 = omega (arith, h) in e) (mod-mod-pow x (64 - k) k)

-- an addition to a sum, as the code does it
pub summed : (sums : List ℕ) (p i v size n sum : ℕ) → i ≡ p → n ≡ size → size ≤ 8 → p < length sums → sum ≡ (get_or sums i 0 + v) % 2 ^ 64 % 2 ^ (8 * n)
    → change (λ x. get_or sums x 0) p ((get_or sums p 0 + v) % 2 ^ (8 * size)) ≡ (λ x. get_or (set sums i sum) x 0)
summed sums p i v size n sum ei en small l e =
    let cut : sum ≡ (get_or sums p 0 + v) % 2 ^ (8 * size) =
    e ∙ ap₂ (λ j m. (get_or sums j 0 + v) % 2 ^ 64 % 2 ^ (8 * m)) ei en ∙ cut_twice (get_or sums p 0 + v) (8 * size) (omega (arith, small)) in
    sym (ap₂ (λ j x. λ y. get_or (set sums j x) y 0) ei cut ∙ set_change sums p ((get_or sums p 0 + v) % 2 ^ (8 * size)) l)

nothing : ℕ → ℕ
nothing p = 0

zero_at : (n p : ℕ) → get_or (replicate n 0) p 0 ≡ nothing p
unfolding nothing
zero_at zero p = refl
zero_at (suc n) zero = refl
zero_at (suc n) (suc p) = zero_at n p

abbrev zeros : ℕ → ℕ → ℕ
zeros n p = get_or (replicate n 0) p 0

abbrev none : ℕ → ℕ
none p = 0

pub all_zero : (n : ℕ) → zeros n ≡ none
unfolding nothing
all_zero n = λ i p. zero_at n p i
