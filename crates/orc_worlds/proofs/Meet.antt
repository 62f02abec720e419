-- Parts that are asked one after the other whether they meet facts.
use Rattle.std.proofs.Common.{◌≡◌, ℕ, zero, suc, ◌+◌, ◌<◌, ◌≤◌, Result, Ok, Err, refl, sym, ap, ◌∙◌, arith, inl, inr, add-one}
use Rattle.std.proofs.lemmas.Bool.{cases_lt}
use Rattle.orc_job.specs.declared.error.JobError.{JobError}
use Rattle.orc_job.specs.Fields.{◌>>=◌}
use Rattle.orc_worlds.specs.Meeting.{first_meeting}

abbrev Asks : Type 0
Asks = ℕ → Result (Unit {0}) JobError

-- one more part meets all
pub one_met : (ask : Asks) (k : ℕ) → first_meeting ask k ≡ Ok tt → ask k ≡ Ok tt → first_meeting ask (k + 1) ≡ Ok tt
one_met ask k so_far met = rw (add-one, so_far) met

-- the next part is the first that doesn't
pub one_unmet : (ask : Asks) (e : JobError) (n k : ℕ) → k < n → first_meeting ask k ≡ Ok tt → ask k ≡ Err e → first_meeting ask n ≡ Err e
one_unmet ask e zero k lt so_far h = absurd (omega (arith, lt))
one_unmet ask e (suc n) k lt so_far h =
    elim (cases_lt k n) [
      | inl less ↦ rw (one_unmet ask e n k less so_far h) refl
      | inr le ↦ (let same : n ≡ k = omega (arith, lt, le) in rw (same, so_far) h)
    ]

pub all_met : (ask : Asks) (n k : ℕ) → n ≤ k → k ≤ n → first_meeting ask k ≡ Ok tt → first_meeting ask n ≡ Ok tt
all_met ask n k low high so_far = let same : n ≡ k = omega (arith, low, high) in rw same so_far
