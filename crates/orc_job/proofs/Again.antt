-- A text that says a job has a value.
use Rattle.std.proofs.Common.{◌≡◌, ◌⊎◌, ℕ, List, Option, Some, None, Result, Ok, Err, inl, inr, sym, ◌∙◌, subst}
use Rattle.orc_job.specs.declared.error.JobError.{JobError}
use Rattle.orc_job.specs.declared.error.JobError.TheVariants as refusal
use Rattle.orc_job.specs.declared.job.Job.{Job}
use Rattle.orc_job.specs.Reading.{HasNoValue, IsReading}
use Rattle.orc_job.specs.Told.{UnlessMemory}

ok_err : {A E : Type 0} {x : A} {e : E} → Ok x ≡ Err e → ⊥
ok_err h = subst IsOkay h tt
  where
    IsOkay : {A E : Type 0} → Result A E → Type 0
    IsOkay (Ok x) = Unit {0}
    IsOkay (Err e) = ⊥

none_some : {A : Type 0} {x : A} → None ≡ Some x → ⊥
none_some h = subst IsNothing h tt
  where
    IsNothing : {A : Type 0} → Option A → Type 0
    IsNothing None = Unit {0}
    IsNothing (Some x) = ⊥

has_value : (bytes : List ℕ) (j : Job) → IsReading bytes (Ok j) → HasNoValue bytes → ⊥
unfolding IsReading
has_value bytes j (inl h) n = ok_err h.1
has_value bytes j (inr h) n = none_some (sym (n h.1.0) ∙ h.1.1)

-- only want of memory keeps it from being read again
pub read_again : (A : Type 0) (bytes : List ℕ) (j : Job) (e : JobError) (P : Type 0) → IsReading bytes (Ok j) → (e ≡ refusal.NotJson) ⊎ (e ≡ refusal.Memory) → (e ≡ refusal.NotJson → HasNoValue bytes) → UnlessMemory {A = A} (Err e) P
read_again A bytes j e P h (inl k) n = absurd (has_value bytes j h (n k))
read_again A bytes j e P h (inr k) n = subst (λ x. UnlessMemory {A = A} (Err x) P) (sym k) tt
