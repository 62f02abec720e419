-- The answer to bytes: the job that they say, or why they say none.
use Rattle.std.specs.Prelude.{◌≡◌, ◌⊎◌, ℕ, List, Some, None, Result, Ok, Err, IsUtf8}
use Rattle.serde_json.specs.Data.{Data}
use Rattle.serde_json.specs.Read.{read}
use Rattle.orc_bits.specs.Parts.{layout, Overlaps}
use Rattle.orc_job.specs.declared.error.JobError.{JobError}
use Rattle.orc_job.specs.declared.error.JobError.TheVariants as refusal
use Rattle.orc_job.specs.declared.job.Job.{Job}
use Rattle.orc_job.specs.declared.error.Field.TheVariants as field
use Rattle.orc_job.specs.Forms.{size_in, few_in}
use Rattle.orc_job.specs.Fields.{field_at}
use Rattle.orc_job.specs.Limits.{job_of}

-- the value of a JSON text
abbrev pub HasValue : List ℕ → Data → Type 0
HasValue bytes d = IsUtf8 bytes × (read bytes ≡ Some d)

abbrev pub HasNoValue : List ℕ → Type 0
HasNoValue bytes = IsUtf8 bytes → read bytes ≡ None

-- the answer to a value: its first fault, else Overlap where two segments share a byte, else its job
abbrev pub IsAnswer : Result Job JobError → Result Job JobError → Type 0
IsAnswer (Err e) r = r ≡ Err e
IsAnswer (Ok j) r = (Overlaps (layout j.memory) × (r ≡ Err refusal.Overlap)) ⊎ ((Overlaps (layout j.memory) → ⊥) × (r ≡ Ok j))

-- the answer to bytes: NotJson where they have no value, else that to their value
unfoldable pub IsReading : List ℕ → Result Job JobError → Type 0
IsReading bytes r = (HasNoValue bytes × (r ≡ Err refusal.NotJson)) ⊎ ((d : Data) × HasValue bytes d × IsAnswer (job_of d) r)

-- bytes have one answer
abbrev pub OneReading : Type 0
OneReading = (bytes : List ℕ) (r s : Result Job JobError) → IsReading bytes r → IsReading bytes s → r ≡ s

-- the answer to bytes where the sizes of elements are asked for: the refusal of the job; else the sizes, or BadField where an array has none
abbrev pub IsSizing : List ℕ → Result (List ℕ) JobError → Type 0
IsSizing bytes r = ((e : JobError) × IsReading bytes (Err e) × (r ≡ Err e))
    ⊎ ((j : Job) × IsReading bytes (Ok j) × ((d : Data) × HasValue bytes d × (r ≡ field_at field.Arrays (few_in 12 size_in) d)))
