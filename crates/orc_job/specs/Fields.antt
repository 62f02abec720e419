-- The fields of a job in the order of checks, and the first that isn't there or has another form.
use Rattle.std.specs.Prelude.{ℕ, ◌^◌, List, Option, Some, None, Result, Ok, Err, codes}
use Rattle.serde_json.specs.Data.{Data}
use Rattle.serde_json.specs.Find.{get}
use Rattle.orc_bits.specs.declared.parts.Part.{Part}
use Rattle.orc_program.specs.declared.call.Place.{Place}
use Rattle.orc_job.specs.declared.error.Field.{Field}
use Rattle.orc_job.specs.declared.error.Field.TheVariants as field
use Rattle.orc_job.specs.declared.error.JobError.{JobError}
use Rattle.orc_job.specs.declared.error.JobError.TheVariants as refusal
use Rattle.orc_job.specs.declared.job.Job.{Job}
use Rattle.orc_job.specs.Forms.{whole, below, wrapped, name_in, place_in, segment_in, list_in, few_in}

infixl 10 ◌>>=◌
abbrev pub ◌>>=◌ : {A B : Type 0} → Result A JobError → (A → Result B JobError) → Result B JobError
(Ok x) >>= f = f x
(Err e) >>= f = Err e

-- a field's key in the object
abbrev pub name_of : Field → List ℕ
name_of field.Function = codes "function"
name_of field.N = codes "n"
name_of field.M = codes "m"
name_of field.Arrays = codes "arrays"
name_of field.Params = codes "params"
name_of field.Memory = codes "memory"
name_of field.Budget = codes "budget"

abbrev pub formed : {A : Type 0} → Field → Option A → Result A JobError
formed f None = Err (refusal.BadField f)
formed f (Some x) = Ok x

abbrev pub stated : {A : Type 0} → Field → (Data → Option A) → Option Data → Result A JobError
stated f form None = Err (refusal.Missing f)
stated f form (Some d) = formed f (form d)

-- a field of a form: Missing where it isn't there, BadField where it has another form
abbrev pub field_at : {A : Type 0} → Field → (Data → Option A) → Data → Result A JobError
field_at f form d = stated f form (get (name_of f) d)

-- a job of these parts
abbrev pub job : List ℕ → ℕ → ℕ → List Place → List ℕ → List Part → ℕ → Job
job function n m arrays params memory budget = record {
  function = function;
  call = record { n = n; m = m; arrays = record { items = arrays }; params = record { items = params } };
  memory = memory;
  budget = budget;
}

-- the job of these fields, or the first fault of a field
unfoldable pub fields_of : Data → Result Job JobError
fields_of d = do
  function ← field_at field.Function name_in d
  n ← field_at field.N (below (2 ^ 31)) d
  m ← field_at field.M (below (2 ^ 31)) d
  arrays ← field_at field.Arrays (few_in 12 place_in) d
  params ← field_at field.Params (few_in 8 wrapped) d
  memory ← field_at field.Memory (list_in segment_in) d
  budget ← field_at field.Budget whole d
  Ok (job function n m arrays params memory budget)
