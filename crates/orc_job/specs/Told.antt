-- What a call's answer says where memory may run out.
use Rattle.std.specs.Prelude.{◌≡◌, Result, Ok, Err, Option, Some, None}
use Rattle.orc_job.specs.declared.forms.Unformed.{Unformed}
use Rattle.orc_job.specs.declared.forms.Unformed.TheVariants as unformed
use Rattle.orc_job.specs.declared.error.JobError.{JobError}
use Rattle.orc_job.specs.declared.error.JobError.TheVariants as refusal

-- unless memory ran out
abbrev pub UnlessMemory : {A : Type 0} → Result A JobError → Type 0 → Type 0
UnlessMemory (Ok x) P = P
UnlessMemory (Err refusal.NotJson) P = P
UnlessMemory (Err (refusal.Missing f)) P = P
UnlessMemory (Err (refusal.BadField f)) P = P
UnlessMemory (Err (refusal.TooLarge f)) P = P
UnlessMemory (Err refusal.Overlap) P = P
UnlessMemory (Err refusal.Memory) P = Unit {0}

-- the value's form is this, unless memory ran out
abbrev pub Formed : {A : Type 0} → Result A Unformed → Option A → Type 0
Formed (Ok x) form = form ≡ Some x
Formed (Err unformed.Other) form = form ≡ None
Formed (Err unformed.Memory) form = Unit {0}
