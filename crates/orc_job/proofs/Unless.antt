-- Answers that hold unless memory ran out.
use Rattle.std.proofs.Common.{Result, Ok, Err}
use Rattle.orc_job.specs.declared.error.JobError.{JobError}
use Rattle.orc_job.specs.declared.error.JobError.TheVariants as refusal
use Rattle.orc_job.specs.Told.{UnlessMemory}

-- what holds also holds unless memory ran out
pub unless : {A : Type 0} (r : Result A JobError) (P : Type 0) → P → UnlessMemory r P
unless (Ok x) P p = p
unless (Err refusal.NotJson) P p = p
unless (Err (refusal.Missing f)) P p = p
unless (Err (refusal.BadField f)) P p = p
unless (Err (refusal.TooLarge f)) P p = p
unless (Err refusal.Overlap) P p = p
unless (Err refusal.Memory) P p = tt

-- a refusal that is passed on
pub still : (A B : Type 0) (e : JobError) (P Q : Type 0) → (P → Q) → UnlessMemory {A = A} (Err e) P → UnlessMemory {A = B} (Err e) Q
still A B refusal.NotJson P Q f p = f p
still A B (refusal.Missing field) P Q f p = f p
still A B (refusal.BadField field) P Q f p = f p
still A B (refusal.TooLarge field) P Q f p = f p
still A B refusal.Overlap P Q f p = f p
still A B refusal.Memory P Q f p = tt
