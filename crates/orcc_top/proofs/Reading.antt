-- The job that bytes say is the one answer to them.
use Rattle.std.proofs.Common.{◌≡◌, ℕ, Bool, true, false, List, Result, Ok, Err, inl, inr, refl, sym, ap, ◌∙◌, if◌then◌else◌}
use Rattle.std.specs.Str.{is_utf8}
use Rattle.std.proofs.lemmas.Str.{IsUtf8-from_is_utf8, is_utf8-from_IsUtf8}
use Rattle.serde_json.specs.Read.{read}
use Rattle.orc_bits.specs.Parts.{layout}
use Rattle.orc_job.specs.declared.error.JobError.{JobError}
use Rattle.orc_job.specs.declared.error.JobError.TheVariants as error
use Rattle.orc_job.specs.declared.job.Job.{Job}
use Rattle.orc_job.specs.Fields.{◌>>=◌}
use Rattle.orc_job.specs.Limits.{job_of}
use Rattle.orc_job.specs.Reading.{IsAnswer, IsReading}
use Rattle.orcc_top.specs.Jobs.{overlaps, apart, job_of_value, job_read}
use Rattle.orcc_top.proofs.Overlapping.{overlaps_yes, overlaps_no}

apart_alike : (j : Job) (r : Result Job JobError) → IsAnswer (Ok j) r → r ≡ apart j
apart_alike j r (inl p) = go (overlaps (layout j.memory)) refl
  where
    go : (b : Bool) → overlaps (layout j.memory) ≡ b → r ≡ (if b then Err error.Overlap else Ok j)
    go true e = p.1
    go false e = absurd (overlaps_no (layout j.memory) e p.0)
apart_alike j r (inr p) = go (overlaps (layout j.memory)) refl
  where
    go : (b : Bool) → overlaps (layout j.memory) ≡ b → r ≡ (if b then Err error.Overlap else Ok j)
    go true e = absurd (p.0 (overlaps_yes (layout j.memory) e))
    go false e = p.1

answer_alike : (a r : Result Job JobError) → IsAnswer a r → r ≡ (a >>= apart)
answer_alike (Err e) r h = h
answer_alike (Ok j) r h = apart_alike j r h

pub read_alike : (bytes : List ℕ) (r : Result Job JobError) → IsReading bytes r → r ≡ job_read bytes
unfolding IsReading job_read
read_alike bytes r (inl p) = go (is_utf8 bytes) refl
  where
    go : (b : Bool) → is_utf8 bytes ≡ b → r ≡ (if b then job_of_value (read bytes) else Err error.NotJson)
    go true e = p.1 ∙ sym (ap job_of_value (p.0 (IsUtf8-from_is_utf8 bytes e)))
    go false e = p.1
read_alike bytes r (inr (d, v, a)) =
    let e : is_utf8 bytes ≡ true = is_utf8-from_IsUtf8 bytes v.0 in
    rw (e, v.1) (answer_alike (job_of d) r a)
