-- What a job that was read keeps.
use Rattle.std.specs.Prelude.{◌≡◌, ◌*◌, ◌≤◌, true}
use Rattle.std.specs.List.{list_all}
use Rattle.orc_bits.specs.Parts.{layout, Overlaps}
use Rattle.orc_job.specs.declared.job.Job.{Job}
use Rattle.orc_job.specs.Forms.{is_within}
use Rattle.orc_job.specs.Limits.{byte_count}

-- its segments lie where a job may have them and share no byte, and it passes no limit
pub record IsJob (j : Job) : Type 0 where
  pub within : list_all is_within j.memory ≡ true
  pub apart : Overlaps (layout j.memory) → ⊥
  pub n : j.call.n ≤ 1048576
  pub m : j.call.m ≤ 1048576
  pub cells : j.call.n * j.call.m ≤ 1048576
  pub bytes : byte_count j.memory ≤ 16777216
  pub budget : j.budget ≤ 100000000
