-- A job in two parts: two bytes are copied, one by each part.
use Rattle.std.specs.Prelude.{◌≡◌, ℕ, true, false, pos, List, [], ◌∷◌, codes, None}
use Rattle.orc_ops.specs.declared.target.Target.{Target}
use Rattle.orc_ops.specs.declared.opcode.Op.TheVariants as op
use Rattle.orc_program.specs.declared.program.Var.{Var}
use Rattle.orc_program.specs.declared.program.VarKind.{VarKind}
use Rattle.orc_program.specs.declared.program.VarKind.TheVariants as kind
use Rattle.orc_program.specs.declared.program.Operand.TheVariants as operand
use Rattle.orc_program.specs.declared.program.Insn.{Insn}
use Rattle.orc_program.specs.declared.call.Place.{Place}
use Rattle.orc_program.specs.Program.{FunctionValue}
use Rattle.orc_program.specs.Kept.{is_function}
use Rattle.orc_image.specs.Spelling as image
use Rattle.orc_job.specs.declared.job.Job.{Job}
use Rattle.orc_job.specs.Fields.{job}
use Rattle.orc_worlds.specs.GoodJobs.{IsCodeOf, IsGoodJob}
use Rattle.orc_worlds.specs.Whole.{IsCompiled, AreSeparate}

abbrev pub array : VarKind → List ℕ → Var
array k name = record { kind = k; size = 1; name = name; number = 0; words = [] }

abbrev pub copying : Insn
copying = record { op = op.Copyb; prefix = 1; results = record { items = operand.Var 0 ∷ [] }; sources = record { items = operand.Var 1 ∷ [] }; line = 4 }

-- `.dest 1 d`, `.source 1 s`, `copyb d, s`
abbrev pub copied : FunctionValue
copied = record {
  name = codes "copied";
  two_d = false;
  vars = array kind.Dest (codes "d") ∷ array kind.Source (codes "s") ∷ [];
  insns = copying ∷ [];
  notes = record { n = None; m = None; backup = None };
}

abbrev pub place : ℕ → Place
place base = record { base = base; stride = pos 0 }

-- from 8192 and 8193 to 4096 and 4097
abbrev pub two_bytes : Job
two_bytes = job (codes "copied") 2 1 (place 4096 ∷ place 8192 ∷ []) [] (record { at = 4096; bytes = 0 ∷ 0 ∷ [] } ∷ record { at = 8192; bytes = 7 ∷ 9 ∷ [] } ∷ []) 1000

-- the job is a good one of a function of the language, and on whatever code of it there is, its two parts are separate
pub record CopiesInParts : Type 0 where
  pub kept : is_function copied ≡ true
  pub good : (target : Target) (entry : image.FunctionValue) → IsCodeOf copied target entry → IsGoodJob copied entry two_bytes
  pub separate : (target : Target) (entry : image.FunctionValue) → IsCodeOf copied target entry → IsCompiled copied target entry (1 ∷ 1 ∷ []) → AreSeparate copied entry two_bytes (1 ∷ 1 ∷ []) 2
