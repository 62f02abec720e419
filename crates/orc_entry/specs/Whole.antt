-- A function's code between the lists of its entry.
use Rattle.std.specs.Prelude.{◌≡◌, ℕ, ◌+◌, Bool, List, length}
use Rattle.orc_ops.specs.declared.target.Target.{Target}
use Rattle.orc_program.specs.Program.{FunctionValue}
use Rattle.orc_program.specs.Need.{steps}
use Rattle.x86_flow.specs.Flow.{size}
use Rattle.orc_frame.specs.Function.{subject_of}
use Rattle.orc_asm.specs.Passing.{PassesFully}
use Rattle.orc_entry.specs.declared.entry.EntryCode.{EntryCode}
use Rattle.orc_entry.specs.Code.{IsEntryCode, entry_code}

-- this body stands between the lists, from the one offset to the other
pub record HasBody (f : FunctionValue) (longs : List Bool) (body : List ℕ) (entry : EntryCode) : Type 0 where
  pub code : IsEntryCode f longs body entry.code
  pub begins : entry.body ≡ size (entry_code f longs)
  pub ends : entry.exit ≡ entry.body + length body

-- a body stands there that does all that the function's code does but the return
abbrev pub Surrounds : FunctionValue → List Bool → Target → EntryCode → Type 0
Surrounds f longs target entry = (body : List ℕ) × HasBody f longs body entry × PassesFully (subject_of f) (steps f target) body
