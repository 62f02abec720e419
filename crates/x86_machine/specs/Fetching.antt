-- Instructions that were decoded.
use Rattle.std.specs.Prelude.{◌≡◌, ℕ, List, All, Option, Some, None, drop}
use Rattle.x86_ins.specs.declared.ins.Ins.{Ins}
use Rattle.x86_ins.specs.Spelling.{Decode}
use Rattle.x86_machine.specs.declared.fetching.Fetched.{Fetched}

-- the instruction that stands at a place of the code, or none where none does
abbrev pub Stands : List ℕ → ℕ → Option Fetched → Type 0
Stands code place None = (i : Ins) (n : ℕ) → Decode (drop place code) i n → ⊥
Stands code place (Some f) = (f.place ≡ place) × Decode (drop place code) f.ins f.size

-- the instruction in a slot stands at its place in the code
abbrev pub IsFetched : List ℕ → Option Fetched → Type 0
IsFetched code None = Unit {0}
IsFetched code (Some f) = Decode (drop f.place code) f.ins f.size

abbrev pub AreFetched : List ℕ → List (Option Fetched) → Type 0
AreFetched code table = All (IsFetched code) table
