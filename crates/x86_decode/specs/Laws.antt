-- That spellings can be told apart.
use Rattle.std.specs.Prelude.{◌≡◌, ℕ, List}
use Rattle.x86_ins.specs.declared.ins.Ins.{Ins}
use Rattle.x86_ins.specs.Spelling.{spelling, IsIns, Begins, Decode}

-- no two instructions share a spelling
abbrev pub DistinctSpellings : Type 0
DistinctSpellings = (i j : Ins) → IsIns i → IsIns j → spelling i ≡ spelling j → i ≡ j

-- no instruction's spelling begins another's
abbrev pub NoneBeginsAnother : Type 0
NoneBeginsAnother = (i j : Ins) → IsIns i → IsIns j → Begins (spelling i) (spelling j) → i ≡ j

-- bytes begin with one instruction at most, of one length
abbrev pub OneDecoding : Type 0
OneDecoding = (bytes : List ℕ) (i j : Ins) (n m : ℕ) → Decode bytes i n → Decode bytes j m → (i ≡ j) × (n ≡ m)
