-- What reading does to the bytes that a source has left, and writing to those that a sink holds.
-- Where a source or a sink tells no bytes, `Consumes`, `IsAtEnd` and `Appends` say nothing.
use Rattle.std.specs.Prelude.{◌≡◌, ℕ, ◌+◌, ◌<◌, ◌≤◌, List, length, take, Result, IfOk}
use Rattle.std.specs.declared.option.Option.{Option}
use Rattle.std.specs.Io.KnownBytes.{Appends, Consumes, IsAtEnd}
use Rattle.orc_io.specs.declared.source.TakeFault.{TakeFault}
use Rattle.orc_io.specs.declared.source.TakeFault.TheVariants.{Read, TooLong, Memory}

-- a put takes at least one byte of a piece that is not empty, and no more than the piece has
abbrev pub PutsSome : {E : Type 0} → Result ℕ E → List ℕ → Type 0
PutsSome r piece = IfOk r (λ n. (n ≤ length piece) × (0 < length piece → 0 < n))

-- all bytes of an input were read, to its end, and they are within the limit
abbrev pub ReadsAll : ℕ → Option (List ℕ) → Option (List ℕ) → List ℕ → Type 0
ReadsAll limit old new bytes = Consumes old new bytes × IsAtEnd new × (length bytes ≤ limit)

-- some bytes were taken, no more than this many
abbrev pub TakesAtMost : ℕ → Option (List ℕ) → Option (List ℕ) → Type 0
TakesAtMost most old new = (bytes : List ℕ) × Consumes old new bytes × (length bytes ≤ most)

-- exactly this many bytes were taken
abbrev pub TakesExactly : ℕ → Option (List ℕ) → Option (List ℕ) → Type 0
TakesExactly count old new = (bytes : List ℕ) × Consumes old new bytes × (length bytes ≡ count)

-- what was taken where an input was not read to its end
abbrev pub StopsReading : ℕ → Option (List ℕ) → Option (List ℕ) → TakeFault → Type 0
StopsReading limit old new TooLong = TakesExactly (limit + 1) old new
StopsReading limit old new Read = TakesAtMost limit old new
StopsReading limit old new Memory = TakesAtMost limit old new

-- some first bytes of these were appended
abbrev pub AppendsSome : Option (List ℕ) → Option (List ℕ) → List ℕ → Type 0
AppendsSome old new bytes = (n : ℕ) × (n ≤ length bytes) × Appends old new (take n bytes)
