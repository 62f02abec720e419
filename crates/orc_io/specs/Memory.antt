-- What sources and sinks in memory do, to the byte.
use Rattle.std.specs.Prelude.{◌≡◌, ℕ, List, ◌++◌, length, take, drop, min}

-- how many bytes a take gives: the least of `most`, the room's length and the bytes left
abbrev pub given_count : ℕ → List ℕ → List ℕ → ℕ
given_count most left room = min most (min (length room) (length left))

-- how many bytes a put appends: the least of `most`, the piece's length and the free room
abbrev pub appended_count : ℕ → ℕ → ℕ → ℕ
appended_count most piece free = min most (min piece free)

-- the first n bytes left stand in front of the room, whose rest is as it was
abbrev pub Fills : ℕ → List ℕ → List ℕ → List ℕ → Type 0
Fills n left old new = new ≡ take n left ++ drop n old
