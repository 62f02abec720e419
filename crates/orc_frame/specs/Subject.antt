-- What the definitions of calls ask of a function of the language, and how a call is laid out in memory.
use Rattle.std.specs.Prelude.{◌≡◌, ℕ, ◌+◌, ◌*◌, ◌%◌, ◌^◌, ◌<◌, ◌≤◌, ◌⊎◌, Bool, true, if◌then◌else◌, Option}
use Rattle.orc_bits.specs.Memory.{Memory}

-- a call: counts, and for each array slot its base and stride as words; dests have the slots from 0 on, sources those from 4 on
pub record Call : Type 0 where
  pub n : ℕ
  pub m : ℕ
  pub base : ℕ → ℕ
  pub stride : ℕ → ℕ
  pub param : ℕ → ℕ

-- what emulation leaves: memory, and a sum for each accumulator
pub record End : Type 0 where
  pub memory : Memory
  pub sums : ℕ → ℕ

-- a function as calls see it
pub record Subject : Type 1 where
  pub dests : ℕ
  pub sources : ℕ
  pub params : ℕ
  pub accs : ℕ
  pub two_d : Bool
  -- the bytes of an element of an array slot
  pub size : ℕ → ℕ
  -- whether a call meets the facts of its function
  pub facts : Call → Bool
  -- the addresses of the bytes of a call's cells
  pub cells : Call → ℕ → Type 0
  -- what is asked of the arrays of a call, in the memory at its start
  pub good : Call → Memory → Type 0
  -- none where a cell isn't mapped
  pub emulate : Call → Memory → Option End
  -- elements at once, whether they divide n by the facts, the bound on turns in a row from n, and how often a turn may touch cells
  pub lanes : ℕ
  pub whole : Bool
  pub turns : ℕ → ℕ
  pub operands : ℕ

abbrev pub IsArray : Subject → ℕ → Type 0
IsArray f k = (k < f.dests) ⊎ ((4 ≤ k) × (k < 4 + f.sources))

abbrev pub rows : Subject → Call → ℕ
rows f call = if f.two_d then call.m else 1

-- byte b of the element i in row r of an array
abbrev pub cell : Subject → Call → ℕ → ℕ → ℕ → ℕ → ℕ
cell f call k r i b = (call.base k + r * call.stride k + i * f.size k + b) % 2 ^ 64

-- the address is a byte of a cell of this array
abbrev pub InArray : Subject → Call → ℕ → ℕ → Type 0
InArray f call k a = (r : ℕ) × (r < rows f call) × (i : ℕ) × (i < call.n) × (b : ℕ) × (b < f.size k) × (a ≡ cell f call k r i b)

abbrev pub InDests : Subject → Call → ℕ → Type 0
InDests f call a = (k : ℕ) × (k < f.dests) × InArray f call k a

-- one size, one base and, with rows, one stride
pub record VerySame (f : Subject) (call : Call) (k l : ℕ) : Type 0 where
  pub size : f.size k ≡ f.size l
  pub base : call.base k ≡ call.base l
  pub stride : f.two_d ≡ true → call.stride k ≡ call.stride l
