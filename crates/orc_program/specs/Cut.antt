-- A call that is cut into parts, each a rectangle of its rows and elements.
use Rattle.std.specs.Prelude.{◌≡◌, ◌≢◌, ℕ, zero, suc, ◌+◌, ◌*◌, ◌%◌, ◌^◌, ◌<◌, ◌≤◌, true, false, List, length, Ok, slice_index, slice_index_or}
use Rattle.orc_bits.specs.Memory.{Memory, IsMapped}
use Rattle.orc_program.specs.declared.program.VarKind.TheVariants as kind
use Rattle.orc_program.specs.declared.call.Call.{Call}
use Rattle.orc_program.specs.declared.rect.Rect.{Rect}
use Rattle.orc_program.specs.Program.{FunctionValue, var_at, places_of, has_far}
use Rattle.orc_program.specs.Kept.{is_function}
use Rattle.orc_program.specs.Meaning.{cell, rows, place_at, param_at, emulate}
use Rattle.orc_program.specs.Good.{IsArray, IsByte, byte_at}
use Rattle.orc_program.specs.Laws.{IsDestByte}

-- what stands past the end of a list of rectangles
abbrev pub no_rect : Rect
no_rect = record { row = 0; rows = 0; element = 0; elements = 0 }

abbrev pub rect_at : List Rect → ℕ → Rect
rect_at rects k = slice_index_or rects k no_rect

-- element i of row r is in the rectangle
pub record Has (q : Rect) (r i : ℕ) : Type 0 where
  pub from_row : q.row ≤ r
  pub to_row : r < q.row + q.rows
  pub from_element : q.element ≤ i
  pub to_element : i < q.element + q.elements

-- it reaches beyond neither the call's rows nor its elements; without rows it has the one row
pub record Fits (f : FunctionValue) (call : Call) (q : Rect) : Type 0 where
  pub rows_within : q.row + q.rows ≤ rows f call
  pub elements_within : q.element + q.elements ≤ call.n
  pub one_row : f.two_d ≡ false → (q.row ≡ 0) × (q.rows ≡ 1)

-- the first n rectangles cut the call: each element of each row is in exactly one of them
pub record Cuts (f : FunctionValue) (call : Call) (n : ℕ) (rect : ℕ → Rect) : Type 0 where
  pub fits : (k : ℕ) → k < n → Fits f call (rect k)
  pub once : (r i : ℕ) → r < rows f call → i < call.n → (k : ℕ) × (k < n) × Has (rect k) r i × ((j : ℕ) → j < n → Has (rect j) r i → j ≡ k)

-- The part of a call that does a rectangle is a call of its own: its counts are the rectangle's, each array begins at the rectangle's first cell, and strides and parameters are the call's.
pub record IsPart (f : FunctionValue) (call part : Call) (q : Rect) : Type 0 where
  pub n : part.n ≡ q.elements
  pub m : rows f part ≡ q.rows
  pub bases : (p : ℕ) → IsArray f p → (place_at f part p).base ≡ cell f call p q.row q.element
  pub strides : (p : ℕ) → IsArray f p → (place_at f part p).stride ≡ (place_at f call p).stride
  pub params : (p : ℕ) → (var_at f.vars p).kind ≡ kind.Param → param_at f part p ≡ param_at f call p

-- no byte of a dest's cell in one part is a byte of a cell in another part
abbrev pub PartsApart : FunctionValue → ℕ → (ℕ → Call) → Type 0
PartsApart f n part = (j k : ℕ) → j < n → k < n → j ≢ k → (a p r i b q r2 i2 b2 : ℕ) → IsDestByte f (part j) a p r i b → IsByte f (part k) q r2 i2 b2 → a ≢ byte_at f (part k) q r2 i2 b2

-- the call is cut into n parts that keep to themselves; sources may be shared
pub record IsCut (f : FunctionValue) (call : Call) (n : ℕ) (rect : ℕ → Rect) (part : ℕ → Call) : Type 0 where
  pub cuts : Cuts f call n rect
  pub parts : (k : ℕ) → k < n → IsPart f call (part k) (rect k)
  pub apart : PartsApart f n part

-- an address is a byte of a cell of some array of the call
abbrev pub IsCell : FunctionValue → Call → ℕ → Type 0
IsCell f call a = (p r i j : ℕ) × IsByte f call p r i j × (a ≡ byte_at f call p r i j)

abbrev pub IsDestCell : FunctionValue → Call → ℕ → Type 0
IsDestCell f call a = (p r i j : ℕ) × IsDestByte f call a p r i j

-- g 0 + g 1 + .. + g (n - 1)
abbrev pub total : ℕ → (ℕ → ℕ) → ℕ
total zero g = 0
total (suc n) g = total n g + g n

-- the bytes of the accumulator with this number
abbrev pub sum_size : FunctionValue → ℕ → ℕ
sum_size f g = (var_at f.vars (slice_index (places_of kind.Accumulator f.vars) g)).size

-- The end of a whole call, and the ends of its parts: on a part's cells the whole's memory is that part's, outside all dests' cells it is as at the start, and the sums add up.
pub record AddsUp (f : FunctionValue) (n : ℕ) (part : ℕ → Call) (mem : Memory) (end : Memory × List ℕ) (ends : ℕ → Memory × List ℕ) : Type 0 where
  pub cells : (k : ℕ) → k < n → (a : ℕ) → IsCell f (part k) a → end.0 a ≡ (ends k).0 a
  pub others : (a : ℕ) → ((k : ℕ) → k < n → IsDestCell f (part k) a → ⊥) → end.0 a ≡ mem a
  pub sums : (g : ℕ) → g < length end.1 → slice_index end.1 g ≡ total n (λ k. slice_index (ends k).1 g) % 2 ^ (8 * sum_size f g)

-- Of a function without far loads: emulation of a whole call is emulation of its parts, each by itself, on a memory that has the parts' cells, and for each part on one that agrees with it there: whole and parts end, and the parts' ends add up to the whole's. So the parts' order is of no account.
abbrev pub PartsAddUp : FunctionValue → Call → Type 0
PartsAddUp f call = is_function f ≡ true → has_far f ≡ false → (n : ℕ) (rect : ℕ → Rect) (part : ℕ → Call) → IsCut f call n rect part → (mem : Memory) (own : ℕ → Memory)
    → ((k : ℕ) → k < n → (a : ℕ) → IsCell f (part k) a → IsMapped mem a) → ((k : ℕ) → k < n → (a : ℕ) → IsCell f (part k) a → own k a ≡ mem a)
    → (end : Memory × List ℕ) × (emulate f call mem ≡ Ok end) × ((ends : ℕ → Memory × List ℕ) × ((k : ℕ) → k < n → emulate f (part k) (own k) ≡ Ok (ends k)) × AddsUp f n part mem end ends)
