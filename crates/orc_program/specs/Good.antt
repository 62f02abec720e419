-- Good arrays.
use Rattle.std.specs.Prelude.{◌≡◌, ◌≢◌, ℕ, ◌+◌, ◌%◌, ◌^◌, ◌<◌, ◌⊎◌, Bool, true, false, not, ◌&&◌, ◌||◌, length, Contains, ℤ, Some}
use Rattle.std.specs.List.{list_any}
use Rattle.orc_bits.specs.Numbers.{wrap}
use Rattle.orc_bits.specs.Memory.{Memory, IsMapped}
use Rattle.orc_ops.specs.declared.far.Far.{Far}
use Rattle.orc_ops.specs.declared.elements.Reach.{Reach}
use Rattle.orc_ops.specs.Far.{far_of}
use Rattle.orc_program.specs.declared.program.VarKind.TheVariants as kind
use Rattle.orc_program.specs.declared.program.Insn.{Insn}
use Rattle.orc_program.specs.declared.call.Call.{Call}
use Rattle.orc_program.specs.Program.{FunctionValue, var_at, is_of, is_array, is_place, is_far, far_array}
use Rattle.orc_program.specs.Meaning.{cell, rows, place_at, reach_of}

-- the variable at place p is an array
abbrev pub IsArray : FunctionValue → ℕ → Type 0
IsArray f p = (p < length f.vars) × (is_array (var_at f.vars p) ≡ true)

-- ---- cells

-- an instruction has the array at place p among its sources: as one that is no far load, and as one that is
abbrev pub reads_near : ℕ → Insn → Bool
reads_near p insn = not (is_far insn) && list_any (is_place p) insn.sources.items

abbrev pub reads_far : ℕ → Insn → Bool
reads_far p insn = is_far insn && list_any (is_place p) insn.sources.items

-- the array has a cell for each element: all have but sources that far loads use and no other instruction does
abbrev pub is_near : FunctionValue → ℕ → Bool
is_near f p = is_of kind.Dest (var_at f.vars p) || (list_any (reads_near p) f.insns || not (list_any (reads_far p) f.insns))

-- an element that is read is number k, modulo 2 ^ 64
abbrev pub Reads : Reach → ℕ → Type 0
Reads at k = (k ≡ wrap 64 at.first) ⊎ ((z : ℤ) × (at.second ≡ Some z) × (k ≡ wrap 64 z))

-- a far load of the array at place p reads its element k, modulo 2 ^ 64, for some element of the call
pub record IsReached (f : FunctionValue) (call : Call) (p k : ℕ) : Type 0 where
  pub insn : Insn
  pub far : Far
  pub element : ℕ
  pub stands : Contains f.insns insn
  pub loads : far_of insn.op ≡ Some far
  pub array : far_array f.vars insn.sources.items ≡ Some p
  pub within : element < call.n
  pub reads : Reads (reach_of f call far insn.sources.items element) k

-- the array has a cell at element k, modulo 2 ^ 64
abbrev pub HasCell : FunctionValue → Call → ℕ → ℕ → Type 0
HasCell f call p k = ((is_near f p ≡ true) × (k < call.n)) ⊎ IsReached f call p k

-- the address of byte j of a cell
abbrev pub byte_at : FunctionValue → Call → ℕ → ℕ → ℕ → ℕ → ℕ
byte_at f call p r i j = (cell f call p r i + j) % 2 ^ 64

-- byte j of a cell of the call, where i is the element's number modulo 2 ^ 64
pub record IsByte (f : FunctionValue) (call : Call) (p r i j : ℕ) : Type 0 where
  pub array : IsArray f p
  pub row : r < rows f call
  pub element : HasCell f call p i
  pub inside : j < (var_at f.vars p).size

-- two arrays share no byte
abbrev pub SharesNone : FunctionValue → Call → ℕ → ℕ → Type 0
SharesNone f call p q = (r i j r2 i2 j2 : ℕ) → IsByte f call p r i j → IsByte f call q r2 i2 j2 → byte_at f call p r i j ≢ byte_at f call q r2 i2 j2

-- ---- good arrays

-- two arrays have one size, one base and, where there are rows, one stride; and no far load reads either of them where one is a dest
pub record IsSame (f : FunctionValue) (call : Call) (p q : ℕ) : Type 0 where
  pub size : (var_at f.vars p).size ≡ (var_at f.vars q).size
  pub base : (place_at f call p).base ≡ (place_at f call q).base
  pub stride : f.two_d ≡ true → (place_at f call p).stride ≡ (place_at f call q).stride
  pub near : is_of kind.Dest (var_at f.vars p) || is_of kind.Dest (var_at f.vars q) ≡ true → list_any (reads_far p) f.insns || list_any (reads_far q) f.insns ≡ false

-- A call whose arrays are good: few elements and rows; all cells below 2^47 and mapped; each two arrays apart, or the very same.
pub record GoodArrays (f : FunctionValue) (call : Call) (mem : Memory) : Type 0 where
  pub elements : call.n < 2 ^ 31
  pub rows_few : f.two_d ≡ true → call.m < 2 ^ 31
  pub low : (p r i j : ℕ) → IsByte f call p r i j → byte_at f call p r i j < 2 ^ 47
  pub apart : (p q : ℕ) → IsArray f p → IsArray f q → (p ≢ q) → SharesNone f call p q ⊎ IsSame f call p q
  pub mapped : (p r i j : ℕ) → IsByte f call p r i j → IsMapped mem (byte_at f call p r i j)
