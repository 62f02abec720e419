-- A function of C that means what a function of the language means.
use Rattle.std.specs.Prelude.{◌≡◌, ℕ, ◌+◌, ◌*◌, ◌^◌, ◌<◌, Some, Ok, FitsSigned, length, slice_index, slice_index_or}
use Rattle.std.specs.Int.{w64}
use Rattle.orc_bits.specs.Memory.{Memory, IsMapped}
use Rattle.orc_program.specs.declared.call.Call.{Call}
use Rattle.orc_program.specs.declared.program.VarKind.TheVariants as kind
use Rattle.orc_program.specs.Program.{FunctionValue, array_count, count_of}
use Rattle.orc_program.specs.Meaning.{no_place, emulate, rows}
use Rattle.orc_program.specs.Good.{GoodArrays, IsByte, byte_at}
use Rattle.orc_emul.specs.State.{HasCounts}
use Rattle.c_run.specs.Tree.{CFunctionValue}
use Rattle.c_run.specs.Meaning.{Ended, meaning}

-- the name, the rows and the counts of a function
pub record HasShape (f : FunctionValue) (c : CFunctionValue) : Type 0 where
  pub name : c.name ≡ f.name
  pub two_d : c.two_d ≡ f.two_d
  pub arrays : c.arrays ≡ array_count f.vars
  pub params : c.params ≡ count_of kind.Param f.vars
  pub accs : c.accs ≡ count_of kind.Accumulator f.vars

-- the numbers of a call are numbers of 64 bits, and its strides signed ones
pub record IsCall (call : Call) : Type 0 where
  pub bases : (k : ℕ) → (slice_index_or call.arrays.items k no_place).base < 2 ^ 64
  pub strides : (k : ℕ) → FitsSigned w64 (slice_index_or call.arrays.items k no_place).stride
  pub params : (k : ℕ) → slice_index call.params.items k < 2 ^ 64

-- each mapped address has a byte
abbrev pub HoldsBytes : Memory → Type 0
HoldsBytes mem = (a b : ℕ) → mem a ≡ Some b → b < 256

-- the bytes of the cells are all that is mapped
abbrev pub IsCellsAlone : FunctionValue → Call → Memory → Type 0
IsCellsAlone f call mem = (a : ℕ) → IsMapped mem a → (p r i j : ℕ) × IsByte f call p r i j × (a ≡ byte_at f call p r i j)

-- statements that are enough
abbrev pub budget : FunctionValue → Call → ℕ
budget f call = 8 + rows f call * (4 + call.n * (8 + 32 * length f.insns))

-- the call ends with the memory and the sums of emulation
pub record EndsAs (f : FunctionValue) (c : CFunctionValue) (call : Call) (mem : Memory) : Type 0 where
  pub end : Ended
  pub runs : meaning c call mem (budget f call) ≡ Ok end
  pub same : emulate f call mem ≡ Ok (end.memory, end.sums)

-- For every call with good arrays whose mapped bytes are exactly the cells, within that budget.
pub record CAs (f : FunctionValue) (c : CFunctionValue) : Type 0 where
  pub ends : (call : Call) (mem : Memory) → HasCounts f call → IsCall call → HoldsBytes mem → GoodArrays f call mem → IsCellsAlone f call mem → EndsAs f c call mem
