-- Laws of a program's meaning that hold for every function and every call.
use Rattle.std.specs.Prelude.{◌≡◌, ◌<◌, true, ℕ, suc, not, List, [], ◌∷◌, filter, Ok, IsOk}
use Rattle.std.specs.List.{flat_map}
use Rattle.orc_bits.specs.Memory.{Memory}
use Rattle.orc_program.specs.declared.program.Var.{Var}
use Rattle.orc_program.specs.declared.program.Insn.{Insn}
use Rattle.orc_program.specs.declared.program.Pattern.{Pattern}
use Rattle.orc_program.specs.declared.program.VarKind.TheVariants as kind
use Rattle.orc_program.specs.declared.call.Call.{Call}
use Rattle.orc_program.specs.Program.{FunctionValue, var_at}
use Rattle.orc_program.specs.Checks.{same_pattern, uses_from, patterns_of}
use Rattle.orc_program.specs.Kept.{is_function}
use Rattle.orc_program.specs.Meaning.{State, cell, go_on, element, row_of, rows_of, emulate}
use Rattle.orc_program.specs.Good.{IsByte, GoodArrays, byte_at}

-- One more element of a row is that element's instructions after the elements before it, and one more row is that row after the rows before it.
pub record OneMore (f : FunctionValue) (call : Call) : Type 0 where
  pub element_more : (r n : ℕ) (s : State) → row_of f call r (suc n) s ≡ go_on (row_of f call r n s) (element f call r n f.insns)
  pub row_more : (m : ℕ) (s : State) → rows_of f call (suc m) s ≡ go_on (rows_of f call m s) (row_of f call m call.n)

-- Emulation of a good call meets no byte that isn't mapped: it ends with a memory and with sums.
abbrev pub EndsWhereGood : FunctionValue → Call → Type 0
EndsWhereGood f call = (mem : Memory) → GoodArrays f call mem → IsOk (emulate f call mem)

-- an address is a byte of a cell of a dest, at some row and element of the call
pub record IsDestByte (f : FunctionValue) (call : Call) (a p r i j : ℕ) : Type 0 where
  pub byte : IsByte f call p r i j
  pub dest : (var_at f.vars p).kind ≡ kind.Dest
  pub here : a ≡ byte_at f call p r i j

-- Emulation changes no byte outside the cells of dests.
abbrev pub ChangesOnlyDests : FunctionValue → Call → Type 0
ChangesOnlyDests f call = (mem : Memory) (end : Memory × List ℕ) → emulate f call mem ≡ Ok end → (a : ℕ) → ((p r i j : ℕ) → ¬ IsDestByte f call a p r i j) → end.0 a ≡ mem a

-- In one row of a good call two bytes of cells of its elements stand at one address only where they are the same byte of the very same cell.
abbrev pub CellsMeet : FunctionValue → Call → Type 0
CellsMeet f call = is_function f ≡ true → (mem : Memory) → GoodArrays f call mem → (p q r i j i2 j2 : ℕ) → IsByte f call p r i j → IsByte f call q r i2 j2 → i < call.n → i2 < call.n → byte_at f call p r i j ≡ byte_at f call q r i2 j2
    → (cell f call p r i ≡ cell f call q r i2) × (i ≡ i2) × (j ≡ j2)

-- the uses of numbers by instructions, by instruction and then by source from the left
abbrev pub uses_of : List Var → List Insn → List Pattern
uses_of vars insns = flat_map (λ insn. uses_from vars insn.op 0 insn.sources.items) insns

-- each pattern where it first stands
abbrev pub firsts : List Pattern → List Pattern
firsts [] = []
firsts (p ∷ ps) = p ∷ filter (λ q. not (same_pattern p q)) (firsts ps)

-- The patterns of instructions are the first uses, in order.
abbrev pub ListsFirstUses : List Var → List Insn → Type 0
ListsFirstUses vars insns = patterns_of vars insns ≡ firsts (uses_of vars insns)
