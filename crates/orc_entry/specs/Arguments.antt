-- Where the arguments of a C call are at the entry, and which words of an argument block they become.
use Rattle.std.specs.Prelude.{ℕ, zero, suc, ◌+◌, ◌-◌, ◌*◌, ◌<◌, ◌==◌, Bool, nat_lt, if◌then◌else◌, List, Option, Some}
use Rattle.orc_bits.specs.Memory.{word}
use Rattle.orc_program.specs.Program.{FunctionValue}
use Rattle.x86_ins.specs.Machine.{Core}
use Rattle.orc_frame.specs.Subject.{Call}
use Rattle.orc_prototype.specs.declared.arguments.Class.{Class}
use Rattle.orc_prototype.specs.declared.arguments.Class.TheVariants as class
use Rattle.orc_prototype.specs.declared.arguments.Shape.{Shape}
use Rattle.orc_prototype.specs.Arguments.{shape_of, dest_argument, source_argument, param_argument, elements_argument, rows_argument, as_word, is_long, class_of}
use Rattle.orc_entry.specs.declared.sources.Source.{Source}
use Rattle.orc_entry.specs.declared.sources.Source.TheVariants as source

-- ---- where the words of the block come from

abbrev pub argument : Class → ℕ → Source
argument c i = source.Argument c i

module _ (s : Shape) where
  abbrev pub elements_source : Source
  elements_source = if s.elements == 0 then argument class.Count (elements_argument s) else source.Number s.elements

  -- without rows there is one
  abbrev pub rows_source : Source
  rows_source = if s.two_d then (if s.rows == 0 then argument class.Count (rows_argument s) else source.Number s.rows) else source.Number 1

  -- an array's stride is the argument behind its address, and 0 without rows
  abbrev pub stride_of : ℕ → Source
  stride_of i = if s.two_d then argument class.Int (i + 1) else source.Number 0

  -- the argument that is the address of the array in a slot: dests have the slots 0 to 3, and sources the slots 4 to 11
  abbrev pub base_argument : ℕ → ℕ
  base_argument k = if nat_lt k 4 then dest_argument s k else source_argument s (k - 4)

  abbrev pub base_source : ℕ → Source
  base_source k = argument class.Word (base_argument k)

  abbrev pub stride_source : ℕ → Source
  stride_source k = stride_of (base_argument k)

-- an argument by a number below 100: no function has as many
abbrev pub IsNear : Source → Type 0
IsNear (source.Argument c i) = i < 100
IsNear (source.Number n) = Unit {0}

-- `longs` says which parameters are said by `.longparam`
abbrev pub param_source : FunctionValue → List Bool → ℕ → Source
param_source f longs j = argument (class_of (is_long longs j)) (param_argument (shape_of f) j)

-- the word, by the numbers of the arguments
abbrev pub taken : (ℕ → ℕ) → Source → ℕ
taken arg (source.Argument c i) = as_word c (arg i)
taken arg (source.Number n) = n

-- the call that arguments make
abbrev pub call_by : FunctionValue → List Bool → (ℕ → ℕ) → Call
call_by f longs arg = record {
  n = taken arg (elements_source (shape_of f));
  m = taken arg (rows_source (shape_of f));
  base = λ k. taken arg (base_source (shape_of f) k);
  stride = λ k. taken arg (stride_source (shape_of f) k);
  param = λ j. taken arg (param_source f longs j);
}

-- ---- where each is at the entry

-- the first six are in RDI, RSI, RDX, RCX, R8 and R9, and the others are words behind the return word (System V ABI, AMD64 supplement, 3.2.3)
abbrev pub in_registers : ℕ
in_registers = 6

abbrev pub register_of : ℕ → ℕ
register_of zero = 7
register_of (suc zero) = 6
register_of (suc (suc zero)) = 2
register_of (suc (suc (suc zero))) = 1
register_of (suc (suc (suc (suc zero)))) = 8
register_of _ = 9

-- how far argument i is from the return word
abbrev pub stack_word : ℕ → ℕ
stack_word i = 8 + 8 * (i - in_registers)

abbrev pub argument_at : Core → ℕ → Option ℕ
argument_at c i = if nat_lt i in_registers then Some (c.gpr (register_of i)) else word c.memory (c.gpr 4 + stack_word i)
