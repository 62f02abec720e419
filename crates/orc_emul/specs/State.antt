-- The state that the code has, and what its steps answer, in the words of the meaning.
use Rattle.std.specs.Prelude.{◌≡◌, ℕ, ◌*◌, ◌≤◌, true, List, Some, Result, Ok, Err, length, slice_index}
use Rattle.std.specs.List.{list_all}
use Rattle.orc_bits.specs.Memory.{Memory}
use Rattle.orc_bits.specs.declared.parts.Part.{Part}
use Rattle.orc_ops.specs.declared.opcode.Op.{Op}
use Rattle.orc_ops.specs.Table.{size_of_result, size_of_source}
use Rattle.orc_ops.specs.declared.far.Far.{Far}
use Rattle.orc_ops.specs.Far.{far_of, far_size}
use Rattle.orc_program.specs.declared.program.Var.{Var}
use Rattle.orc_program.specs.declared.program.VarKind.TheVariants as kind
use Rattle.orc_program.specs.declared.program.Insn.{Insn}
use Rattle.orc_program.specs.declared.call.Call.{Call}
use Rattle.orc_program.specs.Program.{FunctionValue, var_at, array_count, count_of, far_array}
use Rattle.orc_program.specs.Kept.{is_in_range}
use Rattle.orc_program.specs.Meaning.{State, Gap, sub_lane}
use Rattle.orc_emul.specs.declared.state.Values.{Values}
use Rattle.orc_emul.specs.declared.state.Unmapped.{Unmapped}
use Rattle.orc_emul.specs.declared.lanes.Given.{Given}
use Rattle.orc_emul.specs.declared.lanes.Given.TheVariants.{Lanes, Same}
use Rattle.orc_bits.specs.Parts.{memory_of}

-- a call has the arrays and the parameters of a function
pub record HasCounts (f : FunctionValue) (call : Call) : Type 0 where
  pub arrays : length call.arrays.items ≡ array_count f.vars
  pub params : length call.params.items ≡ count_of kind.Param f.vars

-- what the code asks of an instruction, which each one of a function keeps
pub record Fits (vars : List Var) (insn : Insn) : Type 0 where
  pub first : 8 * size_of_result insn.op 0 * insn.prefix ≤ 64
  pub second : 8 * size_of_result insn.op 1 * insn.prefix ≤ 64
  pub results : list_all (is_in_range vars) insn.results.items ≡ true
  pub sources : list_all (is_in_range vars) insn.sources.items ≡ true
  pub element : (far : Far) → far_of insn.op ≡ Some far → (p : ℕ) → far_array vars insn.sources.items ≡ Some p → (var_at vars p).size ≡ far_size far

-- ---- the state

abbrev pub state_of : List Part → Values → State
state_of parts v = record { memory = memory_of parts; temps = λ p. slice_index v.temps p; sums = λ p. slice_index v.sums p }

-- an access that met a byte which isn't mapped, with the memory as it was then
abbrev pub gap : Unmapped → Memory → Gap
gap u mem = record { row = u.row; element = u.element; at = u.at; memory = mem }

-- the number that was read
abbrev pub number_or : Result ℕ Unmapped → Memory → Result ℕ Gap
number_or (Ok n) mem = Ok n
number_or (Err u) mem = Err (gap u mem)

-- the memory after a write
abbrev pub memory_or : Result Unit Unmapped → Memory → Result Memory Gap
memory_or (Ok x) mem = Ok mem
memory_or (Err u) mem = Err (gap u mem)

-- a step's answer, with the store and the values as they are then
abbrev pub after : Result Unit Unmapped → List Part → Values → Result State Gap
after (Ok x) parts v = Ok (state_of parts v)
after (Err u) parts v = Err (gap u (memory_of parts))

-- ---- sources

-- what a source of w bits gives to each sub-lane
abbrev pub given : ℕ → Given → ℕ → ℕ
given w (Lanes v) = sub_lane w v
given w (Same n) = λ q. n

abbrev pub given_or : ℕ → Result Given Unmapped → Memory → Result (ℕ → ℕ) Gap
given_or w (Ok g) mem = Ok (given w g)
given_or w (Err u) mem = Err (gap u mem)

abbrev pub two_given_or : Op → Result (Given × Given) Unmapped → Memory → Result ((ℕ → ℕ) × (ℕ → ℕ)) Gap
two_given_or op (Ok g) mem = Ok (given (8 * size_of_source op 0) g.0, given (8 * size_of_source op 1) g.1)
two_given_or op (Err u) mem = Err (gap u mem)
