-- Functions of the language as calls see them.
use Rattle.std.specs.Prelude.{◌≡◌, ℕ, ◌+◌, ◌*◌, List, Option, Some, None, Result, Ok, Err, slice_index, if◌then◌else◌}
use Rattle.std.specs.List.{count_by, sum_by}
use Rattle.orc_bits.specs.Memory.{Memory}
use Rattle.orc_program.specs.declared.program.Var.{Var}
use Rattle.orc_program.specs.declared.program.VarKind.TheVariants as kind
use Rattle.orc_program.specs.declared.program.Insn.{Insn}
use Rattle.orc_program.specs.declared.call.Call.{Call}
use Rattle.orc_program.specs.Program.{FunctionValue, count_of, is_far}
use Rattle.orc_program.specs.Meaning.{Gap, emulate}
use Rattle.orc_program.specs.Facts.{facts_of, call_meets}
use Rattle.orc_program.specs.Good.{IsByte, GoodArrays, byte_at}
use Rattle.orc_program.specs.Need.{is_array_operand, lanes, has_whole_turns, turns}
use Rattle.orc_program.specs.Slots.{call_of, size_of_slot}
use Rattle.orc_frame.specs.Subject.{End, Subject}

-- the end that emulation reached, none at a gap
abbrev pub end_of : Result (Memory × List ℕ) Gap → Option End
end_of (Ok e) = Some (record { memory = e.0; sums = slice_index e.1 })
end_of (Err g) = None

-- how often an instruction's operands may touch cells while n elements are done at once: one time for each that is an array, but 2n times for the array of a far load
abbrev pub array_operands : ℕ → List Var → Insn → ℕ
array_operands n vars insn = count_by (is_array_operand vars) insn.results.items + (if is_far insn then 2 * n else count_by (is_array_operand vars) insn.sources.items)

-- the address is that of a byte of a cell
pub record IsCellByte (f : FunctionValue) (call : Call) (a : ℕ) : Type 0 where
  pub place : ℕ
  pub row : ℕ
  pub element : ℕ
  pub byte : ℕ
  pub cell : IsByte f call place row element byte
  pub here : a ≡ byte_at f call place row element byte

abbrev pub subject_of : FunctionValue → Subject
subject_of f = record {
  dests = count_of kind.Dest f.vars;
  sources = count_of kind.Source f.vars;
  params = count_of kind.Param f.vars;
  accs = count_of kind.Accumulator f.vars;
  two_d = f.two_d;
  size = size_of_slot f.vars;
  facts = λ call. call_meets (facts_of f) f.two_d (call_of f call.n call.m call.base call.stride call.param);
  cells = λ call a. IsCellByte f (call_of f call.n call.m call.base call.stride call.param) a;
  good = λ call mem. GoodArrays f (call_of f call.n call.m call.base call.stride call.param) mem;
  emulate = λ call mem. end_of (emulate f (call_of f call.n call.m call.base call.stride call.param) mem);
  lanes = lanes f;
  whole = has_whole_turns f;
  turns = turns f;
  operands = sum_by (array_operands (lanes f) f.vars) f.insns;
}
