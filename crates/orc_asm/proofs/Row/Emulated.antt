-- Emulation row by row, and its end.
use Rattle.std.proofs.Common.{◌≡◌, ℕ, zero, suc, ◌<◌, List, [], ◌∷◌, length, get_or, map, slice_index, Some, Ok, refl, ap, ◌∙◌, arith}
use Rattle.orc_bits.specs.Memory.{Memory}
use Rattle.orc_program.specs.declared.program.VarKind.TheVariants as kind
use Rattle.orc_program.specs.declared.call.Call.{Call}
use Rattle.orc_program.specs.Program.{FunctionValue, places_of}
use Rattle.orc_program.specs.Meaning.{State, go_on, row_of, rows_of, rows, start, ended, emulate, sums_of}
use Rattle.orc_frame.specs.Subject.{End}
use Rattle.orc_frame.specs.Function.{end_of}

-- one row more
pub more_rows : (f : FunctionValue) (call : Call) (r : ℕ) (s e t : State) → rows_of f call r s ≡ Ok e → row_of f call r call.n e ≡ Ok t → rows_of f call (suc r) s ≡ Ok t
more_rows f call r s e t before row = ap (λ x. go_on x (row_of f call r call.n)) before ∙ row

-- the end that a state is
abbrev pub end_with : FunctionValue → State → End
end_with f e = record { memory = e.memory; sums = slice_index (sums_of f e) }

-- emulation ends with the state after all rows
pub all_rows : (f : FunctionValue) (call : Call) (mem : Memory) (e : State) → rows_of f call (rows f call) (start mem) ≡ Ok e → end_of (emulate f call mem) ≡ Some (end_with f e)
all_rows f call mem e h = ap (λ x. end_of (go_on x (ended f))) h

sum_in : (sums : ℕ → ℕ) (places : List ℕ) (g : ℕ) → g < length places → get_or (map sums places) g 0 ≡ sums (get_or places g 0)
sum_in sums [] g l = absurd (omega (arith, l))
sum_in sums (p ∷ places) zero l = refl
sum_in sums (p ∷ places) (suc g) l = sum_in sums places g (omega (arith, l))

-- a sum of the end is that of the accumulator's variable
pub sum_of_end : (f : FunctionValue) (e : State) (g : ℕ) → g < length (places_of kind.Accumulator f.vars) → (end_with f e).sums g ≡ e.sums (slice_index (places_of kind.Accumulator f.vars) g)
sum_of_end f e g l = sum_in e.sums (places_of kind.Accumulator f.vars) g l
