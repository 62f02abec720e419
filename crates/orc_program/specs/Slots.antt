-- The call that words by array slots make: dests have the slots 0 to 3, and sources the slots 4 to 11.
use Rattle.std.specs.Prelude.{ℕ, ◌+◌, ◌-◌, ◌++◌, nat_lt, List, map, if◌then◌else◌, slice_index}
use Rattle.std.specs.List.{range_with_len}
use Rattle.std.specs.Int.{cast_signed, w64}
use Rattle.orc_program.specs.declared.program.Var.{Var}
use Rattle.orc_program.specs.declared.program.VarKind.TheVariants as kind
use Rattle.orc_program.specs.declared.call.Call.{Call}
use Rattle.orc_program.specs.declared.call.Place.{Place}
use Rattle.orc_program.specs.Program.{FunctionValue, is_of, var_at, count_of, count_before, places_of}

-- the slot of the array at place p of the variables
abbrev pub slot_of : List Var → ℕ → ℕ
slot_of vars p = if is_of kind.Dest (var_at vars p) then count_before kind.Dest vars p else 4 + count_before kind.Source vars p

-- the slots in use, in the order of a call's arrays
abbrev pub slots : List Var → List ℕ
slots vars = range_with_len 0 (count_of kind.Dest vars) ++ range_with_len 4 (count_of kind.Source vars)

-- a place from the words of its base and its stride
abbrev pub place_with : ℕ → ℕ → Place
place_with base stride = record { base = base; stride = cast_signed w64 stride }

-- a call from its words: of each slot the base and the stride, and the parameters
abbrev pub call_of : FunctionValue → ℕ → ℕ → (ℕ → ℕ) → (ℕ → ℕ) → (ℕ → ℕ) → Call
call_of f n m base stride param = record {
  n = n;
  m = m;
  arrays = record { items = map (λ k. place_with (base k) (stride k)) (slots f.vars) };
  params = record { items = map param (range_with_len 0 (count_of kind.Param f.vars)) };
}

-- the bytes of an element of an array slot
abbrev pub size_of_slot : List Var → ℕ → ℕ
size_of_slot vars k = (var_at vars (if nat_lt k 4 then slice_index (places_of kind.Dest vars) k else slice_index (places_of kind.Source vars) (k - 4))).size
