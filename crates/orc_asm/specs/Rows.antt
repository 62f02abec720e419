-- The code of a function's rows: the compiler's plan.
use Rattle.std.specs.Prelude.{ℕ, zero, suc, ◌+◌, Bool, true, false, pos, List, [], ◌∷◌, ◌++◌}
use Rattle.x86_ins.specs.declared.ins.AluOp.TheVariants.{Add, Sub}
use Rattle.x86_ins.specs.declared.ins.Cond.TheVariants.{Ne}
use Rattle.x86_ins.specs.declared.ins.Ins.{Ins}
use Rattle.x86_ins.specs.declared.ins.Ins.TheVariants.{Load, Store, Alu, AluImm, Test}
use Rattle.x86_flow.specs.Flow.{Flow, Plain, Chain, Repeat}
use Rattle.x86_flow.specs.Moves.{away}
use Rattle.orc_asm.specs.declared.rows.SlotCode.{SlotCode}
use Rattle.orc_asm.specs.declared.rows.SlotCode.TheVariants as for_slot
use Rattle.orc_frame.specs.Layout.{row_slot, rows_slot}
use Rattle.orc_frame.specs.Parts.{elements_word, rows_word, base_word, stride_word}
use Rattle.orc_region.specs.Code.{pointer}

-- ---- lists

-- the lists of so many slots from a first one, one behind another
abbrev pub slots_code : (ℕ → List Ins) → ℕ → ℕ → List Ins
slots_code code first zero = []
slots_code code first (suc n) = slots_code code first n ++ code (first + n)

-- those of dests, and then those of sources
abbrev pub arrays_code : (ℕ → List Ins) → ℕ → ℕ → List Ins
arrays_code code dests sources = slots_code code 0 dests ++ slots_code code 4 sources

-- ---- before the first row

-- the base of an array becomes that of its row
abbrev pub base_code : ℕ → List Ins
base_code k = Load 0 (away 7 (base_word k)) ∷ Store 0 (away 4 (row_slot k)) ∷ []

-- all rows of the block are left, and whether there are rows
abbrev pub count_code : List Ins
count_code = Load 0 (away 7 rows_word) ∷ Store 0 (away 4 rows_slot) ∷ Test 0 0 ∷ []

abbrev pub rows_code : ℕ → ℕ → List Ins
rows_code dests sources = arrays_code base_code dests sources ++ count_code

-- ---- a row

-- the pointer of an array is loaded
abbrev pub pointer_code : ℕ → List Ins
pointer_code k = Load (pointer k) (away 4 (row_slot k)) ∷ []

-- the counter is loaded, and whether there are elements
abbrev pub counter_code : List Ins
counter_code = Load 1 (away 7 elements_word) ∷ Test 1 1 ∷ []

abbrev pub row_entry_code : ℕ → ℕ → List Ins
row_entry_code dests sources = arrays_code pointer_code dests sources ++ counter_code

-- the start of the one row of a function without rows: an array's pointer becomes its base, which the frame has too
abbrev pub start_code : ℕ → List Ins
start_code k = Load (pointer k) (away 7 (base_word k)) ∷ Store (pointer k) (away 4 (row_slot k)) ∷ []

abbrev pub one_row_code : ℕ → ℕ → List Ins
one_row_code dests sources = arrays_code start_code dests sources ++ counter_code

-- an array's row goes on by its stride
abbrev pub stride_code : ℕ → List Ins
stride_code k = Load 0 (away 4 (row_slot k)) ∷ Load 1 (away 7 (stride_word k)) ∷ Alu Add 0 1 ∷ Store 0 (away 4 (row_slot k)) ∷ []

-- one row less is left, and whether it was the last
abbrev pub one_less_code : List Ins
one_less_code = Load 0 (away 4 rows_slot) ∷ AluImm Sub 0 (pos 1) ∷ Store 0 (away 4 rows_slot) ∷ []

abbrev pub row_step_code : ℕ → ℕ → List Ins
row_step_code dests sources = arrays_code stride_code dests sources ++ one_less_code

-- what is done for an array's slot
abbrev pub slot_code : SlotCode → ℕ → List Ins
slot_code for_slot.Base = base_code
slot_code for_slot.Pointer = pointer_code
slot_code for_slot.Start = start_code
slot_code for_slot.Stride = stride_code

-- a row does its elements by this code
abbrev pub row_flow : Flow → ℕ → ℕ → Flow
row_flow elements dests sources = Chain (Plain (row_entry_code dests sources)) (Chain elements (Plain (row_step_code dests sources)))

-- all rows: a loop where the function has rows, and else the start and the elements of the one row
abbrev pub rows_flow : Flow → Bool → ℕ → ℕ → Flow
rows_flow elements true dests sources = Chain (Plain (rows_code dests sources)) (Repeat Ne (row_flow elements dests sources))
rows_flow elements false dests sources = Chain (Plain (one_row_code dests sources)) elements

-- rows between two lists
abbrev pub whole_flow : List Ins → Flow → List Ins → Bool → ℕ → ℕ → Flow
whole_flow first elements last two_d dests sources = Chain (Plain first) (Chain (rows_flow elements two_d dests sources) (Plain last))
