-- The elements of a row: some until the first dest's cell is at a multiple of 16, then whole turns, then those that are left; by what is known of every call, some of these regions are left out.
use Rattle.std.specs.Prelude.{ℕ, zero, suc, ◌-◌, ◌^◌, pos, List, [], ◌∷◌}
use Rattle.x86_ins.specs.declared.ins.AluOp.TheVariants.{Add, Sub, And}
use Rattle.x86_ins.specs.declared.ins.ShiftOp.TheVariants.{Shr}
use Rattle.x86_ins.specs.declared.ins.Cond.TheVariants.{E, Ns}
use Rattle.x86_ins.specs.declared.ins.Ins.{Ins}
use Rattle.x86_ins.specs.declared.ins.Ins.TheVariants.{Load, Store, Move, MovImm, Alu, AluImm, Shift, Test}
use Rattle.x86_flow.specs.Flow.{Flow, Plain, Chain, Choice, Repeat}
use Rattle.x86_flow.specs.Moves.{away}
use Rattle.orc_frame.specs.Layout.{left_slot}

-- ---- RCX counts, RAX is scratch, and RDX is the pointer of the first dest

-- more than a row has elements
abbrev pub never : ℕ
never = 2 ^ 31

-- a number of bytes becomes one of elements of 2 ^ k bytes
abbrev pub shift_code : ℕ → List Ins
shift_code zero = []
shift_code (suc k) = Shift Shr 0 (suc k) ∷ []

-- RAX becomes how many elements of 2 ^ k bytes are before the pointer's next multiple of 16
abbrev pub gap_code : ℕ → List Ins
gap_code k = MovImm 0 0 ∷ Alu Sub 0 2 ∷ AluImm And 0 (pos 15) ∷ shift_code k

-- RAX becomes the pointer modulo the size, with the flags to tell whether that is 0
abbrev pub low_bits_code : ℕ → List Ins
low_bits_code k = Move 0 2 ∷ AluImm And 0 (pos (2 ^ k - 1)) ∷ []

abbrev pub never_code : List Ins
never_code = MovImm 0 never ∷ []

-- and, where no number of elements reaches one, more than a row has
abbrev pub gap_flow : ℕ → Flow
gap_flow zero = Plain (gap_code zero)
gap_flow (suc k) = Chain (Plain (low_bits_code (suc k))) (Choice E (Plain (gap_code (suc k))) (Plain never_code))

-- RCX becomes so many elements less than there are behind the gap; below 0 there is no whole turn
abbrev pub behind_code : ℕ → List Ins
behind_code lanes = Alu Sub 1 0 ∷ AluImm Sub 1 (pos lanes) ∷ []

-- ---- fewer elements than a whole turn does, from where RCX is so many less than the elements left

-- a turn of a count of elements, while as many are left
abbrev pub part_flow : ℕ → ℕ → Flow → Flow
part_flow from count turn = Chain (Plain (AluImm Add 1 (pos (from - count)) ∷ [])) (Repeat Ns turn)

-- turns of fewer and fewer elements, each with how many it does
abbrev pub TurnParts : Type 0
TurnParts = List (ℕ × List Ins)

abbrev pub parts_flow : ℕ → TurnParts → Flow
parts_flow from [] = Plain []
parts_flow from (part ∷ parts) = Chain (part_flow from part.0 (Plain part.1)) (parts_flow part.0 parts)

-- ---- the regions of a row

-- RCX is so many less than the elements of the gap
abbrev pub enter_head_code : ℕ → List Ins
enter_head_code lanes = Store 1 (away 4 left_slot) ∷ Move 1 0 ∷ AluImm Sub 1 (pos lanes) ∷ []

abbrev pub leave_head_code : List Ins
leave_head_code = Load 1 (away 4 left_slot) ∷ Test 1 1 ∷ []

-- the elements to the boundary, and then whole turns with aligned stores
abbrev pub reached_flow : ℕ → TurnParts → Flow → Flow
reached_flow lanes parts aligned = Chain (Plain (enter_head_code lanes)) (Chain (parts_flow lanes parts) (Chain (Plain leave_head_code) aligned))

-- the count without the gap, and several at once from the first element on
abbrev pub unreached_flow : Flow → Flow
unreached_flow wide = Chain (Plain (Alu Add 1 0 ∷ [])) wide

-- a row whose first dest has elements of 2 ^ k bytes, of which so many fill a register; RCX is the number of elements
abbrev pub aligned_row : ℕ → ℕ → TurnParts → Flow → Flow → Flow
aligned_row k lanes parts wide aligned =
    Chain (gap_flow k) (Chain (Plain (behind_code lanes)) (Chain (Choice Ns (reached_flow lanes parts aligned) (unreached_flow wide)) (parts_flow lanes parts)))

-- several at once from the first element on, where RCX is the number of elements
abbrev pub whole_row : ℕ → Flow → Flow
whole_row lanes wide = Chain (Plain (AluImm Sub 1 (pos lanes) ∷ [])) wide

-- and then those that are left
abbrev pub plain_row : ℕ → TurnParts → Flow → Flow
plain_row lanes parts wide = Chain (whole_row lanes wide) (parts_flow lanes parts)

-- several at once from the first element on, with aligned stores where the first dest's cell is at a multiple of 16
abbrev pub tested_row : ℕ → Flow → Flow → Flow
tested_row lanes wide aligned = Chain (Plain (low_bits_code 4)) (Choice E (whole_row lanes aligned) (whole_row lanes wide))

-- ---- several at once, from where RCX is so many less than the elements left

-- a turn does that many
abbrev pub wide_loop : Flow → Flow
wide_loop turn = Repeat Ns turn

-- turns of more elements first, and then turns of so many
abbrev pub wide_loops : ℕ → ℕ → Flow → Flow → Flow
wide_loops lanes more large turn = Chain (Chain (Plain (AluImm Sub 1 (pos (more - lanes)) ∷ [])) (Repeat Ns large)) (part_flow more lanes turn)
