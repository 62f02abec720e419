-- The parts of a call's memory beside the arrays: the frame, the return word, the argument block and the code.
use Rattle.std.specs.Prelude.{ℕ, ◌+◌, ◌*◌, ◌<◌, ◌≤◌, ◌⊎◌, length}
use Rattle.x86_ins.specs.Way.{Placed}
use Rattle.orc_frame.specs.Layout.{frame_size, sum_slot, index_slot, spill_slots, spill_slot}

abbrev pub Between : ℕ → ℕ → ℕ → Type 0
Between low high a = (low ≤ a) × (a < high)

-- the frame, which begins at the lowered RSP
abbrev pub InFrame : ℕ → ℕ → Type 0
InFrame rsp = Between rsp (rsp + frame_size)

-- in it the running sums of so many accumulators
abbrev pub InRunning : ℕ → ℕ → ℕ → Type 0
InRunning rsp count = Between (rsp + sum_slot 0) (rsp + sum_slot count)

-- the words in which far loads' code works, and behind them the spill slots
abbrev pub InWorked : ℕ → ℕ → Type 0
InWorked rsp = Between (rsp + index_slot) (rsp + spill_slot spill_slots)

-- what the elements of a row change in it: the running sums of so many accumulators, those words and the spill slots
abbrev pub InChanged : ℕ → ℕ → ℕ → Type 0
InChanged rsp count a = InRunning rsp count a ⊎ InWorked rsp a

-- the return word, to which RSP points at the entry (System V ABI, AMD64 supplement, 3.2.2)
abbrev pub InReturn : ℕ → ℕ → Type 0
InReturn rsp = Between rsp (rsp + 8)

-- the bytes of the argument block, to which RDI points, the register of a first argument (System V ABI, AMD64 supplement, 3.2.3)
abbrev pub block_size : ℕ
block_size = 304

abbrev pub InBlock : ℕ → ℕ → Type 0
InBlock rdi = Between rdi (rdi + block_size)

-- the displacements in the block of the words of n and m, of an array slot's base and stride, of parameter j and of accumulator g
abbrev pub elements_word : ℕ
elements_word = 0

abbrev pub rows_word : ℕ
rows_word = 8

abbrev pub base_word : ℕ → ℕ
base_word k = 16 + 16 * k

abbrev pub stride_word : ℕ → ℕ
stride_word k = 24 + 16 * k

abbrev pub param_word : ℕ → ℕ
param_word j = 208 + 8 * j

abbrev pub sum_word : ℕ → ℕ
sum_word g = 272 + 8 * g

-- the words of so many accumulators
abbrev pub InSums : ℕ → ℕ → ℕ → Type 0
InSums rdi count = Between (rdi + sum_word 0) (rdi + sum_word count)

abbrev pub InCode : Placed → ℕ → Type 0
InCode code = Between code.start (code.start + length code.bytes)
