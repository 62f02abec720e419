-- The code before and after a function's rows: the compiler's plan.
use Rattle.std.specs.Prelude.{◌≡◌, ◌<◌, ◌≤◌, ◌≤ℤ◌, ℕ, zero, suc, ◌*◌, ◌%◌, ◌^◌, ◌==◌, ℤ, pos, ◌+ℤ◌, Bool, false, ◌||◌, List, [], ◌∷◌, ◌++◌, length, get_or, if◌then◌else◌}
use Rattle.x86_ins.specs.declared.ins.Addr.{Addr}
use Rattle.x86_ins.specs.declared.ins.VecOp.{VecOp}
use Rattle.x86_ins.specs.declared.ins.VecOp.TheVariants.{Punpcklbw, Movdqa, Paddw, Paddd}
use Rattle.x86_ins.specs.declared.ins.VecImmOp.TheVariants.{Psrldq}
use Rattle.x86_ins.specs.declared.ins.ShuffleOp.TheVariants.{Pshufd, Pshuflw}
use Rattle.x86_ins.specs.declared.ins.MoveOp.TheVariants.{Movdqu}
use Rattle.x86_ins.specs.declared.ins.AluOp.TheVariants.{Add, Sub, And}
use Rattle.x86_ins.specs.declared.ins.Ins.{Ins}
use Rattle.x86_ins.specs.declared.ins.Ins.TheVariants.{Vec, VecImm, Shuffle, VecLoad, VecStore, FromGpr, ToGpr, Load, Store, MovImm, AluImm}
use Rattle.x86_flow.specs.Moves.{away}
use Rattle.orc_program.specs.declared.program.Operand.{Operand}
use Rattle.orc_program.specs.declared.program.Operand.TheVariants as operand
use Rattle.orc_frame.specs.declared.frame.Layout.{Layout}
use Rattle.orc_frame.specs.Layout.{index_in, frame_size}
use Rattle.orc_frame.specs.Parts.{param_word, sum_word}
use Rattle.orc_frame.specs.Frame.{saved, pattern_at, acc_size}

-- the first n of lists, one behind another
abbrev pub joined : (ℕ → List Ins) → ℕ → List Ins
joined code zero = []
joined code (suc n) = joined code n ++ code n

-- a displacement of a list
abbrev pub nth : List ℤ → ℕ → ℤ
nth at k = get_or at k (pos 0)

-- a displacement from RSP
abbrev pub slot : ℤ → Addr
slot z = record { base = 4; disp = z }

-- RAX is stored to both words of a slot
abbrev pub twice_code : ℤ → List Ins
twice_code z = Store 0 (slot z) ∷ Store 0 (slot (z +ℤ pos 8)) ∷ []

-- ---- patterns

-- the low bytes of a number, repeated to a word
abbrev pub repeated : ℕ → ℕ → ℕ
repeated way n = if way == 1 then n % 2 ^ 8 * 0x0101010101010101
    else if way == 2 then n % 2 ^ 16 * 0x0001000100010001
    else if way == 4 then n % 2 ^ 32 * 0x0000000100000001
    else n

-- a word in both words of a slot
abbrev pub constant_code : ℕ → ℤ → List Ins
constant_code n z = MovImm 0 n ∷ twice_code z

-- the low bytes of RAX are repeated in XMM0
abbrev pub spread_code : ℕ → List Ins
spread_code way = if way == 1 then Vec Punpcklbw 0 0 ∷ Shuffle Pshuflw 0 0 0 ∷ Shuffle Pshufd 0 0 0 ∷ []
    else if way == 2 then Shuffle Pshuflw 0 0 0 ∷ Shuffle Pshufd 0 0 0 ∷ []
    else Shuffle Pshufd 0 0 0 ∷ []

-- and stored to a slot
abbrev pub spread_to_code : ℕ → ℤ → List Ins
spread_to_code way z = FromGpr false 0 0 ∷ (spread_code way ++ VecStore Movdqu 0 (slot z) ∷ [])

abbrev pub is_narrow : ℕ → Bool
is_narrow way = way == 1 || (way == 2 || way == 4)

-- parameter j is loaded, and its low bytes fill a slot
abbrev pub param_code : ℕ → ℕ → ℤ → List Ins
param_code way j z = Load 0 (away 7 (param_word j)) ∷ (if is_narrow way then spread_to_code way z else twice_code z)

abbrev pub fill_code : List ℕ → ℕ → Operand → ℤ → List Ins
fill_code params way (operand.Number n) z = constant_code (repeated way n) z
fill_code params way (operand.Var p) z = param_code way (index_in params p) z

abbrev pub pattern_code : Layout → ℕ → List Ins
pattern_code l k = fill_code l.params.items (pattern_at l k).way (pattern_at l k).number (nth l.pattern_at.items k)

-- ---- before the rows

abbrev pub save_code : Layout → ℕ → List Ins
save_code l j = Store (saved j) (slot (nth l.saved_at j)) ∷ []

abbrev pub clear_code : Layout → ℕ → List Ins
clear_code l g = constant_code 0 (nth l.sum_at.items g)

abbrev pub prologue_code : Layout → List Ins
prologue_code l = AluImm Sub 4 (pos frame_size) ∷ (joined (save_code l) 6 ++ (Store 7 (slot l.block_at) ∷ (joined (pattern_code l) (length l.patterns.items) ++ joined (clear_code l) (length l.acc_sizes.items))))

-- ---- after the rows

-- XMM0's lanes and those so many bytes above are added
abbrev pub add_down_code : VecOp → ℕ → List Ins
add_down_code op far = Vec Movdqa 1 0 ∷ VecImm Psrldq 1 far ∷ Vec op 0 1 ∷ []

-- the lowest lane becomes the sum of all
abbrev pub total_code : ℕ → List Ins
total_code size = if size == 2 then add_down_code Paddw 8 ++ (add_down_code Paddw 4 ++ add_down_code Paddw 2) else add_down_code Paddd 8 ++ add_down_code Paddd 4

-- and is moved to RAX
abbrev pub to_rax_code : ℕ → List Ins
to_rax_code size = if size == 2 then ToGpr false 0 0 ∷ AluImm And 0 (pos 65535) ∷ [] else ToGpr false 0 0 ∷ []

-- the running sum in a slot goes to the word of accumulator g
abbrev pub sum_code : ℕ → ℤ → ℕ → List Ins
sum_code size z g = VecLoad Movdqu 0 (slot z) ∷ (total_code size ++ (to_rax_code size ++ Store 0 (away 7 (sum_word g)) ∷ []))

abbrev pub store_code : Layout → ℕ → List Ins
store_code l g = sum_code (acc_size l g) (nth l.sum_at.items g) g

abbrev pub restore_code : Layout → ℕ → List Ins
restore_code l j = Load (saved j) (slot (nth l.saved_at j)) ∷ []

abbrev pub epilogue_code : Layout → List Ins
epilogue_code l = joined (store_code l) (length l.acc_sizes.items) ++ (joined (restore_code l) 6 ++ AluImm Add 4 (pos frame_size) ∷ [])

-- what writing the code needs of a layout: a slot in the frame for each pattern and each accumulator
pub record IsWhole (l : Layout) : Type 0 where
  pub patterns : length l.pattern_at.items ≡ length l.patterns.items
  pub sums : length l.sum_at.items ≡ length l.acc_sizes.items
  pub pattern_low : (k : ℕ) → k < length l.patterns.items → nth l.pattern_at.items k ≤ℤ pos frame_size
  pub sum_low : (g : ℕ) → g < length l.acc_sizes.items → nth l.sum_at.items g ≤ℤ pos frame_size
  pub params : length l.params.items ≤ 8
  pub accs : length l.acc_sizes.items ≤ 4
