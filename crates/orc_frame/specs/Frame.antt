-- What the code before and after a function's rows does: registers are saved and restored, patterns filled, sums cleared and stored.
use Rattle.std.specs.Prelude.{◌≡◌, ◌≢◌, ℕ, zero, suc, ◌+◌, ◌-◌, ◌*◌, ◌/◌, ◌%◌, ◌^◌, ◌<◌, ◌≤◌, ◌⊎◌, ◌==◌, true, List, length, get_or, slice_index, slice_index_or, Some, if◌then◌else◌}
use Rattle.orc_bits.specs.Numbers.{cut}
use Rattle.orc_bits.specs.Lanes.{AreBytes}
use Rattle.orc_bits.specs.Memory.{word, IsMapped}
use Rattle.orc_program.specs.declared.program.Operand.{Operand}
use Rattle.orc_program.specs.declared.program.Operand.TheVariants as operand
use Rattle.orc_program.specs.declared.program.Pattern.{Pattern}
use Rattle.orc_program.specs.Kept.{is_function}
use Rattle.orc_program.specs.Program.{FunctionValue}
use Rattle.x86_ins.specs.declared.ins.Ins.{Ins}
use Rattle.x86_ins.specs.Machine.{Core, Bounded, Touches}
use Rattle.x86_flow.specs.Does.{Line}
use Rattle.sse_acc.specs.Sums.{sum_of}
use Rattle.orc_frame.specs.declared.frame.Layout.{Layout}
use Rattle.orc_frame.specs.Layout.{frame_size, pattern_slot, sum_slot, saved_slot, block_slot, layout_of, index_in}
use Rattle.orc_frame.specs.Parts.{InFrame, InBlock, InSums, block_size, param_word, sum_word}

-- the layout is that of some function
abbrev pub IsLayout : Layout → Type 0
IsLayout l = (f : FunctionValue) × (is_function f ≡ true) × (l ≡ layout_of f)

-- ---- registers and numbers

-- the registers that a call keeps: RBX, RBP and R12 to R15
abbrev pub saved : ℕ → ℕ
saved zero = 3
saved (suc zero) = 5
saved (suc (suc k)) = 12 + k

-- after so many bytes a pattern repeats: the size of its way, or 8 for a shift count
abbrev pub period : ℕ → ℕ
period way = if way == 1 then 1 else if way == 2 then 2 else if way == 4 then 4 else 8

-- the number that an operand stands for, by the list of the parameters' places and the parameters' numbers
abbrev pub number_of : List ℕ → (ℕ → ℕ) → Operand → ℕ
number_of params param (operand.Number n) = n
number_of params param (operand.Var p) = param (index_in params p)

-- byte q of a pattern
abbrev pub pattern_byte : ℕ → ℕ → ℕ → ℕ
pattern_byte way n q = n / 256 ^ (q % period way) % 256

-- what stands past the end of a list of patterns
abbrev pub no_pattern : Pattern
no_pattern = record { number = operand.Number 0; way = 0 }

abbrev pub pattern_at : Layout → ℕ → Pattern
pattern_at l k = slice_index_or l.patterns.items k no_pattern

abbrev pub acc_size : Layout → ℕ → ℕ
acc_size l g = slice_index l.acc_sizes.items g

-- ---- before the rows

-- a core at the entry: RDI has the block's address, and the frame is to be the 2,048 bytes below RSP
pub record Enters (l : Layout) (param : ℕ → ℕ) (c : Core) : Type 0 where
  pub bounded : Bounded c
  pub room : frame_size ≤ c.gpr 4
  pub low : c.gpr 4 + 8 ≤ 2 ^ 47
  pub frame : (x : ℕ) → InFrame (c.gpr 4 - frame_size) x → IsMapped c.memory x
  pub block_low : c.gpr 7 + block_size ≤ 2 ^ 47
  pub params : (j : ℕ) → j < length l.params.items → word c.memory (c.gpr 7 + param_word j) ≡ Some (param j)
  pub apart : (x : ℕ) → InBlock (c.gpr 7) x → InFrame (c.gpr 4 - frame_size) x → ⊥

-- a step on the way: RSP is as at the entry or lowered, nothing changed outside the frame, and the instruction reads and writes bytes of the frame and the block alone; until RSP is lowered no byte changed, and the instruction reads and writes none
pub record AfterEntry (c u : Core) (i : Ins) : Type 0 where
  pub stack : (u.gpr 4 ≡ c.gpr 4) ⊎ (u.gpr 4 + frame_size ≡ c.gpr 4)
  pub not_yet : u.gpr 4 ≡ c.gpr 4 → (x : ℕ) → (u.memory x ≡ c.memory x) × (Touches i u x → ⊥)
  pub block : u.gpr 7 ≡ c.gpr 7
  pub outside : (x : ℕ) → (InFrame (c.gpr 4 - frame_size) x → ⊥) → u.memory x ≡ c.memory x
  pub touches : (x : ℕ) → Touches i u x → InFrame (c.gpr 4 - frame_size) x ⊎ InBlock (c.gpr 7) x

-- RSP is lowered, and the slots are filled; no other register changed but RAX, and nothing outside the frame
pub record Prepared (l : Layout) (param : ℕ → ℕ) (c d : Core) : Type 0 where
  pub stack : d.gpr 4 + frame_size ≡ c.gpr 4
  pub others : (r : ℕ) → r ≢ 0 → r ≢ 4 → d.gpr r ≡ c.gpr r
  pub outside : (x : ℕ) → (InFrame (d.gpr 4) x → ⊥) → d.memory x ≡ c.memory x
  pub frame : (x : ℕ) → InFrame (d.gpr 4) x → IsMapped d.memory x
  pub bounded : Bounded d
  pub saved : (j : ℕ) → j < 6 → word d.memory (d.gpr 4 + saved_slot j) ≡ Some (c.gpr (saved j))
  pub block : word d.memory (d.gpr 4 + block_slot) ≡ Some (c.gpr 7)
  pub patterns : (k : ℕ) → k < length l.patterns.items → (q : ℕ) → q < 16 →
      d.memory (d.gpr 4 + pattern_slot k + q) ≡ Some (pattern_byte (pattern_at l k).way (number_of l.params.items param (pattern_at l k).number) q)
  pub sums : (g : ℕ) → g < length l.acc_sizes.items → (q : ℕ) → q < 16 → d.memory (d.gpr 4 + sum_slot g + q) ≡ Some 0

-- From every core at the entry the list leads to one that is prepared.
abbrev pub Prepares : Layout → List Ins → Type 0
Prepares l list = (param : ℕ → ℕ) (c : Core) → Enters l param c → (d : Core) × Line (AfterEntry c) list c d × Prepared l param c d

-- ---- after the rows

-- a core at the end: RSP is lowered, RDI has the block's address, and the slots hold the saved registers v and the running sums
pub record Ends (l : Layout) (v : ℕ → ℕ) (running : ℕ → List ℕ) (c : Core) : Type 0 where
  pub low : c.gpr 4 + frame_size + 8 ≤ 2 ^ 47
  pub block_low : c.gpr 7 + block_size ≤ 2 ^ 47
  pub block : (x : ℕ) → InBlock (c.gpr 7) x → IsMapped c.memory x
  pub apart : (x : ℕ) → InBlock (c.gpr 7) x → InFrame (c.gpr 4) x → ⊥
  pub saved : (j : ℕ) → j < 6 → word c.memory (c.gpr 4 + saved_slot j) ≡ Some (v j)
  pub bytes : (g : ℕ) → AreBytes (running g)
  pub sums : (g : ℕ) → g < length l.acc_sizes.items → (q : ℕ) → q < 16 → c.memory (c.gpr 4 + sum_slot g + q) ≡ Some (get_or (running g) q 0)

-- a step on the way: RSP is as before, nothing changed in memory but the accumulators' words, and the instruction reads and writes bytes of the frame and the block alone
pub record AfterRows (l : Layout) (c u : Core) (i : Ins) : Type 0 where
  pub stack : u.gpr 4 ≡ c.gpr 4
  pub block : u.gpr 7 ≡ c.gpr 7
  pub outside : (x : ℕ) → (InSums (c.gpr 7) (length l.acc_sizes.items) x → ⊥) → u.memory x ≡ c.memory x
  pub touches : (x : ℕ) → Touches i u x → InFrame (c.gpr 4) x ⊎ InBlock (c.gpr 7) x

-- RSP is raised, the saved registers are restored, and each accumulator's word is the sum of the running sum's lanes, modulo 2 ^ (8 * size); no other register changed but RAX, and nothing else in memory
pub record Finished (l : Layout) (v : ℕ → ℕ) (running : ℕ → List ℕ) (c d : Core) : Type 0 where
  pub stack : d.gpr 4 ≡ c.gpr 4 + frame_size
  pub restored : (j : ℕ) → j < 6 → d.gpr (saved j) ≡ v j
  pub others : (r : ℕ) → r ≢ 0 → r ≢ 4 → ((j : ℕ) → j < 6 → r ≢ saved j) → d.gpr r ≡ c.gpr r
  pub words : (g : ℕ) → g < length l.acc_sizes.items → word d.memory (c.gpr 7 + sum_word g) ≡ Some (cut (8 * acc_size l g) (sum_of (acc_size l g) (running g)))
  pub outside : (x : ℕ) → (InSums (c.gpr 7) (length l.acc_sizes.items) x → ⊥) → d.memory x ≡ c.memory x

-- From every core at the end the list leads to one that is finished.
abbrev pub Finishes : Layout → List Ins → Type 0
Finishes l list = (v : ℕ → ℕ) (running : ℕ → List ℕ) (c : Core) → Ends l v running c → (d : Core) × Line (AfterRows l c) list c d × Finished l v running c d
