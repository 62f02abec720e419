-- The lists before and behind a function's code: the compiler's plan.
use Rattle.std.specs.Prelude.{◌≡◌, ℕ, zero, suc, ◌+◌, ◌*◌, ◌≤◌, ◌==◌, Bool, nat_lt, if◌then◌else◌, pos, List, [], ◌∷◌, ◌++◌}
use Rattle.x86_ins.specs.declared.ins.AluOp.TheVariants.{Add, Sub, And}
use Rattle.x86_ins.specs.declared.ins.ShiftOp.TheVariants.{Shl, Shr, Sar}
use Rattle.x86_ins.specs.declared.ins.MoveOp.TheVariants.{Movd}
use Rattle.x86_ins.specs.declared.ins.Ins.{Ins}
use Rattle.x86_ins.specs.declared.ins.Ins.TheVariants.{VecLoad, VecStore, Move, Load, Store, Load16, Store16, MovImm, Alu, AluImm, Shift, Lea, Ret}
use Rattle.x86_ins.specs.Spelling.{spelling}
use Rattle.x86_flow.specs.Flow.{spell_all}
use Rattle.x86_flow.specs.Moves.{away, here}
use Rattle.orc_frame.specs.Parts.{elements_word, rows_word, base_word, stride_word, param_word, sum_word}
use Rattle.orc_frame.specs.Code.{joined}
use Rattle.orc_program.specs.Program.{FunctionValue}
use Rattle.orc_prototype.specs.declared.arguments.Class.{Class}
use Rattle.orc_prototype.specs.declared.arguments.Class.TheVariants as class
use Rattle.orc_entry.specs.declared.sources.Source.{Source}
use Rattle.orc_entry.specs.declared.sources.Source.TheVariants as source
use Rattle.orc_prototype.specs.declared.arguments.Shape.{Shape}
use Rattle.orc_prototype.specs.Arguments.{shape_of, sum_argument, param_argument, sum_size, is_long, class_of}
use Rattle.orc_entry.specs.Arguments.{in_registers, register_of, stack_word, argument, elements_source, rows_source, base_source, stride_source}

-- ---- the bytes that an entry takes from the stack: a word that nothing uses, the block, and the accumulators' pointers

abbrev pub block_at : ℕ
block_at = 8

abbrev pub pointer_at : ℕ → ℕ
pointer_at g = 312 + 8 * g

abbrev pub stack_size : ℕ
stack_size = 344

-- ---- a word is filled

-- an argument, or a number, goes to RAX
abbrev pub fetch_code : ℕ → List Ins
fetch_code i = if nat_lt i in_registers then Move 0 (register_of i) ∷ [] else Load 0 (away 4 (stack_size + stack_word i)) ∷ []

-- RAX becomes the word of its class; R11 is one less than the sign, which is all ones or none
abbrev pub class_code : Class → List Ins
class_code class.Word = []
class_code class.Int = Shift Shl 0 32 ∷ Shift Sar 0 32 ∷ []
class_code class.Count = Shift Shl 0 32 ∷ Move 11 0 ∷ Shift Shr 0 32 ∷ Shift Shr 11 63 ∷ AluImm Sub 11 (pos 1) ∷ Alu And 0 11 ∷ []

abbrev pub source_code : Source → List Ins
source_code (source.Argument c i) = fetch_code i ++ class_code c
source_code (source.Number n) = MovImm 0 n ∷ []

-- so far above RSP
abbrev pub fill_code : Source → ℕ → List Ins
fill_code from to = source_code from ++ Store 0 (away 4 to) ∷ []

-- ---- before the function's code

-- ---- the words that are filled, and how far above RSP each is, in ascending order

abbrev pub fills_code : List (Source × ℕ) → List Ins
fills_code [] = []
fills_code (x ∷ xs) = fill_code x.0 x.1 ++ fills_code xs

-- from so far above RSP on, each word ends where or before the next begins, and the last within the entry's bytes
abbrev pub Ascend : ℕ → List (Source × ℕ) → Type 0
Ascend low [] = low ≤ stack_size
Ascend low (x ∷ xs) = (low ≤ x.1) × Ascend (x.1 + 8) xs

abbrev pub joined_fills : (ℕ → List (Source × ℕ)) → ℕ → List (Source × ℕ)
joined_fills fills zero = []
joined_fills fills (suc n) = joined_fills fills n ++ fills n

-- the words of the array in a slot
abbrev pub array_fills : Shape → ℕ → List (Source × ℕ)
array_fills s k = (base_source s k, block_at + base_word k) ∷ (stride_source s k, block_at + stride_word k) ∷ []

-- the word of a parameter
abbrev pub param_fills : Shape → List Bool → ℕ → List (Source × ℕ)
param_fills s longs j = (argument (class_of (is_long longs j)) (param_argument s j), block_at + param_word j) ∷ []

-- the pointer of an accumulator
abbrev pub pointer_fills : Shape → ℕ → List (Source × ℕ)
pointer_fills s g = (argument class.Word (sum_argument s g), pointer_at g) ∷ []

-- the words of the block that a function uses, and its accumulators' pointers
abbrev pub fills_of : FunctionValue → List Bool → List (Source × ℕ)
fills_of f longs =
    let s = shape_of f in
    (elements_source s, block_at + elements_word) ∷ (rows_source s, block_at + rows_word) ∷ (joined_fills (array_fills s) s.dests
    ++ (joined_fills (λ k. array_fills s (4 + k)) s.sources
    ++ (joined_fills (param_fills s longs) s.params
    ++ joined_fills (pointer_fills s) s.sums)))

-- RSP goes down, the words are filled, and RDI points at the block
abbrev pub entry_code : FunctionValue → List Bool → List Ins
entry_code f longs = AluImm Sub 4 (pos stack_size) ∷ (fills_code (fills_of f longs) ++ Lea 7 (away 4 block_at) ∷ [])

-- ---- behind it

-- the low 2 or 4 bytes of a sum go to where RCX points
abbrev pub sum_code : ℕ → ℕ → List Ins
sum_code size g = Load 1 (away 4 (pointer_at g)) ∷ (if size == 2 then Load16 0 (away 4 (block_at + sum_word g)) ∷ Store16 0 (here 1) ∷ [] else VecLoad Movd 0 (away 4 (block_at + sum_word g)) ∷ VecStore Movd 0 (here 1) ∷ [])

abbrev pub exit_code : FunctionValue → List Ins
exit_code f = joined (λ g. sum_code (sum_size f g) g) (shape_of f).sums ++ AluImm Add 4 (pos stack_size) ∷ []

-- ---- the whole

-- the code of an entry: the lists before and behind a body, and a return
abbrev pub IsEntryCode : FunctionValue → List Bool → List ℕ → List ℕ → Type 0
IsEntryCode f longs body bytes = bytes ≡ spell_all (entry_code f longs) ++ (body ++ (spell_all (exit_code f) ++ spelling Ret))
