-- The far loads of a function, and what they read in a row.
use Rattle.std.proofs.Common.{◌≡◌, ◌≢◌, ℕ, zero, suc, ◌+◌, ◌*◌, ◌<◌, ◌≤◌, ◌⊎◌, false, List, [], ◌∷◌, length, Some}
use Rattle.std.specs.Prelude.{Contains}
use Rattle.orc_bits.specs.Memory.{Memory, word, IsMapped}
use Rattle.orc_ops.specs.declared.far.Far.{Far}
use Rattle.orc_ops.specs.Far.{far_of, far_size, far_scalars}
use Rattle.orc_program.specs.declared.program.VarKind.TheVariants as kind
use Rattle.orc_program.specs.declared.program.Operand.{Operand}
use Rattle.orc_program.specs.declared.program.Insn.{Insn}
use Rattle.orc_program.specs.Program.{FunctionValue, var_at, far_array}
use Rattle.orc_program.specs.Checks.{number_in}
use Rattle.orc_program.specs.Slots.{slot_of}
use Rattle.x86_ins.specs.declared.ins.Ins.{Ins}
use Rattle.x86_ins.specs.Machine.{Core, Touches}
use Rattle.x86_ins.specs.Way.{Each}
use Rattle.x86_flow.specs.Touching.{touch_weight}
use Rattle.orc_frame.specs.Layout.{frame_size, row_slot, block_slot}
use Rattle.orc_resample.specs.Ready.{Source, AmongCells, value_at}
use Rattle.orc_resample.specs.Bring.{is_array, is_vector_store}
use Rattle.orc_region.proofs.Block.Cells.{Numbers, Local, OfDests}

-- ---- in a function's text

-- a far load's scalars are the patterns with these numbers, where pattern j is the number that `patterns j` stands for
abbrev pub AreScalars : FunctionValue → (ℕ → Operand) → List Operand → List ℕ → Type 0
AreScalars f patterns [] [] = Unit {0}
AreScalars f patterns (o ∷ os) (j ∷ js) = (number_in f.vars o ≡ Some (patterns j)) × AreScalars f patterns os js
AreScalars f patterns [] (j ∷ js) = ⊥
AreScalars f patterns (o ∷ os) [] = ⊥

-- the operands behind a far load's array
abbrev pub behind_array : List Operand → List Operand
behind_array [] = []
behind_array (o ∷ os) = os

-- an instruction of the function is this far load, of the source with slot k and by these patterns
pub record IsFarOf (f : FunctionValue) (patterns : ℕ → Operand) (load : Far) (k : ℕ) (js : List ℕ) : Type 0 where
  pub insn : Insn
  pub stands : Contains f.insns insn
  pub loads : far_of insn.op ≡ Some load
  pub place : ℕ
  pub array : far_array f.vars insn.sources.items ≡ Some place
  pub inside : place < length f.vars
  pub source : (var_at f.vars place).kind ≡ kind.Source
  pub size : (var_at f.vars place).size ≡ far_size load
  pub slot : slot_of f.vars place ≡ k
  pub scalars : AreScalars f patterns (behind_array insn.sources.items) js

-- ---- in a row

-- the number of a scalar, by its pattern
abbrev pub scalar_in : Numbers → List ℕ → ℕ → ℕ
scalar_in numbers [] i = 0
scalar_in numbers (j ∷ js) zero = numbers.number j
scalar_in numbers (j ∷ js) (suc i) = scalar_in numbers js i

-- what a far load reads from for the elements from one on
abbrev pub far_at : Numbers → (ℕ → ℕ) → ℕ → List ℕ → ℕ → Source
far_at numbers base k js first = record { first = first; p = scalar_in numbers js 0; q = scalar_in numbers js 1; base = base k }

-- what is known of a far load's operands: a source, whose elements have the load's size, and patterns of 4 bytes
pub record IsFarFrom (numbers : Numbers) (size : ℕ → ℕ) (load : Far) (k : ℕ) (js : List ℕ) : Type 0 where
  pub slot : (4 ≤ k) × (k < 12)
  pub size_is : size k ≡ far_size load
  pub count : length js ≡ far_scalars load
  pub patterns : Each (λ j. (j < numbers.patterns) × (numbers.period j ≡ 4)) js

-- an address is a byte of an element that a far load reads for some of these elements
abbrev pub InFars : (ℕ → ℕ) → Numbers → ℕ → ℕ → ℕ → Type 0
InFars base numbers first count x = (load : Far) × (k : ℕ) × (js : List ℕ) × numbers.far load k js × AmongCells load count (far_at numbers base k js first) x

-- far loads read bytes of no dest's cell of the row and none of the frame; RSP is `rsp`
pub record FarGround (n : ℕ) (base size : ℕ → ℕ) (P : ℕ → Type 0) (numbers : Numbers) (rsp : ℕ) : Type 0 where
  pub from : (load : Far) (k : ℕ) (js : List ℕ) → numbers.far load k js → IsFarFrom numbers size load k js
  pub dests : (x : ℕ) → InFars base numbers 0 n x → (d : ℕ) → OfDests P d → (i : ℕ) → i < n → (r : ℕ) → r < size d → x ≢ base d + i * size d + r
  pub frame : (x : ℕ) → InFars base numbers 0 n x → rsp ≤ x → x < rsp + frame_size → ⊥

-- the frame has the bases of the row's arrays and the block's address, and what is read is mapped
pub record FarRow (n : ℕ) (base : ℕ → ℕ) (numbers : Numbers) (rsp rdi : ℕ) (mem : Memory) : Type 0 where
  pub bases : (load : Far) (k : ℕ) (js : List ℕ) → numbers.far load k js → word mem (rsp + row_slot k) ≡ Some (base k)
  pub block : (load : Far) (k : ℕ) (js : List ℕ) → numbers.far load k js → word mem (rsp + block_slot) ≡ Some rdi
  pub mapped : (x : ℕ) → InFars base numbers 0 n x → IsMapped mem x

-- an address has a byte
abbrev pub HasByte : Memory → ℕ → Type 0
HasByte mem x = (v : ℕ) × (mem x ≡ Some v) × (v < 256)

-- the values of far loads for so many elements from one on are those of this memory, where what they read is bytes
abbrev pub FarValues : (ℕ → ℕ) → Numbers → ℕ → ℕ → Memory → (ℕ → Local) → Type 0
FarValues base numbers i count mem sig =
    (load : Far) (k : ℕ) (js : List ℕ) → numbers.far load k js → (q : ℕ) → q < count
    → ((x : ℕ) → AmongCells load 1 (far_at numbers base k js (i + q)) x → HasByte mem x) × ((sig q).fars load k js ≡ value_at load (far_at numbers base k js (i + q)) mem (i + q))

-- an instruction of a far load's code touches the frame, or elements that far loads read for these elements, and stores no vector register
abbrev pub TouchesFar : (ℕ → ℕ) → Numbers → ℕ → ℕ → ℕ → Core → Ins → Type 0
TouchesFar base numbers rsp first count u ins =
    ((x : ℕ) → Touches ins u x → ((touch_weight is_array ins ≡ 0) × (rsp ≤ x) × (x < rsp + frame_size)) ⊎ ((touch_weight is_array ins ≡ 1) × InFars base numbers first count x)) × (is_vector_store ins ≡ false)
