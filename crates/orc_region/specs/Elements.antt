-- What the code of a function's elements does in a good call: so many elements of a row, as emulation does them.
use Rattle.std.specs.Prelude.{◌≡◌, ◌≢◌, ℕ, ◌+◌, ◌*◌, ◌%◌, ◌^◌, ◌<◌, ◌≤◌, ◌⊎◌, Bool, true, List, ◌++◌, length, get_or, slice_index, if◌then◌else◌, Option, Some, Ok}
use Rattle.orc_bits.specs.Numbers.{cut}
use Rattle.orc_bits.specs.Lanes.{AreBytes}
use Rattle.orc_bits.specs.Memory.{Memory, IsMapped, word}
use Rattle.orc_ops.specs.declared.target.Target.{Target}
use Rattle.orc_program.specs.declared.program.VarKind.TheVariants as kind
use Rattle.orc_program.specs.declared.call.Call.{Call as Meant}
use Rattle.orc_program.specs.Program.{FunctionValue, var_at, count_of, places_of, has_far}
use Rattle.orc_program.specs.Kept.{is_function}
use Rattle.orc_program.specs.Good.{IsReached, byte_at}
use Rattle.orc_program.specs.Meaning.{State, row_of, rows_of, start}
use Rattle.orc_program.specs.Need.{lanes, cost_for, has_whole_turns, turns}
use Rattle.orc_program.specs.Slots.{call_of, size_of_slot}
use Rattle.orc_plan.specs.Lowered.{steps_of, sizes_of}
use Rattle.orc_plan.specs.Places.{PlacedValue}
use Rattle.x86_ins.specs.declared.ins.Ins.{Ins}
use Rattle.x86_ins.specs.Machine.{Core, Point, Bounded, Touches}
use Rattle.x86_ins.specs.Way.{Placed, Moment, Way, Each, AtMost}
use Rattle.x86_flow.specs.Flow.{spell_all, size}
use Rattle.sse_acc.specs.Sums.{sum_of}
use Rattle.orc_frame.specs.declared.frame.Layout.{Layout}
use Rattle.orc_frame.specs.Layout.{layout_of, pattern_slot, sum_slot, saved_slot, row_slot, block_slot, left_slot}
use Rattle.orc_frame.specs.Frame.{acc_size, number_of, pattern_at, pattern_byte}
use Rattle.orc_frame.specs.Function.{subject_of}
use Rattle.orc_frame.specs.GoodCall.{GoodCall, lowered}
use Rattle.orc_frame.specs.Parts.{Between, InFrame}
use Rattle.orc_frame.specs.Subject.{Call, IsArray, VerySame, cell, rows}
use Rattle.orc_region.specs.Code.{pointer, last_place, is_resident, resident_register}
use Rattle.orc_region.specs.Stores.{TouchesCell, StoresFirst}

-- placed steps and a layout are of this function
pub record AreOf (f : FunctionValue) (p : PlacedValue) (l : Layout) : Type 0 where
  pub kept : is_function f ≡ true
  pub steps : p.core.steps ≡ steps_of f
  pub sizes : p.core.sizes ≡ sizes_of f
  pub lanes : p.core.lanes ≡ lanes f
  pub layout : l ≡ layout_of f

-- ---- emulation

-- a call, as the language sees it
abbrev pub meant_call : FunctionValue → Call → Meant
meant_call f args = call_of f args.n args.m args.base args.stride args.param

-- from this memory emulation has come with this state to element i of row r
abbrev pub HasCome : FunctionValue → Call → Memory → ℕ → ℕ → State → Type 0
HasCome f args mem r i e = (before : State) × (rows_of f (meant_call f args) r (start mem) ≡ Ok before) × (row_of f (meant_call f args) r i before ≡ Ok e)

-- ---- a state inside the good call that began with core s

-- the pointers of arrays are at element i of row r
abbrev pub PointsAt : FunctionValue → Call → ℕ → ℕ → Core → Type 0
PointsAt f args r i c = (k : ℕ) → IsArray (subject_of f) k → c.gpr (pointer k) ≡ cell (subject_of f) args k r i 0

-- the frame has the bases of row r and the block's address
pub record RowStands (f : FunctionValue) (args : Call) (r : ℕ) (s c : Core) : Type 0 where
  pub bases : (k : ℕ) → IsArray (subject_of f) k → word c.memory (lowered s + row_slot k) ≡ Some ((args.base k + r * args.stride k) % 2 ^ 64)
  pub block : word c.memory (lowered s + block_slot) ≡ Some (s.gpr 7)

-- byte b of running sum g, where values have places up to the last one and RSP is `rsp`: of its register, or of its slot of the frame
abbrev pub sum_byte : ℕ → ℕ → Core → ℕ → ℕ → Option ℕ
sum_byte last rsp c g b = if is_resident last g then Some (get_or (c.xmm (resident_register g)) b 0) else c.memory (rsp + sum_slot g + b)

-- byte q of a pattern
abbrev pub byte_of : FunctionValue → Call → ℕ → ℕ → ℕ
byte_of f args k q = pattern_byte (pattern_at (layout_of f) k).way (number_of (layout_of f).params.items args.param (pattern_at (layout_of f) k).number) q

-- the number of a pattern among residents
abbrev pub pattern_resident : FunctionValue → ℕ → ℕ
pattern_resident f k = length (layout_of f).acc_sizes.items + k

-- where emulation has the state e, and values have these places: RSP is lowered, and RDI has the block's address
pub record Holds (f : FunctionValue) (at : List ℕ) (s : Core) (args : Call) (e : State) (c : Core) : Type 0 where
  pub stack : c.gpr 4 ≡ lowered s
  pub block : c.gpr 7 ≡ s.gpr 7
  -- outside the frame memory is emulation's, and no byte was unmapped
  pub agree : (a : ℕ) → (InFrame (lowered s) a → ⊥) → c.memory a ≡ e.memory a
  pub mapped : (a : ℕ) → IsMapped s.memory a → IsMapped c.memory a
  -- each pattern's bytes are in its slot, and where it stands in a register too, behind the running sums, they are there
  pub patterns : (k : ℕ) → k < length (layout_of f).patterns.items → (q : ℕ) → q < 16 → c.memory (lowered s + pattern_slot k + q) ≡ Some (byte_of f args k q)
  pub residents : (k : ℕ) → k < length (layout_of f).patterns.items → is_resident (last_place at) (pattern_resident f k) ≡ true → (q : ℕ) → q < 16 → get_or (c.xmm (resident_register (pattern_resident f k))) q 0 ≡ byte_of f args k q
  -- the lanes of each running sum add up to emulation's sum, modulo what its bytes hold
  pub running : ℕ → List ℕ
  pub bytes : (g : ℕ) → AreBytes (running g)
  pub sums : (g : ℕ) → g < length (layout_of f).acc_sizes.items → (q : ℕ) → q < 16 → sum_byte (last_place at) (lowered s) c g q ≡ Some (get_or (running g) q 0)
  pub totals : (g : ℕ) → g < length (layout_of f).acc_sizes.items →
      cut (8 * acc_size (layout_of f) g) (sum_of (acc_size (layout_of f) g) (running g)) ≡ e.sums (slice_index (places_of kind.Accumulator f.vars) g)
  pub bounded : Bounded c

-- the words of the frame in which registers are saved, and in which the rows' bases, the block's address and the rows left wait
abbrev pub InWords : ℕ → ℕ → Type 0
InWords rsp = Between (rsp + saved_slot 0) (rsp + left_slot)

-- ---- cells of so many elements of row r from element i on

-- the address is a byte of a cell of these elements, of a slot with D
abbrev pub InElements : (ℕ → Type 0) → FunctionValue → Call → ℕ → ℕ → ℕ → ℕ → Type 0
InElements D f args r i count a =
    (k : ℕ) × D k × (j : ℕ) × (i ≤ j) × (j < i + count) × (b : ℕ) × (b < size_of_slot f.vars k) × (a ≡ cell (subject_of f) args k r j b)

-- the address is a byte of an element of row r that a far load reads for one of these elements
pub record InFarElements (f : FunctionValue) (args : Call) (r i count a : ℕ) : Type 0 where
  -- the array's place among the variables, and the element that is read, modulo 2 ^ 64
  pub place : ℕ
  pub element : ℕ
  pub reached : IsReached f (meant_call f args) place element
  pub from : i ≤ reached.element
  pub before : reached.element < i + count
  pub byte : ℕ
  pub inside : byte < (var_at f.vars place).size
  pub here : a ≡ byte_at f (meant_call f args) place r element byte

abbrev pub IsDest : FunctionValue → ℕ → Type 0
IsDest f k = k < count_of kind.Dest f.vars

-- outside these elements' cells of dests and the frame memory is as in core c
abbrev pub IsQuiet : FunctionValue → Core → Call → ℕ → ℕ → ℕ → Core → Core → Type 0
IsQuiet f s args r i count c u = (a : ℕ) → (InElements (IsDest f) f args r i count a → ⊥) → (InFrame (lowered s) a → ⊥) → u.memory a ≡ c.memory a

-- the step reads and writes bytes of these elements' cells, of elements that far loads read for them, and of the frame alone
abbrev pub TouchesThese : FunctionValue → Core → Call → ℕ → ℕ → ℕ → Moment → Type 0
TouchesThese f s args r i count m = (a : ℕ) → Touches m.ins m.point.core a → InElements (IsArray (subject_of f)) f args r i count a ⊎ (InFarElements f args r i count a ⊎ InFrame (lowered s) a)

-- no other dest is the very same array as the first one
abbrev pub IsAlone : FunctionValue → Call → Type 0
IsAlone f args = IsDest f 0 × ((k : ℕ) → 0 < k → IsDest f k → VerySame (subject_of f) args 0 k → ⊥)

-- ---- what is done: where the function has far loads, from cores whose frame has the row's bases and the block's address

-- a list of instructions stands in the code, behind so many bytes
abbrev pub Stands : Placed → ℕ → List Ins → Type 0
Stands code from list = (front : List ℕ) × (back : List ℕ) × (code.bytes ≡ front ++ (spell_all list ++ back)) × (length front ≡ from)

-- from core c, in a good call that began with core s, the list does so many elements of row r from element i on, in at most so many steps, of which so many touch cells
pub record Done (f : FunctionValue) (at : List ℕ) (code : Placed) (s : Core) (args : Call) (r i count : ℕ) (steps touches : ℕ) (from : ℕ) (list : List Ins) (c : Core) : Type 0 where
  pub e : State
  pub come : HasCome f args s.memory r (i + count) e
  pub way : List Moment
  pub d : Core
  pub runs : Way code (record { core = c; rip = code.start + from }) way (record { core = d; rip = code.start + (from + size list) })
  pub short : length way ≤ steps
  pub stack : Each (λ m. m.point.core.gpr 4 ≡ lowered s) way
  -- in every state on the way and at its end only these elements' cells of dests and the frame have changed
  pub quiet : Each (λ m. IsQuiet f s args r i count c m.point.core) way
  pub quiet_end : IsQuiet f s args r i count c d
  pub inside : Each (TouchesThese f s args r i count) way
  pub light : AtMost touches (TouchesCell (subject_of f) args) way
  pub holds : Holds f at s args e d
  pub words : (a : ℕ) → InWords (lowered s) a → d.memory a ≡ c.memory a

-- wherever this list stands in code that has values at these places, in each good call it does, in at most as many steps as a turn costs for the target, `count` elements from element i of a row on, where as many are left, and leaves all general registers but RAX; where `aligned` is true, from an element at which the first dest's cell is at a multiple of 16, and then a whole register of the first dest is stored by no movdqu, unless another dest is the very same array
abbrev pub DoesElements : FunctionValue → Target → List ℕ → ℕ → Bool → List Ins → Type 0
DoesElements f target at count aligned list =
    (code : Placed) (s : Point) (args : Call) (back : ℕ) → GoodCall (subject_of f) code s args back → (from : ℕ) → Stands code from list
    → (r : ℕ) → r < rows (subject_of f) args → (i : ℕ) → i + count ≤ args.n
    → (aligned ≡ true → IsDest f 0 → cell (subject_of f) args 0 r i 0 % 16 ≡ 0)
    → (e : State) → HasCome f args s.core.memory r i e → (c : Core) → Holds f at s.core args e c → PointsAt f args r i c → (has_far f ≡ true → RowStands f args r s.core c)
    → (done : Done f at code s.core args r i count (cost_for f target) (subject_of f).operands from list c)
    × ((x : ℕ) → x ≢ 0 → done.d.gpr x ≡ c.gpr x)
    × (aligned ≡ true → count * size_of_slot f.vars 0 ≡ 16 → IsAlone f args → Each (λ m. StoresFirst (subject_of f) args m → ⊥) done.way)

-- the arrays of a function
abbrev pub arrays_of : FunctionValue → ℕ
arrays_of f = count_of kind.Dest f.vars + count_of kind.Source f.vars

-- wherever this list stands in code that has values at these places, in each good call it does all elements of a row whose number RCX has, in so many steps a turn and few besides; where some element from which on a register is filled has the first dest's cell at a multiple of 16, which is the first one if the row is whole turns by the facts, a whole register of the first dest is stored by no movdqu, unless another dest is the very same array
abbrev pub DoesRow : FunctionValue → Target → List ℕ → List Ins → Type 0
DoesRow f target at list =
    (code : Placed) (s : Point) (args : Call) (back : ℕ) → GoodCall (subject_of f) code s args back → (from : ℕ) → Stands code from list
    → (r : ℕ) → r < rows (subject_of f) args
    → (e : State) → HasCome f args s.core.memory r 0 e → (c : Core) → Holds f at s.core args e c → PointsAt f args r 0 c → (has_far f ≡ true → RowStands f args r s.core c) → c.gpr 1 ≡ args.n
    → (done : Done f at code s.core args r 0 args.n (17 + 3 * arrays_of f + turns f args.n * (cost_for f target + arrays_of f + 6)) (turns f args.n * (subject_of f).operands) from list c)
    × (lanes f * size_of_slot f.vars 0 ≡ 16 → ((h : ℕ) × (h + lanes f ≤ args.n) × (cell (subject_of f) args 0 r h 0 % 16 ≡ 0) × (has_whole_turns f ≡ true → h ≡ 0)) → IsAlone f args → Each (λ m. StoresFirst (subject_of f) args m → ⊥) done.way)
