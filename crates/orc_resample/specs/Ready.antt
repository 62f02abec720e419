-- What a far load's code needs of a state, and what it leaves.
use Rattle.std.specs.Prelude.{◌≡◌, ◌≢◌, ℕ, ◌+◌, ◌%◌, ◌^◌, ◌<◌, ◌≤◌, ◌⊎◌, ◌==◌, ℤ, pos, ◌*ℤ◌, Bool, not, List, [], ◌∷◌, length, Option, Some, None}
use Rattle.orc_bits.specs.Lanes.{lane}
use Rattle.orc_bits.specs.Memory.{Memory, word, value, IsMapped}
use Rattle.x86_ins.specs.declared.ins.Ins.{Ins}
use Rattle.x86_ins.specs.Machine.{Core, Bounded, Touches, moved}
use Rattle.x86_flow.specs.Does.{Line}
use Rattle.x86_flow.specs.Touching.{touch_weight}
use Rattle.orc_ops.specs.declared.far.Far.{Far}
use Rattle.orc_ops.specs.Far.{far_size, far_scalars, far_first, far_second, far_value}
use Rattle.orc_resample.specs.declared.plan.FarPlan.{FarPlan}
use Rattle.orc_resample.specs.Code.{scratch, scalar_at}

-- ---- plans

-- the scratch registers are three different ones, none of them RSP, and each scalar has its pattern
pub record IsPlan (far : Far) (plan : FarPlan) : Type 0 where
  pub registers : (j : ℕ) → j < 3 → (scratch plan j < 16) × (scratch plan j ≢ 4)
  pub different : (scratch plan 0 ≢ scratch plan 1) × ((scratch plan 0 ≢ scratch plan 2) × (scratch plan 1 ≢ scratch plan 2))
  pub scalars : length plan.scalars.items ≡ far_scalars far

-- ---- where a far load reads

-- what a far load reads from: the first element's number, the scalars, and the address of the array's element 0
pub record Source : Type 0 where
  pub first : ℕ
  pub p : ℕ
  pub q : ℕ
  pub base : ℕ

-- the address of element k of an array, modulo 2 ^ 64
abbrev pub cell : Far → ℕ → ℤ → ℕ
cell far base k = moved base (k *ℤ pos (far_size far))

-- the bytes of element k in memory as a number, lowest byte first, and 0 where one isn't mapped
abbrev pub some_or_zero : Option ℕ → ℕ
some_or_zero (Some v) = v
some_or_zero None = 0

abbrev pub element : Far → Memory → ℕ → ℤ → ℕ
element far mem base k = some_or_zero (value (far_size far) mem (cell far base k))

-- an address is one of the bytes of element k
abbrev pub InElement : Far → ℕ → ℤ → ℕ → Type 0
InElement far base k x = (j : ℕ) × (j < far_size far) × (x ≡ (cell far base k + j) % 2 ^ 64)

-- one of the elements that are read for element i
abbrev pub IsRead : Far → Source → ℕ → ℤ → Type 0
IsRead far s i k = (k ≡ far_first far i s.p s.q) ⊎ (Some k ≡ far_second far i s.p s.q)

-- an address is a byte of one that is read for some of `count` elements
abbrev pub AmongCells : Far → ℕ → Source → ℕ → Type 0
AmongCells far count s x = (j : ℕ) × (j < count) × ((k : ℤ) × IsRead far s (s.first + j) k × InElement far s.base k x)

-- ---- states

-- the words and patterns at these displacements from RSP hold the source, and what is read is mapped
pub record Ready (far : Far) (count : ℕ) (plan : FarPlan) (s : Source) (c : Core) : Type 0 where
  pub bounded : Bounded c
  pub index : word c.memory (moved (c.gpr 4) plan.index) ≡ Some s.first
  pub last : s.first + count ≤ 2 ^ 31
  pub array : word c.memory (moved (c.gpr 4) plan.array) ≡ Some s.base
  pub first_scalar : 0 < far_scalars far → word c.memory (moved (c.gpr 4) (scalar_at plan 0)) ≡ Some s.p
  pub second_scalar : 1 < far_scalars far → word c.memory (moved (c.gpr 4) (scalar_at plan 1)) ≡ Some s.q
  pub mapped : (x : ℕ) → AmongCells far count s x → IsMapped c.memory x

-- a register that holds the address of elements and not of the frame: any but RSP
abbrev pub is_pointer : ℕ → Bool
is_pointer r = not (r == 4)

-- how many instructions of a list read or write memory by such a register
abbrev pub far_count : List Ins → ℕ
far_count [] = 0
far_count (i ∷ is) = touch_weight is_pointer i + far_count is

abbrev pub IsScratch : FarPlan → ℕ → Type 0
IsScratch plan r = (j : ℕ) × (j < 3) × (r ≡ scratch plan j)

-- what stays as it was: the memory, all registers but the scratch registers and XMM0 to XMM5
pub record Keeps (plan : FarPlan) (c u : Core) : Type 0 where
  pub memory : u.memory ≡ c.memory
  pub gpr : (r : ℕ) → (IsScratch plan r → ⊥) → u.gpr r ≡ c.gpr r
  pub xmm : (r : ℕ) → 6 ≤ r → u.xmm r ≡ c.xmm r

-- the value of the far load for element i, on a memory
abbrev pub value_at : Far → Source → Memory → ℕ → ℕ
value_at far s mem i = far_value far (element far mem s.base) i s.p s.q

-- the next values stand side by side in XMM0, the first one lowest
pub record Gathered (far : Far) (count : ℕ) (plan : FarPlan) (s : Source) (c d : Core) : Type 0 where
  pub values : (j : ℕ) → j < count → lane (far_size far) j (d.xmm 0) ≡ value_at far s c.memory (s.first + j)
  pub keeps : Keeps plan c d
  pub bounded : Bounded d

-- an address is one of the bytes of the word at another
abbrev pub InWord : ℕ → ℕ → Type 0
InWord at x = (j : ℕ) × (j < 8) × (x ≡ (at + j) % 2 ^ 64)

-- or of the words and patterns that the plan names
abbrev pub InPlan : Far → FarPlan → ℕ → ℕ → Type 0
InPlan far plan stack x =
    InWord (moved stack plan.index) x ⊎ (InWord (moved stack plan.array) x ⊎ ((j : ℕ) × (j < far_scalars far) × InWord (moved stack (scalar_at plan j)) x))

-- what an instruction touches: by RSP the plan's words and patterns alone, and by another register the elements that are read
abbrev pub Sees : Far → ℕ → FarPlan → Source → ℕ → Core → Ins → Type 0
Sees far count plan s stack u i = (x : ℕ) → Touches i u x → ((touch_weight is_pointer i ≡ 0) × InPlan far plan stack x) ⊎ ((touch_weight is_pointer i ≡ 1) × AmongCells far count s x)

-- what holds before each instruction on the way from c
abbrev pub OnTheWay : Far → ℕ → FarPlan → Source → Core → Core → Ins → Type 0
OnTheWay far count plan s c u i = Keeps plan c u × Sees far count plan s (c.gpr 4) u i

-- from every state that is ready, the list leads to the values
abbrev pub Gathers : Far → ℕ → FarPlan → List Ins → Type 0
Gathers far count plan list = (s : Source) (c : Core) → Ready far count plan s c → (d : Core) × Line (OnTheWay far count plan s c) list c d × Gathered far count plan s c d
