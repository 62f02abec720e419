-- What a far load's code needs of a state inside a turn of a function's loop, and what it leaves.
use Rattle.std.specs.Prelude.{◌≡◌, ◌≢◌, ℕ, ◌+◌, ◌%◌, ◌^◌, ◌<◌, ◌≤◌, ◌⊎◌, ◌==◌, ◌||◌, ◌*◌, ℤ, pos, negsuc, Bool, true, false, not, List, [], ◌∷◌, length, get_or, Some}
use Rattle.orc_bits.specs.Lanes.{lane}
use Rattle.orc_bits.specs.Memory.{word, IsMapped}
use Rattle.x86_ins.specs.declared.ins.Ins.{Ins}
use Rattle.x86_ins.specs.declared.ins.Ins.TheVariants.{VecStore}
use Rattle.x86_ins.specs.Machine.{Core, Bounded, Touches, moved}
use Rattle.x86_flow.specs.Does.{Line}
use Rattle.x86_flow.specs.Touching.{touch_weight}
use Rattle.orc_ops.specs.Far.{far_size, far_scalars}
use Rattle.orc_resample.specs.declared.turn.FarSource.{FarSource}
use Rattle.orc_resample.specs.Ready.{Source, AmongCells, InWord, value_at}

-- ---- the words of the frame

-- the displacement of a scalar's pattern
abbrev pub pattern_at : FarSource → ℕ → ℤ
pattern_at source j = get_or source.scalars.items j (pos 0)

-- the displacement of a word that is only read
abbrev pub IsKept : FarSource → ℤ → Type 0
IsKept source z = (z ≡ source.block) ⊎ ((z ≡ source.array) ⊎ ((j : ℕ) × (j < far_scalars source.far) × (z ≡ pattern_at source j)))

-- that of one of the two that are written
abbrev pub IsSpare : FarSource → ℤ → Type 0
IsSpare source z = (z ≡ source.index) ⊎ (z ≡ source.work)

-- the word at a displacement lies in the frame, which has 2048 bytes
abbrev pub LiesIn : ℤ → Type 0
LiesIn (pos d) = d + 8 ≤ 2048
LiesIn (negsuc d) = ⊥

-- the words at two displacements don't overlap
abbrev pub AreApart : ℤ → ℤ → Type 0
AreApart (pos a) (pos b) = (a + 8 ≤ b) ⊎ (b + 8 ≤ a)
AreApart _ _ = ⊥

-- each scalar has its pattern, all words lie in the frame, those that are written overlap no other, and the address is in neither RAX nor RDI
pub record IsFarSource (source : FarSource) : Type 0 where
  pub scalars : length source.scalars.items ≡ far_scalars source.far
  pub kept : (z : ℤ) → IsKept source z → LiesIn z
  pub spare : (z : ℤ) → IsSpare source z → LiesIn z
  pub apart : (y z : ℤ) → IsSpare source y → IsKept source z → AreApart y z
  pub two : AreApart source.index source.work
  pub pointer : (source.pointer ≢ 0) × (source.pointer ≢ 7)

-- ---- states

-- an address is a byte of one of such words, where RSP is `stack`
abbrev pub InWords : (ℤ → Type 0) → ℕ → ℕ → Type 0
InWords Is stack x = (z : ℤ) × Is z × InWord (moved stack z) x

-- the frame's words hold the source and RDI, the first element stands `ahead` bytes behind the address in `pointer`, and no word that is written holds a byte of an element that is read
pub record AtHand (count : ℕ) (source : FarSource) (s : Source) (c : Core) : Type 0 where
  pub bounded : Bounded c
  pub frame : c.gpr 4 + 2048 ≤ 2 ^ 47
  pub pointer : moved (c.gpr source.pointer) source.ahead ≡ (s.base + s.first * far_size source.far) % 2 ^ 64
  pub last : s.first + count ≤ 2 ^ 31
  pub block : word c.memory (moved (c.gpr 4) source.block) ≡ Some (c.gpr 7)
  pub array : word c.memory (moved (c.gpr 4) source.array) ≡ Some s.base
  pub first_scalar : 0 < far_scalars source.far → word c.memory (moved (c.gpr 4) (pattern_at source 0)) ≡ Some s.p
  pub second_scalar : 1 < far_scalars source.far → word c.memory (moved (c.gpr 4) (pattern_at source 1)) ≡ Some s.q
  pub mapped : (x : ℕ) → AmongCells source.far count s x → IsMapped c.memory x
  pub spare : (x : ℕ) → InWords (IsSpare source) (c.gpr 4) x → IsMapped c.memory x
  pub apart : (x : ℕ) → InWords (IsSpare source) (c.gpr 4) x → AmongCells source.far count s x → ⊥

-- what stays as it was: RSP, the registers from XMM6 on, and the memory but for the words that are written
pub record Stays (source : FarSource) (c u : Core) : Type 0 where
  pub stack : u.gpr 4 ≡ c.gpr 4
  pub xmm : (r : ℕ) → 6 ≤ r → u.xmm r ≡ c.xmm r
  pub memory : (x : ℕ) → (InWords (IsSpare source) (c.gpr 4) x → ⊥) → u.memory x ≡ c.memory x
  pub mapped : (x : ℕ) → IsMapped c.memory x → IsMapped u.memory x

-- the next values stand side by side in XMM0, the first one lowest, and every general register but RAX is as it was
pub record Brought (count : ℕ) (source : FarSource) (s : Source) (c d : Core) : Type 0 where
  pub values : (j : ℕ) → j < count → lane (far_size source.far) j (d.xmm 0) ≡ value_at source.far s c.memory (s.first + j)
  pub gpr : (r : ℕ) → r ≢ 0 → d.gpr r ≡ c.gpr r
  pub stays : Stays source c d
  pub bounded : Bounded d

-- ---- what is touched

-- a register that holds the address of elements: any but RSP and RDI
abbrev pub is_array : ℕ → Bool
is_array r = not (r == 4 || r == 7)

-- how many instructions of a list read or write memory by such a register
abbrev pub array_count : List Ins → ℕ
array_count [] = 0
array_count (i ∷ is) = touch_weight is_array i + array_count is

-- an address is a byte of the source's words
abbrev pub InOwn : FarSource → Core → ℕ → Type 0
InOwn source c x = InWords (IsSpare source) (c.gpr 4) x ⊎ InWords (IsKept source) (c.gpr 4) x

-- by RSP and RDI an instruction touches those words alone, and by another register the elements that are read
abbrev pub Reaches : ℕ → FarSource → Source → Core → Core → Ins → Type 0
Reaches count source s c u i = (x : ℕ) → Touches i u x → ((touch_weight is_array i ≡ 0) × InOwn source c x) ⊎ ((touch_weight is_array i ≡ 1) × AmongCells source.far count s x)

-- an instruction that stores a vector register
abbrev pub is_vector_store : Ins → Bool
is_vector_store (VecStore op r at) = true
is_vector_store _ = false

-- what holds before each instruction on the way from c
abbrev pub OnTurn : ℕ → FarSource → Source → Core → Core → Ins → Type 0
OnTurn count source s c u i = Stays source c u × Reaches count source s c u i × (is_vector_store i ≡ false)

-- from every state with all at hand, the list leads to the values
abbrev pub Brings : ℕ → FarSource → List Ins → Type 0
Brings count source list = (s : Source) (c : Core) → AtHand count source s c → (d : Core) × Line (OnTurn count source s c) list c d × Brought count source s c d
