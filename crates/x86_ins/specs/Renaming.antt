-- Instructions under other names of the vector registers XMM0 to XMM15 (Intel SDM, volume 1, section 10.2.2). No instruction here has a fixed one of them, so the names can be exchanged.
use Rattle.std.specs.Prelude.{◌≡◌, ℕ, ◌<◌, List, get_or, length}
use Rattle.x86_ins.specs.declared.ins.Ins.{Ins}
use Rattle.x86_ins.specs.declared.ins.Ins.TheVariants.{Vec, VecImm, Shuffle, VecLoad, VecStore, FromGpr, ToGpr}
use Rattle.x86_ins.specs.Machine.{Core, Point}

-- an instruction with f r in the place of each vector register r; general registers, addresses and numbers are kept
abbrev pub renamed : (ℕ → ℕ) → Ins → Ins
renamed f (Vec op dst src) = Vec op (f dst) (f src)
renamed f (VecImm op dst count) = VecImm op (f dst) count
renamed f (Shuffle op dst src order) = Shuffle op (f dst) (f src) order
renamed f (VecLoad op dst at) = VecLoad op (f dst) at
renamed f (VecStore op src at) = VecStore op (f src) at
renamed f (FromGpr wide dst src) = FromGpr wide (f dst) src
renamed f (ToGpr wide dst src) = ToGpr wide dst (f src)
renamed f ins = ins

-- the new name of a register: its entry in a map of sixteen numbers; a number beyond the map keeps itself
abbrev pub renaming : List ℕ → ℕ → ℕ
renaming map r = get_or map r r

-- each register has a name, and no two have one name
pub record IsPermutation (map : List ℕ) : Type 0 where
  pub size : length map ≡ 16
  pub below : (r : ℕ) → r < 16 → renaming map r < 16
  pub apart : (r s : ℕ) → r < 16 → s < 16 → renaming map r ≡ renaming map s → r ≡ s

-- core d is core c under new names: the vector register f r of d holds what r holds in c, and all else is the same
pub record Renames (f : ℕ → ℕ) (c d : Core) : Type 0 where
  pub gpr : d.gpr ≡ c.gpr
  pub xmm : (r : ℕ) → d.xmm (f r) ≡ c.xmm r
  pub flags : d.flags ≡ c.flags
  pub memory : d.memory ≡ c.memory

-- the same of a core and a place in the code, which is one for both
abbrev pub RenamesPoint : (ℕ → ℕ) → Point → Point → Type 0
RenamesPoint f s t = Renames f s.core t.core × (t.rip ≡ s.rip)
