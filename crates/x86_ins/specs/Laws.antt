-- Laws of the machine that hold for every instruction and every state.
use Rattle.std.specs.Prelude.{◌≡◌, ℕ, suc, true, List, [], ◌∷◌, length, Ok, Err}
use Rattle.x86_ins.specs.declared.ins.Ins.{Ins}
use Rattle.x86_ins.specs.declared.state.Trap.{Trap}
use Rattle.x86_ins.specs.Vectors.{all_simd, after}
use Rattle.x86_ins.specs.Machine.{Core, Point, with_lanes, effect}
use Rattle.x86_ins.specs.Renaming.{renamed, renaming, IsPermutation, Renames, RenamesPoint}

-- From a core and from the same under new names, an instruction and the same under the new names either both go on, to points that are the same under the new names, or both trap alike.
pub record EffectsRenamed (f : ℕ → ℕ) (i : Ins) (c d : Core) (rip : ℕ) : Type 0 where
  pub goes_on : (s : Point) → effect i c rip ≡ Ok s → (t : Point) × (effect (renamed f i) d rip ≡ Ok t) × RenamesPoint f s t
  pub traps : (trap : Trap) → effect i c rip ≡ Err trap → effect (renamed f i) d rip ≡ Err trap

-- The machine does not know one vector register from another.
abbrev pub RenamingKeeps : List ℕ → Ins → Core → Core → ℕ → Type 0
RenamingKeeps map i c d rip = IsPermutation map → Renames (renaming map) c d → EffectsRenamed (renaming map) i c d rip

-- so many instructions, each followed by the next, lead from one core to another: k is their number
abbrev pub Leads : List Ins → Core → ℕ → Core → Type 0
Leads [] c k d = (k ≡ 0) × (d ≡ c)
Leads (i ∷ is) c k d = (u : Core) × ((rip : ℕ) → effect i c rip ≡ Ok (record { core = u; rip = rip })) × (j : ℕ) × (k ≡ suc j) × Leads is u j d

-- Instructions that work on vector registers alone change those as `after` says, in as many steps as there are instructions, and keep all else.
abbrev pub VectorsLead : List Ins → Core → Type 0
VectorsLead is c = all_simd is ≡ true → Leads is c (length is) (with_lanes c (after is c.xmm))
