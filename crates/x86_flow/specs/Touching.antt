-- The register by which an instruction touches memory.
use Rattle.std.specs.Prelude.{◌≡◌, ℕ, Bool, false, if◌then◌else◌, List, Option, Some, None}
use Rattle.x86_ins.specs.declared.ins.Ins.{Ins}
use Rattle.x86_ins.specs.declared.ins.Ins.TheVariants.{VecLoad, VecStore, Load, Store, Store8, Store16, Load8, Load16, Push, Pop, Ret}
use Rattle.x86_ins.specs.Way.{Each}

-- the register that the address of an instruction's bytes is made of, none where it has no such bytes
abbrev pub base_of : Ins → Option ℕ
base_of (VecLoad op d at) = Some at.base
base_of (VecStore op s at) = Some at.base
base_of (Load d at) = Some at.base
base_of (Store s at) = Some at.base
base_of (Store8 s at) = Some at.base
base_of (Store16 s at) = Some at.base
base_of (Load8 d at) = Some at.base
base_of (Load16 d at) = Some at.base
base_of (Push s) = Some 4
base_of (Pop d) = Some 4
base_of Ret = Some 4
base_of _ = None

-- 1 for an instruction that touches memory by one of some registers
abbrev pub weight_by : (ℕ → Bool) → Option ℕ → ℕ
weight_by by (Some r) = if by r then 1 else 0
weight_by by None = 0

abbrev pub touch_weight : (ℕ → Bool) → Ins → ℕ
touch_weight by i = weight_by by (base_of i)

-- no instruction touches memory but by RSP and RDI
abbrev pub AreOwn : List Ins → Type 0
AreOwn list = (by : ℕ → Bool) → by 4 ≡ false → by 7 ≡ false → Each (λ i. touch_weight by i ≡ 0) list
