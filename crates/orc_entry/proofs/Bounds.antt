-- A way keeps registers and bytes within their bounds.
use Rattle.std.proofs.Common.{◌≡◌, ℕ, ◌^◌, ◌<◌, Bool, if◌then◌else◌, List, [], ◌∷◌, Option, Some, None, Result, Ok, Err, pos, ap, subst, arith, refl}
use Rattle.orc_bits.specs.Memory.{word}
use Rattle.x86_ins.specs.declared.ins.Ins.{Ins}
use Rattle.x86_ins.specs.declared.ins.Ins.TheVariants.{Jump, JumpIf, Ret}
use Rattle.x86_ins.specs.declared.state.Trap.{Trap}
use Rattle.x86_ins.specs.Machine.{Core, Point, Bounded, with_gpr, moved, test, jump_if, return_to, work, effect, at}
use Rattle.x86_ins.specs.Spelling.{IsIns}
use Rattle.x86_ins.specs.Way.{Placed, Moment, Way}
use Rattle.x86_ins.proofs.Bounds.{work_bounded}
use Rattle.x86_ins.proofs.Registers.{change_all}

abbrev okay : Point → Result Point Trap
okay t = Ok t

point_one : (t u : Point) → okay t ≡ Ok u → t ≡ u
point_one t u h = ap (value_or t) h
  where
    value_or : Point → Result Point Trap → Point
    value_or d (Ok v) = v
    value_or d (Err e) = d

point_err : (x : Trap) (t : Point) → Err x ≡ okay t → ⊥
point_err x t h = subst IsBad h tt
  where
    IsBad : Result Point Trap → Type 0
    IsBad (Err e) = Unit {0}
    IsBad (Ok x) = ⊥

plain_bounded : (i : Ins) (c : Core) (rip : ℕ) (t : Point) → IsIns i → Bounded c → at (work i c) rip ≡ Ok t → Bounded t.core
plain_bounded i c rip t is h e = go (work i c) refl e
  where
    go : (r : Result Core Trap) → work i c ≡ r → at r rip ≡ Ok t → Bounded t.core
    go (Ok d) q k = subst (λ (x : Point). Bounded x.core) (point_one (record { core = d; rip = rip }) t k) (work_bounded i c d is h q)
    go (Err x) q k = absurd (point_err x t k)

effect_bounded : (i : Ins) (c : Core) (rip : ℕ) (t : Point) → IsIns i → Bounded c → effect i c rip ≡ Ok t → Bounded t.core
effect_bounded (Jump rel) c rip t is h e = subst (λ (x : Point). Bounded x.core) (point_one (record { core = c; rip = moved rip rel }) t e) h
effect_bounded (JumpIf q rel) c rip t is h e = go (test q c.flags) e
  where
    go : (o : Option Bool) → jump_if o rel c rip ≡ Ok t → Bounded t.core
    go (Some taken) k = subst (λ (x : Point). Bounded x.core) (point_one (record { core = c; rip = if taken then moved rip rel else rip }) t k) h
    go None k = absurd (point_err _ t k)
effect_bounded Ret c rip t is h e = go (word c.memory (c.gpr 4)) e
  where
    raised : Core
    raised = with_gpr c 4 (moved (c.gpr 4) (pos 8))

    bounded : Bounded raised
    bounded = record { gpr = change_all (λ n. n < 2 ^ 64) c.gpr 4 (moved (c.gpr 4) (pos 8)) (omega arith) h.gpr; xmm = h.xmm; size = h.size; memory = h.memory }

    go : (o : Option ℕ) → return_to o c ≡ Ok t → Bounded t.core
    go (Some r) k = subst (λ (x : Point). Bounded x.core) (point_one (record { core = raised; rip = r }) t k) bounded
    go None k = absurd (point_err _ t k)
effect_bounded i c rip t is h e = plain_bounded i c rip t is h e

pub way_bounded : (code : Placed) (way : List Moment) (s t : Point) → Way code s way t → Bounded s.core → Bounded t.core
way_bounded code [] s t w h = subst (λ (x : Point). Bounded x.core) w h
way_bounded code (m ∷ way) s t w h =
    let step = w.2 in
    way_bounded code way w.1 t w.3 (effect_bounded m.ins s.core _ w.1 step.decoded.allowed.0 h step.done)
