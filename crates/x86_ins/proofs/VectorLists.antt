-- Lists of instructions that work on vector registers alone: each takes one step, and keeps all else.
use Rattle.std.proofs.Common.{◌≡◌, ℕ, Bool, true, false, ◌&&◌, List, [], ◌∷◌, length, Ok, refl, ap}
use Rattle.x86_ins.specs.declared.ins.Ins.{Ins}
use Rattle.x86_ins.specs.declared.ins.Ins.TheVariants.{Vec, VecImm, Shuffle, Jump, JumpIf, Ret}
use Rattle.x86_ins.specs.Vectors.{simd, simd_effect, is_simd, all_simd, after}
use Rattle.x86_ins.specs.Machine.{Core, with_lanes, work, at, effect}
use Rattle.x86_ins.specs.Laws.{VectorsLead}
use Rattle.x86_ins.proofs.Bounds.{ok_err}

-- what `work` does is the effect, with the place behind the instruction
pub plain_effect : (i : Ins) (c u : Core) (rip : ℕ) → work i c ≡ Ok u → effect i c rip ≡ Ok (record { core = u; rip = rip })
plain_effect (Jump rel) c u rip e = absurd (ok_err e)
plain_effect (JumpIf q rel) c u rip e = absurd (ok_err e)
plain_effect Ret c u rip e = absurd (ok_err e)
plain_effect _ c u rip e = ap (λ o. at o rip) e

false_true : {A : Type 0} → false ≡ true → A
false_true h = absurd (let e : ⊥ = cc in e)

pub simd_works : (i : Ins) (c : Core) → is_simd (simd i) ≡ true → work i c ≡ Ok (with_lanes c (simd_effect (simd i) c.xmm))
simd_works (Vec op d s) c h = refl
simd_works (VecImm op d n) c h = refl
simd_works (Shuffle op d s o) c h = refl
simd_works _ c h = false_true h

both_true : (s t : Bool) → (s && t) ≡ true → (s ≡ true) × (t ≡ true)
both_true true t h = (refl, h)
both_true false t h = false_true h

-- the first of such a list, and the others
pub simd_parts : (i : Ins) (is : List Ins) → all_simd (i ∷ is) ≡ true → (is_simd (simd i) ≡ true) × (all_simd is ≡ true)
simd_parts i is h = both_true (is_simd (simd i)) (all_simd is) h

pub vectors_lead : (is : List Ins) (c : Core) → VectorsLead is c
unfolding after
vectors_lead [] c h = (refl, refl)
vectors_lead (i ∷ is) c h =
    let s = simd_parts i is h in
    let u = with_lanes c (simd_effect (simd i) c.xmm) in
    (u, (λ rip. plain_effect i c u rip (simd_works i c s.0)), length is, refl, vectors_lead is u s.1)
