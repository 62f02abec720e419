-- What an instruction touches, by the register that its address is made of.
use Rattle.std.proofs.Common.{◌≡◌, ℕ, ◌+◌, ◌%◌, ◌^◌, ◌<◌, ◌≤◌, Bool, true, if◌then◌else◌, List, [], ◌∷◌, Some, refl, ap, ◌∙◌, subst, arith, ◌⊎◌, inl, inr}
use Rattle.x86_ins.specs.declared.ins.Ins.{Ins}
use Rattle.x86_ins.specs.Machine.{Core, span, Touches}
use Rattle.x86_ins.specs.Way.{Each}
use Rattle.x86_flow.specs.Touching.{base_of, weight_by, touch_weight}
use Rattle.x86_flow.proofs.Plans.{weigh}

-- the instruction touches nothing, or so many bytes from an address on, by this register
abbrev pub Touching : ℕ → ℕ → ℕ → Ins → Core → Type 0
Touching r p width i u = ((span i u).1 ≡ 0) ⊎ ((base_of i ≡ Some r) × (span i u ≡ (p, width)))

-- an instruction without bytes touches none
pub touches_none : (i : Ins) (u : Core) → (span i u).1 ≡ 0 → (a : ℕ) → Touches i u a → ⊥
touches_none i u e a t = below t.0 (span i u).1 t.1 e
  where
    below : (j n : ℕ) → j < n → n ≡ 0 → ⊥
    below j n l e = omega (arith, l, e)

-- what is touched lies in those bytes
pub touches_in : (r p width : ℕ) (i : Ins) (u : Core) → p + width < 2 ^ 63 → Touching r p width i u → (a : ℕ) → Touches i u a → (p ≤ a) × (a < p + width)
touches_in r p width i u low (inl e) a t = absurd (touches_none i u e a t)
touches_in r p width i u low (inr h) a t =
    let from : (span i u).0 ≡ p = ap (λ s. s.0) h.1 in
    let size : (span i u).1 ≡ width = ap (λ s. s.1) h.1 in
    let l : t.0 < width = subst (λ n. t.0 < n) size t.1 in
    let here : a ≡ (p + t.0) % 2 ^ 64 = t.2 ∙ ap (λ b. (b + t.0) % 2 ^ 64) from in
    (omega (arith, here, l, low), omega (arith, here, l, low))

-- and nothing is touched by an instruction of weight 0 that goes by a register that counts
pub touches_nothing : (by : ℕ → Bool) (r p width : ℕ) (i : Ins) (u : Core) → by r ≡ true → Touching r p width i u → touch_weight by i ≡ 0 → (a : ℕ) → Touches i u a → ⊥
touches_nothing by r p width i u yes_r (inl e) w a t = touches_none i u e a t
touches_nothing by r p width i u yes_r (inr h) w a t =
    let one : touch_weight by i ≡ 1 = ap (weight_by by) h.0 ∙ ap (λ b. if b then 1 else 0) yes_r in
    omega (arith, one, w)

-- instructions of weight 0
pub weigh_free : (v : Ins → ℕ) (list : List Ins) → Each (λ i. v i ≡ 0) list → weigh v list ≡ 0
weigh_free v [] h = refl
weigh_free v (i ∷ list) h = omega (arith, h.0, weigh_free v list h.1)
