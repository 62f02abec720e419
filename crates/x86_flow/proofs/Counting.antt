-- How many steps of a run have a property, from what its instructions weigh.
use Rattle.std.proofs.Common.{◌≡◌, ℕ, zero, suc, ◌+◌, ◌≤◌, List, [], ◌∷◌, ◌++◌, refl, ap, ◌∙◌, arith, inl, inr}
use Rattle.x86_ins.specs.declared.ins.Ins.{Ins}
use Rattle.x86_ins.specs.declared.ins.Ins.TheVariants.{Ret}
use Rattle.x86_ins.specs.Machine.{Core}
use Rattle.x86_ins.specs.Way.{Placed, Moment, Each, AtMost}
use Rattle.x86_flow.proofs.Flow.{listed}
use Rattle.x86_flow.proofs.Plans.{weigh, weigh_append}
use Rattle.x86_flow.proofs.Returning.{Back, each_map}

-- and so at most as many as a larger number
pub at_most_more : {A : Type 0} (P : A → Type 0) (j k : ℕ) (xs : List A) → j ≤ k → AtMost j P xs → AtMost k P xs
at_most_more P j k [] l h = tt
at_most_more P j k (x ∷ xs) l (inl h) = inl (h.0, at_most_more P j k xs l h.1)
at_most_more P j zero (x ∷ xs) l (inr h) = absurd (omega (arith, l, h.1))
at_most_more P j (suc k) (x ∷ xs) l (inr h) = inr (k, refl, at_most_more P h.0 k xs (omega (arith, l, h.1)) h.2)

-- two lists one after the other
pub at_most_append : {A : Type 0} (P : A → Type 0) (j k : ℕ) (xs ys : List A) → AtMost j P xs → AtMost k P ys → AtMost (j + k) P (xs ++ ys)
at_most_append P j k [] ys h g = at_most_more P k (j + k) ys (omega arith) g
at_most_append P j k (x ∷ xs) ys (inl h) g = inl (h.0, at_most_append P j k xs ys h.1 g)
at_most_append P j k (x ∷ xs) ys (inr h) g = inr (h.0 + k, omega (arith, h.1), at_most_append P h.0 k xs ys h.2 g)

-- where moments of instructions that weigh nothing don't have the property, at most as many do as the instructions weigh
pub at_most_weigh : (v : Ins → ℕ) (P : Moment → Type 0) (way : List Moment) → Each (λ m. v m.ins ≡ 0 → P m → ⊥) way → AtMost (weigh v (listed way)) P way
at_most_weigh v P [] h = tt
at_most_weigh v P (m ∷ way) h = go (v m.ins) refl (at_most_weigh v P way h.1)
  where
    go : (n : ℕ) → v m.ins ≡ n → AtMost (weigh v (listed way)) P way → AtMost (v m.ins + weigh v (listed way)) P (m ∷ way)
    go zero e rest = inl (h.0 e, at_most_more P (weigh v (listed way)) (v m.ins + weigh v (listed way)) way (omega (arith, e)) rest)
    go (suc n) e rest = inr (n + weigh v (listed way), omega (arith, e), at_most_more P (weigh v (listed way)) (n + weigh v (listed way)) way (omega arith) rest)

-- the same of a way through code with a return behind it, which weighs nothing itself
pub at_most_back : (v : Ins → ℕ) (P : Moment → Type 0) (Q : Core → Ins → Type 0) (code : Placed) (c : Core) (done : List Ins) (d : Core) (back k : ℕ) (b : Back Q code c done d back) → v Ret ≡ 0 → weigh v done ≤ k → ((m : Moment) → Q m.point.core m.ins → v m.ins ≡ 0 → P m → ⊥) → AtMost k P b.way
at_most_back v P Q code c done d back k b none few sees =
    let whole : weigh v (listed b.way) ≡ weigh v done + (v Ret + 0) = ap (weigh v) b.list ∙ weigh_append v done (Ret ∷ []) in
    at_most_more P (weigh v (listed b.way)) k b.way (omega (arith, whole, none, few)) (at_most_weigh v P b.way (each_map (λ m. Q m.point.core m.ins) _ sees b.way b.each))
