-- Lists that grow by one list.
use Rattle.std.proofs.Common.{◌≡◌, ℕ, suc, ◌+◌, ◌-◌, List, [], ◌++◌, Result, Ok, Err, OnOk, sym, ap, ◌∙◌, arith, append-nil, append_assoc}
use Rattle.x86_ins.specs.declared.ins.Ins.{Ins}
use Rattle.orc_ops.specs.declared.far.Far.{Far}
use Rattle.orc_resample.specs.declared.plan.FarPlan.{FarPlan}
use Rattle.orc_resample.specs.Code.{element_of, elements_code}

pub extended : (base c d x y : List Ins) → c ≡ base ++ x → d ≡ c ++ y → d ≡ base ++ (x ++ y)
extended base c d x y p q = q ∙ ap (λ l. l ++ y) p ∙ append_assoc base x y

pub extended_3 : (base c d f x y z : List Ins) → c ≡ base ++ x → d ≡ c ++ y → f ≡ d ++ z → f ≡ base ++ (x ++ (y ++ z))
extended_3 base c d f x y z p q r = extended base c f x (y ++ z) p (extended c d f y z q r)

pub extended_4 : (base c d f g x y z w : List Ins) → c ≡ base ++ x → d ≡ c ++ y → f ≡ d ++ z → g ≡ f ++ w → g ≡ base ++ (x ++ (y ++ (z ++ w)))
extended_4 base c d f g x y z w p q r s = extended base c g x (y ++ (z ++ w)) p (extended_3 c d f g y z w q r s)

-- a list of nothing more
pub unscaled : (base : List Ins) → base ≡ base ++ []
unscaled base = sym (append-nil base)

pub elements_none : (base : List Ins) (far : Far) (plan : FarPlan) (count a b e : ℕ) → base ≡ base ++ elements_code far plan count a b e 0
elements_none base far plan count a b e = sym (append-nil base)

pub elements_more : (base c d : List Ins) (far : Far) (plan : FarPlan) (count a b e n : ℕ) → c ≡ base ++ elements_code far plan count a b e n → d ≡ c ++ element_of far plan (count - 1 - n) a b e → d ≡ base ++ elements_code far plan count a b e (n + 1)
elements_more base c d far plan count a b e n p q =
    extended base c d (elements_code far plan count a b e n) (element_of far plan (count - 1 - n) a b e) p q ∙ ap (λ k. base ++ elements_code far plan count a b e k) (let z : suc n ≡ n + 1 = omega arith in z)

-- from what holds of a good outcome to what holds of it
pub on_ok : {A E : Type 0} (r : Result A E) (P Q : Type 0) → (P → Q) → OnOk r P → OnOk r Q
on_ok (Ok x) P Q f h = f h
on_ok (Err e) P Q f h = tt
