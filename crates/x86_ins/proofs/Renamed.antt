-- Lists of vector instructions under a renaming of the vector registers.
use Rattle.std.proofs.Common.{◌≡◌, ℕ, ◌<◌, ◌==◌, ◌&&◌, if◌then◌else◌, List, [], ◌∷◌, map, refl, sym, ap, ap₂, ◌∙◌, inl, inr, ◌⊎◌}
use Rattle.std.proofs.lemmas.Bool.{cases_eq}
use Rattle.x86_ins.specs.declared.ins.Ins.{Ins}
use Rattle.x86_ins.specs.declared.ins.Ins.TheVariants.{Vec, VecImm, Shuffle, VecLoad, VecStore, FromGpr, ToGpr}
use Rattle.orc_bits.specs.Lanes.{change}
use Rattle.orc_bits.proofs.LaneLaws.{change_other, change_same}
use Rattle.x86_ins.specs.Vectors.{shape, result_of, imm_shape, imm_result, shuffle_result, Simd, of_two, of_count, of_order, of_none, simd, simd_effect, is_simd, all_simd, after}
use Rattle.x86_ins.specs.Spelling.{IsIns}
use Rattle.x86_ins.specs.Renaming.{renamed}

-- ---- equal registers at each number stay so

pub change_alike : {A : Type 0} (x y : ℕ → A) (i : ℕ) (v w : A) → v ≡ w → ((r : ℕ) → x r ≡ y r) → (r : ℕ) → change x i v r ≡ change y i w r
change_alike x y i v w e h r = ap₂ (λ a b. if r == i then a else b) e (h r)

simd_same : (i : Simd) (x y : ℕ → List ℕ) → ((r : ℕ) → x r ≡ y r) → (r : ℕ) → simd_effect i x r ≡ simd_effect i y r
simd_same (of_two op d s) x y h r = change_alike x y d _ _ (ap₂ (result_of (shape op)) (h d) (h s)) h r
simd_same (of_count op d c) x y h r = change_alike x y d _ _ (ap (imm_result (imm_shape op) c) (h d)) h r
simd_same (of_order op d s o) x y h r = change_alike x y d _ _ (ap (shuffle_result op o) (h s)) h r
simd_same of_none x y h r = h r

pub after_same : (is : List Ins) (x y : ℕ → List ℕ) → ((r : ℕ) → x r ≡ y r) → (r : ℕ) → after is x r ≡ after is y r
unfolding after
after_same [] x y h r = h r
after_same (i ∷ is) x y h r = after_same is (simd_effect (simd i) x) (simd_effect (simd i) y) (simd_same (simd i) x y h) r

-- ---- renamed registers

-- a change at a new name is the change at the old one
pub change_renamed : {A : Type 0} (f : ℕ → ℕ) → ((a b : ℕ) → f a ≡ f b → a ≡ b) → (x : ℕ → A) (d : ℕ) (v : A) (r : ℕ) → change x (f d) v (f r) ≡ change (λ k. x (f k)) d v r
change_renamed f one x d v r = go (cases_eq r d)
  where
    go : (r ≡ d) ⊎ (r ≡ d → ⊥) → change x (f d) v (f r) ≡ change (λ k. x (f k)) d v r
    go (inl e) = ap (λ k. change x (f d) v (f k)) e ∙ change_same x (f d) v ∙ sym (ap (change (λ k. x (f k)) d v) e ∙ change_same (λ k. x (f k)) d v)
    go (inr ne) = change_other x (f d) v (f r) (λ e. ne (one r d e)) ∙ sym (change_other (λ k. x (f k)) d v r ne)

simd_effect_renamed : (f : ℕ → ℕ) → ((a b : ℕ) → f a ≡ f b → a ≡ b) → (i : Ins) (x : ℕ → List ℕ) (r : ℕ) → simd_effect (simd (renamed f i)) x (f r) ≡ simd_effect (simd i) (λ k. x (f k)) r
simd_effect_renamed f one (Vec op d s) x r = change_renamed f one x d _ r
simd_effect_renamed f one (VecImm op d n) x r = change_renamed f one x d _ r
simd_effect_renamed f one (Shuffle op d s o) x r = change_renamed f one x d _ r
simd_effect_renamed f one (VecLoad op d at) x r = refl
simd_effect_renamed f one (VecStore op s at) x r = refl
simd_effect_renamed f one (FromGpr wide d s) x r = refl
simd_effect_renamed f one (ToGpr wide d s) x r = refl
simd_effect_renamed f one _ x r = refl

pub after_renamed : (f : ℕ → ℕ) → ((a b : ℕ) → f a ≡ f b → a ≡ b) → (is : List Ins) (x : ℕ → List ℕ) (r : ℕ) → after (map (renamed f) is) x (f r) ≡ after is (λ r. x (f r)) r
unfolding after
after_renamed f one [] x r = refl
after_renamed f one (i ∷ is) x r =
    after_renamed f one is (simd_effect (simd (renamed f i)) x) r
    ∙ after_same is (λ k. simd_effect (simd (renamed f i)) x (f k)) (simd_effect (simd i) (λ k. x (f k))) (simd_effect_renamed f one i x) r

is_simd_renamed : (f : ℕ → ℕ) (i : Ins) → is_simd (simd (renamed f i)) ≡ is_simd (simd i)
is_simd_renamed f (Vec op d s) = refl
is_simd_renamed f (VecImm op d n) = refl
is_simd_renamed f (Shuffle op d s o) = refl
is_simd_renamed f (VecLoad op d at) = refl
is_simd_renamed f (VecStore op s at) = refl
is_simd_renamed f (FromGpr wide d s) = refl
is_simd_renamed f (ToGpr wide d s) = refl
is_simd_renamed f _ = refl

pub simd_renamed : (f : ℕ → ℕ) (is : List Ins) → all_simd (map (renamed f) is) ≡ all_simd is
simd_renamed f [] = refl
simd_renamed f (i ∷ is) = ap₂ (λ a b. a && b) (is_simd_renamed f i) (simd_renamed f is)

-- ---- one instruction

pub ins_renamed : (f : ℕ → ℕ) → ((r : ℕ) → r < 16 → f r < 16) → (i : Ins) → IsIns i → IsIns (renamed f i)
ins_renamed f below (Vec op d s) h = (below d h.0, below s h.1)
ins_renamed f below (VecImm op d n) h = (below d h.0, h.1)
ins_renamed f below (Shuffle op d s o) h = (below d h.0, below s h.1, h.2)
ins_renamed f below (VecLoad op d at) h = (below d h.0, h.1)
ins_renamed f below (VecStore op s at) h = (below s h.0, h.1)
ins_renamed f below (FromGpr wide d s) h = (below d h.0, h.1)
ins_renamed f below (ToGpr wide d s) h = (h.0, below s h.1)
ins_renamed f below _ h = h

pub renamed_alike : (f g : ℕ → ℕ) → ((r : ℕ) → r < 16 → f r ≡ g r) → (i : Ins) → IsIns i → renamed f i ≡ renamed g i
renamed_alike f g same (Vec op d s) h = ap₂ (Vec op) (same d h.0) (same s h.1)
renamed_alike f g same (VecImm op d n) h = ap (λ k. VecImm op k n) (same d h.0)
renamed_alike f g same (Shuffle op d s o) h = ap₂ (λ k l. Shuffle op k l o) (same d h.0) (same s h.1)
renamed_alike f g same (VecLoad op d at) h = ap (λ k. VecLoad op k at) (same d h.0)
renamed_alike f g same (VecStore op s at) h = ap (λ k. VecStore op k at) (same s h.0)
renamed_alike f g same (FromGpr wide d s) h = ap (λ k. FromGpr wide k s) (same d h.0)
renamed_alike f g same (ToGpr wide d s) h = ap (ToGpr wide d) (same s h.1)
renamed_alike f g same _ h = refl
