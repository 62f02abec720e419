-- Lists that grow by one list.
use Rattle.std.proofs.Common.{◌≡◌, ℕ, zero, suc, ◌+◌, ◌<◌, ℤ, pos, length, get_or, refl, List, [], ◌∷◌, ◌++◌, sym, ap, ap₂, ◌∙◌, arith, append-nil, append_assoc}
use Rattle.x86_ins.specs.declared.ins.Ins.{Ins}
use Rattle.x86_ins.specs.declared.ins.Addr.{Addr}
use Rattle.x86_ins.specs.declared.ins.Ins.TheVariants.{Store, Load}
use Rattle.orc_frame.specs.declared.frame.Layout.{Layout}
use Rattle.orc_program.specs.declared.program.Pattern.{Pattern}
use Rattle.orc_frame.specs.Frame.{saved, no_pattern, pattern_at}
use Rattle.orc_frame.specs.Code.{joined, nth, slot, save_code, restore_code, fill_code, pattern_code, IsWhole}

pub joined_none : (base : List Ins) (code : ℕ → List Ins) → base ≡ base ++ joined code 0
joined_none base code = sym (append-nil base)

pub joined_more : (base c d x : List Ins) (code : ℕ → List Ins) (n : ℕ) → c ≡ base ++ joined code n → d ≡ c ++ x → x ≡ code n → d ≡ base ++ joined code (n + 1)
joined_more base c d x code n p q e =
    q ∙ ap₂ (λ a b. a ++ b) p e ∙ append_assoc base (joined code n) (code n) ∙ ap (λ k. base ++ joined code k) (let z : suc n ≡ n + 1 = omega arith in z)

pub saves_more : (base c d : List Ins) (l : Layout) (n r : ℕ) (a : Addr) → c ≡ base ++ joined (save_code l) n → d ≡ c ++ Store r a ∷ [] → r ≡ saved n → a ≡ slot (nth l.saved_at n) → d ≡ base ++ joined (save_code l) (n + 1)
saves_more base c d l n r a p q e g = joined_more base c d (Store r a ∷ []) (save_code l) n p q (ap₂ (λ x y. Store x y ∷ []) e g)

pub restores_more : (base c d : List Ins) (l : Layout) (n r : ℕ) (a : Addr) → c ≡ base ++ joined (restore_code l) n → d ≡ c ++ Load r a ∷ [] → r ≡ saved n → a ≡ slot (nth l.saved_at n) → d ≡ base ++ joined (restore_code l) (n + 1)
restores_more base c d l n r a p q e g = joined_more base c d (Load r a ∷ []) (restore_code l) n p q (ap₂ (λ x y. Load x y ∷ []) e g)

get_or_any : {A : Type 0} (xs : List A) (n : ℕ) (a b : A) → n < length xs → get_or xs n a ≡ get_or xs n b
get_or_any [] n a b l = absurd (omega (arith, l))
get_or_any (x ∷ xs) zero a b l = refl
get_or_any (x ∷ xs) (suc n) a b l = get_or_any xs n a b (omega (arith, l))

pub patterns_more : (base c d : List Ins) (l : Layout) (n : ℕ) (none : Pattern) (far z : ℤ) (params : List ℕ) (patterns : List Pattern) (at : List ℤ) → IsWhole l → n < length l.patterns.items → c ≡ base ++ joined (pattern_code l) n
    → d ≡ c ++ fill_code params (get_or patterns n none).way (get_or patterns n none).number z → params ≡ l.params.items → patterns ≡ l.patterns.items → at ≡ l.pattern_at.items → z ≡ get_or at n far → d ≡ base ++ joined (pattern_code l) (n + 1)
patterns_more base c d l n none far z params patterns at whole h p q e f g i =
    joined_more base c d (fill_code params (get_or patterns n none).way (get_or patterns n none).number z) (pattern_code l) n p q
    (ap₂ (λ (x : Pattern) y. fill_code params x.way x.number y)
    (ap (λ xs. get_or xs n none) f ∙ get_or_any l.patterns.items n none no_pattern h)
    (i ∙ ap (λ xs. get_or xs n far) g ∙ get_or_any l.pattern_at.items n far (pos 0) (omega (arith, h, whole.patterns)))
    ∙ ap (λ ps. fill_code ps (pattern_at l n).way (pattern_at l n).number (nth l.pattern_at.items n)) e)
