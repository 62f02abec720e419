-- The lists around the loops of a row, built one instruction after another.
use Rattle.std.proofs.Common.{◌≡◌, ℕ, zero, suc, ◌<◌, ◌≤◌, pos, List, [], ◌∷◌, ◌++◌, sym, ap, ◌∙◌, arith, subst, refl, All, IsTrue, true, nat_lt}
use Rattle.x86_ins.specs.declared.ins.AluOp.TheVariants.{Add, Sub, And}
use Rattle.x86_ins.specs.declared.ins.ShiftOp.TheVariants.{Shr}
use Rattle.x86_ins.specs.declared.ins.Ins.{Ins}
use Rattle.x86_ins.specs.declared.ins.Ins.TheVariants.{MovImm, Alu, AluImm, Shift}
use Rattle.x86_ins.specs.declared.ins.Cond.TheVariants.{E, Ns}
use Rattle.x86_ins.specs.Spelling.{has_spelling}
use Rattle.x86_ins.specs.Way.{Each}
use Rattle.x86_flow.specs.declared.tree.Flow.{Flow}
use Rattle.x86_flow.specs.Flow.{Plain, flat, choice_code}
use Rattle.x86_flow.specs.Tree.{flat_of}
use Rattle.orc_region.specs.Regions.{TurnParts, never, gap_code, gap_flow, low_bits_code, behind_code, enter_head_code, leave_head_code, parts_flow, aligned_row, whole_row, plain_row, tested_row}

three : (a b c d : List Ins) (i j k : Ins) → a ≡ [] → b ≡ a ++ i ∷ [] → c ≡ b ++ j ∷ [] → d ≡ c ++ k ∷ [] → d ≡ i ∷ j ∷ k ∷ []
three a b c d i j k n p q r = r ∙ ap (λ l. l ++ k ∷ []) (q ∙ ap (λ l. l ++ j ∷ []) (p ∙ ap (λ l. l ++ i ∷ []) n))

pub gap_zero : (a b c d : List Ins) (k : ℕ) → k ≤ 0 → a ≡ [] → b ≡ a ++ MovImm 0 0 ∷ [] → c ≡ b ++ Alu Sub 0 2 ∷ [] → d ≡ c ++ AluImm And 0 (pos 15) ∷ [] → d ≡ gap_code k
gap_zero a b c d zero l n p q r = three a b c d (MovImm 0 0) (Alu Sub 0 2) (AluImm And 0 (pos 15)) n p q r
gap_zero a b c d (suc k) l n p q r = absurd (omega (arith, l))

pub gap_more : (a b c d e : List Ins) (k : ℕ) → 0 < k → a ≡ [] → b ≡ a ++ MovImm 0 0 ∷ [] → c ≡ b ++ Alu Sub 0 2 ∷ [] → d ≡ c ++ AluImm And 0 (pos 15) ∷ [] → e ≡ d ++ Shift Shr 0 k ∷ [] → e ≡ gap_code k
gap_more a b c d e zero l n p q r s = absurd (omega (arith, l))
gap_more a b c d e (suc k) l n p q r s = s ∙ ap (λ x. x ++ Shift Shr 0 (suc k) ∷ []) (three a b c d (MovImm 0 0) (Alu Sub 0 2) (AluImm And 0 (pos 15)) n p q r)

-- ---- spellings

abbrev AreSpelled : List Ins → Type 0
AreSpelled is = All (λ i. IsTrue (has_spelling i)) is

spelled_each : (is : List Ins) → Each (λ i. has_spelling i ≡ true) is → AreSpelled is
spelled_each [] h k d l = absurd (omega (arith, l))
spelled_each (i ∷ is) h zero d l = h.0
spelled_each (i ∷ is) h (suc k) d l = spelled_each is h.1 k d (omega (arith, l))

gap_each : (k : ℕ) → k ≤ 3 → Each (λ i. has_spelling i ≡ true) (gap_code k)
gap_each zero l = (refl, (refl, (refl, tt)))
gap_each (suc k) l = (refl, (refl, (refl, (lt_yes (suc k) 64 (omega (arith, l)), tt))))
  where
    lt_yes : (a b : ℕ) → a < b → nat_lt a b ≡ true
    lt_yes a b h = grind (arith)

pub spelled_gap : (list : List Ins) (k : ℕ) → k ≤ 3 → list ≡ gap_code k → All (λ i. IsTrue (has_spelling i)) list
spelled_gap list k l e = subst AreSpelled (sym e) (spelled_each (gap_code k) (gap_each k l))

pub spelled_low_bits : (list : List Ins) (k : ℕ) → list ≡ low_bits_code k → All (λ i. IsTrue (has_spelling i)) list
spelled_low_bits list k e = subst AreSpelled (sym e) (spelled_each (low_bits_code k) (refl, (refl, tt)))

pub spelled_behind : (list : List Ins) (n : ℕ) → list ≡ behind_code n → All (λ i. IsTrue (has_spelling i)) list
spelled_behind list n e = subst AreSpelled (sym e) (spelled_each (behind_code n) (refl, (refl, tt)))

pub spelled_enter : (list : List Ins) (n : ℕ) → list ≡ enter_head_code n → All (λ i. IsTrue (has_spelling i)) list
spelled_enter list n e = subst AreSpelled (sym e) (spelled_each (enter_head_code n) (refl, (refl, (refl, tt))))

pub spelled_leave : (list : List Ins) → list ≡ leave_head_code → All (λ i. IsTrue (has_spelling i)) list
spelled_leave list e = subst AreSpelled (sym e) (spelled_each leave_head_code (refl, (refl, tt)))

pub spelled_one : (list : List Ins) (i : Ins) → list ≡ i ∷ [] → has_spelling i ≡ true → All (λ i. IsTrue (has_spelling i)) list
spelled_one list i e h = subst AreSpelled (sym e) (spelled_each (i ∷ []) (h, tt))

-- ---- flows

pub gap_alone : (flow : Flow) (list : List Ins) (k : ℕ) → k ≡ 0 → list ≡ gap_code k → flat_of flow ≡ list → flat_of flow ≡ flat (gap_flow k)
gap_alone flow list k z e f = f ∙ e ∙ subst (λ k. gap_code k ≡ flat (gap_flow k)) (sym z) refl

pub gap_either : (flow bits either gap far : Flow) (a b c : List Ins) (k : ℕ) → 0 < k → a ≡ low_bits_code k → b ≡ gap_code k → c ≡ MovImm 0 never ∷ [] → flat_of bits ≡ a → flat_of gap ≡ b → flat_of far ≡ c
    → flat_of either ≡ choice_code E (flat_of gap) (flat_of far) → flat_of flow ≡ flat_of bits ++ flat_of either → flat_of flow ≡ flat (gap_flow k)
gap_either flow bits either gap far a b c zero l p q r x y z e w = absurd (omega (arith, l))
gap_either flow bits either gap far a b c (suc k) l p q r x y z e w =
    w ∙ ap (λ t. t ++ flat_of either) (x ∙ p) ∙ ap (λ t. low_bits_code (suc k) ++ t) (e ∙ ap (λ t. choice_code E t (flat_of far)) (y ∙ q) ∙ ap (λ t. choice_code E (gap_code (suc k)) t) (z ∙ r))

pub tested_whole : (flow bits yes_way no_way either wide aligned : Flow) (list : List Ins) (lanes : ℕ) → list ≡ low_bits_code 4 → flat_of bits ≡ list
    → flat_of yes_way ≡ flat (whole_row lanes (Plain (flat_of aligned)))
    → flat_of no_way ≡ flat (whole_row lanes (Plain (flat_of wide)))
    → flat_of either ≡ choice_code E (flat_of yes_way) (flat_of no_way)
    → flat_of flow ≡ flat_of bits ++ flat_of either
    → flat_of flow ≡ flat (tested_row lanes (Plain (flat_of wide)) (Plain (flat_of aligned)))
tested_whole flow bits yes_way no_way either wide aligned list lanes n b y o e f =
    let one = flat (whole_row lanes (Plain (flat_of aligned))) in
    let ways : flat_of either ≡ choice_code E one (flat (whole_row lanes (Plain (flat_of wide)))) = e ∙ ap (λ t. choice_code E t (flat_of no_way)) y ∙ ap (λ t. choice_code E one t) o in
    f ∙ ap (λ x. x ++ flat_of either) (b ∙ n) ∙ ap (λ x. low_bits_code 4 ++ x) ways

pub aligned_whole : (flow gap behind yes_way no_way either turns counted wide aligned head tail : Flow) (counts : List Ins) (k lanes : ℕ) → flat_of head ≡ flat_of tail → counts ≡ behind_code lanes → flat_of behind ≡ counts
    → flat_of gap ≡ flat (gap_flow k)
    → flat_of yes_way ≡ enter_head_code lanes ++ (flat_of head ++ (leave_head_code ++ flat_of aligned))
    → flat_of no_way ≡ Alu Add 1 0 ∷ flat_of wide
    → flat_of either ≡ choice_code Ns (flat_of yes_way) (flat_of no_way)
    → flat_of turns ≡ flat_of either ++ flat_of tail
    → flat_of counted ≡ flat_of behind ++ flat_of turns
    → flat_of flow ≡ flat_of gap ++ flat_of counted
    → (parts : TurnParts) → flat_of tail ≡ flat (parts_flow lanes parts)
    → flat_of flow ≡ flat (aligned_row k lanes parts (Plain (flat_of wide)) (Plain (flat_of aligned)))
aligned_whole flow gap behind yes_way no_way either turns counted wide aligned head tail counts k lanes s n b g y o e t c f parts p =
    let rest = flat (parts_flow lanes parts) in
    let one = enter_head_code lanes ++ (rest ++ (leave_head_code ++ flat_of aligned)) in
    let two = Alu Add 1 0 ∷ flat_of wide in
    let yes : flat_of yes_way ≡ one = y ∙ ap (λ x. enter_head_code lanes ++ (x ++ (leave_head_code ++ flat_of aligned))) (s ∙ p) in
    let ways : flat_of either ≡ choice_code Ns one two = e ∙ ap (λ t. choice_code Ns t (flat_of no_way)) yes ∙ ap (λ t. choice_code Ns one t) o in
    let body : flat_of turns ≡ choice_code Ns one two ++ rest = t ∙ ap (λ x. x ++ flat_of tail) ways ∙ ap (λ x. choice_code Ns one two ++ x) p in
    let all : flat_of counted ≡ behind_code lanes ++ (choice_code Ns one two ++ rest) = c ∙ ap (λ x. x ++ flat_of turns) (b ∙ n) ∙ ap (λ x. behind_code lanes ++ x) body in
    f ∙ ap (λ x. x ++ flat_of counted) g ∙ ap (λ x. flat (gap_flow k) ++ x) all

-- whole turns from the first element on, and parts of one
pub plain_whole : (flow turns wide tail : Flow) (lanes : ℕ) → flat_of turns ≡ flat (whole_row lanes (Plain (flat_of wide))) → flat_of flow ≡ flat_of turns ++ flat_of tail
    → (parts : TurnParts) → flat_of tail ≡ flat (parts_flow lanes parts) → flat_of flow ≡ flat (plain_row lanes parts (Plain (flat_of wide)))
plain_whole flow turns wide tail lanes t f parts p = f ∙ ap (λ x. x ++ flat_of tail) t ∙ ap (λ x. flat (whole_row lanes (Plain (flat_of wide))) ++ x) p
