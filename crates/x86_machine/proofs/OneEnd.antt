-- A run has one end.
use Rattle.std.proofs.Common.{◌≡◌, ℕ, suc, ◌+◌, ◌-◌, ◌%◌, ◌^◌, ◌≤◌, List, [], ◌∷◌, length, drop, Result, Ok, Err, refl, sym, ap, ap₂, ◌∙◌, subst, arith, inl, inr}
use Rattle.x86_ins.specs.declared.ins.Ins.{Ins}
use Rattle.x86_ins.specs.declared.state.Trap.{Trap}
use Rattle.x86_ins.specs.Machine.{Point, effect}
use Rattle.x86_ins.specs.Way.{Placed, Step, Stuck, Traps, Moment, Way, Each, Stop, IsOver, Returned, Trapped, Exhausted, told}
use Rattle.x86_decode.proofs.Unique.{one_decoding}
use Rattle.x86_flow.proofs.Unique.{step_one, way_one}
use Rattle.x86_flow.proofs.Ends.{Halts, not_stuck, halt_one, not_both}
use Rattle.x86_machine.specs.declared.machine.End.TheVariants as ends
use Rattle.x86_machine.specs.Ends.{OneEnd}

-- ---- the reason is one

cause_or : {A : Type 0} → Trap → Result A Trap → Trap
cause_or d (Ok x) = d
cause_or d (Err e) = e

cause_one : {A : Type 0} (r : Result A Trap) (x y : Trap) → r ≡ Err x → r ≡ Err y → x ≡ y
unfolding cause_or
cause_one r x y e f = ap (cause_or x) (sym e ∙ f)

traps_one : (code : Placed) (s : Point) (x y : Trap) → Traps code s x → Traps code s y → x ≡ y
traps_one code s x y a b =
    let same = one_decoding (drop (s.rip - code.start) code.bytes) a.ins b.ins a.size b.size a.decoded b.decoded in
    let there : effect a.ins s.core ((s.rip + a.size) % 2 ^ 64) ≡ Err b.cause = ap₂ (λ i n. effect i s.core ((s.rip + n) % 2 ^ 64)) same.0 same.1 ∙ b.traps in
    let cause : a.cause ≡ b.cause = cause_one (effect a.ins s.core ((s.rip + a.size) % 2 ^ 64)) a.cause b.cause a.traps there in
    a.is ∙ ap (λ c. told c.at c.why s.rip) cause ∙ sym b.is

pub stuck_one : (code : Placed) (s : Point) (x y : Trap) → Stuck code s x → Stuck code s y → x ≡ y
stuck_one code s x y (inl a) (inl b) = a.1 ∙ sym b.1
stuck_one code s x y (inl a) (inr (inl b)) = absurd (a.0 b.0)
stuck_one code s x y (inl a) (inr (inr b)) = absurd (a.0 b.inside)
stuck_one code s x y (inr (inl a)) (inl b) = absurd (b.0 a.0)
stuck_one code s x y (inr (inl a)) (inr (inl b)) = a.2 ∙ sym b.2
stuck_one code s x y (inr (inl a)) (inr (inr b)) = absurd (a.1 b.ins b.size b.decoded)
stuck_one code s x y (inr (inr a)) (inl b) = absurd (b.0 a.inside)
stuck_one code s x y (inr (inr a)) (inr (inl b)) = absurd (b.1 a.ins a.size a.decoded)
stuck_one code s x y (inr (inr a)) (inr (inr b)) = traps_one code s x y a b

-- ---- a way that is as long as one that ends where the run halts

halts_no_more : (code : Placed) (stop : Stop) (p q : Point) (i : Ins) → Halts one_decoding code stop p → (IsOver stop p → ⊥) → Step code p i q → ⊥
halts_no_more code stop p q i (inl h) n a = n h
halts_no_more code stop p q i (inr h) n a = not_stuck one_decoding code p q i h.0 a h.1

longer : (code : Placed) (stop : Stop) (s t u : Point) (ws vs : List Moment) → Way code s ws t → Way code s vs u → Each (λ m. IsOver stop m.point → ⊥) vs → Halts one_decoding code stop t → length ws ≤ length vs → (length ws ≡ length vs) × (t ≡ u)
longer code stop s t u [] [] a b m h l = (refl, sym a ∙ b)
longer code stop s t u [] (v ∷ vs) a b m h l =
    absurd (halts_no_more code stop s b.1 v.ins (subst (Halts one_decoding code stop) (sym a) h) (subst (λ p. IsOver stop p → ⊥) b.0 m.0) b.2)
longer code stop s t u (w ∷ ws) [] a b m h l = absurd (omega (arith, l))
longer code stop s t u (w ∷ ws) (v ∷ vs) a b m h l =
    let first = step_one one_decoding code s a.1 b.1 w.ins v.ins a.2 b.2 in
    let rest = longer code stop a.1 t u ws vs a.3 (subst (λ x. Way code x vs u) (sym first.1) b.3) m.1 h (omega (arith, l)) in
    (ap suc rest.0, rest.1)

-- ---- each two ends

spent_not_back : (code : Placed) (stop : Stop) (budget : ℕ) (s : Point) (k : ℕ) (t u : Point) → Returned code stop budget s k t → Exhausted code stop budget s u → ⊥
spent_not_back code stop budget s k t u a b =
    let e = longer code stop s t u a.0.way b.0.way a.0.runs b.0.runs b.0.not_before (inl a.1) (omega (arith, a.0.steps, b.0.steps, a.2)) in
    b.1 (subst (IsOver stop) e.1 a.1)

spent_not_stuck : (code : Placed) (stop : Stop) (budget : ℕ) (s : Point) (k : ℕ) (t u : Point) (trap : Trap) → Trapped code stop budget s k t trap → Exhausted code stop budget s u → ⊥
spent_not_stuck code stop budget s k t u trap a b =
    let e = longer code stop s t u a.0.way b.0.way a.0.runs b.0.runs b.0.not_before (inr (trap, a.2)) (omega (arith, a.0.steps, b.0.steps, a.3)) in
    omega (arith, e.0, a.0.steps, b.0.steps, a.3)

pub one_end : OneEnd
one_end code stop budget s (ends.Returned k) (ends.Returned j) t u a b =
    let e = halt_one one_decoding code stop s t u a.0.way b.0.way a.0.runs b.0.runs a.0.not_before b.0.not_before (inl a.1) (inl b.1) in
    (ap ends.Returned (sym a.0.steps ∙ e.0 ∙ b.0.steps), e.1)
one_end code stop budget s (ends.Returned k) (ends.Trapped j y) t u a b = absurd (not_both one_decoding code stop budget s k j t u y a b)
one_end code stop budget s (ends.Returned k) ends.Budget t u a b = absurd (spent_not_back code stop budget s k t u a b)
one_end code stop budget s (ends.Trapped k x) (ends.Returned j) t u a b = absurd (not_both one_decoding code stop budget s j k u t x b a)
one_end code stop budget s (ends.Trapped k x) (ends.Trapped j y) t u a b =
    let e = halt_one one_decoding code stop s t u a.0.way b.0.way a.0.runs b.0.runs a.0.not_before b.0.not_before (inr (x, a.2)) (inr (y, b.2)) in
    let trap : x ≡ y = stuck_one code u x y (subst (λ p. Stuck code p x) e.1 a.2) b.2 in
    (ap₂ ends.Trapped (sym a.0.steps ∙ e.0 ∙ b.0.steps) trap, e.1)
one_end code stop budget s (ends.Trapped k x) ends.Budget t u a b = absurd (spent_not_stuck code stop budget s k t u x a b)
one_end code stop budget s ends.Budget (ends.Returned j) t u a b = absurd (spent_not_back code stop budget s j u t b a)
one_end code stop budget s ends.Budget (ends.Trapped j y) t u a b = absurd (spent_not_stuck code stop budget s j u t y b a)
one_end code stop budget s ends.Budget ends.Budget t u a b =
    (refl, (way_one one_decoding code s t u a.0.way b.0.way (a.0.steps ∙ sym b.0.steps) a.0.runs b.0.runs).1)
