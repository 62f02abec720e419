-- The lines that clear the sums and those that store them.
use Rattle.std.proofs.Common.{◌≡◌, ◌≢◌, ℕ, zero, suc, ◌+◌, ◌<◌, ◌≤◌, ◌⊎◌, inl, inr, Bool, true, false, List, [], ◌∷◌, ◌++◌, length, map, Option, Some, Result, Ok, refl, sym, ap, ap₂, ◌∙◌, subst, arith, true≢false}
use Rattle.std.proofs.lemmas.Bool.{cases_eq}
use Rattle.std.proofs.lemmas.List.Sums.{count_by_more_yes, count_by_more_no}
use Rattle.orc_bits.specs.Memory.{Memory, bind}
use Rattle.orc_bits.specs.Lanes.{change}
use Rattle.orc_bits.proofs.Memories.{Bytewide}
use Rattle.orc_program.specs.declared.program.VarKind.{VarKind}
use Rattle.orc_program.specs.declared.program.VarKind.TheVariants as kind
use Rattle.orc_program.specs.Program.{FunctionValue, var_at, no_var, is_of, same_kind, count_of, count_before}
use Rattle.orc_program.specs.Meaning as emulation
use Rattle.orc_program.specs.Meaning.{State}
use Rattle.orc_emul.proofs.Functions.{before_all, places_before, place_more, place_same}
use Rattle.c_run.specs.Meaning as meaning
use Rattle.c_run.specs.Meaning.{CState, Stop, times, clear, finish}
use Rattle.c_emit.proofs.Doing.{counting, with_w}
use Rattle.c_emit.proofs.Agree.{Agrees, change_same, change_other}
use Rattle.c_emit.proofs.Loops.{Steps, steps_both, steps_same, steps_one, none}

-- ---- before the rows

-- the state after so many lines that clear
abbrev pub cleared : CState → ℕ → CState
cleared s zero = s
cleared s (suc n) = counting (with_w (cleared s n) n 0)

pub clears : (n : ℕ) (s : CState) → Steps (λ budget. times n (clear budget)) n s (cleared s n)
clears zero s = record { runs = λ budget l. refl; done = omega arith }
clears (suc n) s = steps_same (suc n) (let e : n + 1 ≡ suc n = omega arith in e) (steps_both (clears n s) (steps_one (λ s. Some (record s { w = change s.w n (Some 0) })) (cleared s n) (with_w (cleared s n) n 0) refl refl))

cleared_memory : (n : ℕ) (s : CState) → (cleared s n).memory ≡ s.memory
cleared_memory zero s = refl
cleared_memory (suc n) s = cleared_memory n s

cleared_g : (n : ℕ) (s : CState) → (cleared s n).g ≡ s.g
cleared_g zero s = refl
cleared_g (suc n) s = cleared_g n s

cleared_w : (n k : ℕ) (s : CState) → k < n → (cleared s n).w k ≡ Some 0
cleared_w zero k s l = absurd (omega (arith, l))
cleared_w (suc n) k s l = go (cases_eq k n) (cleared_w n k s)
  where
    go : (k ≡ n) ⊎ (k ≢ n) → (k < n → (cleared s n).w k ≡ Some 0) → change (cleared s n).w n (Some 0) k ≡ Some 0
    go (inl e) r = ap (change (cleared s n).w n (Some 0)) e ∙ change_same (cleared s n).w n (Some 0)
    go (inr ne) r = change_other (cleared s n).w n k (Some 0) ne ∙ r (omega (arith, l, ne))

-- both begin alike
pub agree_first : (f : FunctionValue) (mem : Memory) → Bytewide mem → Agrees f none (cleared (meaning.start mem) (count_of kind.Accumulator f.vars)) (emulation.start mem)
agree_first f mem wide = record {
  memory = cleared_memory (count_of kind.Accumulator f.vars) (meaning.start mem);
  bytes = wide;
  temps = λ p l k m. absurd (true≢false (sym m));
  sums = λ p l k. (cleared_w (count_of kind.Accumulator f.vars) (count_before kind.Accumulator f.vars p) (meaning.start mem) (before_all kind.Accumulator f.vars p l (ap (same_kind kind.Accumulator) k)), omega arith);
  g = cleared_g (count_of kind.Accumulator f.vars) (meaning.start mem);
}

-- ---- after the rows

-- the state after the sums at places below n are stored, and so many more statements
abbrev pub stored : FunctionValue → CState → State → ℕ → CState
stored f s e n = record s { g = map e.sums (places_before kind.Accumulator f.vars n); done = s.done + count_before kind.Accumulator f.vars n }

abbrev finishes : ℕ → CState → CState → Type 0
finishes n s t = Steps (λ budget. times n (finish budget)) n s t

pub stores_sums : (f : FunctionValue) (s : CState) (e : State) → Agrees f none s e → (n : ℕ) → n ≤ length f.vars → Steps (λ budget. times (count_before kind.Accumulator f.vars n) (finish budget)) (count_before kind.Accumulator f.vars n) s (stored f s e n)
stores_sums f s e g zero l = record { runs = λ budget l. ap₂ (λ (g : List ℕ) n. let r : Result CState Stop = Ok (record s { g = g; done = n }) in r) g.g (let q : s.done ≡ s.done + 0 = omega arith in q); done = refl }
stores_sums f s e g (suc n) l = go (is_of kind.Accumulator (var_at f.vars n)) refl (stores_sums f s e g n (omega (arith, l)))
  where
    kind_is : (k : VarKind) → same_kind kind.Accumulator k ≡ true → k ≡ kind.Accumulator
    kind_is kind.Accumulator h = refl
    kind_is k h = absurd (true≢false (sym h))

    next : n + 1 ≡ suc n
    next = omega arith

    at : (g : List ℕ) (m k : ℕ) (d : ℕ) (h : List ℕ) → m ≡ k → s.done + m ≡ d → g ≡ h → finishes m s (record s { g = g; done = s.done + m }) → finishes k s (record s { g = h; done = s.done + k })
    at g m k d h e q p steps = subst (λ k. finishes k s (record s { g = h; done = s.done + k })) e (subst (λ (g : List ℕ). finishes m s (record s { g = g; done = s.done + m })) p steps)

    go : (b : Bool) → is_of kind.Accumulator (var_at f.vars n) ≡ b → finishes (count_before kind.Accumulator f.vars n) s (stored f s e n) → finishes (count_before kind.Accumulator f.vars (suc n)) s (stored f s e (suc n))
    go true q r =
        let k : ℕ = count_before kind.Accumulator f.vars n in
        let m : count_before kind.Accumulator f.vars (n + 1) ≡ k + 1 = count_by_more_yes (is_of kind.Accumulator) f.vars n no_var (omega (arith, l)) q in
        let sum = (g.sums n (omega (arith, l)) (kind_is (var_at f.vars n).kind q)).0 in
        let t : CState = stored f s e n in
        let more : List ℕ = map e.sums (places_before kind.Accumulator f.vars n) ++ e.sums n ∷ [] in
        let one = steps_one (λ s. bind (s.w k) (λ x. Some (record s { g = s.g ++ x ∷ [] }))) t (record t { g = more }) (ap (λ (o : Option ℕ). bind o (λ x. Some (record t { g = t.g ++ x ∷ [] }))) sum) refl in
        let both : Steps (λ budget. times (suc k) (finish budget)) (k + 1) s (counting (record t { g = more })) = steps_both r one in
        let whole : finishes (suc k) s (record s { g = more; done = s.done + k + 1 }) = steps_same (suc k) (let z : k + 1 ≡ suc k = omega arith in z) both in
        let done : finishes (suc k) s (record s { g = more; done = s.done + suc k }) = subst (λ d. finishes (suc k) s (record s { g = more; done = d })) (let z : s.done + k + 1 ≡ s.done + suc k = omega arith in z) whole in
        let end : suc k ≡ count_before kind.Accumulator f.vars (suc n) = (let z : suc k ≡ k + 1 = omega arith in z) ∙ sym m ∙ ap (count_before kind.Accumulator f.vars) next in
        at more (suc k) (count_before kind.Accumulator f.vars (suc n)) (s.done + suc k) (map e.sums (places_before kind.Accumulator f.vars (suc n))) end refl
        (place_more kind.Accumulator f.vars n e.sums (map e.sums (places_before kind.Accumulator f.vars n)) q refl ∙ ap (λ n. map e.sums (places_before kind.Accumulator f.vars n)) next) done
    go false q r =
        let k : ℕ = count_before kind.Accumulator f.vars n in
        let m : count_before kind.Accumulator f.vars (n + 1) ≡ k = count_by_more_no (is_of kind.Accumulator) f.vars n no_var (omega (arith, l)) q in
        at (map e.sums (places_before kind.Accumulator f.vars n)) k (count_before kind.Accumulator f.vars (suc n)) (s.done + k) (map e.sums (places_before kind.Accumulator f.vars (suc n))) (sym m ∙ ap (count_before kind.Accumulator f.vars) next) refl
        (ap (map e.sums) (place_same kind.Accumulator f.vars n q ∙ ap (places_before kind.Accumulator f.vars) next)) r
