-- States as the code has them, and early ends of repeated steps.
use Rattle.std.proofs.Common.{◌≡◌, ◌≢◌, ℕ, zero, suc, ◌<◌, ◌≤◌, ◌==◌, ◌&&◌, ◌⊎◌, inl, inr, true, nat_le, if◌then◌else◌, List, length, get_or, set, replicate, Option, None, Result, Ok, Err, refl, sym, ap, ◌∙◌, arith, get_or-set_same, get_or-set_other}
use Rattle.std.specs.List.{list_all}
use Rattle.std.proofs.lemmas.Bool.{cases_eq}
use Rattle.std.proofs.lemmas.Bool.Decides.{nat_tests}
use Rattle.orc_bits.specs.Lanes.{change}
use Rattle.orc_bits.proofs.LaneLaws.{eq_false, eq_true}
use Rattle.orc_program.proofs.Sizes.{both}
use Rattle.orc_program.specs.Words.{is_name}
use Rattle.c_run.specs.Tree.{CFunctionValue, is_c_function, is_stmt}
use Rattle.c_run.specs.Meaning.{CState, Stop, go_on, times}

-- ---- what functions keep

pub accs_few : (f : CFunctionValue) → is_c_function f ≡ true → f.accs ≤ 4
unfolding is_c_function
accs_few f h =
    let a = both (is_name f.name) (nat_le f.arrays 12 && (nat_le f.params 8 && (nat_le f.accs 4 && (nat_le f.temps 256 && list_all is_stmt f.body)))) h in
    let b = both (nat_le f.arrays 12) (nat_le f.params 8 && (nat_le f.accs 4 && (nat_le f.temps 256 && list_all is_stmt f.body))) a.1 in
    let c = both (nat_le f.params 8) (nat_le f.accs 4 && (nat_le f.temps 256 && list_all is_stmt f.body)) b.1 in
    let d = both (nat_le f.accs 4) (nat_le f.temps 256 && list_all is_stmt f.body) c.1 in
    grind (arith, nat_tests, d.0)

-- ---- variables that are set

set_at : (xs : List (Option ℕ)) (p : ℕ) (v : Option ℕ) (x : ℕ) → p < length xs → get_or (set xs p v) x None ≡ change (λ i. get_or xs i None) p v x
set_at xs p v x l = go (cases_eq x p)
  where
    go : (x ≡ p) ⊎ (x ≢ p) → get_or (set xs p v) x None ≡ (if x == p then v else get_or xs x None)
    go (inl e) = ap (λ i. get_or (set xs p v) i None) e ∙ get_or-set_same xs p v None l ∙ sym (ap (λ i. if i == p then v else get_or xs i None) e ∙ ap (λ t. if t then v else get_or xs p None) (eq_true p))
    go (inr ne) = get_or-set_other xs p x v None ne ∙ sym (ap (λ t. if t then v else get_or xs x None) (eq_false x p ne))

pub set_change : (xs : List (Option ℕ)) (p : ℕ) (v : Option ℕ) → p < length xs → (λ x. get_or (set xs p v) x None) ≡ change (λ i. get_or xs i None) p v
set_change xs p v l = λ i x. set_at xs p v x l i

nothing : ℕ → Option ℕ
nothing d = None

none_at : (n d : ℕ) → get_or (replicate n None) d None ≡ nothing d
unfolding nothing
none_at zero d = refl
none_at (suc n) zero = refl
none_at (suc n) (suc d) = none_at n d

abbrev blank : ℕ → ℕ → Option ℕ
blank n d = get_or (replicate n None) d None

abbrev unset : ℕ → Option ℕ
unset d = None

pub all_unset : (n : ℕ) → blank n ≡ unset
unfolding nothing
all_unset n = λ i d. none_at n d i

-- ---- early ends

abbrev stop : Stop → Result CState Stop
stop e = Err e

abbrev at : CState → Result CState Stop
at s = Ok s

stays : (go : ℕ → CState → Result CState Stop) (k n : ℕ) (s : CState) (e : Stop) → k ≤ n → times k go s ≡ stop e → times n go s ≡ stop e
stays go k zero s e l h = ap (λ m. times m go s) (let q : 0 ≡ k = omega (arith, l) in q) ∙ h
stays go k (suc n) s e l h = cases (cases_eq k (suc n)) (stays go k n s e)
  where
    cases : (k ≡ suc n) ⊎ (k ≡ suc n → ⊥) → (k ≤ n → times k go s ≡ stop e → times n go s ≡ stop e) → times (suc n) go s ≡ stop e
    cases (inl q) rest = ap (λ m. times m go s) (sym q) ∙ h
    cases (inr ne) rest = ap (λ (x : Result CState Stop). go_on x (go n)) (rest (omega (arith, l, ne)) h)

-- the first step that stops is the end of them all
pub stops : (go : ℕ → CState → Result CState Stop) (k n : ℕ) (s t : CState) (e : Stop) → times k go s ≡ at t → go k t ≡ stop e → k < n → times n go s ≡ stop e
stops go k n s t e a b l = stays go (suc k) n s e l (ap (λ (x : Result CState Stop). go_on x (go k)) a ∙ b)
