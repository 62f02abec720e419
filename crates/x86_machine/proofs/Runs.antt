-- A run, one step after the other.
use Rattle.std.proofs.Common.{◌≡◌, ℕ, ◌+◌, ◌<◌, ◌≤◌, Option, List, [], ◌∷◌, ◌++◌, refl, sym, ap, ◌∙◌, subst, length-append}
use Rattle.x86_ins.specs.declared.ins.Ins.{Ins}
use Rattle.x86_ins.specs.declared.state.Trap.{Trap}
use Rattle.x86_ins.specs.Machine.{Point}
use Rattle.x86_ins.specs.Way.{Placed, Step, Stuck, Moment, Way, Each, IsOver, Unfinished, Returned, Trapped, Exhausted}
use Rattle.x86_machine.specs.declared.machine.Machine.{Machine}
use Rattle.x86_machine.specs.declared.fetching.Fetched.{Fetched}
use Rattle.x86_machine.specs.Fetching.{AreFetched}
use Rattle.x86_machine.specs.Ends.{code_of, point, stop_of, SameCode}

-- ---- ways

abbrev moment : Point → Ins → Moment
moment s i = record { point = s; ins = i }

way_more : (code : Placed) (s : Point) (way : List Moment) (t : Point) (i : Ins) (u : Point) → Way code s way t → Step code t i u → Way code s (way ++ moment t i ∷ []) u
way_more code s [] t i u e h = (sym e, u, subst (λ x. Step code x i u) (sym e) h, refl)
way_more code s (m ∷ ms) t i u w h = (w.0, w.1, w.2, way_more code w.1 ms t i u w.3 h)

each_more : {A : Type 0} (P : A → Type 0) (xs : List A) (x : A) → Each P xs → P x → Each P (xs ++ x ∷ [])
each_more P [] x h p = (p, tt)
each_more P (y ∷ ys) x h p = (h.0, each_more P ys x h.1 p)

-- ---- machines

-- so many steps lead from one machine to another, with the same code, and none of the points before is over
pub record Reached (m n : Machine) (k : ℕ) : Type 0 where
  pub runs : Unfinished (code_of m) (stop_of m) (point m) k (point n)
  pub same : SameCode m n

pub no_steps : (m : Machine) → Reached m m 0
no_steps m = record { runs = record { way = []; runs = refl; steps = refl; not_before = tt }; same = record { code = refl; stop = refl } }

pub goes_on : (m n o : Machine) (k : ℕ) (i : Ins) → Reached m n k → (IsOver (stop_of n) (point n) → ⊥) → Step (code_of n) (point n) i (point o) → SameCode n o → Reached m o (k + 1)
goes_on m n o k i r over h same =
    let step : Step (code_of m) (point n) i (point o) = subst (λ code. Step code (point n) i (point o)) r.same.code h in
    let still : IsOver (stop_of m) (point n) → ⊥ = subst (λ stop. IsOver stop (point n) → ⊥) r.same.stop over in
    let way = r.runs.way in
    let next = moment (point n) i in
    record {
      runs = record {
        way = way ++ next ∷ [];
        runs = way_more (code_of m) (point m) way (point n) i (point o) r.runs.runs step;
        steps = length-append way (next ∷ []) ∙ ap (λ x. x + 1) r.runs.steps;
        not_before = each_more (λ x. IsOver (stop_of m) x.point → ⊥) way next r.runs.not_before still;
      };
      same = record { code = same.code ∙ r.same.code; stop = same.stop ∙ r.same.stop };
    }

pub is_back : (m n : Machine) (budget k : ℕ) → Reached m n k → IsOver (stop_of n) (point n) → k ≤ budget → Returned (code_of m) (stop_of m) budget (point m) k (point n)
is_back m n budget k r over l = (r.runs, subst (λ stop. IsOver stop (point n)) r.same.stop over, l)

pub is_stuck : (m n o : Machine) (budget k : ℕ) (trap : Trap) → Reached m n k → (IsOver (stop_of n) (point n) → ⊥) → Stuck (code_of n) (point n) trap → point o ≡ point n → k < budget
    → Trapped (code_of m) (stop_of m) budget (point m) k (point o) trap
is_stuck m n o budget k trap r over stuck e l =
    let here : Trapped (code_of m) (stop_of m) budget (point m) k (point n) trap =
    (r.runs, subst (λ stop. IsOver stop (point n) → ⊥) r.same.stop over, subst (λ code. Stuck code (point n) trap) r.same.code stuck, l) in
    subst (λ t. Trapped (code_of m) (stop_of m) budget (point m) k t trap) (sym e) here

pub is_spent : (m n : Machine) (budget k : ℕ) → Reached m n k → (IsOver (stop_of n) (point n) → ⊥) → k ≡ budget → Exhausted (code_of m) (stop_of m) budget (point m) (point n)
is_spent m n budget k r over e =
    (subst (λ j. Unfinished (code_of m) (stop_of m) (point m) j (point n)) e r.runs, subst (λ stop. IsOver stop (point n) → ⊥) r.same.stop over)

-- the same with a table of the code's instructions
pub record Going (m n : Machine) (k : ℕ) (table : List (Option Fetched)) : Type 0 where
  pub reached : Reached m n k
  pub fetched : AreFetched n.code table
