-- The function that a job calls, found and then asked for its counts.
use Rattle.std.proofs.Common.{◌≡◌, ℕ, ◌+◌, ◌≤◌, Bool, false, List, [], ◌∷◌, length, drop, get_or, arith, Some, Ok, Err, refl, sym, ap, ◌∙◌}
use Rattle.std.specs.List.{find}
use Rattle.std.specs.Str.{bytes_eq}
use Rattle.orc_program.specs.declared.program.VarKind.TheVariants as kind
use Rattle.orc_program.specs.Program.{FunctionValue, array_count, count_of}
use Rattle.orc_image.specs.Spelling as image
use Rattle.orc_job.specs.declared.error.JobError.{JobError}
use Rattle.orc_job.specs.declared.job.Job.{Job}
use Rattle.orc_job.specs.Limits.{fitting}
use Rattle.orcc_top.specs.Execution.{entry_called}
use Rattle.orcc_top.specs.Jobs.{function_called}

pub called_unfit : (fs : List FunctionValue) (j : Job) (f : FunctionValue) (e : JobError) (arrays params : ℕ) → find (λ g. bytes_eq j.function g.name) fs ≡ Some f
    → arrays ≡ array_count f.vars → params ≡ count_of kind.Param f.vars → Err e ≡ fitting j arrays params → function_called fs j ≡ Err e
called_unfit fs j f e arrays params found a p h =
    let same : fitting j (array_count f.vars) (count_of kind.Param f.vars) ≡ Err e = ap (λ n. fitting j n (count_of kind.Param f.vars)) (sym a) ∙ ap (fitting j arrays) (sym p) ∙ sym h in
    rw (found, same) refl

pub called_fit : (fs : List FunctionValue) (j : Job) (f : FunctionValue) (arrays params : ℕ) → find (λ g. bytes_eq j.function g.name) fs ≡ Some f
    → arrays ≡ array_count f.vars → params ≡ count_of kind.Param f.vars → Ok tt ≡ fitting j arrays params → function_called fs j ≡ Ok f
called_fit fs j f arrays params found a p h =
    let same : fitting j (array_count f.vars) (count_of kind.Param f.vars) ≡ Ok tt = ap (λ n. fitting j n (count_of kind.Param f.vars)) (sym a) ∙ ap (fitting j arrays) (sym p) ∙ sym h in
    rw (found, same) refl

-- ---- the function of an image

-- the first function hasn't the name
pub find_behind : (p : image.FunctionValue → Bool) (fs : List image.FunctionValue) (f : image.FunctionValue) → 1 ≤ length fs → f ≡ get_or fs 0 f → p f ≡ false → find p fs ≡ find p (drop 1 fs)
find_behind p [] f some is other = absurd (omega (arith, some))
find_behind p (g ∷ fs) f some is other = let not_here : p g ≡ false = ap p (sym is) ∙ other in rw not_here refl

pub entry_unfit : (fs : List image.FunctionValue) (j : Job) (f : image.FunctionValue) (name : List ℕ) (e : JobError) (arrays params : ℕ) → name ≡ j.function → find (λ g. bytes_eq name g.name) fs ≡ Some f
    → arrays ≡ f.dests + f.sources → params ≡ f.params → Err e ≡ fitting j arrays params → entry_called fs j ≡ Err e
entry_unfit fs j f name e arrays params n found a p h =
    let same : fitting j (f.dests + f.sources) f.params ≡ Err e = ap (λ k. fitting j k f.params) (sym a) ∙ ap (fitting j arrays) (sym p) ∙ sym h in
    let here : find (λ g. bytes_eq j.function g.name) fs ≡ Some f = ap (λ w. find (λ g. bytes_eq w g.name) fs) (sym n) ∙ found in
    rw (here, same) refl

pub entry_fit : (fs : List image.FunctionValue) (j : Job) (f : image.FunctionValue) (name : List ℕ) (arrays params : ℕ) → name ≡ j.function → find (λ g. bytes_eq name g.name) fs ≡ Some f
    → arrays ≡ f.dests + f.sources → params ≡ f.params → Ok tt ≡ fitting j arrays params → entry_called fs j ≡ Ok f
entry_fit fs j f name arrays params n found a p h =
    let same : fitting j (f.dests + f.sources) f.params ≡ Ok tt = ap (λ k. fitting j k f.params) (sym a) ∙ ap (fitting j arrays) (sym p) ∙ sym h in
    let here : find (λ g. bytes_eq j.function g.name) fs ≡ Some f = ap (λ w. find (λ g. bytes_eq w g.name) fs) (sym n) ∙ found in
    rw (here, same) refl
