-- The places of a function's parameters and accumulators, and how many there are.
use Rattle.std.proofs.Common.{◌≡◌, ℕ, suc, ◌+◌, ◌<◌, ◌≤◌, ℤ, pos, true, false, List, [], ◌∷◌, ◌++◌, length, map, refl, sym, ap, ◌∙◌, arith}
use Rattle.std.proofs.lemmas.List.{map-append, length-map}
use Rattle.std.proofs.lemmas.List.FromFn.{map-range_with_len_more, length-map-range_with_len}
use Rattle.orc_program.specs.declared.program.Var.{Var}
use Rattle.orc_program.specs.declared.program.VarKind.{VarKind}
use Rattle.orc_program.specs.declared.program.VarKind.TheVariants as kind
use Rattle.orc_program.specs.Program.{FunctionValue, var_at, is_of, count_of, places_of}
use Rattle.orc_program.specs.Kept.{is_function}
use Rattle.orc_program.specs.Checks.{patterns_of}
use Rattle.orc_program.proofs.Sizes.{kept_of}
use Rattle.orc_program.proofs.Counts.{few_vars}
use Rattle.orc_program.proofs.PatternLaws.{patterns_few}
use Rattle.orc_program.proofs.Places.{places_before, places_first, places_last, places_yes, places_no, places_room}
use Rattle.orc_frame.specs.Layout.{acc_sizes_of, displacements}

-- ---- sizes

unfoldable pub sizes_before : List Var → ℕ → List ℕ
sizes_before vars i = map (λ p. (var_at vars p).size) (places_before kind.Accumulator vars i)

pub sizes_first : (vars : List Var) → sizes_before vars 0 ≡ []
unfolding sizes_before
sizes_first vars = ap (map (λ p. (var_at vars p).size)) (places_first kind.Accumulator vars)

pub sizes_last : (vars : List Var) → sizes_before vars (length vars) ≡ acc_sizes_of vars
unfolding sizes_before
sizes_last vars = ap (map (λ p. (var_at vars p).size)) (places_last kind.Accumulator vars)

pub sizes_done : (vars : List Var) (i : ℕ) (ss : List ℕ) → i ≤ length vars → length vars ≤ i → ss ≡ sizes_before vars i → ss ≡ acc_sizes_of vars
sizes_done vars i ss l h e = e ∙ ap (sizes_before vars) (let q : i ≡ length vars = omega (arith, l, h) in q) ∙ sizes_last vars

pub sizes_yes : (vars : List Var) (i : ℕ) → is_of kind.Accumulator (var_at vars i) ≡ true → sizes_before vars (i + 1) ≡ sizes_before vars i ++ (var_at vars i).size ∷ []
unfolding sizes_before
sizes_yes vars i h = ap (map (λ p. (var_at vars p).size)) (places_yes kind.Accumulator vars i h) ∙ map-append (λ p. (var_at vars p).size) (places_before kind.Accumulator vars i) (i ∷ [])

pub sizes_no : (vars : List Var) (i : ℕ) → is_of kind.Accumulator (var_at vars i) ≡ false → sizes_before vars (i + 1) ≡ sizes_before vars i
unfolding sizes_before
sizes_no vars i h = ap (map (λ p. (var_at vars p).size)) (places_no kind.Accumulator vars i h)

pub sizes_room : (vars : List Var) (i : ℕ) → i < length vars → is_of kind.Accumulator (var_at vars i) ≡ true → length (sizes_before vars i) < count_of kind.Accumulator vars
unfolding sizes_before
sizes_room vars i l e = omega (arith, places_room kind.Accumulator vars i l e, length-map (places_before kind.Accumulator vars i) (λ p. (var_at vars p).size))

-- ---- displacements

pub displacements_count : (slot : ℕ → ℕ) (n : ℕ) → length (displacements slot n) ≡ n
displacements_count slot n = length-map-range_with_len (λ k. pos (slot k)) 0 n

pub displacements_more : (slot : ℕ → ℕ) (n : ℕ) (z : ℤ) → z ≡ pos (slot n) → displacements slot (n + 1) ≡ displacements slot n ++ z ∷ []
displacements_more slot n z e = map-range_with_len_more (λ k. pos (slot k)) 0 n n (omega arith) ∙ ap (λ y. displacements slot n ++ y ∷ []) (sym e)

-- ---- the limits of a function

pub record Limits (f : FunctionValue) : Type 0 where
  pub accs : count_of kind.Accumulator f.vars ≤ 4
  pub params : count_of kind.Param f.vars ≤ 8
  pub patterns : length (patterns_of f.vars f.insns) ≤ 48

pub limits : (f : FunctionValue) → is_function f ≡ true → Limits f
limits f h =
    let few = few_vars f.vars (kept_of f h).limits in
    record { accs = few.accumulators; params = few.params; patterns = patterns_few f h }
