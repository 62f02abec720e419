-- The numbers that patterns hold are those that sources read.
use Rattle.std.proofs.Common.{◌≡◌, ◌≢◌, ℕ, zero, suc, ◌+◌, ◌-◌, ◌<◌, ◌≤◌, Bool, true, false, cond, if◌then◌else◌, List, ◌∷◌, length, Some, None, Ok, refl, sym, ap, ◌∙◌, arith, ⊎_elim}
use Rattle.std.specs.List.{filter, count_by, range_with_len}
use Rattle.std.proofs.lemmas.Bool.{cases_eq}
use Rattle.std.proofs.lemmas.List.Sums.{sum_by-cons}
use Rattle.std.proofs.lemmas.List.FromFn.{get_or-map-range_with_len}
use Rattle.orc_bits.proofs.LaneLaws.{eq_true, eq_false}
use Rattle.orc_bits.proofs.Memories.{none_some, some_one}
use Rattle.orc_program.specs.declared.program.Var.{Var}
use Rattle.orc_program.specs.declared.program.VarKind.{VarKind}
use Rattle.orc_program.specs.declared.program.VarKind.TheVariants as kind
use Rattle.orc_program.specs.declared.program.Operand.{Operand}
use Rattle.orc_program.specs.declared.program.Operand.TheVariants as operand
use Rattle.orc_program.specs.declared.call.Call.{Call}
use Rattle.orc_program.specs.Program.{FunctionValue, var_at, is_of, same_kind, count_of, count_before, places_of}
use Rattle.orc_program.specs.Slots.{call_of}
use Rattle.orc_program.specs.Checks.{number_in}
use Rattle.orc_program.specs.Kept.{is_in_range}
use Rattle.orc_program.specs.Meaning.{State, param_at, read_var, read_source}
use Rattle.orc_frame.specs.Layout.{index_in}
use Rattle.orc_frame.specs.Frame.{number_of}
use Rattle.orc_frame.proofs.Facts.{below}
use Rattle.orc_program.proofs.Places.{count_taken, before_less}

count_cons : (t : ℕ → Bool) (x : ℕ) (xs : List ℕ) → count_by t (x ∷ xs) ≡ cond (t x) 1 0 + count_by t xs
count_cons t x xs = sum_by-cons (λ x. cond (t x) 1 0) x xs

-- the place in the list of those that pass is how many pass before
index_is : (t : ℕ → Bool) (p a n : ℕ) → a ≤ p → p < a + n → t p ≡ true → index_in (filter t (range_with_len a n)) p ≡ count_by t (range_with_len a (p - a))
index_is t p a zero l h e = absurd (omega (arith, l, h))
index_is t p a (suc n) l h e = ⊎_elim here (there (λ ne. index_is t p (a + 1) n (omega (arith, l, ne)) (omega (arith, h)) e)) (cases_eq a p)
  where
    rest : List ℕ
    rest = filter t (range_with_len (a + 1) n)

    here : a ≡ p → index_in (cond (t a) (a ∷ rest) rest) p ≡ count_by t (range_with_len a (p - a))
    here q =
        ap (λ b. index_in (cond b (a ∷ rest) rest) p) (ap t q ∙ e) ∙ ap (λ x. index_in (x ∷ rest) p) q ∙ ap (λ b. let k : ℕ = if b then 0 else 1 + index_in rest p in k) (eq_true p)
        ∙ ap (λ m. count_by t (range_with_len a m)) (let z : 0 ≡ p - a = omega (arith, q) in z)

    behind : (b : Bool) → a ≢ p → index_in (cond b (a ∷ rest) rest) p ≡ cond b 1 0 + index_in rest p
    behind true ne = ap (λ c. let k : ℕ = if c then 0 else 1 + index_in rest p in k) (eq_false a p ne)
    behind false ne = omega arith

    there : (a ≢ p → index_in rest p ≡ count_by t (range_with_len (a + 1) (p - (a + 1)))) → a ≢ p → index_in (cond (t a) (a ∷ rest) rest) p ≡ count_by t (range_with_len a (p - a))
    there found ne =
        behind (t a) ne ∙ ap (λ k. cond (t a) 1 0 + k) (found ne) ∙ sym (count_cons t a (range_with_len (a + 1) (p - (a + 1))))
        ∙ ap (λ m. count_by t (range_with_len a m)) (let z : suc (p - (a + 1)) ≡ p - a = omega (arith, l, ne) in z)

-- a parameter's number by the list of places is its number by declaration
pub index_in-places_of : (k : VarKind) (vars : List Var) (p : ℕ) → p < length vars → is_of k (var_at vars p) ≡ true → index_in (places_of k vars) p ≡ count_before k vars p
index_in-places_of k vars p l e =
    index_is (λ q. is_of k (var_at vars q)) p 0 (length vars) (omega arith) (omega (arith, l)) e
    ∙ ap (λ m. count_by (λ q. is_of k (var_at vars q)) (range_with_len 0 m)) (let z : p - 0 ≡ p = omega arith in z)
    ∙ sym (count_taken (is_of k) vars p (omega (arith, l)))

-- a source that is a number reads the number that its pattern holds
module _ (f : FunctionValue) (n m : ℕ) (base stride param : ℕ → ℕ) (r i w : ℕ) (s : State) where
  abbrev call : Call
  call = call_of f n m base stride param

  abbrev params : List ℕ
  params = places_of kind.Param f.vars

  param_is : (p : ℕ) → p < length f.vars → is_of kind.Param (var_at f.vars p) ≡ true → param_at f call p ≡ param (index_in params p)
  param_is p l e =
      get_or-map-range_with_len param 0 (count_of kind.Param f.vars) (count_before kind.Param f.vars p) (count_before kind.Param f.vars p) 0 (before_less kind.Param f.vars p l e) (omega arith)
      ∙ ap param (sym (index_in-places_of kind.Param f.vars p l e))

  var_read : (p : ℕ) (number : Operand) → p < length f.vars → (k : VarKind) → (var_at f.vars p).kind ≡ k
      → (if same_kind kind.Param k then Some (operand.Var p) else (if same_kind kind.Const k then Some (operand.Number (var_at f.vars p).number) else None)) ≡ Some number
      → read_var f call r i w s p k ≡ Ok (λ q. number_of params param number)
  var_read p number l kind.Param e h =
      ap (λ v. Ok (λ q. v)) (param_is p l (ap (same_kind kind.Param) e) ∙ ap (number_of params param) (some_one (operand.Var p) number h))
  var_read p number l kind.Const e h = ap (λ v. Ok (λ q. v)) (ap (number_of params param) (some_one (operand.Number (var_at f.vars p).number) number h))
  var_read p number l kind.Source e h = absurd (none_some h)
  var_read p number l kind.Dest e h = absurd (none_some h)
  var_read p number l kind.Accumulator e h = absurd (none_some h)
  var_read p number l kind.Temp e h = absurd (none_some h)

  pub number_read : (o number : Operand) → is_in_range f.vars o ≡ true → number_in f.vars o ≡ Some number → read_source f call r i w s o ≡ Ok (λ q. number_of params param number)
  number_read (operand.Number v) number l h = ap (λ x. Ok (λ q. number_of params param x)) (some_one (operand.Number v) number h)
  number_read (operand.Var p) number l h = var_read p number (below p (length f.vars) l) (var_at f.vars p).kind refl h
