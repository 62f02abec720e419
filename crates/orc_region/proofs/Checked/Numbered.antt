-- A function's patterns and running sums: where the frame has them, and their numbers in a call.
use Rattle.std.proofs.Common.{◌≡◌, ℕ, zero, suc, ◌+◌, ◌-◌, ◌<◌, ◌≤◌, ◌==◌, Bool, true, false, cond, if◌then◌else◌, List, [], ◌∷◌, length, get_or, map, slice_index, refl, sym, ap, ◌∙◌, subst, arith, ⊎_elim}
use Rattle.std.specs.List.{filter, count_by, range_with_len}
use Rattle.std.proofs.lemmas.Bool.{cases_eq}
use Rattle.std.proofs.lemmas.List.Sums.{sum_by-cons}
use Rattle.std.proofs.lemmas.List.FromFn.{get_or-map-range_with_len}
use Rattle.orc_bits.proofs.LaneLaws.{eq_true, eq_false}
use Rattle.orc_program.specs.declared.program.Var.{Var}
use Rattle.orc_program.specs.declared.program.VarKind.{VarKind}
use Rattle.orc_program.specs.declared.program.VarKind.TheVariants as kind
use Rattle.orc_program.specs.declared.program.Operand.{Operand}
use Rattle.orc_program.specs.declared.program.Operand.TheVariants as operand
use Rattle.orc_program.specs.declared.call.Call.{Call}
use Rattle.orc_program.specs.Program.{FunctionValue, var_at, is_of, count_of, count_before, places_of}
use Rattle.orc_program.specs.Slots.{call_of}
use Rattle.orc_program.specs.Meaning.{param_at}
use Rattle.orc_frame.specs.Layout.{acc_sizes_of, index_in}
use Rattle.orc_frame.specs.Frame.{number_of}
use Rattle.orc_frame.proofs.Fills.{IsKnown}
use Rattle.orc_frame.proofs.Meant.{index_in-places_of}
use Rattle.orc_region.proofs.Checked.Knows.{width_of}
use Rattle.orc_region.proofs.Block.Emulated.{meant}
use Rattle.orc_program.proofs.Places.{before_less, count_taken, length-places_of}

-- ---- places that pass a test

-- the place at an index of those that pass
record Passing (t : ℕ → Bool) (a m k p : ℕ) : Type 0 where
  above : a ≤ p
  below : p < m
  passes : t p ≡ true
  -- so many pass before it
  before : count_by t (range_with_len a (p - a)) ≡ k

count_cons : (t : ℕ → Bool) (x : ℕ) (xs : List ℕ) → count_by t (x ∷ xs) ≡ cond (t x) 1 0 + count_by t xs
count_cons t x xs = sum_by-cons (λ x. cond (t x) 1 0) x xs

one_less : (p a : ℕ) → a + 1 ≤ p → p - a ≡ suc (p - (a + 1))
one_less p a l = omega (arith, l)

later : (t : ℕ → Bool) (a m k p : ℕ) → Passing t (a + 1) m k p → (b : Bool) → t a ≡ b → Passing t a m (cond b 1 0 + k) p
later t a m k p h b e = record {
  above = omega (arith, h.above);
  below = h.below;
  passes = h.passes;
  before = ap (λ n. count_by t (range_with_len a n)) (one_less p a h.above) ∙ count_cons t a (range_with_len (a + 1) (p - (a + 1))) ∙ ap (λ b. cond b 1 0 + count_by t (range_with_len (a + 1) (p - (a + 1)))) e ∙ ap (λ n. cond b 1 0 + n) h.before;
}

nth_passes : (t : ℕ → Bool) (a n m k : ℕ) → a + n ≡ m → k < length (filter t (range_with_len a n)) → Passing t a m k (get_or (filter t (range_with_len a n)) k 0)
nth_passes t a zero m k w l = absurd (omega (arith, l))
nth_passes t a (suc n) m k w l = go (λ j h. nth_passes t (a + 1) n m j (omega (arith, w)) h) (t a) refl k l
  where
    rest : List ℕ
    rest = filter t (range_with_len (a + 1) n)

    go : ((j : ℕ) → j < length rest → Passing t (a + 1) m j (get_or rest j 0)) → (b : Bool) → t a ≡ b → (k : ℕ) → k < length (cond b (a ∷ rest) rest) → Passing t a m k (get_or (cond b (a ∷ rest) rest) k 0)
    go more true e zero l = record { above = omega arith; below = omega (arith, w); passes = e; before = ap (λ n. count_by t (range_with_len a n)) (let z : a - a ≡ 0 = omega arith in z) }
    go more true e (suc k) l = subst (λ j. Passing t a m j (get_or rest k 0)) (let z : 1 + k ≡ suc k = omega arith in z) (later t a m k (get_or rest k 0) (more k (omega (arith, l))) true e)
    go more false e k l = subst (λ j. Passing t a m j (get_or rest k 0)) (let z : 0 + k ≡ k = omega arith in z) (later t a m k (get_or rest k 0) (more k l) false e)

-- the variable of a kind and a number
pub record IsNth (k : VarKind) (vars : List Var) (g p : ℕ) : Type 0 where
  pub inside : p < length vars
  pub kind : is_of k (var_at vars p) ≡ true
  pub number : count_before k vars p ≡ g

pub nth_is : (k : VarKind) (vars : List Var) (g : ℕ) → g < length (places_of k vars) → IsNth k vars g (slice_index (places_of k vars) g)
nth_is k vars g l =
    let p = slice_index (places_of k vars) g in
    let x = nth_passes (λ q. is_of k (var_at vars q)) 0 (length vars) (length vars) g (omega arith) l in
    record {
      inside = x.below;
      kind = x.passes;
      number = count_taken (is_of k) vars p (omega (arith, x.below)) ∙ ap (λ m. count_by (λ q. is_of k (var_at vars q)) (range_with_len 0 m)) (let z : p ≡ p - 0 = omega arith in z) ∙ x.before;
    }

-- where a number that stands in a list stands
index_at : (xs : List ℕ) (p : ℕ) → index_in xs p < length xs → get_or xs (index_in xs p) 0 ≡ p
index_at [] p l = absurd (omega (arith, l))
index_at (q ∷ qs) p l = ⊎_elim
    (λ e. ap (λ b. let k : ℕ = if b then 0 else 1 + index_in qs p in get_or (q ∷ qs) k 0) (ap (λ x. x == p) e ∙ eq_true p) ∙ e)
    (λ ne. ap (λ b. let k : ℕ = if b then 0 else 1 + index_in qs p in get_or (q ∷ qs) k 0) (eq_false q p ne) ∙ ap (λ k. get_or (q ∷ qs) k 0) (let z : 1 + index_in qs p ≡ suc (index_in qs p) = omega arith in z) ∙ index_at qs p (shorter (eq_false q p ne) l))
    (cases_eq q p)
  where
    shorter : (q == p) ≡ false → (if q == p then 0 else 1 + index_in qs p) < suc (length qs) → index_in qs p < length qs
    shorter e h = let w = subst (λ b. (if b then 0 else 1 + index_in qs p) < suc (length qs)) e h in omega (arith, w)

-- ---- the numbers of a function's layout

mapped_at : (size : ℕ → ℕ) (ps : List ℕ) (g : ℕ) → g < length ps → get_or (map size ps) g 0 ≡ size (get_or ps g 0)
mapped_at size [] g l = absurd (omega (arith, l))
mapped_at size (p ∷ ps) zero l = refl
mapped_at size (p ∷ ps) (suc g) l = mapped_at size ps g (omega (arith, l))

pub sum_size : (f : FunctionValue) (g : ℕ) → g < count_of kind.Accumulator f.vars → slice_index (acc_sizes_of f.vars) g ≡ width_of f g
sum_size f g l = mapped_at (λ p. (var_at f.vars p).size) (places_of kind.Accumulator f.vars) g (omega (arith, l, length-places_of kind.Accumulator f.vars))

-- the number that a pattern of the layout holds is the one that is meant
module _ (f : FunctionValue) (n m : ℕ) (base stride param : ℕ → ℕ) where
  abbrev call : Call
  call = call_of f n m base stride param

  abbrev pub params : List ℕ
  params = places_of kind.Param f.vars

  param_is : (p : ℕ) → index_in params p < length params → param (index_in params p) ≡ param_at f call p
  param_is p l =
      let x = nth_is kind.Param f.vars (index_in params p) l in
      let at : get_or params (index_in params p) 0 ≡ p = index_at params p l in
      let inside : p < length f.vars = subst (λ q. q < length f.vars) at x.inside in
      let is : is_of kind.Param (var_at f.vars p) ≡ true = subst (λ q. is_of kind.Param (var_at f.vars q) ≡ true) at x.kind in
      let j = count_before kind.Param f.vars p in
      ap param (index_in-places_of kind.Param f.vars p inside is)
      ∙ sym (get_or-map-range_with_len param 0 (count_of kind.Param f.vars) j j 0 (before_less kind.Param f.vars p inside is) (omega arith))

  pub number_is : (o : Operand) → IsKnown params (length params) o → number_of params param o ≡ meant f call o
  number_is (operand.Number v) h = refl
  number_is (operand.Var p) h = param_is p h
