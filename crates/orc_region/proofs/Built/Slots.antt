-- The slots in use, as they are counted by the sizes of their elements.
use Rattle.std.proofs.Common.{◌≡◌, ℕ, zero, suc, ◌+◌, ◌-◌, ◌<◌, ◌≤◌, ◌==◌, Bool, true, false, nat_lt, if◌then◌else◌, List, slice_index, refl, sym, ap, ◌∙◌, subst, arith, inl, inr, ⊎_elim}
use Rattle.std.proofs.lemmas.Bool.{cases_lt, lt-ltb, le-ltb}
use Rattle.orc_bits.proofs.LaneLaws.{eq_false}
use Rattle.orc_program.specs.declared.program.VarKind.TheVariants as kind
use Rattle.orc_program.specs.Program.{FunctionValue, var_at, count_of, places_of}
use Rattle.orc_program.specs.Kept.{is_function}
use Rattle.orc_program.specs.Slots.{size_of_slot}
use Rattle.orc_program.proofs.Places.{length-places_of}
use Rattle.orc_plan.specs.Lowered.{sizes_of}
use Rattle.orc_plan.proofs.SlotSizes.{in_slot}
use Rattle.orc_region.specs.Code.{used_from}
use Rattle.orc_region.proofs.Checked.Fits.{some_size, slot_sized}
use Rattle.orc_region.proofs.Checked.Numbered.{nth_is}
use Rattle.orc_region.proofs.Checked.Slots.{Limits, limits}

one_few : (b : Bool) → (if b then 0 else 1) ≤ 1
one_few true = omega arith
one_few false = omega arith

-- what a slot counts
abbrev counted : ℕ → ℕ
counted s = if s == 0 then 0 else 1

counts_one : (s : ℕ) → 0 < s → counted s ≡ 1
counts_one s some = ap (λ b. if b then 0 else 1) (eq_false s 0 (λ e. omega (arith, e, some)))

counts_none : (s : ℕ) → s ≡ 0 → counted s ≡ 0
counts_none s none = ap counted none

pub used_few : (size : ℕ → ℕ) (first n : ℕ) → used_from size first n ≤ n
used_few size first zero = omega arith
used_few size first (suc n) = omega (arith, used_few size first n, one_few (size (first + n) == 0))

-- of n slots the first m are in use
module _ (size : ℕ → ℕ) (first m : ℕ) (some : (k : ℕ) → k < m → 0 < size (first + k)) where
  all_used : (n : ℕ) → n ≤ m → used_from size first n ≡ n
  all_used zero l = refl
  all_used (suc n) l =
      let positive = some n (omega (arith, l)) in
      let one = counts_one (size (first + n)) positive in
      omega (arith, all_used n (omega (arith, l)), one)

  rest_unused : (n : ℕ) → m ≤ n → ((k : ℕ) → m ≤ k → k < n → size (first + k) ≡ 0) → used_from size first n ≡ m
  rest_unused zero l none = omega (arith, l)
  rest_unused (suc n) l none = ⊎_elim
      (λ within. all_used (suc n) (omega (arith, within)) ∙ (let z : suc n ≡ m = omega (arith, within, l) in z))
      (λ far. let free = counts_none (size (first + n)) (none n far (omega arith)) in omega (arith, rest_unused n far (λ k a b. none k a (omega (arith, b))), free))
      (cases_lt n m)

module _ (f : FunctionValue) (is : is_function f ≡ true) where
  few : Limits f
  few = limits f is

  abbrev dests : ℕ
  dests = count_of kind.Dest f.vars

  abbrev sources : ℕ
  sources = count_of kind.Source f.vars

  abbrev sizes : ℕ → ℕ
  sizes = slice_index (sizes_of f)

  dest_some : (k : ℕ) → k < dests → 0 < sizes (0 + k)
  dest_some k l =
      let x = nth_is kind.Dest f.vars k (omega (arith, l, length-places_of kind.Dest f.vars)) in
      let below : nat_lt k 4 ≡ true = lt-ltb k 4 (omega (arith, l, few.dests)) in
      let bytes : 0 < size_of_slot f.vars k =
      subst (λ b. 0 < (var_at f.vars (if b then slice_index (places_of kind.Dest f.vars) k else slice_index (places_of kind.Source f.vars) (k - 4))).size) (sym below) (some_size f is (slice_index (places_of kind.Dest f.vars) k) x.inside) in
      let here : sizes (0 + k) ≡ size_of_slot f.vars k = ap sizes (let z : 0 + k ≡ k = omega arith in z) ∙ slot_sized f is k (inl l) in
      omega (arith, bytes, here)

  dest_none : (k : ℕ) → dests ≤ k → k < 4 → sizes (0 + k) ≡ 0
  dest_none k far l =
      ap sizes (let z : 0 + k ≡ k = omega arith in z) ∙ in_slot f k (omega (arith, l))
      ∙ ap (λ b. if (if b then nat_lt k dests else nat_lt (k - 4) sources) then size_of_slot f.vars k else 0) (lt-ltb k 4 l)
      ∙ ap (λ b. if b then size_of_slot f.vars k else 0) (le-ltb k dests far)

  source_some : (k : ℕ) → k < sources → 0 < sizes (4 + k)
  source_some k l =
      let x = nth_is kind.Source f.vars k (omega (arith, l, length-places_of kind.Source f.vars)) in
      let above : nat_lt (4 + k) 4 ≡ false = le-ltb (4 + k) 4 (omega arith) in
      let same : k ≡ 4 + k - 4 = omega arith in
      let bytes : 0 < size_of_slot f.vars (4 + k) =
      subst (λ b. 0 < (var_at f.vars (if b then slice_index (places_of kind.Dest f.vars) (4 + k) else slice_index (places_of kind.Source f.vars) (4 + k - 4))).size) (sym above)
      (subst (λ j. 0 < (var_at f.vars (slice_index (places_of kind.Source f.vars) j)).size) same (some_size f is (slice_index (places_of kind.Source f.vars) k) x.inside)) in
      omega (arith, bytes, slot_sized f is (4 + k) (inr (omega arith, omega (arith, l))))

  source_none : (k : ℕ) → sources ≤ k → k < 8 → sizes (4 + k) ≡ 0
  source_none k far l =
      in_slot f (4 + k) (omega (arith, l))
      ∙ ap (λ b. if (if b then nat_lt (4 + k) dests else nat_lt (4 + k - 4) sources) then size_of_slot f.vars (4 + k) else 0) (le-ltb (4 + k) 4 (omega arith))
      ∙ ap (λ b. if b then size_of_slot f.vars (4 + k) else 0) (le-ltb (4 + k - 4) sources (omega (arith, far)))

  -- a first slot that is in use is that of a dest, and has its size
  pub first_there : (at : List ℕ) → at ≡ sizes_of f → 0 < slice_index at 0 → (0 < dests) × (slice_index at 0 ≡ size_of_slot f.vars 0)
  first_there at e some = ⊎_elim
      (λ l. (l, ap (λ xs. slice_index xs 0) e ∙ slot_sized f is 0 (inl l)))
      (λ far. absurd (omega (arith, some, ap (λ xs. slice_index xs 0) e, dest_none 0 far (omega arith))))
      (cases_lt 0 dests)

  pub used_dests : (at : List ℕ) → at ≡ sizes_of f → used_from (slice_index at) 0 4 ≡ count_of kind.Dest f.vars
  used_dests at e = ap (λ xs. used_from (slice_index xs) 0 4) e ∙ rest_unused sizes 0 dests dest_some 4 few.dests dest_none

  pub used_sources : (at : List ℕ) → at ≡ sizes_of f → used_from (slice_index at) 4 8 ≡ count_of kind.Source f.vars
  used_sources at e = ap (λ xs. used_from (slice_index xs) 4 8) e ∙ rest_unused sizes 4 sources source_some 8 few.sources source_none
