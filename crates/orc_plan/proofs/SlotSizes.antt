-- Sizes of arrays by their slots.
use Rattle.std.proofs.Common.{◌≡◌, ℕ, ◌+◌, ◌-◌, ◌<◌, Bool, true, false, nat_lt, List, [], ◌∷◌, ◌++◌, refl, sym, ap, ◌∙◌, arith, length, map, take, set, slice_index, add-one, if◌then◌else◌, true≢false}
use Rattle.std.specs.List.{range_with_len}
use Rattle.std.proofs.Math.Seq.{take-suc-set}
use Rattle.std.proofs.lemmas.Bool.Decides.{nat_tests}
use Rattle.std.proofs.lemmas.List.{take_all}
use Rattle.std.proofs.lemmas.List.FromFn.{map-range_with_len_more, get_or-map-range_with_len}
use Rattle.orc_program.specs.declared.program.Var.{Var}
use Rattle.orc_program.specs.declared.program.VarKind.{VarKind}
use Rattle.orc_program.specs.declared.program.VarKind.TheVariants as kind
use Rattle.orc_program.specs.Program.{FunctionValue, same_kind, is_of, is_array_kind, var_at, count_of, count_before, places_of}
use Rattle.orc_program.specs.Good.{IsArray}
use Rattle.orc_program.specs.Kept.{is_function}
use Rattle.orc_program.specs.Slots.{slot_of, size_of_slot}
use Rattle.orc_program.proofs.Counts.{FewVars, few_vars}
use Rattle.orc_program.proofs.Places.{before_less}
use Rattle.orc_program.proofs.Nth.{place_again}
use Rattle.orc_program.proofs.Sizes.{kept_of}
use Rattle.orc_plan.specs.Lowered.{is_used, size_in_slot, sizes_of}

-- one more number of a list that a loop fills
pub filled_more : (f : ℕ → ℕ) (xs : List ℕ) (i v : ℕ) → i < length xs → v ≡ f i → take i xs ≡ map f (range_with_len 0 i) → take (i + 1) (set xs i v) ≡ map f (range_with_len 0 (i + 1))
filled_more f xs i v l e h =
    ap (λ n. take n (set xs i v)) (add-one i) ∙ take-suc-set xs i v l ∙ ap (λ (ys : List ℕ). ys ++ v ∷ []) h ∙ ap (λ n. map f (range_with_len 0 i) ++ n ∷ []) e
    ∙ sym (map-range_with_len_more f 0 i i (omega arith))

-- the whole list
pub filled_all : (f : FunctionValue) (vars : List Var) (xs : List ℕ) (i : ℕ) → vars ≡ f.vars → length xs ≡ 12 → i ≡ 12 → take i xs ≡ map (size_in_slot vars) (range_with_len 0 i) → xs ≡ sizes_of f
unfolding sizes_of
filled_all f vars xs i e l s h =
    sym (take_all i xs (omega arith)) ∙ h ∙ ap (λ n. map (size_in_slot vars) (range_with_len 0 n)) s ∙ ap (λ (vs : List Var). map (size_in_slot vs) (range_with_len 0 12)) e

-- ---- an array's size stands in its slot

other_array : (k : VarKind) → is_array_kind k ≡ true → same_kind kind.Dest k ≡ false → same_kind kind.Source k ≡ true
other_array kind.Source a h = refl
other_array kind.Dest a h = absurd (true≢false h)
other_array kind.Accumulator a h = absurd (true≢false (sym a))
other_array kind.Param a h = absurd (true≢false (sym a))
other_array kind.Const a h = absurd (true≢false (sym a))
other_array kind.Temp a h = absurd (true≢false (sym a))

size_of_first : (vars : List Var) (n : ℕ) → nat_lt n 4 ≡ true → nat_lt n (count_of kind.Dest vars) ≡ true → size_in_slot vars n ≡ (var_at vars (slice_index (places_of kind.Dest vars) n)).size
size_of_first vars n first used =
    let dest : ℕ = slice_index (places_of kind.Dest vars) n in
    let source : ℕ = slice_index (places_of kind.Source vars) (n - 4) in
    ap (λ b. if (if b then nat_lt n (count_of kind.Dest vars) else nat_lt (n - 4) (count_of kind.Source vars)) then (var_at vars (if b then dest else source)).size else 0) first
    ∙ ap (λ b. if b then (var_at vars dest).size else 0) used

size_of_later : (vars : List Var) (n : ℕ) → nat_lt n (count_of kind.Source vars) ≡ true → size_in_slot vars (4 + n) ≡ (var_at vars (slice_index (places_of kind.Source vars) n)).size
size_of_later vars n used =
    let dest : ℕ = slice_index (places_of kind.Dest vars) (4 + n) in
    let second : nat_lt (4 + n) 4 ≡ false = grind (arith, nat_tests) in
    ap (λ b. if (if b then nat_lt (4 + n) (count_of kind.Dest vars) else nat_lt (4 + n - 4) (count_of kind.Source vars)) then (var_at vars (if b then dest else slice_index (places_of kind.Source vars) (4 + n - 4))).size else 0) second
    ∙ ap (λ m. if nat_lt m (count_of kind.Source vars) then (var_at vars (slice_index (places_of kind.Source vars) m)).size else 0) (let z : 4 + n - 4 ≡ n = omega arith in z)
    ∙ ap (λ b. if b then (var_at vars (slice_index (places_of kind.Source vars) n)).size else 0) used

pub in_slot : (f : FunctionValue) (slot : ℕ) → slot < 12 → slice_index (sizes_of f) slot ≡ size_in_slot f.vars slot
unfolding sizes_of
in_slot f slot l = get_or-map-range_with_len (size_in_slot f.vars) 0 12 slot slot 0 l (omega arith)

pub array_sized : (f : FunctionValue) → is_function f ≡ true → (p : ℕ) → IsArray f p → slice_index (sizes_of f) (slot_of f.vars p) ≡ (var_at f.vars p).size
array_sized f h p a = go (few_vars f.vars (kept_of f h).limits) (is_of kind.Dest (var_at f.vars p)) refl
  where
    go : FewVars f.vars → (b : Bool) → is_of kind.Dest (var_at f.vars p) ≡ b → slice_index (sizes_of f) (if b then count_before kind.Dest f.vars p else 4 + count_before kind.Source f.vars p) ≡ (var_at f.vars p).size
    go few true e =
        let n = count_before kind.Dest f.vars p in
        let less = before_less kind.Dest f.vars p a.0 e in
        let low : n < 4 = omega (arith, few.dests, less) in
        let first : nat_lt n 4 ≡ true = grind (arith, nat_tests, low) in
        let used : nat_lt n (count_of kind.Dest f.vars) ≡ true = grind (arith, nat_tests, less) in
        in_slot f n (omega arith) ∙ size_of_first f.vars n first used ∙ ap (λ q. (var_at f.vars q).size) (place_again kind.Dest f.vars p a.0 e)
    go few false e =
        let n = count_before kind.Source f.vars p in
        let s = other_array (var_at f.vars p).kind a.1 e in
        let less = before_less kind.Source f.vars p a.0 s in
        let low : n < 8 = omega (arith, few.sources, less) in
        let used : nat_lt n (count_of kind.Source f.vars) ≡ true = grind (arith, nat_tests, less) in
        in_slot f (4 + n) (omega arith) ∙ size_of_later f.vars n used ∙ ap (λ q. (var_at f.vars q).size) (place_again kind.Source f.vars p a.0 s)

-- the size in a slot that is used
pub used_sized : (f : FunctionValue) (slot : ℕ) → slot < 12 → is_used f.vars slot ≡ true → slice_index (sizes_of f) slot ≡ size_of_slot f.vars slot
used_sized f slot l e = in_slot f slot l ∙ ap (λ b. if b then size_of_slot f.vars slot else 0) e
