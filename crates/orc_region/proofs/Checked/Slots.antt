-- The slot of an array: its size, its place in the call, and the limits of their number.
use Rattle.std.proofs.Common.{◌≡◌, ℕ, ◌+◌, ◌-◌, ◌<◌, ◌≤◌, nat_lt, Bool, true, false, if◌then◌else◌, List, [], ◌∷◌, ◌++◌, length, get_or, map, slice_index, refl, sym, ap, ◌∙◌, arith, ◌⊎◌, inl, inr, ⊎_elim}
use Rattle.std.specs.List.{range_with_len, list_all}
use Rattle.std.proofs.lemmas.Bool.{true≢false, leb-true, lt-ltb, le-ltb}
use Rattle.std.proofs.lemmas.List.{map-append, get_or_append_left, get_or-append-add}
use Rattle.std.proofs.lemmas.List.FromFn.{get_or-map-range_with_len, length-map-range_with_len}
use Rattle.orc_program.specs.declared.program.Var.{Var}
use Rattle.orc_program.specs.declared.program.VarKind.{VarKind}
use Rattle.orc_program.specs.declared.program.VarKind.TheVariants as kind
use Rattle.orc_program.specs.declared.call.Place.{Place}
use Rattle.orc_program.specs.Program.{FunctionValue, var_at, is_of, same_kind, is_array, is_array_kind, count_of, count_before, places_of, array_number}
use Rattle.orc_program.specs.Meaning.{place_at, no_place}
use Rattle.orc_program.specs.Slots.{slot_of, slots, size_of_slot, call_of, place_with}
use Rattle.orc_program.specs.Kept.{is_function, has_few, most_of}
use Rattle.orc_program.proofs.Sizes.{both, kept_of}
use Rattle.orc_frame.specs.Subject.{Call}
use Rattle.orc_program.proofs.Places.{before_less}
use Rattle.orc_program.proofs.Nth.{place_again}
use Rattle.orc_region.proofs.Turn.Advancing.{IsSlot}

-- ---- the limits

limit_of : (vars : List Var) (k : VarKind) → has_few vars k ≡ true → count_of k vars ≤ most_of k
limit_of vars k h = leb-true (count_of k vars) (most_of k) h

pub record Limits (f : FunctionValue) : Type 0 where
  pub dests : count_of kind.Dest f.vars ≤ 4
  pub sources : count_of kind.Source f.vars ≤ 8
  pub accs : count_of kind.Accumulator f.vars ≤ 4

pub limits : (f : FunctionValue) → is_function f ≡ true → Limits f
limits f h =
    let few : VarKind → Bool = has_few f.vars in
    let a = both (few kind.Source) (list_all few (kind.Dest ∷ kind.Accumulator ∷ kind.Param ∷ kind.Const ∷ kind.Temp ∷ [])) (kept_of f h).limits in
    let b = both (few kind.Dest) (list_all few (kind.Accumulator ∷ kind.Param ∷ kind.Const ∷ kind.Temp ∷ [])) a.1 in
    let c = both (few kind.Accumulator) (list_all few (kind.Param ∷ kind.Const ∷ kind.Temp ∷ [])) b.1 in
    record { dests = limit_of f.vars kind.Dest b.0; sources = limit_of f.vars kind.Source a.0; accs = limit_of f.vars kind.Accumulator c.0 }

-- ---- the slot

array_cases : (k : VarKind) → is_array_kind k ≡ true → (same_kind kind.Dest k ≡ true) ⊎ ((same_kind kind.Dest k ≡ false) × (same_kind kind.Source k ≡ true))
array_cases kind.Dest h = inl refl
array_cases kind.Source h = inr (refl, refl)
array_cases kind.Temp h = absurd (true≢false (sym h))
array_cases kind.Param h = absurd (true≢false (sym h))
array_cases kind.Const h = absurd (true≢false (sym h))
array_cases kind.Accumulator h = absurd (true≢false (sym h))

pub record SlotIs (f : FunctionValue) (call : Call) (p : ℕ) : Type 0 where
  pub slot : IsSlot (count_of kind.Dest f.vars) (count_of kind.Source f.vars) (slot_of f.vars p)
  pub size : size_of_slot f.vars (slot_of f.vars p) ≡ (var_at f.vars p).size
  pub base : (place_at f (call_of f call.n call.m call.base call.stride call.param) p).base ≡ call.base (slot_of f.vars p)

module _ (f : FunctionValue) (call : Call) (few : Limits f) (p : ℕ) (inside : p < length f.vars) where
  places_split : map (λ k. place_with (call.base k) (call.stride k)) (slots f.vars) ≡ map (λ k. place_with (call.base k) (call.stride k)) (range_with_len 0 (count_of kind.Dest f.vars)) ++ map (λ k. place_with (call.base k) (call.stride k)) (range_with_len 4 (count_of kind.Source f.vars))
  places_split = map-append (λ k. place_with (call.base k) (call.stride k)) (range_with_len 0 (count_of kind.Dest f.vars)) (range_with_len 4 (count_of kind.Source f.vars))

  dest_slot : is_of kind.Dest (var_at f.vars p) ≡ true → SlotIs f call p
  dest_slot e =
      let j = count_before kind.Dest f.vars p in
      let l = before_less kind.Dest f.vars p inside e in
      let d = count_of kind.Dest f.vars in
      let g : ℕ → Place = λ k. place_with (call.base k) (call.stride k) in
      let slot_is : slot_of f.vars p ≡ j = ap (λ b. if b then j else 4 + count_before kind.Source f.vars p) e in
      let number_is : array_number f.vars p ≡ j = ap (λ b. if b then j else d + count_before kind.Source f.vars p) e in
      let below : nat_lt j 4 ≡ true = lt-ltb j 4 (omega (arith, l, few.dests)) in
      record {
        slot = inl (omega (arith, slot_is, l));
        size = ap (size_of_slot f.vars) slot_is ∙ ap (λ b. (var_at f.vars (if b then slice_index (places_of kind.Dest f.vars) j else slice_index (places_of kind.Source f.vars) (j - 4))).size) below ∙ ap (λ q. (var_at f.vars q).size) (place_again kind.Dest f.vars p inside e);
        base = ap (λ (x : Place). x.base)
            (ap (λ i. get_or (map g (slots f.vars)) i no_place) number_is ∙ ap (λ xs. get_or xs j no_place) places_split
            ∙ get_or_append_left (map g (range_with_len 0 d)) (map g (range_with_len 4 (count_of kind.Source f.vars))) no_place j (omega (arith, l, length-map-range_with_len g 0 d))
            ∙ get_or-map-range_with_len g 0 d j j no_place l (omega arith)) ∙ ap call.base (sym slot_is);
      }

  source_slot : is_of kind.Dest (var_at f.vars p) ≡ false → is_of kind.Source (var_at f.vars p) ≡ true → SlotIs f call p
  source_slot not e =
      let j = count_before kind.Source f.vars p in
      let l = before_less kind.Source f.vars p inside e in
      let d = count_of kind.Dest f.vars in
      let s = count_of kind.Source f.vars in
      let g : ℕ → Place = λ k. place_with (call.base k) (call.stride k) in
      let slot_is : slot_of f.vars p ≡ 4 + j = ap (λ b. if b then count_before kind.Dest f.vars p else 4 + j) not in
      let number_is : array_number f.vars p ≡ d + j = ap (λ b. if b then count_before kind.Dest f.vars p else d + j) not in
      let above : nat_lt (4 + j) 4 ≡ false = le-ltb (4 + j) 4 (omega arith) in
      let front : length (map g (range_with_len 0 d)) ≡ d = length-map-range_with_len g 0 d in
      record {
        slot = inr (omega (arith, slot_is), omega (arith, slot_is, l));
        size = ap (size_of_slot f.vars) slot_is ∙ ap (λ b. (var_at f.vars (if b then slice_index (places_of kind.Dest f.vars) (4 + j) else slice_index (places_of kind.Source f.vars) (4 + j - 4))).size) above
            ∙ ap (λ q. (var_at f.vars q).size) (ap (slice_index (places_of kind.Source f.vars)) (let z : 4 + j - 4 ≡ j = omega arith in z) ∙ place_again kind.Source f.vars p inside e);
        base = ap (λ (x : Place). x.base)
            (ap (λ i. get_or (map g (slots f.vars)) i no_place) (number_is ∙ ap (λ m. m + j) (sym front)) ∙ ap (λ xs. get_or xs (length (map g (range_with_len 0 d)) + j) no_place) places_split
            ∙ get_or-append-add (map g (range_with_len 0 d)) (map g (range_with_len 4 s)) j no_place
            ∙ get_or-map-range_with_len g 4 s j (4 + j) no_place l refl) ∙ ap call.base (sym slot_is);
      }

  pub slot_is : is_array (var_at f.vars p) ≡ true → SlotIs f call p
  slot_is h = ⊎_elim (λ e. dest_slot e) (λ e. source_slot e.0 e.1) (array_cases (var_at f.vars p).kind h)
