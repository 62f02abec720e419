-- Good arrays by slots, as calls of code see them, are good arrays by variables, as the language sees them.
use Rattle.std.proofs.Common.{◌≡◌, ℕ, zero, suc, ◌+◌, ◌*◌, ◌-◌, ◌%◌, ◌^◌, ◌<◌, nat_lt, not, Bool, true, false, cond, if◌then◌else◌, List, [], ◌∷◌, length, take, get_or, slice_index, map, refl, sym, ap, ◌∙◌, subst, arith, ◌⊎◌, inl, inr, ⊎_elim, ap₂, ◌||◌}
use Rattle.std.specs.List.{count_by, list_any}
use Rattle.std.specs.Int.{cast_signed, cast_unsigned, w64}
use Rattle.std.proofs.lemmas.Bool.{cases_eq, true≢false, lt-ltb, le-ltb}
use Rattle.std.proofs.lemmas.Int.{of_z-to_z}
use Rattle.std.proofs.lemmas.List.Sums.{sum_by-cons}
use Rattle.orc_bits.specs.Memory.{Memory, IsMapped}
use Rattle.orc_program.specs.declared.program.Var.{Var}
use Rattle.orc_program.specs.declared.program.VarKind.{VarKind}
use Rattle.orc_program.specs.declared.program.VarKind.TheVariants as kind
use Rattle.orc_program.specs.declared.call.Call.{Call}
use Rattle.orc_program.specs.declared.call.Place.{Place}
use Rattle.orc_program.specs.Program.{FunctionValue, var_at, is_of, same_kind, is_array_kind, count_of, count_before, places_of, array_number, has_far}
use Rattle.orc_program.specs.Meaning.{place_at, no_place}
use Rattle.orc_program.specs.Slots.{slot_of, slots, size_of_slot, call_of, place_with}
use Rattle.orc_program.specs.Good.{IsByte, IsSame, GoodArrays, byte_at, is_near, reads_near, reads_far}
use Rattle.orc_program.specs.Good.{IsArray as IsArrayVar}
use Rattle.orc_program.proofs.Apart.{byte_address}
use Rattle.orc_program.proofs.Near.{all_near, element_of, none_read}
use Rattle.orc_program.proofs.Nth.{place_again}
use Rattle.orc_program.proofs.Places.{before_less}
use Rattle.orc_frame.specs.Subject.{Subject, IsArray, InArray, VerySame, cell}
use Rattle.orc_frame.specs.Subject.{Call as Arguments}
use Rattle.orc_frame.specs.Function.{IsCellByte, subject_of}
use Rattle.orc_region.proofs.Checked.Slots.{Limits, SlotIs, slot_is}

-- ---- cells and good arrays by slots: of arrays with a cell for each element

-- the place of a slot's variable
abbrev pub variable_of : FunctionValue → ℕ → ℕ
variable_of f k = if nat_lt k 4 then slice_index (places_of kind.Dest f.vars) k else slice_index (places_of kind.Source f.vars) (k - 4)

-- the slot's array has a cell for each element
abbrev pub IsNear : FunctionValue → ℕ → Type 0
IsNear f k = IsArray (subject_of f) k × (is_near f (variable_of f k) ≡ true)

abbrev pub InCells : FunctionValue → Arguments → ℕ → Type 0
InCells f call a = (k : ℕ) × IsNear f k × InArray (subject_of f) call k a

abbrev pub Apart : Subject → Arguments → ℕ → ℕ → Type 0
Apart f call k l = (a : ℕ) → InArray f call k a → InArray f call l a → ⊥

pub record GoodSlots (f : FunctionValue) (call : Arguments) (mem : Memory) : Type 0 where
  pub few : call.n < 2 ^ 31
  pub few_rows : f.two_d ≡ true → call.m < 2 ^ 31
  pub low : (a : ℕ) → InCells f call a → a < 2 ^ 47
  pub separate : (k l : ℕ) → IsNear f k → IsNear f l → Apart (subject_of f) call k l ⊎ VerySame (subject_of f) call k l
  pub mapped : (a : ℕ) → InCells f call a → IsMapped mem a

-- ---- each slot in use has a variable

-- a variable that passes a test, before which j of them pass it
record Nth (t : Var → Bool) (vars : List Var) (j : ℕ) : Type 0 where
  place : ℕ
  inside : place < length vars
  passes : t (var_at vars place) ≡ true
  before : count_by t (take place vars) ≡ j

next : (t : Var → Bool) (v : Var) (vars : List Var) (b : Bool) → t v ≡ b → (j : ℕ) → Nth t vars j → Nth t (v ∷ vars) (cond b 1 0 + j)
next t v vars b e j x = record {
  place = suc x.place;
  inside = omega (arith, x.inside);
  passes = x.passes;
  before = sum_by-cons (λ (x : Var). cond (t x) 1 0) v (take x.place vars) ∙ ap (λ b. cond b 1 0 + count_by t (take x.place vars)) e ∙ ap (λ n. cond b 1 0 + n) x.before;
}

nth_here : (t : Var → Bool) (v : Var) (vars : List Var) (b : Bool) → t v ≡ b → (j : ℕ) → j < cond b 1 0 + count_by t vars → ((j : ℕ) → j < count_by t vars → Nth t vars j) → Nth t (v ∷ vars) j
nth_here t v vars true e zero l more = record { place = 0; inside = omega arith; passes = e; before = refl }
nth_here t v vars true e (suc j) l more = subst (Nth t (v ∷ vars)) (let q : 1 + j ≡ suc j = omega arith in q) (next t v vars true e j (more j (omega (arith, l))))
nth_here t v vars false e j l more = subst (Nth t (v ∷ vars)) (let q : 0 + j ≡ j = omega arith in q) (next t v vars false e j (more j (omega (arith, l))))

nth : (t : Var → Bool) (vars : List Var) (j : ℕ) → j < count_by t vars → Nth t vars j
nth t [] j l = absurd (omega (arith, l))
nth t (v ∷ vars) j l = nth_here t v vars (t v) refl j (subst (λ n. j < n) (sum_by-cons (λ (x : Var). cond (t x) 1 0) v vars) l) (nth t vars)

dest_is : (k : VarKind) → same_kind kind.Dest k ≡ true → is_array_kind k ≡ true
dest_is kind.Dest h = refl
dest_is kind.Source h = absurd (true≢false (sym h))
dest_is kind.Temp h = absurd (true≢false (sym h))
dest_is kind.Param h = absurd (true≢false (sym h))
dest_is kind.Const h = absurd (true≢false (sym h))
dest_is kind.Accumulator h = absurd (true≢false (sym h))

source_is : (k : VarKind) → same_kind kind.Source k ≡ true → (is_array_kind k ≡ true) × (same_kind kind.Dest k ≡ false)
source_is kind.Source h = (refl, refl)
source_is kind.Dest h = absurd (true≢false (sym h))
source_is kind.Temp h = absurd (true≢false (sym h))
source_is kind.Param h = absurd (true≢false (sym h))
source_is kind.Const h = absurd (true≢false (sym h))
source_is kind.Accumulator h = absurd (true≢false (sym h))

-- an array that is no dest is a source
other_array : (k : VarKind) → is_array_kind k ≡ true → same_kind kind.Dest k ≡ false → same_kind kind.Source k ≡ true
other_array kind.Source h e = refl
other_array kind.Dest h e = absurd (true≢false e)
other_array kind.Temp h e = absurd (true≢false (sym h))
other_array kind.Param h e = absurd (true≢false (sym h))
other_array kind.Const h e = absurd (true≢false (sym h))
other_array kind.Accumulator h e = absurd (true≢false (sym h))

-- the variable of a slot
pub record HasSlot (f : FunctionValue) (k : ℕ) : Type 0 where
  pub place : ℕ
  pub array : IsArrayVar f place
  pub slot : slot_of f.vars place ≡ k

pub has_slot : (f : FunctionValue) (k : ℕ) → IsArray (subject_of f) k → HasSlot f k
has_slot f k (inl l) =
    let x = nth (is_of kind.Dest) f.vars k l in
    record {
      place = x.place;
      array = (x.inside, dest_is (var_at f.vars x.place).kind x.passes);
      slot = ap (λ b. if b then count_before kind.Dest f.vars x.place else 4 + count_before kind.Source f.vars x.place) x.passes ∙ x.before;
    }
has_slot f k (inr l) =
    let x = nth (is_of kind.Source) f.vars (k - 4) (omega (arith, l.0, l.1)) in
    let is = source_is (var_at f.vars x.place).kind x.passes in
    record {
      place = x.place;
      array = (x.inside, is.0);
      slot = ap (λ b. if b then count_before kind.Dest f.vars x.place else 4 + count_before kind.Source f.vars x.place) is.1 ∙ omega (arith, x.before, l.0);
    }

-- ---- which slots are near

module _ (f : FunctionValue) (few : Limits f) where
  variable_of_dest : (p : ℕ) → p < length f.vars → is_of kind.Dest (var_at f.vars p) ≡ true → variable_of f (slot_of f.vars p) ≡ p
  variable_of_dest p inside e =
      let j = count_before kind.Dest f.vars p in
      let below : nat_lt j 4 ≡ true = lt-ltb j 4 (omega (arith, before_less kind.Dest f.vars p inside e, few.dests)) in
      ap (λ b. let k : ℕ = if b then j else 4 + count_before kind.Source f.vars p in variable_of f k) e
      ∙ ap (λ b. if b then slice_index (places_of kind.Dest f.vars) j else slice_index (places_of kind.Source f.vars) (j - 4)) below ∙ place_again kind.Dest f.vars p inside e

  variable_of_source : (p : ℕ) → p < length f.vars → is_of kind.Dest (var_at f.vars p) ≡ false → is_of kind.Source (var_at f.vars p) ≡ true → variable_of f (slot_of f.vars p) ≡ p
  variable_of_source p inside none e =
      let j = count_before kind.Source f.vars p in
      let above : nat_lt (4 + j) 4 ≡ false = le-ltb (4 + j) 4 (omega arith) in
      ap (λ b. let k : ℕ = if b then count_before kind.Dest f.vars p else 4 + j in variable_of f k) none
      ∙ ap (λ b. if b then slice_index (places_of kind.Dest f.vars) (4 + j) else slice_index (places_of kind.Source f.vars) (4 + j - 4)) above
      ∙ ap (slice_index (places_of kind.Source f.vars)) (let z : 4 + j - 4 ≡ j = omega arith in z) ∙ place_again kind.Source f.vars p inside e

  -- the variable of a variable's slot is that variable
  pub variable_again : (p : ℕ) → IsArrayVar f p → variable_of f (slot_of f.vars p) ≡ p
  variable_again p h = go (is_of kind.Dest (var_at f.vars p)) refl
    where
      go : (b : Bool) → is_of kind.Dest (var_at f.vars p) ≡ b → variable_of f (slot_of f.vars p) ≡ p
      go true e = variable_of_dest p h.0 e
      go false e = variable_of_source p h.0 e (other_array (var_at f.vars p).kind h.1 e)

  variable_is : (k : ℕ) (h : HasSlot f k) → variable_of f k ≡ h.place
  variable_is k h = ap (variable_of f) (sym h.slot) ∙ variable_again h.place h.array

  pub near_variable : (k : ℕ) → IsNear f k → (h : HasSlot f k) → is_near f h.place ≡ true
  near_variable k n h = ap (is_near f) (sym (variable_is k h)) ∙ n.1

  -- an array with a cell for each element has a near slot
  pub near_slot : (args : Arguments) (p : ℕ) → IsArrayVar f p → is_near f p ≡ true → IsNear f (slot_of f.vars p)
  near_slot args p h n = ((slot_is f args few p h.0 h.1).slot, ap (is_near f) (variable_again p h) ∙ n)

  -- dests have
  pub near_dest : (k : ℕ) → k < count_of kind.Dest f.vars → IsNear f k
  near_dest k l =
      let x = nth (is_of kind.Dest) f.vars k l in
      let slot : slot_of f.vars x.place ≡ k = ap (λ b. if b then count_before kind.Dest f.vars x.place else 4 + count_before kind.Source f.vars x.place) x.passes ∙ x.before in
      let array : IsArrayVar f x.place = (x.inside, dest_is (var_at f.vars x.place).kind x.passes) in
      let near : is_near f x.place ≡ true = ap (λ b. b || (list_any (reads_near x.place) f.insns || not (list_any (reads_far x.place) f.insns))) x.passes in
      (inl l, ap (is_near f) (ap (variable_of f) (sym slot) ∙ variable_again x.place array) ∙ near)

-- ---- the place of a slot

-- the base tells which slot stands at a place of the call
place_found : (s : ℕ → ℕ) (b : ℕ → ℕ) (k : ℕ) (xs : List ℕ) (i : ℕ) → (get_or (map (λ x. place_with (suc x) (s x)) xs) i no_place).base ≡ suc k → get_or (map (λ x. place_with (b x) (s x)) xs) i no_place ≡ place_with (b k) (s k)
place_found s b k [] zero e = absurd (omega (arith, e))
place_found s b k [] (suc i) e = absurd (omega (arith, e))
place_found s b k (x ∷ xs) zero e = ap (λ x. place_with (b x) (s x)) (let q : x ≡ k = omega (arith, e) in q)
place_found s b k (x ∷ xs) (suc i) e = place_found s b k xs i e

module _ (f : FunctionValue) (few : Limits f) (args : Arguments) where
  abbrev call : Call
  call = call_of f args.n args.m args.base args.stride args.param

  slot_at : (p : ℕ) → IsArrayVar f p → SlotIs f args p
  slot_at p h = slot_is f args few p h.0 h.1

  place_is : (p : ℕ) → IsArrayVar f p → place_at f call p ≡ place_with (args.base (slot_of f.vars p)) (args.stride (slot_of f.vars p))
  place_is p h = place_found args.stride args.base (slot_of f.vars p) (slots f.vars) (array_number f.vars p) (slot_is f (record args { base = suc }) few p h.0 h.1).base

  -- strides are words
  module _ (words : (k : ℕ) → IsArray (subject_of f) k → args.stride k < 2 ^ 64) where
    pub byte_is : (p r i j : ℕ) → IsArrayVar f p → byte_at f call p r i j ≡ cell (subject_of f) args (slot_of f.vars p) r i j
    byte_is p r i j h =
        let k = slot_of f.vars p in
        let s = slot_at p h in
        byte_address f call p r i j
        ∙ ap (λ (x : Place). (x.base + r * cast_unsigned w64 x.stride + i * (var_at f.vars p).size + j) % 2 ^ 64) (place_is p h)
        ∙ ap (λ n. (args.base k + r * n + i * (var_at f.vars p).size + j) % 2 ^ 64) (of_z-to_z w64 (args.stride k) (words k s.slot))
        ∙ ap (λ z. (args.base k + r * args.stride k + i * z + j) % 2 ^ 64) (sym s.size)

    -- a byte of a cell of an element is one of the variable's slot
    pub in_slot : (p r i j : ℕ) → IsByte f call p r i j → i < args.n → InArray (subject_of f) args (slot_of f.vars p) (byte_at f call p r i j)
    in_slot p r i j h l =
        let s = slot_at p h.array in
        (r, h.row, i, l, j, subst (λ z. j < z) (sym s.size) h.inside, byte_is p r i j h.array)

    -- and the other way, where there is a cell for each element
    pub of_variable : (p a : ℕ) → IsArrayVar f p → is_near f p ≡ true → (w : InArray (subject_of f) args (slot_of f.vars p) a) → IsByte f call p w.0 w.2 w.4 × (a ≡ byte_at f call p w.0 w.2 w.4)
    of_variable p a h near w =
        let s = slot_at p h in
        (record { array = h; row = w.1; element = inl (near, w.3); inside = subst (λ z. w.4 < z) s.size w.5 }, w.6 ∙ sym (byte_is p w.0 w.2 w.4 h))

    -- a byte of a cell of a slot is one of a cell of a variable
    pub cells_by_slots : (a : ℕ) → InCells f args a → IsCellByte f call a
    cells_by_slots a w =
        let h = has_slot f w.0 w.1.0 in
        let x = subst (λ k. InArray (subject_of f) args k a) (sym h.slot) w.2 in
        let b = of_variable h.place a h.array (near_variable f few w.0 w.1 h) x in
        record { place = h.place; row = x.0; element = x.2; byte = x.4; cell = b.0; here = b.1 }

    -- ---- by slots, then by variables, where there is no far load

    module _ (near : has_far f ≡ false) where
      in_slots : (p r i j : ℕ) → IsByte f call p r i j → InArray (subject_of f) args (slot_of f.vars p) (byte_at f call p r i j)
      in_slots p r i j h = in_slot p r i j h (element_of f call near p i h.element)

      in_cells : (p r i j : ℕ) → IsByte f call p r i j → InCells f args (byte_at f call p r i j)
      in_cells p r i j h = (slot_of f.vars p, near_slot f few args p h.array (all_near f near p), in_slots p r i j h)

      pub cells_by_variables : (a : ℕ) → IsCellByte f call a → InCells f args a
      cells_by_variables a w = subst (InCells f args) (sym w.here) (in_cells w.place w.row w.element w.byte w.cell)

      same_variables : (p q : ℕ) → IsArrayVar f p → IsArrayVar f q → VerySame (subject_of f) args (slot_of f.vars p) (slot_of f.vars q) → IsSame f call p q
      same_variables p q hp hq v = record {
        size = sym (slot_at p hp).size ∙ v.size ∙ (slot_at q hq).size;
        base = (slot_at p hp).base ∙ v.base ∙ sym (slot_at q hq).base;
        stride = λ two. ap (λ (x : Place). x.stride) (place_is p hp) ∙ ap (cast_signed w64) (v.stride two) ∙ sym (ap (λ (x : Place). x.stride) (place_is q hq));
        near = λ d. ap₂ (λ a b. a || b) (none_read f near p) (none_read f near q);
      }

      pub good_by_variables : (mem : Memory) → GoodSlots f args mem → GoodArrays f call mem
      good_by_variables mem g = record {
        elements = g.few;
        rows_few = g.few_rows;
        low = λ p r i j h. g.low _ (in_cells p r i j h);
        apart = λ p q hp hq ne. ⊎_elim
            (λ a. inl (λ r i j r2 i2 j2 x y e. a (byte_at f call p r i j) (in_slots p r i j x) (subst (InArray (subject_of f) args (slot_of f.vars q)) (sym e) (in_slots q r2 i2 j2 y))))
            (λ v. inr (same_variables p q hp hq v))
            (g.separate (slot_of f.vars p) (slot_of f.vars q) (near_slot f few args p hp (all_near f near p)) (near_slot f few args q hq (all_near f near q)));
        mapped = λ p r i j h. g.mapped _ (in_cells p r i j h);
      }

    -- ---- by variables, then by slots

    same_slots : (p q : ℕ) → IsArrayVar f p → IsArrayVar f q → IsSame f call p q → VerySame (subject_of f) args (slot_of f.vars p) (slot_of f.vars q)
    same_slots p q hp hq v = record {
      size = (slot_at p hp).size ∙ v.size ∙ sym (slot_at q hq).size;
      base = sym (slot_at p hp).base ∙ v.base ∙ (slot_at q hq).base;
      stride = λ two.
          sym (of_z-to_z w64 (args.stride (slot_of f.vars p)) (words _ (slot_at p hp).slot))
          ∙ ap (cast_unsigned w64) (sym (ap (λ (x : Place). x.stride) (place_is p hp)) ∙ v.stride two ∙ ap (λ (x : Place). x.stride) (place_is q hq))
          ∙ of_z-to_z w64 (args.stride (slot_of f.vars q)) (words _ (slot_at q hq).slot);
    }

    abbrev Separate : ℕ → ℕ → Type 0
    Separate k l = Apart (subject_of f) args k l ⊎ VerySame (subject_of f) args k l

    separate_variables : (mem : Memory) → GoodArrays f call mem → (p q : ℕ) → IsArrayVar f p → IsArrayVar f q → is_near f p ≡ true → is_near f q ≡ true → Separate (slot_of f.vars p) (slot_of f.vars q)
    separate_variables mem g p q hp hq np nq = ⊎_elim
        (λ e. inr (record { size = ap (λ p. size_of_slot f.vars (slot_of f.vars p)) e; base = ap (λ p. args.base (slot_of f.vars p)) e; stride = λ two. ap (λ p. args.stride (slot_of f.vars p)) e }))
        (λ ne. ⊎_elim
        (λ a. inl (λ t x y. let b = of_variable p t hp np x in let c = of_variable q t hq nq y in a x.0 x.2 x.4 y.0 y.2 y.4 b.0 c.0 (sym b.1 ∙ c.1)))
        (λ v. inr (same_slots p q hp hq v))
        (g.apart p q hp hq ne))
        (cases_eq p q)

    pub good_by_slots : (mem : Memory) → GoodArrays f call mem → GoodSlots f args mem
    good_by_slots mem g = record {
      few = g.elements;
      few_rows = g.rows_few;
      low = λ a w. let b = cells_by_slots a w in subst (λ x. x < 2 ^ 47) (sym b.here) (g.low _ _ _ _ b.cell);
      separate = λ k l hk hl. let x = has_slot f k hk.0 in let y = has_slot f l hl.0 in
          subst (λ k. Separate k l) x.slot (subst (Separate (slot_of f.vars x.place)) y.slot (separate_variables mem g x.place y.place x.array y.array (near_variable f few k hk x) (near_variable f few l hl y)));
      mapped = λ a w. let b = cells_by_slots a w in subst (IsMapped mem) (sym b.here) (g.mapped _ _ _ _ b.cell);
    }
