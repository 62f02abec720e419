-- Running sums that stand in registers, and those that stand in the frame.
use Rattle.std.proofs.Common.{◌≡◌, ◌≢◌, ℕ, Bool, zero, suc, ◌+◌, ◌<◌, ◌≤◌, true, false, max, if◌then◌else◌, List, [], ◌∷◌, ◌++◌, get_or, slice_index, length, take, map, Some, refl, sym, ap, ◌∙◌, subst, arith, le_trans, ⊎_elim}
use Rattle.std.proofs.lemmas.Bool.{cases_lt, lt-ltb, le-ltb}
use Rattle.std.proofs.lemmas.List.{take_more}
use Rattle.std.proofs.Math.Nat.{le-max_left, le-max_right}
use Rattle.x86_ins.specs.Machine.{Core}
use Rattle.x86_ins.specs.Way.{Each}
use Rattle.orc_plan.specs.declared.steps.Item.{Item}
use Rattle.orc_plan.specs.declared.steps.Step.{Step}
use Rattle.orc_plan.specs.declared.steps.Item.TheVariants as item
use Rattle.orc_program.specs.Need.{places, registers}
use Rattle.orc_frame.specs.Layout.{sum_slot}
use Rattle.orc_region.specs.Code.{Source, FromArray, FromPattern, FromResident, FromPlace, FromSlot, FromFar, Target, ToArray, ToSum, ToResident, ToPlace, ToSlot, slot_place, resident_register, first_register, second_register, last_place, is_resident, to_sum, is_to, is_from, is_last, is_beside, take_names, Seats, from_pattern, source_of, target_of}
use Rattle.orc_region.specs.Elements.{sum_byte}
use Rattle.orc_region.proofs.Block.Places.{by_source, by_target}

-- ---- where a running sum stands; values have places up to `last`

abbrev pub IsResident : ℕ → ℕ → Type 0
IsResident last g = last + g + 1 < registers

abbrev pub IsFramed : ℕ → ℕ → Type 0
IsFramed last g = registers ≤ last + g + 1

pub resident_yes : (last g : ℕ) → IsResident last g → is_resident last g ≡ true
resident_yes last g h = lt-ltb (last + g + 1) registers h

pub resident_no : (last g : ℕ) → IsFramed last g → is_resident last g ≡ false
resident_no last g h = le-ltb (last + g + 1) registers h

-- what holds of a sum's register or of its slot holds of where it stands
pub by_sum : (T : Target → Type 0) (at : List ℕ) (g : ℕ) → (IsResident (last_place at) g → T (ToResident g)) → (IsFramed (last_place at) g → T (ToSum g)) → T (to_sum at g)
by_sum T at g register slot = ⊎_elim
    (λ l. subst T (sym (ap (λ b. if b then ToResident g else ToSum g) (resident_yes (last_place at) g l))) (register l))
    (λ l. subst T (sym (ap (λ b. if b then ToResident g else ToSum g) (resident_no (last_place at) g l))) (slot l))
    (cases_lt (last_place at + g + 1) registers)

-- a sum is at no place
pub sum_elsewhere : (p : ℕ) (at : List ℕ) (g : ℕ) → is_to p (to_sum at g) ≡ false
sum_elsewhere p at g = by_sum (λ t. is_to p t ≡ false) at g (λ l. refl) (λ l. refl)

-- what holds of a pattern's register or of its slot holds of where it comes from
pub by_pattern : (S : Source → Type 0) (seats : Seats) (j : ℕ) → (IsResident (last_place seats.places) (seats.sums + j) → S (FromResident j (seats.sums + j))) → (IsFramed (last_place seats.places) (seats.sums + j) → S (FromPattern j)) → S (from_pattern seats j)
by_pattern S seats j register slot =
    let last = last_place seats.places in
    let g = seats.sums + j in
    ⊎_elim
    (λ l. subst S (sym (ap (λ b. if b then FromResident j g else FromPattern j) (resident_yes last g l))) (register l))
    (λ l. subst S (sym (ap (λ b. if b then FromResident j g else FromPattern j) (resident_no last g l))) (slot l))
    (cases_lt (last + g + 1) registers)

-- a pattern is at no place, and its register is not taken over
pub pattern_elsewhere : (p : ℕ) (seats : Seats) (j : ℕ) → is_from p (from_pattern seats j) ≡ false
pattern_elsewhere p seats j = by_pattern (λ s. is_from p s ≡ false) seats j (λ l. refl) (λ l. refl)

pub pattern_later : (seats : Seats) (later : List Step) (j : ℕ) → is_last seats later (from_pattern seats j) ≡ false
pattern_later seats later j = by_pattern (λ s. is_last seats later s ≡ false) seats j (λ l. refl) (λ l. refl)

pub pattern_beside : (seats : Seats) (j : ℕ) (t : Source) → is_beside (from_pattern seats j) t ≡ false
pattern_beside seats j t = by_pattern (λ s. is_beside s t ≡ false) seats j (λ l. refl) (λ l. refl)

pub pattern_names : (one : Bool) (x : ℕ) (seats : Seats) (j : ℕ) (names : List ℕ) → take_names one x (from_pattern seats j) names ≡ names
pattern_names one x seats j names = by_pattern (λ s. take_names one x s names ≡ names) seats j (λ l. refl) (λ l. refl)

module _ (last rsp : ℕ) where
  pub byte_register : (c : Core) (g b : ℕ) → IsResident last g → sum_byte last rsp c g b ≡ Some (get_or (c.xmm (resident_register g)) b 0)
  byte_register c g b l = ap (λ t. if t then Some (get_or (c.xmm (resident_register g)) b 0) else c.memory (rsp + sum_slot g + b)) (resident_yes last g l)

  pub byte_slot : (c : Core) (g b : ℕ) → IsFramed last g → sum_byte last rsp c g b ≡ c.memory (rsp + sum_slot g + b)
  byte_slot c g b l = ap (λ t. if t then Some (get_or (c.xmm (resident_register g)) b 0) else c.memory (rsp + sum_slot g + b)) (resident_no last g l)

  -- the registers of sums stay
  abbrev pub SameSums : Core → Core → Type 0
  SameSums c d = (g : ℕ) → IsResident last g → d.xmm (resident_register g) ≡ c.xmm (resident_register g)

  -- the sum stays where its register and its slot do
  pub byte_same : (c d : Core) (g b : ℕ) → (IsResident last g → d.xmm (resident_register g) ≡ c.xmm (resident_register g)) → (IsFramed last g → d.memory (rsp + sum_slot g + b) ≡ c.memory (rsp + sum_slot g + b)) → sum_byte last rsp d g b ≡ sum_byte last rsp c g b
  byte_same c d g b x m = ⊎_elim
      (λ l. byte_register d g b l ∙ ap (λ v. Some (get_or v b 0)) (x l) ∙ sym (byte_register c g b l))
      (λ l. byte_slot d g b l ∙ m l ∙ sym (byte_slot c g b l))
      (cases_lt (last + g + 1) registers)

-- ---- values have places up to the last one

pub place_last : (at : List ℕ) (v : ℕ) → slice_index at v ≤ last_place at
place_last [] v = omega arith
place_last (p ∷ ps) zero = le-max_left p (last_place ps)
place_last (p ∷ ps) (suc v) = le_trans (place_last ps v) (le-max_right p (last_place ps))

-- one more place
pub last_more : (at : List ℕ) (p : ℕ) → last_place (at ++ p ∷ []) ≡ max (last_place at) p
last_more [] p = omega arith
last_more (q ∷ at) p = ap (max q) (last_more at p) ∙ (let e : max q (max (last_place at) p) ≡ max (max q (last_place at)) p = omega arith in e)

pub last_taken : (at : List ℕ) (k last new : ℕ) → k < length at → last ≡ last_place (take k at) → new ≡ max last (slice_index at k) → new ≡ last_place (take (k + 1) at)
last_taken at k last new l h e = e ∙ ap (λ n. max n (slice_index at k)) h ∙ sym (last_more (take k at) (slice_index at k)) ∙ ap last_place (sym (take_more at k 0 l))

-- it is one of theirs
pub last_below : (at : List ℕ) → ((v : ℕ) → v < length at → slice_index at v < places) → last_place at < places
last_below [] h = omega arith
last_below (p ∷ ps) h = max_below p (last_place ps) (h 0 (omega arith)) (last_below ps (λ v l. h (suc v) (omega (arith, l))))
  where
    max_below : (a b : ℕ) → a < places → b < places → max a b < places
    max_below a b l m = omega (arith, l, m)

-- a source, and a result, that agree with that
abbrev pub SourceWithin : ℕ → Source → Type 0
SourceWithin last (FromArray k) = Unit {0}
SourceWithin last (FromPattern j) = Unit {0}
SourceWithin last (FromResident j g) = Unit {0}
SourceWithin last (FromPlace p) = p ≤ last
SourceWithin last (FromFar load array js) = Unit {0}
SourceWithin last (FromSlot k) = slot_place k ≤ last

abbrev pub TargetWithin : ℕ → Target → Type 0
TargetWithin last (ToArray k) = Unit {0}
TargetWithin last (ToSum g) = IsFramed last g
TargetWithin last (ToResident g) = IsResident last g
TargetWithin last (ToPlace p) = p ≤ last
TargetWithin last (ToSlot k) = Unit {0}

source_within : (seats : Seats) (i : Item) → SourceWithin (last_place seats.places) (source_of seats i)
source_within seats (item.Value v) =
    let at = seats.places in
    by_source (SourceWithin (last_place at)) (slice_index at v) (λ l. place_last at v) (λ k e. subst (λ p. p ≤ last_place at) e (place_last at v))
source_within seats (item.Array slot) = tt
source_within seats (item.Acc slot size) = tt
source_within seats (item.Pattern j) = by_pattern (SourceWithin (last_place seats.places)) seats j (λ l. tt) (λ l. tt)

target_within : (at : List ℕ) (i : Item) → TargetWithin (last_place at) (target_of at i)
target_within at (item.Value v) = by_target (TargetWithin (last_place at)) (slice_index at v) (λ l. place_last at v) (λ k e. tt)
target_within at (item.Array slot) = tt
target_within at (item.Acc slot size) = by_sum (TargetWithin (last_place at)) at slot (λ l. l) (λ l. l)
target_within at (item.Pattern j) = tt

pub sources_within : (seats : Seats) (is : List Item) → Each (SourceWithin (last_place seats.places)) (map (source_of seats) is)
sources_within seats [] = tt
sources_within seats (i ∷ is) = (source_within seats i, sources_within seats is)

pub targets_within : (at : List ℕ) (is : List Item) → Each (TargetWithin (last_place at)) (map (target_of at) is)
targets_within at [] = tt
targets_within at (i ∷ is) = (target_within at i, targets_within at is)

-- no result is made in the register of a running sum
first_clear : (last : ℕ) (ts : List Target) → Each (TargetWithin last) ts → (g : ℕ) → IsResident last g → first_register ts ≢ resident_register g
first_clear last [] h g l e = omega (arith, e)
first_clear last (ToArray k ∷ more) h g l e = omega (arith, e)
first_clear last (ToSum j ∷ more) h g l e = omega (arith, e)
first_clear last (ToResident j ∷ more) h g l e = omega (arith, e)
first_clear last (ToPlace p ∷ more) h g l e = omega (arith, e, l, h.0)
first_clear last (ToSlot k ∷ more) h g l e = omega (arith, e)

second_clear : (last : ℕ) (ts : List Target) → Each (TargetWithin last) ts → (g : ℕ) → IsResident last g → second_register ts ≢ resident_register g
second_clear last [] h g l e = omega (arith, e)
second_clear last (t ∷ []) h g l e = omega (arith, e)
second_clear last (t ∷ ToArray k ∷ more) h g l e = omega (arith, e)
second_clear last (t ∷ ToSum j ∷ more) h g l e = omega (arith, e)
second_clear last (t ∷ ToResident j ∷ more) h g l e = omega (arith, e)
second_clear last (t ∷ ToPlace p ∷ more) h g l e = omega (arith, e, l, h.1.0)
second_clear last (t ∷ ToSlot k ∷ more) h g l e = omega (arith, e)

abbrev pub IsClear : ℕ → List Target → Type 0
IsClear last ts = (g : ℕ) → IsResident last g → (first_register ts ≢ resident_register g) × (second_register ts ≢ resident_register g)

pub clear_of : (last : ℕ) (ts : List Target) → Each (TargetWithin last) ts → IsClear last ts
clear_of last ts h g l = (first_clear last ts h g l, second_clear last ts h g l)
