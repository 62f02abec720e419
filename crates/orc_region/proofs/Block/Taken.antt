-- Registers that are taken over: nothing that follows reads what stood there.
use Rattle.std.proofs.Common.{◌≡◌, ℕ, ◌*◌, ◌==◌, Bool, true, false, true≢false, not, ◌&&◌, ◌||◌, if◌then◌else◌, List, [], ◌∷◌, map, slice_index, Option, Some, None, refl, sym, ap, ap₂, ◌∙◌, subst, ◌⊎◌, inl, inr, ⊎_elim}
use Rattle.std.proofs.lemmas.Bool.{cases_eq, eqb-true}
use Rattle.orc_bits.specs.Lanes.{change}
use Rattle.orc_bits.proofs.LaneLaws.{change_other, change_same, eq_true}
use Rattle.orc_ops.specs.declared.far.Far.{Far}
use Rattle.orc_ops.specs.declared.opcode.Op.{Op}
use Rattle.orc_ops.specs.Far.{far_of}
use Rattle.orc_ops.specs.declared.target.Target.{Target as CodeTarget}
use Rattle.orc_ops.specs.Table.{size_of_result, size_of_source}
use Rattle.orc_program.proofs.Sizes.{both}
use Rattle.orc_plan.specs.declared.steps.Item.{Item}
use Rattle.orc_plan.specs.declared.steps.Item.TheVariants as item
use Rattle.orc_plan.specs.declared.steps.Step.{Step}
use Rattle.orc_region.proofs.Block.Places.{by_source}
use Rattle.orc_region.proofs.Block.Sums.{by_pattern}
use Rattle.orc_region.specs.Code.{Action, source_of, target_of, far_sources, sources_of, Seats, Source, FromArray, FromPattern, FromResident, FromPlace, FromSlot, FromFar, Target, ToArray, ToSum, ToResident, ToPlace, ToSlot, slot_place, AreActions, is_from, is_to, some_from, some_to, is_free, is_last, is_beside, is_first_taken, is_second_taken}
use Rattle.orc_region.proofs.Block.Cells.{Numbers, live_target, live_targets, live_act, IsFrom, AreFrom, IsKnown, AllKnown}

-- of these actions none reads what stands at the place: before one does, one makes a value there
abbrev pub is_free_in : ℕ → List Action → Bool
is_free_in p [] = true
is_free_in p (a ∷ rest) = not (some_from p a.sources) && (some_to p a.to || is_free_in p rest)

-- a source that may be taken over where these actions follow
abbrev pub MayTake : Bool → List Action → Source → Type 0
MayTake false rest s = Unit {0}
MayTake true rest (FromPlace p) = is_free_in p rest ≡ true
MayTake true rest (FromArray k) = ⊥
MayTake true rest (FromPattern j) = ⊥
MayTake true rest (FromResident j g) = ⊥
MayTake true rest (FromFar load array js) = ⊥
MayTake true rest (FromSlot k) = ⊥

-- the other source isn't in its register
abbrev pub IsApart : Bool → Source → Source → Type 0
IsApart one s t = one ≡ true → is_beside s t ≡ false

-- it is no far load's values
abbrev pub IsNear : Source → Type 0
IsNear (FromArray k) = Unit {0}
IsNear (FromPattern j) = Unit {0}
IsNear (FromResident j g) = Unit {0}
IsNear (FromPlace p) = Unit {0}
IsNear (FromFar load array js) = ⊥
IsNear (FromSlot k) = Unit {0}

-- and so are an action's one or two sources
abbrev pub AreNear : List Source → Type 0
AreNear [] = Unit {0}
AreNear (s ∷ []) = IsNear s
AreNear (s ∷ t ∷ more) = IsNear s × IsNear t

-- far loads' values stand alone
abbrev pub AreTaken : Bool → Bool → List Action → List Source → Type 0
AreTaken one two rest [] = Unit {0}
AreTaken one two rest (s ∷ []) = MayTake one rest s
AreTaken one two rest (s ∷ t ∷ more) = MayTake one rest s × MayTake two rest t × IsApart one s t × IsApart two t s × AreNear (s ∷ t ∷ more)

abbrev pub AllTaken : List Action → Type 0
AllTaken [] = Unit {0}
AllTaken (a ∷ rest) = AreTaken a.takes_first a.takes_second rest a.sources × AllTaken rest

-- ---- the actions of steps

-- a far load reads no register that a source of its step is in
far_unread : (p : ℕ) (load : Far) (is : List Item) → not (some_from p (far_sources load is)) ≡ true
far_unread p load [] = refl
far_unread p load (item.Array slot ∷ scalars) = refl
far_unread p load (item.Value v ∷ is) = refl
far_unread p load (item.Acc slot size ∷ is) = refl
far_unread p load (item.Pattern j ∷ is) = refl

unread : (seats : Seats) (p : ℕ) (far : Option Far) (is : List Item) → not (some_from p (map (source_of seats) is)) ≡ true → not (some_from p (sources_of seats far is)) ≡ true
unread seats p None is h = h
unread seats p (Some load) is h = far_unread p load is

or_on : (b x y : Bool) → (x ≡ true → y ≡ true) → (b || x) ≡ true → (b || y) ≡ true
or_on true x y f h = refl
or_on false x y f h = f h

-- what no step reads no action reads
free_in : (target : CodeTarget) (seats : Seats) (count : ℕ) (steps : List Step) (actions : List Action) (p : ℕ) → AreActions target seats count steps actions → is_free seats p steps ≡ true → is_free_in p actions ≡ true
free_in target seats count [] [] p is h = refl
free_in target seats count [] (a ∷ rest) p is h = absurd is
free_in target seats count (s ∷ steps) [] p is h = absurd is
free_in target seats count (s ∷ steps) (a ∷ rest) p is h =
    let parts = both (not (some_from p (map (source_of seats) s.sources.items))) (some_to p (map (target_of seats.places) s.results.items) || is_free seats p steps) h in
    ap₂ (λ x y. x && y)
    (ap (λ ss. not (some_from p ss)) is.0.0.sources ∙ unread seats p (far_of s.op) s.sources.items parts.0)
    (ap (λ ts. some_to p ts || is_free_in p rest) is.0.0.to ∙ or_on (some_to p (map (target_of seats.places) s.results.items)) (is_free seats p steps) (is_free_in p rest) (λ e. free_in target seats count steps rest p is.1 e) parts.1)

not_yes : (b : Bool) → not b ≡ true → b ≡ false
not_yes false h = refl
not_yes true h = absurd (true≢false (sym h))

-- two sources or more are no far loads' values
abbrev AreAlone : List Source → Type 0
AreAlone [] = Unit {0}
AreAlone (s ∷ []) = Unit {0}
AreAlone (s ∷ t ∷ more) = AreNear (s ∷ t ∷ more)

source_near : (seats : Seats) (i : Item) → IsNear (source_of seats i)
source_near seats (item.Value v) = by_source IsNear (slice_index seats.places v) (λ l. tt) (λ k e. tt)
source_near seats (item.Array slot) = tt
source_near seats (item.Acc slot size) = tt
source_near seats (item.Pattern j) = by_pattern IsNear seats j (λ l. tt) (λ l. tt)

far_alone : (load : Far) (is : List Item) → AreAlone (far_sources load is)
far_alone load [] = tt
far_alone load (item.Array slot ∷ scalars) = tt
far_alone load (item.Value v ∷ is) = tt
far_alone load (item.Acc slot size ∷ is) = tt
far_alone load (item.Pattern j ∷ is) = tt

sources_alone : (seats : Seats) (far : Option Far) (is : List Item) → AreAlone (sources_of seats far is)
sources_alone seats (Some load) is = far_alone load is
sources_alone seats None [] = tt
sources_alone seats None (i ∷ []) = tt
sources_alone seats None (i ∷ j ∷ is) = (source_near seats i, source_near seats j)

module _ (seats : Seats) (later : List Step) (rest : List Action) (free : (p : ℕ) → is_free seats p later ≡ true → is_free_in p rest ≡ true) where
  may_take : (b : Bool) (s : Source) → (b ≡ true → is_last seats later s ≡ true) → MayTake b rest s
  may_take false s h = tt
  may_take true (FromPlace p) h = free p (h refl)
  may_take true (FromArray k) h = absurd (true≢false (sym (h refl)))
  may_take true (FromPattern j) h = absurd (true≢false (sym (h refl)))
  may_take true (FromResident j g) h = absurd (true≢false (sym (h refl)))
  may_take true (FromFar load array js) h = absurd (true≢false (sym (h refl)))
  may_take true (FromSlot k) h = absurd (true≢false (sym (h refl)))

  of_sources : (one two : Bool) (ss : List Source) → one ≡ is_first_taken seats later ss → two ≡ is_second_taken seats later ss → AreAlone ss → AreTaken one two rest ss
  of_sources one two [] e f alone = tt
  of_sources one two (s ∷ []) e f alone = may_take one s (λ t. sym e ∙ t)
  of_sources one two (s ∷ t ∷ more) e f alone =
      let x : one ≡ true → (is_last seats later s ≡ true) × (not (is_beside s t) ≡ true) = λ y. both (is_last seats later s) (not (is_beside s t)) (sym e ∙ y) in
      let z : two ≡ true → (is_last seats later t ≡ true) × (not (is_beside t s) ≡ true) = λ y. both (is_last seats later t) (not (is_beside t s)) (sym f ∙ y) in
      (may_take one s (λ y. (x y).0), may_take two t (λ y. (z y).0), (λ y. not_yes (is_beside s t) (x y).1), (λ y. not_yes (is_beside t s) (z y).1), alone)

pub all_taken : (target : CodeTarget) (seats : Seats) (count : ℕ) (steps : List Step) (actions : List Action) → AreActions target seats count steps actions → AllTaken actions
all_taken target seats count [] [] is = tt
all_taken target seats count [] (a ∷ rest) is = absurd is
all_taken target seats count (s ∷ steps) [] is = absurd is
all_taken target seats count (s ∷ steps) (a ∷ rest) is =
    (of_sources seats steps rest (λ p. free_in target seats count steps rest p is.1) a.takes_first a.takes_second a.sources is.0.1.first is.0.1.second (subst AreAlone (sym is.0.0.sources) (sources_alone seats (far_of s.op) s.sources.items)), all_taken target seats count steps rest is.1)

-- ---- what is known of places that nothing reads

-- a change seats another place
target_same : (live less : ℕ → ℕ) (t : Target) (bytes p : ℕ) → less p ≡ live p → live_target less t bytes p ≡ live_target live t bytes p
target_same live less (ToArray k) bytes p e = e
target_same live less (ToSum g) bytes p e = e
target_same live less (ToResident g) bytes p e = e
target_same live less (ToPlace q) bytes p e = ap (λ n. if p == q then bytes else n) e
target_same live less (ToSlot k) bytes p e = ap (λ n. if p == slot_place k then bytes else n) e

live_same : (live less : ℕ → ℕ) (op : Op) (prefix : ℕ) (ts : List Target) (p : ℕ) → less p ≡ live p → live_targets less op prefix ts p ≡ live_targets live op prefix ts p
live_same live less op prefix [] p e = e
live_same live less op prefix (t ∷ []) p e = target_same live less t (size_of_result op 0 * prefix) p e
live_same live less op prefix (t ∷ u ∷ more) p e =
    target_same (live_target live t (size_of_result op 0 * prefix)) (live_target less t (size_of_result op 0 * prefix)) u (size_of_result op 1 * prefix) p (target_same live less t (size_of_result op 0 * prefix) p e)

-- a value that is made there
change_there : (live : ℕ → ℕ) (q v p : ℕ) → (q == p) ≡ true → change live q v p ≡ v
change_there live q v p h = ap (change live q v) (sym (eqb-true q p h)) ∙ change_same live q v

target_made : (live less : ℕ → ℕ) (t : Target) (bytes p : ℕ) → is_to p t ≡ true → live_target less t bytes p ≡ live_target live t bytes p
target_made live less (ToArray k) bytes p h = absurd (true≢false (sym h))
target_made live less (ToSum g) bytes p h = absurd (true≢false (sym h))
target_made live less (ToResident g) bytes p h = absurd (true≢false (sym h))
target_made live less (ToPlace q) bytes p h = change_there less q bytes p h ∙ sym (change_there live q bytes p h)
target_made live less (ToSlot k) bytes p h = change_there less (slot_place k) bytes p h ∙ sym (change_there live (slot_place k) bytes p h)

live_made : (live less : ℕ → ℕ) (op : Op) (prefix : ℕ) (ts : List Target) (p : ℕ) → some_to p ts ≡ true → live_targets less op prefix ts p ≡ live_targets live op prefix ts p
live_made live less op prefix [] p h = absurd (true≢false (sym h))
live_made live less op prefix (t ∷ []) p h = target_made live less t (size_of_result op 0 * prefix) p h
live_made live less op prefix (t ∷ u ∷ more) p h = go (is_to p t) refl h
  where
    old : ℕ → ℕ
    old = live_target live t (size_of_result op 0 * prefix)

    new : ℕ → ℕ
    new = live_target less t (size_of_result op 0 * prefix)

    go : (b : Bool) → is_to p t ≡ b → (b || is_to p u) ≡ true → live_target new u (size_of_result op 1 * prefix) p ≡ live_target old u (size_of_result op 1 * prefix) p
    go true e h = target_same old new u (size_of_result op 1 * prefix) p (target_made live less t (size_of_result op 0 * prefix) p e)
    go false e h = target_made old new u (size_of_result op 1 * prefix) p h

neither : (x y : Bool) → (x || y) ≡ false → (x ≡ false) × (y ≡ false)
neither true y h = absurd (true≢false h)
neither false y h = (refl, h)

-- ---- what an action takes over

-- nothing is known of the place then
abbrev pub forget : Bool → Source → (ℕ → ℕ) → ℕ → ℕ
forget false s live = live
forget true (FromPlace p) live = change live p 0
forget true (FromArray k) live = live
forget true (FromPattern j) live = live
forget true (FromResident j g) live = live
forget true (FromFar load array js) live = live
forget true (FromSlot k) live = live

abbrev pub forget_all : Bool → Bool → List Source → (ℕ → ℕ) → ℕ → ℕ
forget_all one two [] live = live
forget_all one two (s ∷ []) live = forget one s live
forget_all one two (s ∷ t ∷ more) live = forget two t (forget one s live)

forgot : (one : Bool) (rest : List Action) (s : Source) (live : ℕ → ℕ) (p : ℕ) → MayTake one rest s → (forget one s live p ≡ live p) ⊎ (is_free_in p rest ≡ true)
forgot false rest s live p m = inl refl
forgot true rest (FromPlace q) live p m = ⊎_elim (λ e. inr (subst (λ k. is_free_in k rest ≡ true) (sym e) m)) (λ ne. inl (change_other live q 0 p ne)) (cases_eq p q)
forgot true rest (FromArray k) live p m = absurd m
forgot true rest (FromPattern j) live p m = absurd m
forgot true rest (FromResident j g) live p m = absurd m
forgot true rest (FromFar load array js) live p m = absurd m
forgot true rest (FromSlot k) live p m = absurd m

forgot_all : (one two : Bool) (rest : List Action) (ss : List Source) (live : ℕ → ℕ) (p : ℕ) → AreTaken one two rest ss → (forget_all one two ss live p ≡ live p) ⊎ (is_free_in p rest ≡ true)
forgot_all one two rest [] live p m = inl refl
forgot_all one two rest (s ∷ []) live p m = forgot one rest s live p m
forgot_all one two rest (s ∷ t ∷ more) live p m =
    ⊎_elim (λ e. ⊎_elim (λ d. inl (e ∙ d)) (λ f. inr f) (forgot one rest s live p m.0)) (λ f. inr f) (forgot two rest t (forget one s live) p m.1)

module _ (n : ℕ) (base size : ℕ → ℕ) (P : ℕ → Type 0) (numbers : Numbers) where
  from_less : (live less : ℕ → ℕ) (w prefix : ℕ) (s : Source) → ((p : ℕ) → is_from p s ≡ true → less p ≡ live p) → IsFrom n base size P numbers live w prefix s → IsFrom n base size P numbers less w prefix s
  from_less live less w prefix (FromArray k) h o = o
  from_less live less w prefix (FromPattern j) h o = o
  from_less live less w prefix (FromResident j g) h o = o
  from_less live less w prefix (FromPlace p) h o = (o.0, h p (eq_true p) ∙ o.1)
  from_less live less w prefix (FromFar load array js) h o = o
  from_less live less w prefix (FromSlot k) h o = (o.0, h (slot_place k) (eq_true (slot_place k)) ∙ o.1)

  -- what is known of the places that are read is enough
  abbrev Enough : (ℕ → ℕ) → (ℕ → ℕ) → List Source → Type 0
  Enough live less ss = (p : ℕ) → (less p ≡ live p) ⊎ (some_from p ss ≡ false)

  read_less : (live less : ℕ → ℕ) (p : ℕ) (b : Bool) → b ≡ true → (less p ≡ live p) ⊎ (b ≡ false) → less p ≡ live p
  read_less live less p b h (inl e) = e
  read_less live less p b h (inr f) = absurd (true≢false (sym h ∙ f))

  froms_less : (live less : ℕ → ℕ) (op : Op) (prefix : ℕ) (ss : List Source) → Enough live less ss → AreFrom n base size P numbers live op prefix ss → AreFrom n base size P numbers less op prefix ss
  froms_less live less op prefix [] h o = o
  froms_less live less op prefix (s ∷ []) h o = (from_less live less (size_of_source op 0) prefix s (λ p e. read_less live less p (is_from p s) e (h p)) o.0, o.1)
  froms_less live less op prefix (s ∷ t ∷ more) h o = (
    from_less live less (size_of_source op 0) prefix s (λ p e. read_less live less p (is_from p s) e (⊎_elim (λ x. inl x) (λ f. inr (neither (is_from p s) (is_from p t) f).0) (h p))) o.0,
    from_less live less (size_of_source op 1) prefix t (λ p e. read_less live less p (is_from p t) e (⊎_elim (λ x. inl x) (λ f. inr (neither (is_from p s) (is_from p t) f).1) (h p))) o.1,
    o.2,
  )

  known_less : (live less : ℕ → ℕ) (a : Action) → Enough live less a.sources → IsKnown n base size P numbers live a → IsKnown n base size P numbers less a
  known_less live less a h k = record {
    to = k.to;
    sources = froms_less live less a.op a.prefix a.sources h k.sources;
    kept = k.kept;
    apart = k.apart;
    to_within = k.to_within;
    from_within = k.from_within;
    counted = k.counted;
  }

  -- so it is where nothing is known any more of places that none of the actions reads
  all_less : (live less : ℕ → ℕ) (actions : List Action) → ((p : ℕ) → (less p ≡ live p) ⊎ (is_free_in p actions ≡ true)) → AllKnown n base size P numbers live actions → AllKnown n base size P numbers less actions
  all_less live less [] h k = tt
  all_less live less (a ∷ rest) h k = (known_less live less a now k.0, all_less (live_act live a) (live_act less a) rest then_on k.1)
    where
      parts : (p : ℕ) → is_free_in p (a ∷ rest) ≡ true → (not (some_from p a.sources) ≡ true) × ((some_to p a.to || is_free_in p rest) ≡ true)
      parts p f = both (not (some_from p a.sources)) (some_to p a.to || is_free_in p rest) f

      now : Enough live less a.sources
      now p = ⊎_elim (λ e. inl e) (λ f. inr (not_yes (some_from p a.sources) (parts p f).0)) (h p)

      made : (p : ℕ) (b : Bool) → some_to p a.to ≡ b → (b || is_free_in p rest) ≡ true → (live_act less a p ≡ live_act live a p) ⊎ (is_free_in p rest ≡ true)
      made p true e f = inl (live_made live less a.op a.prefix a.to p e)
      made p false e f = inr f

      then_on : (p : ℕ) → (live_act less a p ≡ live_act live a p) ⊎ (is_free_in p rest ≡ true)
      then_on p = ⊎_elim (λ e. inl (live_same live less a.op a.prefix a.to p e)) (λ f. made p (some_to p a.to) refl (parts p f).1) (h p)

  pub rest_known : (live : ℕ → ℕ) (a : Action) (rest : List Action) → AreTaken a.takes_first a.takes_second rest a.sources → AllKnown n base size P numbers (live_act live a) rest
      → AllKnown n base size P numbers (live_act (forget_all a.takes_first a.takes_second a.sources live) a) rest
  rest_known live a rest m k =
      let less = forget_all a.takes_first a.takes_second a.sources live in
      all_less (live_act live a) (live_act less a) rest (λ p. ⊎_elim (λ e. inl (live_same live less a.op a.prefix a.to p e)) (λ f. inr f) (forgot_all a.takes_first a.takes_second rest a.sources live p m)) k
