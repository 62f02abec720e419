-- Lists that grow by one instruction, by a rule or by an action.
use Rattle.std.proofs.Common.{Option, None, is_some, ◌||◌, ◌≡◌, ℕ, suc, ◌+◌, ◌-◌, ◌*◌, ◌<◌, ◌≤◌, Bool, true, false, if◌then◌else◌, pos, List, [], ◌∷◌, ◌++◌, length, map, take, drop, get_or, slice_index, Result, Ok, Err, OnOk, refl, sym, ap, ap₂, ◌∙◌, subst, arith, append_assoc}
use Rattle.std.proofs.lemmas.List.{take_all}
use Rattle.x86_ins.specs.declared.ins.AluOp.TheVariants.{Add, Sub}
use Rattle.x86_ins.specs.declared.ins.Ins.{Ins}
use Rattle.x86_ins.specs.declared.ins.Ins.TheVariants.{AluImm}
use Rattle.x86_ins.specs.Renaming.{renamed, renaming}
use Rattle.x86_ins.specs.Spelling.{IsIns}
use Rattle.x86_ins.specs.Way.{Each}
use Rattle.x86_ins.proofs.Renamed.{renamed_alike}
use Rattle.orc_ops.specs.declared.opcode.Op.{Op}
use Rattle.orc_ops.specs.declared.target.Target.{Target as CodeTarget}
use Rattle.orc_ops.specs.Far.{far_of}
use Rattle.orc_ops.specs.Table.{row}
use Rattle.orc_ops.specs.Targets.{class_for}
use Rattle.sse_laws.specs.Meets.{is_sum}
use Rattle.sse_laws.specs.Targets.{IsCodeFor}
use Rattle.sse_acc.specs.Sums.{AddsUp}
use Rattle.orc_plan.specs.declared.steps.Item.{Item}
use Rattle.orc_plan.specs.declared.steps.Step.{Step}
use Rattle.orc_region.specs.declared.span.Span.{Span}
use Rattle.orc_region.proofs.Built.Fars.{by_registers}
use Rattle.orc_region.specs.Code.{computed_op, sources_of, Action, MeetsBy, count_by, spares_second, Seats, residents_code, resident_code, Source, Target, AreBlocks, IsBlocksTurn, used_from, AddsRule, AddsAction, AddsNamed, is_first_taken, is_second_taken, source_names, action_names, named_code, pointer, far_by, aligned_first, source_of, target_of, first_register, second_register, third_register, exchange, rule_register, rule_code, sources_far_code, sum_code, results_far_code, action_far_code, advance_code}

-- what follows from a fact of a success
pub on_ok : {A E : Type 0} (r : Result A E) (P Q : Type 0) → (P → Q) → OnOk r P → OnOk r Q
on_ok (Ok x) P Q f h = f h
on_ok (Err e) P Q f h = h

pub on_both : {A E : Type 0} (r : Result A E) (P Q R : Type 0) → (P → Q → R) → OnOk r P → OnOk r Q → OnOk r R
on_both (Ok x) P Q R f h g = f h g
on_both (Err e) P Q R f h g = h

next : (n : ℕ) → suc n ≡ n + 1
next n = omega arith

-- one more at the end of a list that grew from another
grown : (base c d x : List Ins) (i : Ins) → c ≡ base ++ x → d ≡ c ++ i ∷ [] → d ≡ base ++ (x ++ i ∷ [])
grown base c d x i p q = q ∙ ap (λ l. l ++ i ∷ []) p ∙ append_assoc base x (i ∷ [])

pub advances_more : (base c d : List Ins) (size : ℕ → ℕ) (count first n : ℕ) (i : Ins) → c ≡ base ++ advance_code size count first n → d ≡ c ++ i ∷ [] → i ≡ AluImm Add (pointer (first + n)) (pos (count * size (first + n))) → d ≡ base ++ advance_code size count first (n + 1)
advances_more base c d size count first n i p q e =
    grown base c d (advance_code size count first n) (AluImm Add (pointer (first + n)) (pos (count * size (first + n)))) p (q ∙ ap (λ x. c ++ x ∷ []) e)
    ∙ ap (λ k. base ++ advance_code size count first k) (next n)

-- one resident more at the end of a list
pub residents_more : (base c d : List Ins) (at : List ℕ) (number : ℕ → ℕ) (begins : ℕ → Ins) (n g : ℕ) (i : Ins) → c ≡ base ++ residents_code at number begins n → d ≡ c ++ resident_code at g i → g ≡ number n → i ≡ begins n → d ≡ base ++ residents_code at number begins (n + 1)
residents_more base c d at number begins n g i p q e f =
    let last = resident_code at (number n) (begins n) in
    let is : d ≡ c ++ last = q ∙ ap₂ (λ k a. c ++ resident_code at k a) e f in
    is ∙ ap (λ l. l ++ last) p ∙ append_assoc base (residents_code at number begins n) last ∙ ap (λ k. base ++ residents_code at number begins k) (next n)

-- blocks, and what moves the pointers and the counter on, make a turn; `inner` are the sizes as they are read
pub turn_built : (Are : List Action → Type 0) (count : ℕ) (aligned : ℕ → Bool) (b : ℕ) (sizes inner : List ℕ) → inner ≡ sizes → (blocks l1 l2 l3 : List Ins) (dests sources : ℕ) → AreBlocks Are count (slice_index sizes) aligned b blocks
    → l1 ≡ blocks ++ advance_code (slice_index inner) (b * count) 0 dests → dests ≡ used_from (slice_index inner) 0 4 → l2 ≡ l1 ++ advance_code (slice_index inner) (b * count) 4 sources → sources ≡ used_from (slice_index inner) 4 8 → l3 ≡ l2 ++ AluImm Sub 1 (pos (b * count)) ∷ []
    → IsBlocksTurn Are count (slice_index sizes) aligned (used_from (slice_index sizes) 0 4) (used_from (slice_index sizes) 4 8) b l3
turn_built Are count aligned b sizes inner same blocks l1 l2 l3 dests sources are e1 d e2 s e3 =
    let by = b * count in
    let first = advance_code (slice_index sizes) by 0 (used_from (slice_index sizes) 0 4) in
    let second = advance_code (slice_index sizes) by 4 (used_from (slice_index sizes) 4 8) in
    let last = AluImm Sub 1 (pos by) ∷ [] in
    let one : l1 ≡ blocks ++ first = e1 ∙ ap₂ (λ xs n. blocks ++ advance_code (slice_index xs) by 0 n) same (d ∙ ap (λ xs. used_from (slice_index xs) 0 4) same) in
    let two : advance_code (slice_index inner) by 4 sources ≡ second = ap₂ (λ xs n. advance_code (slice_index xs) by 4 n) same (s ∙ ap (λ xs. used_from (slice_index xs) 4 8) same) in
    (blocks, are, e3 ∙ ap (λ l. l ++ last) (e2 ∙ ap₂ (λ (x y : List Ins). x ++ y) one two) ∙ append_assoc (blocks ++ first) second last ∙ append_assoc blocks first (second ++ last))

-- ---- rules and actions

module _ (size : ℕ → ℕ) (span : Span) where
  -- an instruction's code under its names, and that of the instructions after it
  pub named_more : (seats : Seats) (names mine : List ℕ) (step : Step) (later : List Step) (one two : Bool) (x y : ℕ) (sources : List Source) (results : List Target) (own base c d : List Ins) → sources ≡ sources_of seats (far_of step.op) step.sources.items → results ≡ map (target_of seats.places) step.results.items
      → one ≡ is_first_taken seats later sources → two ≡ is_second_taken seats later sources → x ≡ first_register results → y ≡ second_register results → mine ≡ source_names one two x y sources names
      → AddsAction seats size span step one two [] own → c ≡ base ++ map (renamed (renaming mine)) own → AddsNamed mine seats size span later c d → AddsNamed names seats size span (step ∷ later) base d
  named_more seats names mine step later one two x y sources results own base c d es er first second ex ey is action grown rest =
      let a = action.0 in
      let from : a.sources ≡ sources = action.1.sources ∙ sym es in
      let to : a.to ≡ results = action.1.to ∙ sym er in
      let code = action_far_code span.count size (far_by span.first size) (aligned_first span.aligned) a in
      let same : action_names a names ≡ mine =
      ap (λ ss. source_names a.takes_first a.takes_second (first_register a.to) (second_register a.to) ss names) from
      ∙ ap₂ (λ b t. source_names b t (first_register a.to) (second_register a.to) sources names) action.2 action.3
      ∙ ap₂ (λ u v. source_names one two u v sources names) (ap first_register to ∙ sym ex) (ap second_register to ∙ sym ey)
      ∙ sym is in
      let after : List ℕ → List Ins = λ ns. named_code ns span.count size (far_by span.first size) (aligned_first span.aligned) rest.0 in (
        a ∷ rest.0,
        ((action.1, record { first = action.2 ∙ first ∙ ap (is_first_taken seats later) (sym from); second = action.3 ∙ second ∙ ap (is_second_taken seats later) (sym from) }), rest.1),
        rest.2 ∙ ap (λ l. l ++ after mine) grown ∙ append_assoc base (map (renamed (renaming mine)) own) (after mine)
            ∙ ap₂ (λ (l : List Ins) (ns : List ℕ). base ++ (map (renamed (renaming ns)) l ++ after ns)) action.4 (sym same),
      )

  -- where the first step and those after it are read from a slice
  pub named_slice : (seats : Seats) (names mine : List ℕ) (steps : List Step) (step : Step) (later : List Step) (one two : Bool) (x y : ℕ) (sources results : List Item) (none own slice base c d : List Ins) → 1 ≤ length steps → step ≡ get_or steps 0 step → later ≡ take (length steps - 1) (drop 1 steps) → sources ≡ (if is_some (far_of step.op) then [] else step.sources.items) → results ≡ step.results.items
      → one ≡ is_first_taken seats later (map (source_of seats) sources) → two ≡ is_second_taken seats later (map (source_of seats) sources) → x ≡ first_register (map (target_of seats.places) results) → y ≡ second_register (map (target_of seats.places) results) → mine ≡ source_names one two x y (map (source_of seats) sources) names
      → none ≡ [] → AddsAction seats size span step one two none own → slice ≡ own → c ≡ base ++ map (renamed (renaming mine)) slice → AddsNamed mine seats size span later c d → AddsNamed names seats size span steps base d
  named_slice seats names mine [] step later one two x y sources results none own slice base c d some is rest es er first second ex ey named empty action same grown after = absurd (omega (arith, some))
  named_slice seats names mine (s ∷ steps) step later one two x y sources results none own slice base c d some is rest es er first second ex ey named empty action same grown after =
      let far = far_of step.op in
      let items = step.sources.items in
      let whole : step ∷ later ≡ s ∷ steps = ap₂ (λ (a : Step) (b : List Step). a ∷ b) is (rest ∙ take_all (length (s ∷ steps) - 1) steps (omega arith)) in
      subst (λ l. AddsNamed names seats size span l base d) whole
      (named_more seats names mine step later one two x y (sources_of seats far items) (map (target_of seats.places) results) own base c d refl (ap (map (target_of seats.places)) er) (first ∙ by_registers seats (is_first_taken seats later) (λ load slot js. refl) far items sources es) (second ∙ by_registers seats (is_second_taken seats later) (λ load slot js. refl) far items sources es) ex ey
      (named ∙ by_registers seats (λ ss. source_names one two x y ss names) (λ load slot js. refl) far items sources es) (subst (λ l. AddsAction seats size span step one two l own) empty action) (grown ∙ ap (λ l. base ++ map (renamed (renaming mine)) l) same) after)

  -- four lists at the end of one
  four : (base a b c d c1 c2 c3 c4 : List Ins) → c1 ≡ base ++ a → c2 ≡ c1 ++ b → c3 ≡ c2 ++ c → c4 ≡ c3 ++ d → c4 ≡ base ++ (a ++ (b ++ (c ++ d)))
  four base a b c d c1 c2 c3 c4 h1 h2 h3 h4 =
      h4 ∙ ap (λ l. l ++ d) (h3 ∙ ap (λ l. l ++ c) (h2 ∙ ap (λ l. l ++ b) h1)) ∙ append_assoc ((base ++ a) ++ b) c d ∙ append_assoc (base ++ a) b (c ++ d) ∙ append_assoc base a (b ++ (c ++ d))

  -- sources, a sum, a rule and results make an action
  pub action_added : (seats : Seats) (step : Step) (one two : Bool) (x y : ℕ) (base c1 c2 c3 c4 : List Ins) → x ≡ first_register (map (target_of seats.places) step.results.items) → y ≡ second_register (map (target_of seats.places) step.results.items)
      → c1 ≡ base ++ sources_far_code one (is_some (count_by seats step.op step.sources.items) || two) span.count size (far_by span.first size) x y (sources_of seats (far_of step.op) step.sources.items) → c2 ≡ c1 ++ sum_code (map (target_of seats.places) step.results.items) → AddsRule span.target span.count step.op (count_by seats step.op step.sources.items) (map (target_of seats.places) step.results.items) c2 c3
      → c4 ≡ c3 ++ results_far_code span.count size (far_by span.first size) (aligned_first span.aligned) (map (target_of seats.places) step.results.items) → AddsAction seats size span step one two base c4
  action_added seats step one two x y base c1 c2 c3 c4 ex ey p q r t =
      let a : Action = record { op = computed_op step.op; prefix = step.prefix; to = map (target_of seats.places) step.results.items; sources = sources_of seats (far_of step.op) step.sources.items; by = count_by seats step.op step.sources.items; rule = r.0; takes_first = one; takes_second = two } in
      let loads : c1 ≡ base ++ sources_far_code one (spares_second a) span.count size (far_by span.first size) (first_register a.to) (second_register a.to) a.sources = p ∙ ap₂ (λ x y. base ++ sources_far_code one (spares_second a) span.count size (far_by span.first size) x y a.sources) ex ey in (
        a,
        record { op = refl; prefix = refl; to = refl; sources = refl; by = refl; rule = r.1; few = r.2; for_target = r.3 },
        refl,
        refl,
        four base (sources_far_code one (spares_second a) span.count size (far_by span.first size) (first_register a.to) (second_register a.to) a.sources) (sum_code a.to) (rule_code a) (results_far_code span.count size (far_by span.first size) (aligned_first span.aligned) a.to) c1 c2 c3 c4 loads q r.4 t,
      )

  -- the same where operands are read as slices
  pub action_of_slices : (seats : Seats) (step : Step) (one two first second : Bool) (rs : List Item) → first ≡ one → second ≡ (is_some (count_by seats step.op step.sources.items) || two) → rs ≡ step.results.items → (x y : ℕ) (base c1 c2 c3 c4 : List Ins) → x ≡ first_register (map (target_of seats.places) rs) → y ≡ second_register (map (target_of seats.places) rs)
      → c1 ≡ base ++ sources_far_code first second span.count size (far_by span.first size) x y (sources_of seats (far_of step.op) step.sources.items) → c2 ≡ c1 ++ sum_code (map (target_of seats.places) rs) → AddsRule span.target span.count step.op (count_by seats step.op step.sources.items) (map (target_of seats.places) rs) c2 c3
      → c4 ≡ c3 ++ results_far_code span.count size (far_by span.first size) (aligned_first span.aligned) (map (target_of seats.places) rs) → AddsAction seats size span step one two base c4
  action_of_slices seats step one two first second rs ef en er x y base c1 c2 c3 c4 ex ey p q r t =
      let to : map (target_of seats.places) rs ≡ map (target_of seats.places) step.results.items = ap (map (target_of seats.places)) er in
      action_added seats step one two x y base c1 c2 c3 c4 (ex ∙ ap first_register to) (ey ∙ ap second_register to) (p ∙ ap₂ (λ u v. base ++ sources_far_code u v span.count size (far_by span.first size) x y (sources_of seats (far_of step.op) step.sources.items)) ef en)
      (q ∙ ap (λ ts. c1 ++ sum_code ts) to) (subst (λ ts. AddsRule span.target span.count step.op (count_by seats step.op step.sources.items) ts c2 c3) to r) (t ∙ ap (λ ts. c3 ++ results_far_code span.count size (far_by span.first size) (aligned_first span.aligned) ts) to)

-- ---- a rule under other names

-- instructions under names that are the same below 16
names_alike : (f g : ℕ → ℕ) → ((r : ℕ) → r < 16 → f r ≡ g r) → (is : List Ins) → Each IsIns is → map (renamed f) is ≡ map (renamed g) is
names_alike f g same [] h = refl
names_alike f g same (i ∷ is) h = ap₂ (λ (x : Ins) (y : List Ins). x ∷ y) (renamed_alike f g same i h.0) (names_alike f g same is h.1)

pub rule_added : (target : CodeTarget) (count : ℕ) (op : Op) (by : Option ℕ) (ts : List Target) (x y z : ℕ) (map_is : List ℕ) (list old new : List Ins) → x ≡ first_register ts → y ≡ second_register ts → z ≡ third_register ts → ((r : ℕ) → r < 16 → renaming map_is r ≡ exchange 0 x (exchange 1 y (exchange 2 z r)))
    → (is_sum (row (computed_op op)).kind ≡ false → MeetsBy by (computed_op op) list) → (is_sum (row (computed_op op)).kind ≡ true → (by ≡ None) × AddsUp (computed_op op) count list) → length list ≤ class_for op target → IsCodeFor target list → length list ≤ 100 → Each IsIns list → new ≡ old ++ map (renamed (renaming map_is)) list → AddsRule target count op by ts old new
rule_added target count op by ts x y z map_is list old new ex ey ez is meets adds few mine short known e = (
  list,
  record { meets = meets; adds = adds; short = short; known = known },
  few,
  mine,
  e ∙ ap (λ l. old ++ l) (names_alike (renaming map_is) (rule_register ts) (λ r l. is r l ∙ ap₂ (λ a b. exchange 0 a (exchange 1 b (exchange 2 z r))) ex ey ∙ ap (λ c. exchange 0 (first_register ts) (exchange 1 (second_register ts) (exchange 2 c r))) ez) list known),
)

-- the same where the list is read as a slice
pub rule_of_slice : (target : CodeTarget) (count : ℕ) (op : Op) (by : Option ℕ) (ts : List Target) (x y z : ℕ) (map_is : List ℕ) (list slice old new : List Ins) → slice ≡ list → x ≡ first_register ts → y ≡ second_register ts → z ≡ third_register ts → ((r : ℕ) → r < 16 → renaming map_is r ≡ exchange 0 x (exchange 1 y (exchange 2 z r)))
    → (is_sum (row (computed_op op)).kind ≡ false → MeetsBy by (computed_op op) list) → (is_sum (row (computed_op op)).kind ≡ true → (by ≡ None) × AddsUp (computed_op op) count list) → length list ≤ class_for op target → IsCodeFor target list → length list ≤ 100 → Each IsIns slice → new ≡ old ++ map (renamed (renaming map_is)) slice → AddsRule target count op by ts old new
rule_of_slice target count op by ts x y z map_is list slice old new same ex ey ez is meets adds few mine short known e =
    rule_added target count op by ts x y z map_is list old new ex ey ez is meets adds few mine short (subst (Each IsIns) same known) (e ∙ ap (λ l. old ++ map (renamed (renaming map_is)) l) same)
