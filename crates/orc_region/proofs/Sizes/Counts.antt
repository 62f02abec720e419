-- The instructions of the code's parts.
use Rattle.std.proofs.Common.{◌≡◌, ℕ, zero, suc, ◌+◌, ◌*◌, ◌<◌, ◌≤◌, Bool, true, false, pos, List, [], ◌∷◌, ◌++◌, length, map, ap, suc-mul, refl, arith, length-append}
use Rattle.std.proofs.lemmas.List.{length-map}
use Rattle.x86_ins.specs.declared.ins.AluOp.TheVariants.{Add, Sub}
use Rattle.x86_ins.specs.declared.ins.Ins.{Ins}
use Rattle.x86_ins.specs.declared.ins.Ins.TheVariants.{AluImm}
use Rattle.x86_ins.specs.Renaming.{renamed, renaming}
use Rattle.x86_ins.specs.Way.{Each}
use Rattle.x86_flow.specs.Moves.{IsWidth, load_far_code, store_either_code}
use Rattle.x86_flow.proofs.Moves.{each_width}
use Rattle.orc_ops.specs.Far.{far_size, far_scalars}
use Rattle.orc_program.specs.Need.{registers}
use Rattle.orc_frame.specs.Layout.{spill_slots}
use Rattle.orc_region.specs.Code.{Action, spares_second, IsRule, Source, FromArray, FromPattern, FromResident, FromPlace, FromSlot, FromFar, Target, ToArray, ToSum, ToResident, ToPlace, ToSlot, AreBlocks, IsBlocksTurn, pointer, far_by, first_register, second_register, rule_register, rule_code, source_far_code, brought, sources_far_code, sum_code, result_far_code, results_far_code, own_names, action_names, action_far_code, named_code, actions_far_code, advance_code}
use Rattle.orc_region.proofs.Sizes.Cost.{from_weight, from_weights, to_weight, to_weights, weight, weights}
use Rattle.orc_region.proofs.Sizes.Fars.{far_short}

-- a slot of an array whose elements can be moved so many at once, one of the frame, a place's register, or a far load of an array's slot by patterns of the frame
abbrev pub IsFromSlot : ℕ → (ℕ → ℕ) → Source → Type 0
IsFromSlot count size (FromArray k) = IsWidth (count * size k) × (k < 12)
IsFromSlot count size (FromPattern j) = j < 48
IsFromSlot count size (FromResident j g) = g < registers
IsFromSlot count size (FromPlace p) = p < registers
IsFromSlot count size (FromFar load array js) = (array < 12) × (count ≤ 16) × IsWidth (count * far_size load) × (length js ≡ far_scalars load) × Each (λ j. j < 48) js
IsFromSlot count size (FromSlot k) = k < spill_slots

abbrev pub IsToSlot : ℕ → (ℕ → ℕ) → Target → Type 0
IsToSlot count size (ToArray k) = IsWidth (count * size k) × (k < 12)
IsToSlot count size (ToSum g) = g < 4
IsToSlot count size (ToResident g) = g < 4
IsToSlot count size (ToPlace p) = p < registers
IsToSlot count size (ToSlot k) = k < spill_slots

-- an action's slots are slots, of elements that can be moved so many at once, and it has at most so many instructions
pub record IsMovable (count : ℕ) (size : ℕ → ℕ) (a : Action) : Type 0 where
  pub to : Each (IsToSlot count size) a.to
  pub sources : Each (IsFromSlot count size) a.sources
  pub rule : IsRule count a.op a.by a.rule
  pub few : weight count a ≤ 317

load_count : (width x r far : ℕ) → IsWidth width → length (load_far_code width x r far) ≤ 2
load_count width x r far is = each_width (λ w. length (load_far_code w x r far) ≤ 2) (omega arith) (omega arith) (omega arith) (omega arith) (omega arith) width is

store_count : (b : Bool) (width x r far : ℕ) → IsWidth width → length (store_either_code b width x r far) ≤ 2
store_count true width x r far is = omega arith
store_count false width x r far is = each_width (λ w. length (store_either_code false w x r far) ≤ 2) (omega arith) (omega arith) (omega arith) (omega arith) (omega arith) width is

brought_length : (taken : Bool) (code : List Ins) → length (brought taken code) ≤ length code
brought_length true code = omega arith
brought_length false code = omega arith

module _ (count : ℕ) (size far : ℕ → ℕ) (aligned : ℕ → Bool) where
  source_length : (x : ℕ) (s : Source) → IsFromSlot count size s → length (source_far_code count size far x s) ≤ from_weight count s
  source_length x (FromArray k) h = load_count (count * size k) x (pointer k) (far k) h.0
  source_length x (FromPattern j) h = omega arith
  source_length x (FromResident j g) h = omega arith
  source_length x (FromPlace p) h = omega arith
  source_length x (FromFar load array js) h = far_short (far array) array js count load x h.2
  source_length x (FromSlot k) h = omega arith

  sources_length : (one two : Bool) (x y : ℕ) (ss : List Source) → Each (IsFromSlot count size) ss → length (sources_far_code one two count size far x y ss) ≤ from_weights count ss
  sources_length one two x y [] h = omega arith
  sources_length one two x y (s ∷ []) h = let l = source_length x s h.0 in omega (arith, l, brought_length one (source_far_code count size far x s))
  sources_length one two x y (s ∷ t ∷ more) h =
      let front = source_far_code count size far x s in
      let back = source_far_code count size far y t in
      omega (arith, source_length x s h.0, source_length y t h.1.0, brought_length one front, brought_length two back, length-append (brought one front) (brought two back))

  result_length : (x : ℕ) (t : Target) → IsToSlot count size t → length (sum_code (t ∷ [])) + length (result_far_code count size far aligned x t) ≤ to_weight t
  result_length x (ToArray k) h = let l = store_count (aligned k) (count * size k) x (pointer k) (far k) h.0 in omega (arith, l)
  result_length x (ToSum g) h = omega arith
  result_length x (ToResident g) h = omega arith
  result_length x (ToPlace p) h = omega arith
  result_length x (ToSlot k) h = omega arith

  sum_first : (t : Target) (more : List Target) → length (sum_code (t ∷ more)) ≡ length (sum_code (t ∷ []))
  sum_first (ToArray k) more = refl
  sum_first (ToSum g) more = refl
  sum_first (ToResident g) more = refl
  sum_first (ToPlace p) more = refl
  sum_first (ToSlot k) more = refl

  -- a sum is loaded and stored
  results_length : (ts : List Target) → Each (IsToSlot count size) ts → length (sum_code ts) + length (results_far_code count size far aligned ts) ≤ to_weights ts
  results_length [] h = omega arith
  results_length (t ∷ []) h = let l = result_length 0 t h.0 in omega (arith, l)
  results_length (t ∷ u ∷ more) h =
      let l = result_length 0 t h.0 in
      let m = result_length 1 u h.1.0 in
      omega (arith, l, m, sum_first t (u ∷ more), length-append (result_far_code count size far aligned 0 t) (result_far_code count size far aligned 1 u))

  action_count : (a : Action) → IsMovable count size a → length (action_far_code count size far aligned a) ≤ weight count a
  action_count a h =
      let loads = sources_far_code a.takes_first (spares_second a) count size far (first_register a.to) (second_register a.to) a.sources in
      let stores = results_far_code count size far aligned a.to in
      omega (
        arith,
        length-append loads (sum_code a.to ++ (rule_code a ++ stores)),
        length-append (sum_code a.to) (rule_code a ++ stores),
        length-append (rule_code a) stores,
        length-map a.rule (renamed (rule_register a.to)),
        sources_length a.takes_first (spares_second a) (first_register a.to) (second_register a.to) a.sources h.sources,
        results_length a.to h.to,
      )

  named_count : (names : List ℕ) (actions : List Action) → Each (IsMovable count size) actions → length (named_code names count size far aligned actions) ≤ weights count actions
  named_count names [] h = omega arith
  named_count names (a ∷ rest) h =
      let own = action_far_code count size far aligned a in
      let f = renamed (renaming (action_names a names)) in
      omega (arith, length-append (map f own) (named_code (action_names a names) count size far aligned rest), length-map own f, action_count a h.0, named_count (action_names a names) rest h.1)

  pub actions_count : (actions : List Action) → Each (IsMovable count size) actions → length (actions_far_code count size far aligned actions) ≤ weights count actions
  actions_count = named_count own_names

advance_count : (size : ℕ → ℕ) (count first n : ℕ) → length (advance_code size count first n) ≡ n
advance_count size count first zero = refl
advance_count size count first (suc n) = omega (arith, length-append (advance_code size count first n) (AluImm Add (pointer (first + n)) (pos (count * size (first + n))) ∷ []), advance_count size count first n)

-- turns of blocks of actions of which Are holds
module _ (count : ℕ) (size : ℕ → ℕ) (aligned : ℕ → Bool) (Are : List Action → Type 0) (movable : (actions : List Action) → Are actions → Each (IsMovable count size) actions) (most : ℕ) (few : (actions : List Action) → Are actions → weights count actions ≤ most) where
  blocks_count : (b : ℕ) (list : List Ins) → AreBlocks Are count size aligned b list → length list ≤ b * most
  blocks_count zero list x = omega (arith, ap length x)
  blocks_count (suc b) list x =
      let code = actions_far_code count size (far_by (b * count) size) aligned x.1 in
      omega (arith, ap length x.4, length-append x.0 code, blocks_count b x.0 x.2, actions_count count size (far_by (b * count) size) aligned x.1 (movable x.1 x.3), few x.1 x.3, suc-mul b most)

  pub turn_count : (dests sources b : ℕ) (list : List Ins) → IsBlocksTurn Are count size aligned dests sources b list → length list ≤ b * most + (dests + sources) + 1
  turn_count dests sources b list x =
      let by = b * count in
      let last = AluImm Sub 1 (pos by) ∷ [] in
      let first = advance_code size by 0 dests in
      let second = advance_code size by 4 sources in
      omega (arith, ap length x.2, blocks_count b x.0 x.1, length-append x.0 (first ++ (second ++ last)), length-append first (second ++ last), length-append second last, advance_count size by 0 dests, advance_count size by 4 sources)
