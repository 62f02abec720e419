-- How many instructions of a turn go by the pointers of arrays: at most one for each operand that is an array, and two for each element of a far load.
use Rattle.std.proofs.Common.{◌≡◌, ℕ, zero, suc, ◌+◌, ◌*◌, ◌≤◌, Bool, true, false, if◌then◌else◌, suc-mul, pos, List, [], ◌∷◌, ◌++◌, map, refl, ap, arith}
use Rattle.x86_ins.specs.declared.ins.AluOp.TheVariants.{Add, Sub}
use Rattle.x86_ins.specs.declared.ins.Ins.{Ins}
use Rattle.x86_ins.specs.declared.ins.Ins.TheVariants.{AluImm}
use Rattle.x86_ins.specs.Renaming.{renamed, renaming}
use Rattle.x86_ins.specs.Way.{Each}
use Rattle.x86_flow.specs.Moves.{IsWidth, store_either_code}
use Rattle.x86_flow.specs.Touching.{weight_by, touch_weight}
use Rattle.x86_flow.proofs.Plans.{weigh, weigh_append}
use Rattle.x86_flow.proofs.Moves.{load_weight, store_weight, aligned_store_weight}
use Rattle.orc_region.specs.Code.{far_source, Action, spares_second, IsRule, Source, FromArray, FromPattern, FromResident, FromPlace, FromSlot, FromFar, Target, ToArray, ToSum, ToResident, ToPlace, ToSlot, AreBlocks, IsBlocksTurn, pointer, far_by, first_register, second_register, rule_code, source_far_code, brought, sources_far_code, sum_code, result_far_code, results_far_code, own_names, action_names, action_far_code, named_code, actions_far_code, advance_code}
use Rattle.orc_region.proofs.Sizes.Fars.{far_touches}
use Rattle.orc_region.proofs.Block.Touched.{GoesNowhere, rule_nowhere, base_renamed}
use Rattle.orc_region.proofs.Block.Actions.{IsMovedFrom, IsMovedTo, IsFit}

-- ---- operands that are arrays

abbrev pub from_arrays : ℕ → List Source → ℕ
from_arrays count [] = 0
from_arrays count (FromArray k ∷ rest) = 1 + from_arrays count rest
from_arrays count (FromPattern j ∷ rest) = from_arrays count rest
from_arrays count (FromResident j g ∷ rest) = from_arrays count rest
from_arrays count (FromPlace p ∷ rest) = from_arrays count rest
from_arrays count (FromFar load array js ∷ rest) = 2 * count + from_arrays count rest
from_arrays count (FromSlot k ∷ rest) = from_arrays count rest

abbrev pub to_arrays : List Target → ℕ
to_arrays [] = 0
to_arrays (ToArray k ∷ rest) = 1 + to_arrays rest
to_arrays (ToSum g ∷ rest) = to_arrays rest
to_arrays (ToResident g ∷ rest) = to_arrays rest
to_arrays (ToPlace p ∷ rest) = to_arrays rest
to_arrays (ToSlot k ∷ rest) = to_arrays rest

abbrev pub arrays_of : ℕ → List Action → ℕ
arrays_of count [] = 0
arrays_of count (a ∷ rest) = from_arrays count a.sources + to_arrays a.to + arrays_of count rest

pub from_front : (count : ℕ) (s : Source) (more : List Source) → from_arrays count (s ∷ more) ≡ from_arrays count (s ∷ []) + from_arrays count more
from_front count (FromArray k) more = omega arith
from_front count (FromPattern j) more = omega arith
from_front count (FromResident j g) more = omega arith
from_front count (FromPlace p) more = omega arith
from_front count (FromFar load array js) more = omega arith
from_front count (FromSlot k) more = omega arith

pub to_front : (t : Target) (more : List Target) → to_arrays (t ∷ more) ≡ to_arrays (t ∷ []) + to_arrays more
to_front (ToArray k) more = omega arith
to_front (ToSum g) more = omega arith
to_front (ToResident g) more = omega arith
to_front (ToPlace p) more = omega arith
to_front (ToSlot k) more = omega arith

module _ (by : ℕ → Bool) (by_stack : by 4 ≡ false) (by_block : by 7 ≡ false) where
  abbrev v : Ins → ℕ
  v = touch_weight by

  abbrev one : Bool → ℕ
  one b = if b then 1 else 0

  none_4 : one (by 4) ≡ 0
  none_4 = ap one by_stack

  -- ---- rules

  nowhere_free : (is : List Ins) → Each GoesNowhere is → weigh v is ≡ 0
  nowhere_free [] h = refl
  nowhere_free (i ∷ is) h = (let e : v i ≡ 0 = ap (weight_by by) h.0.0 in omega (arith, e, nowhere_free is h.1))

  rule_free : (count : ℕ) (a : Action) → IsRule count a.op a.by a.rule → weigh v (rule_code a) ≡ 0
  rule_free count a is = nowhere_free (rule_code a) (rule_nowhere count a is)

  -- ---- blocks

  module _ (count : ℕ) (size far : ℕ → ℕ) (aligned : ℕ → Bool) where
    from_few : (x : ℕ) (s : Source) → IsMovedFrom count size s → weigh v (source_far_code count size far x s) ≤ from_arrays count (s ∷ [])
    from_few x (FromArray k) h = load_weight by (count * size k) x (pointer k) (far k) h
    from_few x (FromPattern j) h = omega (arith, none_4)
    from_few x (FromResident j g) h = omega (arith, none_4)
    from_few x (FromPlace p) h = omega arith
    from_few x (FromFar load array js) h = omega (arith, far_touches by by_stack by_block (far_source (far array) load array js) count x h)
    from_few x (FromSlot k) h = omega (arith, none_4)

    brought_few : (taken : Bool) (code : List Ins) → weigh v (brought taken code) ≤ weigh v code
    brought_few true code = omega arith
    brought_few false code = omega arith

    sources_few : (one two : Bool) (x y : ℕ) (ss : List Source) → Each (IsMovedFrom count size) ss → weigh v (sources_far_code one two count size far x y ss) ≤ from_arrays count ss
    sources_few one two x y [] h = omega arith
    sources_few one two x y (s ∷ []) h = let a = from_few x s h.0 in omega (arith, a, brought_few one (source_far_code count size far x s))
    sources_few one two x y (s ∷ t ∷ more) h =
        let front = source_far_code count size far x s in
        let back = source_far_code count size far y t in
        let a = from_few x s h.0 in
        let b = from_few y t h.1.0 in
        omega (arith, a, b, brought_few one front, brought_few two back, from_front count s (t ∷ more), from_front count t more, weigh_append v (brought one front) (brought two back))

    either_few : (b : Bool) (width x r d : ℕ) → IsWidth width → weigh v (store_either_code b width x r d) ≤ 1
    either_few false width x r d is = store_weight by width x r d is
    either_few true width x r d is = aligned_store_weight by x r d

    to_few : (x : ℕ) (t : Target) → IsMovedTo count size t → weigh v (result_far_code count size far aligned x t) ≤ to_arrays (t ∷ [])
    to_few x (ToArray k) h = either_few (aligned k) (count * size k) x (pointer k) (far k) h
    to_few x (ToSum g) h = omega (arith, none_4)
    to_few x (ToResident g) h = omega arith
    to_few x (ToPlace p) h = omega arith
    to_few x (ToSlot k) h = omega (arith, none_4)

    sum_free : (ts : List Target) → weigh v (sum_code ts) ≡ 0
    sum_free [] = refl
    sum_free (ToArray k ∷ rest) = refl
    sum_free (ToSum g ∷ rest) = omega (arith, none_4)
    sum_free (ToResident g ∷ rest) = refl
    sum_free (ToPlace p ∷ rest) = refl
    sum_free (ToSlot k ∷ rest) = refl

    results_few : (ts : List Target) → Each (IsMovedTo count size) ts → weigh v (results_far_code count size far aligned ts) ≤ to_arrays ts
    results_few [] h = omega arith
    results_few (t ∷ []) h = to_few 0 t h.0
    results_few (t ∷ u ∷ more) h =
        let a = to_few 0 t h.0 in
        let b = to_few 1 u h.1.0 in
        omega (arith, a, b, to_front t (u ∷ more), to_front u more, weigh_append v (result_far_code count size far aligned 0 t) (result_far_code count size far aligned 1 u))

    action_few : (a : Action) → IsFit count size a → weigh v (action_far_code count size far aligned a) ≤ from_arrays count a.sources + to_arrays a.to
    action_few a h =
        let loads = sources_far_code a.takes_first (spares_second a) count size far (first_register a.to) (second_register a.to) a.sources in
        let stores = results_far_code count size far aligned a.to in
        omega (
          arith,
          weigh_append v loads (sum_code a.to ++ (rule_code a ++ stores)),
          weigh_append v (sum_code a.to) (rule_code a ++ stores),
          weigh_append v (rule_code a) stores,
          sources_few a.takes_first (spares_second a) (first_register a.to) (second_register a.to) a.sources h.sources,
          sum_free a.to,
          rule_free count a h.rule,
          results_few a.to h.to,
        )

    weigh_renamed : (f : ℕ → ℕ) (is : List Ins) → weigh v (map (renamed f) is) ≡ weigh v is
    weigh_renamed f [] = refl
    weigh_renamed f (i ∷ is) = (let e : v (renamed f i) ≡ v i = ap (weight_by by) (base_renamed f i) in omega (arith, e, weigh_renamed f is))

    named_few : (names : List ℕ) (actions : List Action) → Each (IsFit count size) actions → weigh v (named_code names count size far aligned actions) ≤ arrays_of count actions
    named_few names [] h = omega arith
    named_few names (a ∷ rest) h =
        let mine = action_names a names in
        let own = action_far_code count size far aligned a in
        let x = action_few a h.0 in
        let y = named_few mine rest h.1 in
        omega (arith, x, y, weigh_append v (map (renamed (renaming mine)) own) (named_code mine count size far aligned rest), weigh_renamed (renaming mine) own)

    pub actions_few : (actions : List Action) → Each (IsFit count size) actions → weigh v (actions_far_code count size far aligned actions) ≤ arrays_of count actions
    actions_few = named_few own_names

  -- ---- turns

  advance_free : (size : ℕ → ℕ) (count first n : ℕ) → weigh v (advance_code size count first n) ≡ 0
  advance_free size count first zero = refl
  advance_free size count first (suc n) = omega (arith, weigh_append v (advance_code size count first n) (AluImm Add (pointer (first + n)) (pos (count * size (first + n))) ∷ []), advance_free size count first n)

  -- of blocks of actions of which Are holds; each block touches cells at most once for each operand that is an array, and of a far load twice for each element
  module _ (count : ℕ) (size : ℕ → ℕ) (aligned : ℕ → Bool) (Are : List Action → Type 0) (fit : (actions : List Action) → Are actions → Each (IsFit count size) actions) (most : ℕ) (few : (actions : List Action) → Are actions → arrays_of count actions ≤ most) where
    blocks_few : (b : ℕ) (list : List Ins) → AreBlocks Are count size aligned b list → weigh v list ≤ b * most
    blocks_few zero list x = omega (arith, ap (weigh v) x)
    blocks_few (suc b) list x =
        let code = actions_far_code count size (far_by (b * count) size) aligned x.1 in
        omega (arith, ap (weigh v) x.4, weigh_append v x.0 code, blocks_few b x.0 x.2, actions_few count size (far_by (b * count) size) aligned x.1 (fit x.1 x.3), few x.1 x.3, suc-mul b most)

    pub turn_few : (dests sources b : ℕ) (list : List Ins) → IsBlocksTurn Are count size aligned dests sources b list → weigh v list ≤ b * most
    turn_few dests sources b list x =
        let by_many = b * count in
        let first = advance_code size by_many 0 dests in
        let second = advance_code size by_many 4 sources in
        let last = AluImm Sub 1 (pos by_many) ∷ [] in
        omega (arith, ap (weigh v) x.2, blocks_few b x.0 x.1, weigh_append v x.0 (first ++ (second ++ last)), weigh_append v first (second ++ last), weigh_append v second last, advance_free size by_many 0 dests, advance_free size by_many 4 sources)
