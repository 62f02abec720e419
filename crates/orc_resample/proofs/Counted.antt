-- How long the lists are, how many of their instructions read the array, and that all are allowed.
use Rattle.std.proofs.Common.{◌≡◌, ℕ, zero, suc, ◌+◌, ◌-◌, ◌*◌, ◌≤◌, ◌&&◌, Bool, true, false, true≢false, if◌then◌else◌, length, List, [], ◌∷◌, ◌++◌, Result, Ok, Err, IfOk, sym, ap, ◌∙◌, refl, arith, length-append}
use Rattle.x86_ins.specs.declared.ins.Ins.{Ins}
use Rattle.x86_ins.specs.Spelling.{IsIns, IsAllowed, has_spelling}
use Rattle.x86_ins.specs.Way.{Each}
use Rattle.x86_flow.specs.Moves.{IsWidth}
use Rattle.x86_flow.specs.Touching.{touch_weight}
use Rattle.x86_flow.proofs.Moves.{each_width}
use Rattle.orc_ops.specs.declared.far.Far.{Far}
use Rattle.orc_ops.specs.declared.far.Far.TheVariants.{Loadoffb, Loadoffw, Loadoffl, Loadupdb, Loadupib, Ldresnearb, Ldresnearl, Ldreslinb, Ldreslinl}
use Rattle.orc_ops.specs.Far.{far_size, far_weight}
use Rattle.orc_resample.specs.declared.plan.FarPlan.{FarPlan}
use Rattle.orc_resample.specs.Code.{element_of, elements_code, row_code, is_one_by_one, gather_code, scratch}
use Rattle.orc_resample.specs.Ready.{is_pointer, far_count}

-- the instructions of one element
abbrev each : Far → ℕ
each Loadupdb = 9
each Loadupib = 19
each Ldresnearb = 17
each Ldresnearl = 17
each Ldreslinb = 26
each _ = 33

element_size : (far : Far) (plan : FarPlan) (k a b e : ℕ) → length (element_of far plan k a b e) ≡ each far
element_size Loadoffb plan k a b e = refl
element_size Loadoffw plan k a b e = refl
element_size Loadoffl plan k a b e = refl
element_size Loadupdb plan k a b e = refl
element_size Loadupib plan k a b e = refl
element_size Ldresnearb plan k a b e = refl
element_size Ldresnearl plan k a b e = refl
element_size Ldreslinb plan k a b e = refl
element_size Ldreslinl plan k a b e = refl

elements_size : (far : Far) (plan : FarPlan) (count a b e n : ℕ) → length (elements_code far plan count a b e n) ≡ n * each far
elements_size far plan count a b e zero = let q : 0 ≡ 0 * each far = omega arith in q
elements_size far plan count a b e (suc n) =
    let p : length (elements_code far plan count a b e n ++ element_of far plan (count - 1 - n) a b e) ≡ length (elements_code far plan count a b e n) + length (element_of far plan (count - 1 - n) a b e) = length-append (elements_code far plan count a b e n) (element_of far plan (count - 1 - n) a b e) in
    let r : n * each far + each far ≡ suc n * each far = grind arith in
    p ∙ ap (λ m. m + length (element_of far plan (count - 1 - n) a b e)) (elements_size far plan count a b e n) ∙ ap (λ m. n * each far + m) (element_size far plan (count - 1 - n) a b e) ∙ r

row_size : (width a : ℕ) → IsWidth width → length (row_code width a) ≤ 2
row_size width a is = each_width (λ w. length (row_code w a) ≤ 2) (omega arith) (omega arith) (omega arith) (omega arith) (omega arith) width is

-- six instructions of the weight are never needed: an offset load has at most ten; element by element a seventh isn't
pub gather_length : (far : Far) (count : ℕ) (plan : FarPlan) → IsWidth (count * far_size far) → length (gather_code far count plan) + (if is_one_by_one far then 7 else 6) ≤ far_weight far count
gather_length Loadoffb count plan is = omega (arith, row_size (count * 1) (scratch plan 0) is)
gather_length Loadoffw count plan is = omega (arith, row_size (count * 2) (scratch plan 0) is)
gather_length Loadoffl count plan is = omega (arith, row_size (count * 4) (scratch plan 0) is)
gather_length Loadupdb count plan is = omega (arith, elements_size Loadupdb plan count (scratch plan 0) (scratch plan 1) (scratch plan 2) count)
gather_length Loadupib count plan is = omega (arith, elements_size Loadupib plan count (scratch plan 0) (scratch plan 1) (scratch plan 2) count)
gather_length Ldresnearb count plan is = omega (arith, elements_size Ldresnearb plan count (scratch plan 0) (scratch plan 1) (scratch plan 2) count)
gather_length Ldresnearl count plan is = omega (arith, elements_size Ldresnearl plan count (scratch plan 0) (scratch plan 1) (scratch plan 2) count)
gather_length Ldreslinb count plan is = omega (arith, elements_size Ldreslinb plan count (scratch plan 0) (scratch plan 1) (scratch plan 2) count)
gather_length Ldreslinl count plan is = omega (arith, elements_size Ldreslinl plan count (scratch plan 0) (scratch plan 1) (scratch plan 2) count)

pub gather_short : (far : Far) (count : ℕ) (plan : FarPlan) → IsWidth (count * far_size far) → length (gather_code far count plan) ≤ far_weight far count
gather_short far count plan is = omega (arith, gather_length far count plan is)

-- at most 16 bytes
pub room_of : (width : ℕ) → IsWidth width → width ≤ 16
room_of width is = each_width (λ w. w ≤ 16) (omega arith) (omega arith) (omega arith) (omega arith) (omega arith) width is

-- from what holds of a list to what holds of an outcome
pub ok_map : {A E : Type 0} (r : Result A E) (P Q : A → Type 0) → ((x : A) → P x → Q x) → IfOk r P → IfOk r Q
ok_map (Ok x) P Q f h = f x h
ok_map (Err e) P Q f h = tt

pub ok_both : {A E : Type 0} (r : Result A E) (P Q R : A → Type 0) → ((x : A) → P x → Q x → R x) → IfOk r P → IfOk r Q → IfOk r R
ok_both (Ok x) P Q R f h k = f x h k
ok_both (Err e) P Q R f h k = tt

-- ---- how many touch the array

at_most_one : (t : Bool) → (if t then 1 else 0) ≤ 1
at_most_one true = omega arith
at_most_one false = omega arith

pub far_append : (x y : List Ins) → far_count (x ++ y) ≡ far_count x + far_count y
far_append [] y = let q : far_count y ≡ 0 + far_count y = omega arith in q
far_append (i ∷ x) y = let h = far_append x y in let q : touch_weight is_pointer i + far_count (x ++ y) ≡ touch_weight is_pointer i + far_count x + far_count y = omega (arith, h) in q

element_far : (far : Far) (plan : FarPlan) (k a b e : ℕ) → far_count (element_of far plan k a b e) ≤ 2
element_far Loadoffb plan k a b e = omega (arith, at_most_one (is_pointer a))
element_far Loadoffw plan k a b e = omega (arith, at_most_one (is_pointer a))
element_far Loadoffl plan k a b e = omega (arith, at_most_one (is_pointer a))
element_far Loadupdb plan k a b e = omega (arith, at_most_one (is_pointer a))
element_far Loadupib plan k a b e = omega (arith, at_most_one (is_pointer a))
element_far Ldresnearb plan k a b e = omega (arith, at_most_one (is_pointer a))
element_far Ldresnearl plan k a b e = omega (arith, at_most_one (is_pointer a))
element_far Ldreslinb plan k a b e = omega (arith, at_most_one (is_pointer a))
element_far Ldreslinl plan k a b e = omega (arith, at_most_one (is_pointer a))

elements_far : (far : Far) (plan : FarPlan) (count a b e n : ℕ) → far_count (elements_code far plan count a b e n) ≤ 2 * n
elements_far far plan count a b e zero = omega arith
elements_far far plan count a b e (suc n) =
    omega (arith, far_append (elements_code far plan count a b e n) (element_of far plan (count - 1 - n) a b e), elements_far far plan count a b e n, element_far far plan (count - 1 - n) a b e)

row_far : (width a : ℕ) → IsWidth width → far_count (row_code width a) ≤ 1
row_far width a is =
    let h = at_most_one (is_pointer a) in
    each_width (λ w. far_count (row_code w a) ≤ 1) (omega (arith, h)) (omega (arith, h)) (omega (arith, h)) (omega (arith, h)) (omega (arith, h)) width is

some_width : (width : ℕ) → IsWidth width → 1 ≤ width
some_width width is = each_width (λ w. 1 ≤ w) (omega arith) (omega arith) (omega arith) (omega arith) (omega arith) width is

pub gather_far : (far : Far) (count : ℕ) (plan : FarPlan) → IsWidth (count * far_size far) → far_count (gather_code far count plan) ≤ 2 * count
gather_far Loadoffb count plan is = omega (arith, row_far (count * 1) (scratch plan 0) is, some_width (count * 1) is)
gather_far Loadoffw count plan is = omega (arith, row_far (count * 2) (scratch plan 0) is, some_width (count * 2) is)
gather_far Loadoffl count plan is = omega (arith, row_far (count * 4) (scratch plan 0) is, some_width (count * 4) is)
gather_far Loadupdb count plan is = omega (arith, elements_far Loadupdb plan count (scratch plan 0) (scratch plan 1) (scratch plan 2) count)
gather_far Loadupib count plan is = omega (arith, elements_far Loadupib plan count (scratch plan 0) (scratch plan 1) (scratch plan 2) count)
gather_far Ldresnearb count plan is = omega (arith, elements_far Ldresnearb plan count (scratch plan 0) (scratch plan 1) (scratch plan 2) count)
gather_far Ldresnearl count plan is = omega (arith, elements_far Ldresnearl plan count (scratch plan 0) (scratch plan 1) (scratch plan 2) count)
gather_far Ldreslinb count plan is = omega (arith, elements_far Ldreslinb plan count (scratch plan 0) (scratch plan 1) (scratch plan 2) count)
gather_far Ldreslinl count plan is = omega (arith, elements_far Ldreslinl plan count (scratch plan 0) (scratch plan 1) (scratch plan 2) count)

-- ---- all are allowed

abbrev pub all_spelled : List Ins → Bool
all_spelled [] = true
all_spelled (i ∷ is) = has_spelling i && all_spelled is

pub both : (s t : Bool) → (s && t) ≡ true → (s ≡ true) × (t ≡ true)
both true t h = (refl, h)
both false t h = absurd (true≢false (sym h))

pub spelled_append : (x y : List Ins) → all_spelled x ≡ true → all_spelled y ≡ true → all_spelled (x ++ y) ≡ true
spelled_append [] y p q = q
spelled_append (i ∷ x) y p q = let h = both (has_spelling i) (all_spelled x) p in ap (λ b. b && all_spelled (x ++ y)) h.0 ∙ spelled_append x y h.1 q

element_spelled : (far : Far) (plan : FarPlan) (k a b e : ℕ) → all_spelled (element_of far plan k a b e) ≡ true
element_spelled Loadoffb plan k a b e = refl
element_spelled Loadoffw plan k a b e = refl
element_spelled Loadoffl plan k a b e = refl
element_spelled Loadupdb plan k a b e = refl
element_spelled Loadupib plan k a b e = refl
element_spelled Ldresnearb plan k a b e = refl
element_spelled Ldresnearl plan k a b e = refl
element_spelled Ldreslinb plan k a b e = refl
element_spelled Ldreslinl plan k a b e = refl

elements_spelled : (far : Far) (plan : FarPlan) (count a b e n : ℕ) → all_spelled (elements_code far plan count a b e n) ≡ true
elements_spelled far plan count a b e zero = refl
elements_spelled far plan count a b e (suc n) = spelled_append (elements_code far plan count a b e n) (element_of far plan (count - 1 - n) a b e) (elements_spelled far plan count a b e n) (element_spelled far plan (count - 1 - n) a b e)

row_spelled : (width a : ℕ) → IsWidth width → all_spelled (row_code width a) ≡ true
row_spelled width a is = each_width (λ w. all_spelled (row_code w a) ≡ true) refl refl refl refl refl width is

pub gather_spelled : (far : Far) (count : ℕ) (plan : FarPlan) → IsWidth (count * far_size far) → all_spelled (gather_code far count plan) ≡ true
gather_spelled Loadoffb count plan is = row_spelled (count * 1) (scratch plan 0) is
gather_spelled Loadoffw count plan is = row_spelled (count * 2) (scratch plan 0) is
gather_spelled Loadoffl count plan is = row_spelled (count * 4) (scratch plan 0) is
gather_spelled Loadupdb count plan is = elements_spelled Loadupdb plan count (scratch plan 0) (scratch plan 1) (scratch plan 2) count
gather_spelled Loadupib count plan is = elements_spelled Loadupib plan count (scratch plan 0) (scratch plan 1) (scratch plan 2) count
gather_spelled Ldresnearb count plan is = elements_spelled Ldresnearb plan count (scratch plan 0) (scratch plan 1) (scratch plan 2) count
gather_spelled Ldresnearl count plan is = elements_spelled Ldresnearl plan count (scratch plan 0) (scratch plan 1) (scratch plan 2) count
gather_spelled Ldreslinb count plan is = elements_spelled Ldreslinb plan count (scratch plan 0) (scratch plan 1) (scratch plan 2) count
gather_spelled Ldreslinl count plan is = elements_spelled Ldreslinl plan count (scratch plan 0) (scratch plan 1) (scratch plan 2) count

pub allowed : (list : List Ins) → all_spelled list ≡ true → Each IsIns list → Each IsAllowed list
allowed [] h r = r
allowed (i ∷ list) h r = let s = both (has_spelling i) (all_spelled list) h in ((r.0, s.0), allowed list s.1 r.1)

pub gather_allowed : (far : Far) (count : ℕ) (plan : FarPlan) → IsWidth (count * far_size far) → Each IsIns (gather_code far count plan) → Each IsAllowed (gather_code far count plan)
gather_allowed far count plan is = allowed (gather_code far count plan) (gather_spelled far count plan is)
