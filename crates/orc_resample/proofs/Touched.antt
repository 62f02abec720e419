-- By which registers the code inside a turn touches memory, that none of its instructions stores a vector register, how long it is, and that its instructions are allowed.
use Rattle.std.proofs.Common.{◌≡◌, ℕ, zero, suc, ◌+◌, ◌-◌, ◌*◌, ◌≤◌, ◌==◌, ◌&&◌, Bool, true, false, not, true≢false, if◌then◌else◌, length, ℤ, List, [], ◌∷◌, ◌++◌, refl, sym, ap, ◌∙◌, subst, arith, length-append}
use Rattle.x86_ins.specs.declared.ins.ShiftOp.TheVariants.{Shr, Sar}
use Rattle.x86_ins.specs.declared.ins.Ins.{Ins}
use Rattle.x86_ins.specs.declared.ins.Ins.TheVariants.{Store, Shift}
use Rattle.x86_ins.specs.Spelling.{IsIns, IsAllowed, has_spelling}
use Rattle.x86_ins.specs.Way.{Each}
use Rattle.x86_flow.specs.Moves.{IsWidth}
use Rattle.x86_flow.specs.Touching.{touch_weight}
use Rattle.x86_flow.proofs.Moves.{each_width}
use Rattle.orc_ops.specs.declared.far.Far.{Far}
use Rattle.orc_ops.specs.declared.far.Far.TheVariants.{Loadoffb, Loadoffw, Loadoffl, Loadupdb, Loadupib, Ldresnearb, Ldresnearl, Ldreslinb, Ldreslinl}
use Rattle.orc_ops.specs.Far.{far_size, far_weight}
use Rattle.orc_resample.specs.declared.plan.FarPlan.{FarPlan}
use Rattle.orc_resample.specs.declared.turn.FarSource.{FarSource}
use Rattle.orc_resample.specs.Code.{slot, element_of, elements_code, row_code, bits_of, narrow_code, is_one_by_one, gather_with, plan_of, enter_code, leave_code, singly_code, bytes_code, shifted_code, beside_code, doubled_code, between_code, bring_by, bring_code}
use Rattle.orc_resample.specs.Ready.{is_pointer, far_count}
use Rattle.orc_resample.specs.Bring.{is_array, array_count, is_vector_store}
use Rattle.orc_resample.proofs.Counted.{both, all_spelled, spelled_append, allowed, gather_length, gather_far, gather_spelled}

-- ---- the values' part reads by RSP and RAX alone

-- an instruction that counts with RDI as without, and stores no vector register
abbrev agrees : Ins → Bool
agrees i = (touch_weight is_array i == touch_weight is_pointer i) && not (is_vector_store i)

abbrev pub Agrees : Ins → Type 0
Agrees i = (touch_weight is_array i ≡ touch_weight is_pointer i) × (is_vector_store i ≡ false)

abbrev pub all_agree : List Ins → Bool
all_agree [] = true
all_agree (i ∷ is) = agrees i && all_agree is

pub agree_append : (x y : List Ins) → all_agree x ≡ true → all_agree y ≡ true → all_agree (x ++ y) ≡ true
agree_append [] y p q = q
agree_append (i ∷ x) y p q = let h = both (agrees i) (all_agree x) p in ap (λ b. b && all_agree (x ++ y)) h.0 ∙ agree_append x y h.1 q

element_agrees : (far : Far) (plan : FarPlan) (k : ℕ) → all_agree (element_of far plan k 0 1 7) ≡ true
element_agrees Loadoffb plan k = refl
element_agrees Loadoffw plan k = refl
element_agrees Loadoffl plan k = refl
element_agrees Loadupdb plan k = refl
element_agrees Loadupib plan k = refl
element_agrees Ldresnearb plan k = refl
element_agrees Ldresnearl plan k = refl
element_agrees Ldreslinb plan k = refl
element_agrees Ldreslinl plan k = refl

elements_agree : (far : Far) (plan : FarPlan) (count n : ℕ) → all_agree (elements_code far plan count 0 1 7 n) ≡ true
elements_agree far plan count zero = refl
elements_agree far plan count (suc n) = agree_append (elements_code far plan count 0 1 7 n) (element_of far plan (count - 1 - n) 0 1 7) (elements_agree far plan count n) (element_agrees far plan (count - 1 - n))

row_agrees : (width : ℕ) → IsWidth width → all_agree (row_code width 0) ≡ true
row_agrees width is = each_width (λ w. all_agree (row_code w 0) ≡ true) refl refl refl refl refl width is

pub gather_agrees : (far : Far) (plan : FarPlan) (count : ℕ) → IsWidth (count * far_size far) → all_agree (gather_with far plan count 0 1 7) ≡ true
gather_agrees Loadoffb plan count is = row_agrees (count * 1) is
gather_agrees Loadoffw plan count is = row_agrees (count * 2) is
gather_agrees Loadoffl plan count is = row_agrees (count * 4) is
gather_agrees Loadupdb plan count is = elements_agree Loadupdb plan count count
gather_agrees Loadupib plan count is = elements_agree Loadupib plan count count
gather_agrees Ldresnearb plan count is = elements_agree Ldresnearb plan count count
gather_agrees Ldresnearl plan count is = elements_agree Ldresnearl plan count count
gather_agrees Ldreslinb plan count is = elements_agree Ldreslinb plan count count
gather_agrees Ldreslinl plan count is = elements_agree Ldreslinl plan count count

equal_of : (x y : ℕ) → (x == y) ≡ true → x ≡ y
equal_of x y h = grind (arith)

not_true : (b : Bool) → not b ≡ true → b ≡ false
not_true true h = absurd (true≢false (sym h))
not_true false h = refl

agreed : (i : Ins) → agrees i ≡ true → Agrees i
agreed i h = let s = both (touch_weight is_array i == touch_weight is_pointer i) (not (is_vector_store i)) h in (equal_of (touch_weight is_array i) (touch_weight is_pointer i) s.0, not_true (is_vector_store i) s.1)

pub agree_each : (list : List Ins) → all_agree list ≡ true → Each Agrees list
agree_each [] h = tt
agree_each (i ∷ list) h = let s = both (agrees i) (all_agree list) h in (agreed i s.0, agree_each list s.1)

agree_count : (list : List Ins) → Each Agrees list → array_count list ≡ far_count list
agree_count [] h = refl
agree_count (i ∷ list) h = omega (arith, h.0.0, agree_count list h.1)

array_append : (x y : List Ins) → array_count (x ++ y) ≡ array_count x + array_count y
array_append [] y = let q : array_count y ≡ 0 + array_count y = omega arith in q
array_append (i ∷ x) y = let h = array_append x y in let q : touch_weight is_array i + array_count (x ++ y) ≡ touch_weight is_array i + array_count x + array_count y = omega (arith, h) in q

-- ---- what stands around it

narrow_length : (bits : ℕ) → length (narrow_code bits 0) ≤ 1
narrow_length bits = go (bits == 0)
  where
    go : (t : Bool) → length (if t then [] else Shift Shr 0 bits ∷ []) ≤ 1
    go true = omega arith
    go false = omega arith

narrow_array : (bits : ℕ) → array_count (narrow_code bits 0) ≡ 0
narrow_array bits = go (bits == 0)
  where
    go : (t : Bool) → array_count (if t then [] else Shift Shr 0 bits ∷ []) ≡ 0
    go true = refl
    go false = refl

narrow_spelled : (far : Far) → all_spelled (narrow_code (bits_of (far_size far)) 0) ≡ true
narrow_spelled Loadoffb = refl
narrow_spelled Loadoffw = refl
narrow_spelled Loadoffl = refl
narrow_spelled Loadupdb = refl
narrow_spelled Loadupib = refl
narrow_spelled Ldresnearb = refl
narrow_spelled Ldresnearl = refl
narrow_spelled Ldreslinb = refl
narrow_spelled Ldreslinl = refl

enter_length : (source : FarSource) → length (enter_code source) ≤ 6
enter_length source =
    let narrow = narrow_code (bits_of (far_size source.far)) 0 in
    let front : length (enter_code source) ≡ 4 + length (narrow ++ Store 0 (slot source.index) ∷ []) = omega arith in
    let behind : length (narrow ++ Store 0 (slot source.index) ∷ []) ≡ length narrow + 1 = length-append narrow (Store 0 (slot source.index) ∷ []) in
    omega (arith, front, behind, narrow_length (bits_of (far_size source.far)))

enter_array : (source : FarSource) → array_count (enter_code source) ≡ 0
enter_array source =
    let narrow = narrow_code (bits_of (far_size source.far)) 0 in
    let front : array_count (enter_code source) ≡ array_count (narrow ++ Store 0 (slot source.index) ∷ []) = omega arith in
    let behind : array_count (narrow ++ Store 0 (slot source.index) ∷ []) ≡ array_count narrow + 0 = array_append narrow (Store 0 (slot source.index) ∷ []) in
    omega (arith, front, behind, narrow_array (bits_of (far_size source.far)))

enter_spelled : (source : FarSource) → all_spelled (enter_code source) ≡ true
enter_spelled source = spelled_append (narrow_code (bits_of (far_size source.far)) 0) (Store 0 (slot source.index) ∷ []) (narrow_spelled source.far) refl

leave_length : (source : FarSource) → length (leave_code source) ≡ 2
leave_length source = refl

leave_array : (source : FarSource) → array_count (leave_code source) ≡ 0
leave_array source = refl

leave_spelled : (source : FarSource) → all_spelled (leave_code source) ≡ true
leave_spelled source = refl

-- ---- element by element

singly_touches : (source : FarSource) (count : ℕ) → IsWidth (count * far_size source.far) → array_count (singly_code source count) ≤ 2 * count
singly_touches source count is =
    let list = gather_with source.far (plan_of source) count 0 1 7 in
    let some : far_count list ≤ 2 * count = gather_far source.far count (plan_of source) is in
    let same : array_count list ≡ far_count list = agree_count list (agree_each list (gather_agrees source.far (plan_of source) count is)) in
    omega (arith, some, same, array_append (enter_code source) (list ++ leave_code source), enter_array source, array_append list (leave_code source), leave_array source)

-- two more than a list of values whose length leaves seven instructions of the weight
singly_short : (source : FarSource) (count : ℕ) → is_one_by_one source.far ≡ true → IsWidth (count * far_size source.far) → length (singly_code source count) ≤ far_weight source.far count + 1
singly_short source count single is =
    let list = gather_with source.far (plan_of source) count 0 1 7 in
    let some : length list + (if is_one_by_one source.far then 7 else 6) ≤ far_weight source.far count = gather_length source.far count (plan_of source) is in
    let more : 7 ≤ (if is_one_by_one source.far then 7 else 6) = subst (λ t. 7 ≤ (if t then 7 else 6)) (sym single) (omega arith) in
    omega (arith, some, more, length-append (enter_code source) (list ++ leave_code source), enter_length source, length-append list (leave_code source), leave_length source)

singly_spelled : (source : FarSource) (count : ℕ) → IsWidth (count * far_size source.far) → all_spelled (singly_code source count) ≡ true
singly_spelled source count is =
    let list = gather_with source.far (plan_of source) count 0 1 7 in
    let behind : all_spelled (list ++ leave_code source) ≡ true = spelled_append list (leave_code source) (gather_spelled source.far count (plan_of source) is) (leave_spelled source) in
    spelled_append (enter_code source) (list ++ leave_code source) (enter_spelled source) behind

-- ---- elements side by side

pub bytes_agree : (width x t : ℕ) (z : ℤ) → IsWidth width → all_agree (bytes_code width x t z) ≡ true
bytes_agree width x t z is = each_width (λ w. all_agree (bytes_code w x t z) ≡ true) refl refl refl refl refl width is

bytes_array : (width x t : ℕ) (z : ℤ) → IsWidth width → array_count (bytes_code width x t z) ≡ 1
bytes_array width x t z is = each_width (λ w. array_count (bytes_code w x t z) ≡ 1) refl refl refl refl refl width is

bytes_length : (width x t : ℕ) (z : ℤ) → IsWidth width → length (bytes_code width x t z) ≤ 2
bytes_length width x t z is = each_width (λ w. length (bytes_code w x t z) ≤ 2) (omega arith) (omega arith) (omega arith) (omega arith) (omega arith) width is

bytes_spelled : (width x t : ℕ) (z : ℤ) → IsWidth width → all_spelled (bytes_code width x t z) ≡ true
bytes_spelled width x t z is = each_width (λ w. all_spelled (bytes_code w x t z) ≡ true) refl refl refl refl refl width is

-- what a list for so many elements has to be
pub record IsFit (most count : ℕ) (list : List Ins) : Type 0 where
  pub few : length list ≤ most
  pub touches : array_count list ≤ 2 * count
  pub spelled : all_spelled list ≡ true

beside_fits : (source : FarSource) (bits count width : ℕ) → 1 ≤ count → has_spelling (Shift Sar 0 (32 - bits)) ≡ true → IsWidth width → IsFit 17 count (beside_code source bits width)
beside_fits source bits count width some sar is = record {
  few = omega (arith, length-append (shifted_code source bits) (bytes_code width 0 0 source.ahead), bytes_length width 0 0 source.ahead is);
  touches = omega (arith, some, array_append (shifted_code source bits) (bytes_code width 0 0 source.ahead), bytes_array width 0 0 source.ahead is);
  spelled = spelled_append (shifted_code source bits) (bytes_code width 0 0 source.ahead) (ap (λ b. b && true) sar) (bytes_spelled width 0 0 source.ahead is);
}

doubled_fits : (source : FarSource) (count : ℕ) → IsWidth count → IsFit (17 + 24 * count) count (doubled_code source count)
doubled_fits source count is = each_width (λ n. IsFit (17 + 24 * n) n (doubled_code source n)) (record { few = omega arith; touches = omega arith; spelled = refl }) (record { few = omega arith; touches = omega arith; spelled = refl }) (record { few = omega arith; touches = omega arith; spelled = refl }) (record { few = omega arith; touches = omega arith; spelled = refl }) (record { few = omega arith; touches = omega arith; spelled = refl }) count is

between_fits : (source : FarSource) (count : ℕ) → IsWidth count → IsFit (17 + 24 * count) count (between_code source count)
between_fits source count is = each_width (λ n. IsFit (17 + 24 * n) n (between_code source n)) (record { few = omega arith; touches = omega arith; spelled = refl }) (record { few = omega arith; touches = omega arith; spelled = refl }) (record { few = omega arith; touches = omega arith; spelled = refl }) (record { few = omega arith; touches = omega arith; spelled = refl }) (record { few = omega arith; touches = omega arith; spelled = refl }) count is

-- ---- the whole list, by the far load

some_width : (width : ℕ) → IsWidth width → 1 ≤ width
some_width width is = each_width (λ w. 1 ≤ w) (omega arith) (omega arith) (omega arith) (omega arith) (omega arith) width is

module _ (source : FarSource) (count : ℕ) (is : IsWidth (count * far_size source.far)) where
  abbrev Fits : Far → List Ins → Type 0
  Fits far list = IsFit (far_weight far count + 1) count list

  -- so many bytes are moved
  width_by : (far : Far) → source.far ≡ far → IsWidth (count * far_size far)
  width_by far e = subst (λ f. IsWidth (count * far_size f)) e is

  count_by : (far : Far) → source.far ≡ far → far_size far ≡ 1 → IsWidth count
  count_by far e one = subst IsWidth (ap (λ n. count * n) one ∙ (let q : count * 1 ≡ count = omega arith in q)) (width_by far e)

  singly_by : (far : Far) → source.far ≡ far → is_one_by_one far ≡ true → Fits far (singly_code source count)
  singly_by far e single = subst (λ f. Fits f (singly_code source count)) e (record {
    few = singly_short source count (ap is_one_by_one e ∙ single) is;
    touches = singly_touches source count is;
    spelled = singly_spelled source count is;
  })

  doubled : IsFit (17 + 24 * count) count (doubled_code source count) → Fits Loadupdb (doubled_code source count)
  doubled f = record { few = omega (arith, f.few); touches = f.touches; spelled = f.spelled }

  between : IsFit (17 + 24 * count) count (between_code source count) → Fits Loadupib (between_code source count)
  between f = record { few = omega (arith, f.few); touches = f.touches; spelled = f.spelled }

  fits_by : (far : Far) → source.far ≡ far → Fits far (bring_by far source count)
  fits_by Loadoffb e = let w = width_by Loadoffb e in beside_fits source 0 count (count * 1) (omega (arith, some_width (count * 1) w)) refl w
  fits_by Loadoffw e = let w = width_by Loadoffw e in beside_fits source 1 count (count * 2) (omega (arith, some_width (count * 2) w)) refl w
  fits_by Loadoffl e = let w = width_by Loadoffl e in beside_fits source 2 count (count * 4) (omega (arith, some_width (count * 4) w)) refl w
  fits_by Loadupdb e = doubled (doubled_fits source count (count_by Loadupdb e refl))
  fits_by Loadupib e = between (between_fits source count (count_by Loadupib e refl))
  fits_by Ldresnearb e = singly_by Ldresnearb e refl
  fits_by Ldresnearl e = singly_by Ldresnearl e refl
  fits_by Ldreslinb e = singly_by Ldreslinb e refl
  fits_by Ldreslinl e = singly_by Ldreslinl e refl

  fits : Fits source.far (bring_code source count)
  fits = fits_by source.far refl

pub bring_short : (source : FarSource) (count : ℕ) → IsWidth (count * far_size source.far) → length (bring_code source count) ≤ far_weight source.far count + 1
bring_short source count is = (fits source count is).few

-- by registers that are neither RSP nor RDI
pub bring_touches : (source : FarSource) (count : ℕ) → IsWidth (count * far_size source.far) → array_count (bring_code source count) ≤ 2 * count
bring_touches source count is = (fits source count is).touches

pub bring_allowed : (source : FarSource) (count : ℕ) → IsWidth (count * far_size source.far) → Each IsIns (bring_code source count) → Each IsAllowed (bring_code source count)
bring_allowed source count is = allowed (bring_code source count) (fits source count is).spelled
