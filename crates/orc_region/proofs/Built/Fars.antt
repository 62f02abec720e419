-- A far load among the steps: its value is its source, and from that it is a copy.
use Rattle.std.proofs.Common.{◌≡◌, ℕ, ◌<◌, ◌≤◌, ◌==◌, Bool, true, false, if◌then◌else◌, List, [], ◌∷◌, map, Option, Some, None, is_some, refl, sym, ap, ◌∙◌, subst, arith}
use Rattle.std.proofs.lemmas.Bool.{false≢true}
use Rattle.orc_ops.specs.declared.far.Far.{Far}
use Rattle.orc_ops.specs.declared.opcode.Op.{Op}
use Rattle.orc_ops.specs.declared.opcode.Op.TheVariants as opcode
use Rattle.orc_ops.specs.Far.{far_of, far_size}
use Rattle.orc_ops.specs.Table.{row}
use Rattle.orc_plan.specs.declared.steps.Item.{Item}
use Rattle.orc_plan.specs.declared.steps.Item.TheVariants as item
use Rattle.x86_ins.specs.Way.{Each}
use Rattle.orc_frame.specs.declared.frame.Layout.{Layout}
use Rattle.orc_frame.specs.Frame.{IsLayout}
use Rattle.orc_frame.proofs.Facts.{facts}
use Rattle.orc_resample.specs.Bring.{IsFarSource}
use Rattle.sse_laws.specs.Meets.{Meets, is_sum}
use Rattle.sse_shift.specs.Shifts.{has_shift}
use Rattle.orc_region.proofs.Block.Far.{is_far_source}
use Rattle.sse_b.proofs.Meet as bytes
use Rattle.sse_w.proofs.Meet as words
use Rattle.sse_l.proofs.Meet as longs
use Rattle.orc_region.specs.Code.{Seats, Source, FromFar, MeetsBy, computed_by, computed_op, copy_of, count_by, far_source, far_sources, IsLoaded, known_second, source_of, sources_of}

-- ---- the copy

-- no instruction copies what is there already
copy_meets : (size : ℕ) → Meets (copy_of size) []
copy_meets size = go (size == 1) (size == 2)
  where
    go : (one two : Bool) → Meets (if one then opcode.Copyb else (if two then opcode.Copyw else opcode.Copyl)) []
    go true two = bytes.meets opcode.Copyb refl
    go false true = words.meets opcode.Copyw refl
    go false false = longs.meets opcode.Copyl refl

no_shift : (op : Op) → is_some (far_of op) ≡ true → has_shift op ≡ false
no_shift opcode.Loadoffb t = refl
no_shift opcode.Loadoffw t = refl
no_shift opcode.Loadoffl t = refl
no_shift opcode.Loadupdb t = refl
no_shift opcode.Loadupib t = refl
no_shift opcode.Ldresnearb t = refl
no_shift opcode.Ldresnearl t = refl
no_shift opcode.Ldreslinb t = refl
no_shift opcode.Ldreslinl t = refl
no_shift _ t = absurd (false≢true t)

-- no count is in its rule
no_count : (seats : Seats) (op : Op) (load : Far) (items : List Item) → Some load ≡ far_of op → count_by seats op items ≡ None
no_count seats op load items e = ap (λ b. if b then known_second seats.patterns items else None) (no_shift op (sym (ap is_some e)))

pub far_meets : (seats : Seats) (op : Op) (load : Far) (items : List Item) → Some load ≡ far_of op → is_sum (row (computed_op op)).kind ≡ false → MeetsBy (count_by seats op items) (computed_op op) []
far_meets seats op load items e s =
    subst (λ o. MeetsBy (count_by seats op items) (computed_by op o) []) e (subst (λ by. MeetsBy by (copy_of (far_size load)) []) (sym (no_count seats op load items e)) (copy_meets (far_size load)))

-- ---- its one source

-- it is none, or one far load
by_far : (P : List Source → Type 0) → P [] → ((load : Far) (slot : ℕ) (js : List ℕ) → P (FromFar load slot js ∷ [])) → (load : Far) (items : List Item) → P (far_sources load items)
by_far P none one load [] = none
by_far P none one load (item.Value v ∷ rest) = none
by_far P none one load (item.Array slot ∷ rest) = one load slot _
by_far P none one load (item.Acc slot size ∷ rest) = none
by_far P none one load (item.Pattern j ∷ rest) = none

-- what is the same of a far load as of no source is the same of the sources that may stand in registers as of all
pub by_registers : {A : Type 0} (seats : Seats) (F : List Source → A) → ((load : Far) (slot : ℕ) (js : List ℕ) → F (FromFar load slot js ∷ []) ≡ F []) → (o : Option Far) (items own : List Item) → own ≡ (if is_some o then [] else items) → F (map (source_of seats) own) ≡ F (sources_of seats o items)
by_registers seats F h None items own e = ap (λ xs. F (map (source_of seats) xs)) e
by_registers seats F h (Some load) items own e = ap (λ xs. F (map (source_of seats) xs)) e ∙ sym (by_far (λ ss. F ss ≡ F []) refl h load items)

-- ---- the frame's words of its code

below : (n : ℕ) → n ≤ 48 → (js : List ℕ) → Each (λ j. j < n) js → Each (λ j. j < 48) js
below n few [] h = tt
below n few (j ∷ js) h = (let l = h.0 in omega (arith, l, few), below n few js h.1)

pub source_fits : (l : Layout) → IsLayout l → (size : ℕ → ℕ) (count ahead : ℕ) (load : Far) (slot : ℕ) (js : List ℕ) → IsLoaded l size count (FromFar load slot js) → IsFarSource (far_source ahead load slot js)
source_fits l is size count ahead load slot js h = is_far_source ahead load slot js h.0 (below _ (facts l is).few_patterns js h.4) h.3
