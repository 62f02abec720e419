-- Actions under names of the vector registers that change from one to the next: some take over the registers of their sources.
use Rattle.std.proofs.Common.{◌≡◌, ◌≢◌, ℕ, ◌+◌, ◌-◌, ◌*◌, ◌%◌, ◌^◌, ◌<◌, ◌≤◌, ◌⊎◌, inl, inr, Bool, true, false, true≢false, List, [], ◌∷◌, map, Some, Result, Ok, Err, refl, sym, ap, ◌∙◌, subst, arith, ⊎_elim}
use Rattle.std.proofs.lemmas.Bool.{cases_eq}
use Rattle.orc_bits.specs.Lanes.{change}
use Rattle.orc_bits.specs.Memory.{Memory}
use Rattle.orc_bits.proofs.LaneLaws.{change_other, change_same}
use Rattle.orc_ops.specs.declared.far.Far.{Far}
use Rattle.orc_ops.specs.declared.opcode.Op.{Op}
use Rattle.orc_ops.specs.Table.{size_of_result, size_of_source}
use Rattle.x86_ins.specs.declared.ins.Ins.{Ins}
use Rattle.x86_ins.specs.declared.ins.Ins.TheVariants.{Jump, JumpIf, Ret}
use Rattle.x86_ins.specs.declared.state.Trap.{Trap}
use Rattle.x86_ins.specs.Machine.{Core, Point, Bounded, with_lanes, work, at, effect}
use Rattle.x86_ins.specs.Renaming.{renamed, renaming, IsPermutation, Renames}
use Rattle.x86_ins.specs.Spelling.{IsIns}
use Rattle.x86_ins.specs.Way.{Each}
use Rattle.x86_ins.proofs.Bounds.{ok_err}
use Rattle.x86_ins.proofs.RenamedEffects.{renaming_keeps}
use Rattle.x86_ins.proofs.VectorLists.{plain_effect}
use Rattle.x86_flow.specs.Does.{Line}
use Rattle.x86_flow.proofs.Moves.{line_append}
use Rattle.sse_acc.specs.Sums.{sum_below}
use Rattle.orc_program.specs.Need.{registers}
use Rattle.orc_frame.specs.Layout.{spill_slot}
use Rattle.orc_region.proofs.Arithmetic.Digits.{digit}
use Rattle.orc_region.specs.Code.{Action, Source, FromArray, FromPattern, FromResident, FromPlace, FromSlot, FromFar, Target, ToArray, ToSum, ToResident, ToPlace, ToSlot, pointer, place_register, slot_place, resident_register, made_in, first_register, second_register, take_names, source_names, action_names, action_far_code, named_code}
use Rattle.orc_region.proofs.Block.Cells.{eq_yes, Numbers, Local, Lanes, IsFrom, AreFrom, IsMade, AreTo, IsKept, IsKnown, AllKnown, live_act, set_target, set_results, value_of, local_act, local}
use Rattle.orc_region.proofs.Block.FarActions.{Near, Step, Fetching, far_action_line}
use Rattle.orc_region.proofs.Block.Fars.{FarGround}
use Rattle.orc_region.proofs.Block.Frames.{Framed, framed_same, framed_totals}
use Rattle.orc_region.proofs.Block.Keeping.{line_bounded}
use Rattle.orc_region.proofs.Block.Names.{IsSmall, take_permutes, exchanged_name}
use Rattle.orc_region.proofs.Block.Places.{held, held_same, held_still}
use Rattle.orc_region.proofs.Block.Registers.{not_0}
use Rattle.orc_region.proofs.Block.RuleRegisters.{exchange_other, exchange_first}
use Rattle.orc_region.proofs.Block.Sums.{IsResident, SourceWithin, IsClear, clear_of}
use Rattle.orc_region.proofs.Block.Taken.{MayTake, IsApart, AreNear, AreTaken, AllTaken, forget, forget_all, rest_known}
use Rattle.orc_region.proofs.Block.Touched.{near_action_code, near_same, line_with, far_renamed}
use Rattle.orc_region.proofs.Block.Actions.{IsFit, Ground, InRegister, IsThere, HasRoom, IsAt, AreAt, Room, first_room, second_room, room_of, is_there, in_register, still, Remains, Rest, After, Points, StandsAt, Standing, GrownBy, Grown, grown_on, no_growth, action_line}
use Rattle.orc_region.proofs.Sizes.Bytes.{each_renamed}

-- ---- instructions under other names

abbrev core_of : Result Point Trap → Result Core Trap
core_of (Ok s) = Ok s.core
core_of (Err t) = Err t

worked : (o : Result Core Trap) (s : Point) → at o 0 ≡ Ok s → o ≡ Ok s.core
worked (Ok u) s e = ap core_of e
worked (Err t) s e = ap core_of e

module _ (names : List ℕ) (p : IsPermutation names) where
  abbrev f : ℕ → ℕ
  f = renaming names

  -- an instruction whose effect is its work
  plain_work : (i : Ins) (c d u : Core) → Renames f c d → work i c ≡ Ok u → effect (renamed f i) d 0 ≡ at (work (renamed f i) d) 0 → (t : Core) × (work (renamed f i) d ≡ Ok t) × Renames f u t
  plain_work i c d u r h plain =
      let x = (renaming_keeps names i c d 0 p r).goes_on (record { core = u; rip = 0 }) (plain_effect i c u 0 h) in
      (x.0.core, worked (work (renamed f i) d) x.0 (sym plain ∙ x.1), x.2.0)

  work_named : (i : Ins) (c d u : Core) → Renames f c d → work i c ≡ Ok u → (t : Core) × (work (renamed f i) d ≡ Ok t) × Renames f u t
  work_named (Jump rel) c d u r h = absurd (ok_err h)
  work_named (JumpIf q rel) c d u r h = absurd (ok_err h)
  work_named Ret c d u r h = absurd (ok_err h)
  work_named i c d u r h = plain_work i c d u r h refl

  line_named : (A B : Core → Ins → Type 0) → ((u t : Core) (i : Ins) → Renames f u t → A u i → B t (renamed f i)) → (is : List Ins) (c d e : Core) → Renames f c e → Line A is c d → (g : Core) × Line B (map (renamed f) is) e g × Renames f d g
  line_named A B carry [] c d e r h = (e, refl, subst (λ x. Renames f x e) h r)
  line_named A B carry (i ∷ is) c d e r h =
      let x = work_named i c e h.1.0 r h.1.1 in
      let y = line_named A B carry is h.1.0 d x.0 x.2 h.1.2 in
      (y.0, (carry c e i r h.0, (x.0, x.1, y.1)), y.2)

-- core c as code sees it whose registers have these names
abbrev pub seen_as : List ℕ → Core → Core
seen_as names c = with_lanes c (λ r. c.xmm (renaming names r))

seen_renames : (names : List ℕ) (c : Core) → Renames (renaming names) (seen_as names c) c
seen_renames names c = record { gpr = refl; xmm = λ r. refl; flags = refl; memory = refl }

seen_bounded : (names : List ℕ) (c : Core) → IsPermutation names → Bounded c → Bounded (seen_as names c)
seen_bounded names c p b = record { gpr = b.gpr; xmm = λ r. b.xmm (renaming names r); size = λ r l. b.size (renaming names r) (p.below r l); memory = b.memory }

-- ---- registers that are taken over

-- the register is the source's, which is taken over
abbrev IsTakenAt : Bool → Source → ℕ → Type 0
IsTakenAt false s r = ⊥
IsTakenAt true (FromArray k) r = ⊥
IsTakenAt true (FromPattern j) r = ⊥
IsTakenAt true (FromResident j g) r = ⊥
IsTakenAt true (FromPlace p) r = r ≡ place_register p
IsTakenAt true (FromFar load array js) r = ⊥
IsTakenAt true (FromSlot k) r = ⊥

-- what a core sees after a source was taken over into register x, and what before
record Took (one : Bool) (x : ℕ) (s : Source) (v w : Core) : Type 0 where
  memory : w.memory ≡ v.memory
  here : (r : ℕ) → IsTakenAt one s r → w.xmm x ≡ v.xmm r
  others : (r : ℕ) → r < 16 → r ≢ x → (IsTakenAt one s r → ⊥) → w.xmm r ≡ v.xmm r
  all : one ≡ false → (r : ℕ) → w.xmm r ≡ v.xmm r

took : (one : Bool) (x : ℕ) (s : Source) (names : List ℕ) (c : Core) → x < 16 → Took one x s (seen_as names c) (seen_as (take_names one x s names) c)
took false x (FromArray k) names c l = record { memory = refl; here = λ r e. absurd e; others = λ r lr ne nt. refl; all = λ e r. refl }
took false x (FromPattern j) names c l = record { memory = refl; here = λ r e. absurd e; others = λ r lr ne nt. refl; all = λ e r. refl }
took false x (FromResident j g) names c l = record { memory = refl; here = λ r e. absurd e; others = λ r lr ne nt. refl; all = λ e r. refl }
took false x (FromPlace p) names c l = record { memory = refl; here = λ r e. absurd e; others = λ r lr ne nt. refl; all = λ e r. refl }
took false x (FromFar load array js) names c l = record { memory = refl; here = λ r e. absurd e; others = λ r lr ne nt. refl; all = λ e r. refl }
took false x (FromSlot k) names c l = record { memory = refl; here = λ r e. absurd e; others = λ r lr ne nt. refl; all = λ e r. refl }
took true x (FromArray k) names c l = record { memory = refl; here = λ r e. absurd e; others = λ r lr ne nt. refl; all = λ e r. refl }
took true x (FromPattern j) names c l = record { memory = refl; here = λ r e. absurd e; others = λ r lr ne nt. refl; all = λ e r. refl }
took true x (FromResident j g) names c l = record { memory = refl; here = λ r e. absurd e; others = λ r lr ne nt. refl; all = λ e r. refl }
took true x (FromFar load array js) names c l = record { memory = refl; here = λ r e. absurd e; others = λ r lr ne nt. refl; all = λ e r. refl }
took true x (FromSlot k) names c l = record { memory = refl; here = λ r e. absurd e; others = λ r lr ne nt. refl; all = λ e r. refl }
took true x (FromPlace p) names c l = record {
  memory = refl;
  here = λ r e. ap c.xmm (exchanged_name x (place_register p) names x l ∙ ap (renaming names) (exchange_first x (place_register p))) ∙ ap (λ k. c.xmm (renaming names k)) (sym e);
  others = λ r lr ne nt. ap c.xmm (exchanged_name x (place_register p) names r lr ∙ ap (renaming names) (exchange_other x (place_register p) r ne nt));
  all = λ e r. absurd (true≢false e);
}

-- another source isn't in that register
apart_not : (one : Bool) (s : Source) (q : ℕ) → IsApart one s (FromPlace q) → IsTakenAt one s (place_register q) → ⊥
apart_not false s q h z = z
apart_not true (FromArray k) q h z = z
apart_not true (FromPattern j) q h z = z
apart_not true (FromResident j g) q h z = z
apart_not true (FromFar load array js) q h z = z
apart_not true (FromSlot k) q h z = z
apart_not true (FromPlace p) q h z = true≢false (sym (eq_yes q p (let e : q ≡ p = omega (arith, z) in e)) ∙ h refl)

-- ---- several elements at once

module _ (n : ℕ) (base size : ℕ → ℕ) (P : ℕ → Type 0) (numbers : Numbers) (rsp : ℕ) (ground : Ground n base size P numbers rsp) (Q : Core → Ins → Type 0) (far : ℕ → ℕ) (aligned : ℕ → Bool) (count : ℕ) (some : 0 < count) where
  abbrev Stood : (ℕ → ℕ) → (ℕ → Local) → Core → ℕ → Type 0
  Stood = StandsAt n base size P numbers rsp ground Q far aligned count some

  abbrev At : Bool → (ℕ → ℕ) → (ℕ → Local) → ℕ → ℕ → ℕ → Core → Source → Type 0
  At = IsAt n base size P numbers rsp ground Q far aligned count some

  abbrev There : (ℕ → ℕ) → (ℕ → Local) → Core → Source → Type 0
  There = IsThere n base size P numbers rsp ground Q far aligned count some

  abbrev From : (ℕ → ℕ) → ℕ → ℕ → Source → Type 0
  From = IsFrom n base size P numbers

  abbrev Kept : List Target → Source → Type 0
  Kept = IsKept n base size P numbers

  small_of : (live : ℕ → ℕ) (w prefix : ℕ) (s : Source) → From live w prefix s → IsSmall s
  small_of live w prefix (FromArray k) o = tt
  small_of live w prefix (FromPattern j) o = tt
  small_of live w prefix (FromResident j g) o = tt
  small_of live w prefix (FromPlace p) o = o.0
  small_of live w prefix (FromFar load array js) o = tt
  small_of live w prefix (FromSlot k) o = tt

  -- of a source in a register
  abbrev OfRegister : Source → (ℕ → Type 0) → Type 0
  OfRegister (FromArray k) F = Unit {0}
  OfRegister (FromPattern j) F = Unit {0}
  OfRegister (FromResident j g) F = Unit {0}
  OfRegister (FromPlace p) F = F (place_register p)
  OfRegister (FromFar load array js) F = Unit {0}
  OfRegister (FromSlot k) F = Unit {0}

  of_register : (s : Source) (F : ℕ → Type 0) → ((r : ℕ) → F r) → OfRegister s F
  of_register (FromArray k) F h = tt
  of_register (FromPattern j) F h = tt
  of_register (FromResident j g) F h = tt
  of_register (FromPlace p) F h = h (place_register p)
  of_register (FromFar load array js) F h = tt
  of_register (FromSlot k) F h = tt

  -- a source stays where memory and its register do
  there_moved : (live : ℕ → ℕ) (sig : ℕ → Local) (v w : Core) (s : Source) → w.memory ≡ v.memory → OfRegister s (λ r. w.xmm r ≡ v.xmm r) → There live sig v s → There live sig w s
  there_moved live sig v w (FromArray k) m same h = tt
  there_moved live sig v w (FromPattern j) m same h = tt
  there_moved live sig v w (FromResident j g) m same h = tt
  there_moved live sig v w (FromPlace p) m same h = still n base size P numbers rsp ground Q far aligned count some live sig v w p (λ b lb. held_still rsp v w p b (λ l. same) m) h
  there_moved live sig v w (FromFar load array js) m same h = tt
  there_moved live sig v w (FromSlot k) m same h = still n base size P numbers rsp ground Q far aligned count some live sig v w (slot_place k) (λ b lb. held_still rsp v w (slot_place k) b (λ l. absurd (omega (arith, l))) m) h

  -- a source is in its register then, or where it was
  bring : (one : Bool) (rest : List Action) (x : ℕ) (s : Source) (w prefix : ℕ) (live : ℕ → ℕ) (sig : ℕ → Local) (c d : Core) → MayTake one rest s → From live w prefix s → HasRoom n base size P numbers rsp ground Q far aligned count some w prefix s → There live sig c s → Took one x s c d → At one live sig w prefix x d s
  bring false rest x s w prefix live sig c d m o room there t = there_moved live sig c d s t.memory (of_register s (λ r. d.xmm r ≡ c.xmm r) (t.all refl)) there
  bring true rest x (FromArray k) w prefix live sig c d m o room there t = absurd m
  bring true rest x (FromPattern j) w prefix live sig c d m o room there t = absurd m
  bring true rest x (FromResident j g) w prefix live sig c d m o room there t = absurd m
  bring true rest x (FromFar load array js) w prefix live sig c d m o room there t = absurd m
  bring true rest x (FromSlot k) w prefix live sig c d m o room there t = absurd m
  bring true rest x (FromPlace p) w prefix live sig c d m o room there t =
      in_register n base size P numbers rsp ground Q far aligned count some live sig c w prefix p (d.xmm x) o.0 o.1 there room (t.here (place_register p) refl)

  -- what stands at a place, where so many bytes are known of it
  stands_as : (live less : ℕ → ℕ) (sig : ℕ → Local) (c : Core) (p : ℕ) → less p ≡ live p → Stood live sig c p → Stood less sig c p
  stands_as live less sig c p e h q lq = subst (λ s. (r : ℕ) → r < s → q * s + r < 16 → held rsp c p (q * s + r) ≡ Some (digit ((sig q).values p) r)) (sym e) (h q lq)

  -- values stay at other places
  remains : (one : Bool) (x : ℕ) (s : Source) (live : ℕ → ℕ) (sig : ℕ → Local) (v w : Core) (p : ℕ) → x ≢ place_register p → Took one x s v w → Stood live sig v p → Stood (forget one s live) sig w p
  remains false x s live sig v w p ne t h = still n base size P numbers rsp ground Q far aligned count some live sig v w p (λ b lb. held_still rsp v w p b (λ l. t.all refl (place_register p)) t.memory) h
  remains true x (FromArray k) live sig v w p ne t h = still n base size P numbers rsp ground Q far aligned count some live sig v w p (λ b lb. held_still rsp v w p b (λ l. t.others (place_register p) (omega (arith, l)) (λ z. ne (sym z)) (λ z. z)) t.memory) h
  remains true x (FromPattern j) live sig v w p ne t h = still n base size P numbers rsp ground Q far aligned count some live sig v w p (λ b lb. held_still rsp v w p b (λ l. t.others (place_register p) (omega (arith, l)) (λ z. ne (sym z)) (λ z. z)) t.memory) h
  remains true x (FromResident j g) live sig v w p ne t h = still n base size P numbers rsp ground Q far aligned count some live sig v w p (λ b lb. held_still rsp v w p b (λ l. t.others (place_register p) (omega (arith, l)) (λ z. ne (sym z)) (λ z. z)) t.memory) h
  remains true x (FromFar load array js) live sig v w p ne t h = still n base size P numbers rsp ground Q far aligned count some live sig v w p (λ b lb. held_still rsp v w p b (λ l. t.others (place_register p) (omega (arith, l)) (λ z. ne (sym z)) (λ z. z)) t.memory) h
  remains true x (FromSlot k) live sig v w p ne t h = still n base size P numbers rsp ground Q far aligned count some live sig v w p (λ b lb. held_still rsp v w p b (λ l. t.others (place_register p) (omega (arith, l)) (λ z. ne (sym z)) (λ z. z)) t.memory) h
  remains true x (FromPlace a) live sig v w p ne t h = ⊎_elim
      (λ e k lk r lr. let none : change live a 0 p ≡ 0 = ap (change live a 0) e ∙ change_same live a 0 in absurd (omega (arith, lr, none)))
      (λ na. stands_as live (change live a 0) sig w p (change_other live a 0 p na)
      (still n base size P numbers rsp ground Q far aligned count some live sig v w p (λ b lb. held_still rsp v w p b (λ l. t.others (place_register p) (omega (arith, l)) (λ z. ne (sym z)) (λ z. na (omega (arith, z)))) t.memory) h))
      (cases_eq p a)

  -- the first source is in a register that the second one's isn't
  not_first : (two : Bool) (t : Source) (ts : List Target) → Kept ts t → IsTakenAt two t (first_register ts) → ⊥
  not_first false t ts k z = z
  not_first true (FromArray j) ts k z = z
  not_first true (FromPattern j) ts k z = z
  not_first true (FromResident j g) ts k z = z
  not_first true (FromFar load array js) ts k z = z
  not_first true (FromSlot j) ts k z = z
  not_first true (FromPlace p) ts k z = k.0 z

  -- the first one stays where the second is taken over
  first_stays : (one two : Bool) (s t : Source) (ts : List Target) (w prefix : ℕ) (live : ℕ → ℕ) (sig : ℕ → Local) (c d : Core) → Kept ts s → Kept ts t → From live w prefix s → IsApart two t s → first_register ts ≢ second_register ts → first_register ts < 16
      → Took two (second_register ts) t c d → At one live sig w prefix (first_register ts) c s → At one live sig w prefix (first_register ts) d s
  first_stays true two s t ts w prefix live sig c d ks kt o a ne l k h =
      subst (InRegister n base size P numbers rsp ground Q far aligned count some w prefix sig s) (sym (k.others (first_register ts) l ne (not_first two t ts kt))) h
  first_stays false two (FromArray j) t ts w prefix live sig c d ks kt o a ne l k h = tt
  first_stays false two (FromPattern j) t ts w prefix live sig c d ks kt o a ne l k h = tt
  first_stays false two (FromResident j g) t ts w prefix live sig c d ks kt o a ne l k h = tt
  first_stays false two (FromPlace p) t ts w prefix live sig c d ks kt o a ne l k h =
      there_moved live sig c d (FromPlace p) k.memory (k.others (place_register p) (let x = o.0 in omega (arith, x)) (λ z. ks.1 (sym z)) (apart_not two t p a)) h
  first_stays false two (FromFar load array js) t ts w prefix live sig c d ks kt o a ne l k h = tt
  first_stays false two (FromSlot j) t ts w prefix live sig c d ks kt o a ne l k h = there_moved live sig c d (FromSlot j) k.memory tt h

  -- the second one where the first is
  second_there : (one : Bool) (s t : Source) (ts : List Target) (w prefix : ℕ) (live : ℕ → ℕ) (sig : ℕ → Local) (c d : Core) → Kept ts t → From live w prefix t → IsApart one s t → Took one (first_register ts) s c d → There live sig c t → There live sig d t
  second_there one s (FromArray j) ts w prefix live sig c d kt o a k h = tt
  second_there one s (FromPattern j) ts w prefix live sig c d kt o a k h = tt
  second_there one s (FromResident j g) ts w prefix live sig c d kt o a k h = tt
  second_there one s (FromPlace p) ts w prefix live sig c d kt o a k h =
      there_moved live sig c d (FromPlace p) k.memory (k.others (place_register p) (let x = o.0 in omega (arith, x)) (λ z. kt.0 (sym z)) (apart_not one s p a)) h
  second_there one s (FromFar load array js) ts w prefix live sig c d kt o a k h = tt
  second_there one s (FromSlot j) ts w prefix live sig c d kt o a k h = there_moved live sig c d (FromSlot j) k.memory tt h

  -- ---- an action's names

  made_low : (x bytes : ℕ) (t : Target) → x < 6 → IsMade n base size P numbers bytes t → made_in x t < 16
  made_low x bytes (ToArray k) l o = omega (arith, l)
  made_low x bytes (ToSum g) l o = absurd o
  made_low x bytes (ToResident g) l o = absurd o
  made_low x bytes (ToPlace p) l o = omega (arith, o)
  made_low x bytes (ToSlot k) l o = omega (arith, l)

  first_low : (op : Op) (prefix : ℕ) (ts : List Target) → AreTo n base size P numbers op prefix ts → first_register ts < 16
  first_low op prefix [] o = omega arith
  first_low op prefix (ToArray k ∷ more) o = omega arith
  first_low op prefix (ToSum g ∷ more) o = omega arith
  first_low op prefix (ToResident g ∷ more) o = omega arith
  first_low op prefix (ToPlace p ∷ []) o = made_low 0 (size_of_result op 0 * prefix) (ToPlace p) (omega arith) o.0
  first_low op prefix (ToPlace p ∷ u ∷ more) o = made_low 0 (size_of_result op 0 * prefix) (ToPlace p) (omega arith) o.0
  first_low op prefix (ToSlot k ∷ more) o = omega arith

  second_low : (op : Op) (prefix : ℕ) (ts : List Target) → AreTo n base size P numbers op prefix ts → second_register ts < 16
  second_low op prefix [] o = omega arith
  second_low op prefix (t ∷ []) o = omega arith
  second_low op prefix (ToArray k ∷ u ∷ more) o = made_low 1 (size_of_result op 1 * prefix) u (omega arith) o.2
  second_low op prefix (ToSum g ∷ u ∷ more) o = absurd o.0
  second_low op prefix (ToResident g ∷ u ∷ more) o = absurd o.0
  second_low op prefix (ToPlace p ∷ u ∷ more) o = made_low 1 (size_of_result op 1 * prefix) u (omega arith) o.2
  second_low op prefix (ToSlot k ∷ u ∷ more) o = made_low 1 (size_of_result op 1 * prefix) u (omega arith) o.2

  -- running sums in registers keep their names
  abbrev Fixed : List ℕ → Type 0
  Fixed names = (g : ℕ) → IsResident numbers.last g → renaming names (resident_register g) ≡ resident_register g

  fixed_take : (one : Bool) (x : ℕ) (s : Source) (names : List ℕ) → ((g : ℕ) → IsResident numbers.last g → x ≢ resident_register g) → SourceWithin numbers.last s → Fixed names → Fixed (take_names one x s names)
  fixed_take false x (FromArray k) names clear within h = h
  fixed_take false x (FromPattern j) names clear within h = h
  fixed_take false x (FromResident j g) names clear within h = h
  fixed_take false x (FromPlace p) names clear within h = h
  fixed_take false x (FromFar load array js) names clear within h = h
  fixed_take false x (FromSlot k) names clear within h = h
  fixed_take true x (FromArray k) names clear within h = h
  fixed_take true x (FromPattern j) names clear within h = h
  fixed_take true x (FromResident j g) names clear within h = h
  fixed_take true x (FromFar load array js) names clear within h = h
  fixed_take true x (FromSlot k) names clear within h = h
  fixed_take true x (FromPlace p) names clear within h = λ g l.
      exchanged_name x (place_register p) names (resident_register g) (omega arith)
      ∙ ap (renaming names) (exchange_other x (place_register p) (resident_register g) (λ z. clear g l (sym z)) (λ z. omega (arith, z, l, within)))
      ∙ h g l

  pub record Opened (one two : Bool) (op : Op) (prefix : ℕ) (ts : List Target) (ss : List Source) (live : ℕ → ℕ) (sig : ℕ → Local) (names : List ℕ) (c : Core) : Type 0 where
    pub permutes : IsPermutation (source_names one two (first_register ts) (second_register ts) ss names)
    pub fixed : Fixed (source_names one two (first_register ts) (second_register ts) ss names)
    pub at : AreAt n base size P numbers rsp ground Q far aligned count some one two op prefix live sig ts (seen_as (source_names one two (first_register ts) (second_register ts) ss names) c) ss
    pub rest : Remains n base size P numbers rsp ground Q far aligned count some ts (forget_all one two ss live) sig (seen_as (source_names one two (first_register ts) (second_register ts) ss names) c)

  -- the sources that an action takes over are in their registers, and the values at other places where they were
  opened : (one two : Bool) (rest : List Action) (op : Op) (prefix : ℕ) (ts : List Target) (ss : List Source) (live : ℕ → ℕ) (sig : ℕ → Local) (names : List ℕ) (c : Core) → AreTaken one two rest ss → AreTo n base size P numbers op prefix ts → AreFrom n base size P numbers live op prefix ss → Each (Kept ts) ss
      → first_register ts ≢ second_register ts → IsClear numbers.last ts → Each (SourceWithin numbers.last) ss → Room n base size P numbers rsp ground Q far aligned count some op prefix → IsPermutation names → Fixed names → Standing n base size P numbers rsp ground Q far aligned count some live sig (seen_as names c)
      → Opened one two op prefix ts ss live sig names c
  opened one two rest op prefix ts [] live sig names c m to from kept apart clear within room p fixed stand = absurd from
  opened one two rest op prefix ts (s ∷ []) live sig names c m to from kept apart clear within room p fixed stand =
      let x = first_register ts in
      let l = first_low op prefix ts to in
      let v = seen_as names c in
      let t = took one x s names c l in
      let there = is_there n base size P numbers rsp ground Q far aligned count some live sig v s within.0 stand in
      record {
        permutes = take_permutes one x s names l (small_of live (size_of_source op 0) prefix s from.0) p;
        fixed = fixed_take one x s names (λ g h. (clear g h).0) within.0 fixed;
        at = bring one rest x s (size_of_source op 0) prefix live sig v (seen_as (take_names one x s names) c) m from.0 (first_room n base size P numbers rsp ground Q far aligned count some op prefix s room) there t;
        rest = λ q lq nf ns. remains one x s live sig v (seen_as (take_names one x s names) c) q nf t (stand q lq);
      }
  opened one two rest op prefix ts (s ∷ t ∷ more) live sig names c m to from kept apart clear within room p fixed stand =
      let x = first_register ts in
      let y = second_register ts in
      let lx = first_low op prefix ts to in
      let ly = second_low op prefix ts to in
      let inner = take_names one x s names in
      let v = seen_as names c in
      let w = seen_as inner c in
      let u = seen_as (take_names two y t inner) c in
      let a = took one x s names c lx in
      let b = took two y t inner c ly in
      let first_there = is_there n base size P numbers rsp ground Q far aligned count some live sig v s within.0 stand in
      let second_was = is_there n base size P numbers rsp ground Q far aligned count some live sig v t within.1.0 stand in
      let first_at = bring one rest x s (size_of_source op 0) prefix live sig v w m.0 from.0 (first_room n base size P numbers rsp ground Q far aligned count some op prefix s room) first_there a in
      let second_is = second_there one s t ts (size_of_source op 1) prefix live sig v w kept.1.0 from.1 m.2 a second_was in
      record {
        permutes = take_permutes two y t inner ly (small_of live (size_of_source op 1) prefix t from.1) (take_permutes one x s names lx (small_of live (size_of_source op 0) prefix s from.0) p);
        fixed = fixed_take two y t inner (λ g h. (clear g h).1) within.1.0 (fixed_take one x s names (λ g h. (clear g h).0) within.0 fixed);
        at = (
          first_stays one two s t ts (size_of_source op 0) prefix live sig w u kept.0 kept.1.0 from.0 m.3 apart lx b first_at,
          bring two rest y t (size_of_source op 1) prefix live sig w u m.1 from.1 (second_room n base size P numbers rsp ground Q far aligned count some op prefix t from.2 room) second_is b,
        );
        rest = λ q lq nf ns. remains two y t (forget one s live) sig w u q ns b (remains one x s live sig v w q nf a (stand q lq));
      }

-- ---- actions

-- a far load's values, as the one source of an action
abbrev FarAlone : Bool → List Source → Type 0
FarAlone one ss = (load : Far) × (k : ℕ) × (js : List ℕ) × (ss ≡ FromFar load k js ∷ []) × (one ≡ false)

near_or_far : (one two : Bool) (rest : List Action) (ss : List Source) → AreTaken one two rest ss → AreNear ss ⊎ FarAlone one ss
near_or_far one two rest [] m = inl tt
near_or_far one two rest (FromArray k ∷ []) m = inl tt
near_or_far one two rest (FromPattern j ∷ []) m = inl tt
near_or_far one two rest (FromResident j g ∷ []) m = inl tt
near_or_far one two rest (FromPlace p ∷ []) m = inl tt
near_or_far false two rest (FromFar load k js ∷ []) m = inr (load, k, js, refl, refl)
near_or_far true two rest (FromFar load k js ∷ []) m = absurd m
near_or_far one two rest (FromSlot k ∷ []) m = inl tt
near_or_far one two rest (s ∷ t ∷ more) m = inl m.4

-- G holds of the instructions of actions but for far loads' code, under all names
module _ (n : ℕ) (base size : ℕ → ℕ) (P : ℕ → Type 0) (numbers : Numbers) (rsp : ℕ) (ground : Ground n base size P numbers rsp) (fars : FarGround n base size P numbers rsp) (small : n < 2 ^ 31) (G : Ins → Type 0) (turned : (f : ℕ → ℕ) (i : Ins) → G i → G (renamed f i)) (Q : Core → Ins → Type 0) (far : ℕ → ℕ) (aligned : ℕ → Bool) (count : ℕ) (some : 0 < count) where
  -- what is known at each step of an action that reads no far load's values
  abbrev Nearby : ℕ → (ℕ → ℕ) → Memory → Core → Ins → Type 0
  Nearby = Near n base size P numbers rsp ground far aligned count some

  -- and at each step of any
  abbrev Steps : ℕ → (ℕ → ℕ) → Memory → Core → Ins → Type 0
  Steps = Step n base size P numbers rsp ground far aligned count some G

  abbrev Fetches : ℕ → (ℕ → ℕ) → Memory → (ℕ → Local) → Type 0
  Fetches = Fetching n base size P numbers rsp ground far aligned count some

  -- what a block leaves
  pub record Left (i : ℕ) (c d : Core) (first : Memory) (sig : ℕ → Local) (totals : ℕ → ℕ) : Type 0 where
    pub gpr : (r : ℕ) → r ≢ 0 → d.gpr r ≡ c.gpr r
    pub lanes : Lanes n base size P i count d.memory sig
    pub framed : Framed numbers rsp d totals
    pub others : Rest n base size P numbers rsp ground Q far aligned count some i first d.memory
    pub bounded : Bounded d

  abbrev Acted : Action → (ℕ → Local) → ℕ → Local
  Acted a sig q = local_act n base size P numbers a (sig q)

  abbrev More : Action → (ℕ → Local) → (ℕ → ℕ) → ℕ → ℕ
  More = GrownBy n base size P numbers rsp ground Q far aligned count some

  abbrev Added : List Action → (ℕ → Local) → (ℕ → ℕ) → ℕ → ℕ
  Added = Grown n base size P numbers rsp ground Q far aligned count some

  target_fars : (l : Local) (t : Target) (v : ℕ) → (set_target n base size P l t v).fars ≡ l.fars
  target_fars l (ToArray k) v = refl
  target_fars l (ToSum g) v = refl
  target_fars l (ToResident g) v = refl
  target_fars l (ToPlace p) v = refl
  target_fars l (ToSlot k) v = refl

  results_fars : (l : Local) (ts : List Target) (v : ℕ × ℕ) → (set_results n base size P l ts v).fars ≡ l.fars
  results_fars l [] v = refl
  results_fars l (t ∷ []) v = target_fars l t v.0
  results_fars l (t ∷ u ∷ more) v = target_fars (set_target n base size P l t v.0) u v.1 ∙ target_fars l t v.0

  -- far loads' code finds the same after an action
  fetches_on : (i : ℕ) (a : Action) (c d : Core) (first : Memory) (sig : ℕ → Local) → ((r : ℕ) → r ≢ 0 → d.gpr r ≡ c.gpr r) → Fetches i c.gpr first sig → Fetches i d.gpr first (Acted a sig)
  fetches_on i a c d first sig g h = record {
    row = record { bases = h.row.bases; block = λ load k js f. h.row.block load k js f ∙ ap Some (sym (g 7 (λ z. omega (arith, z)))); mapped = h.row.mapped };
    values = λ load k js f q l. (let x = h.values load k js f q l in (x.0, ap (λ t. t load k js) (results_fars (sig q) a.to (value_of n base size P numbers a (sig q))) ∙ x.1));
    pointers = λ load k js f. ap (λ t. (t + far k) % 2 ^ 64) (g (pointer k) (not_0 k)) ∙ h.pointers load k js f;
  }

  -- one action as code sees it before names change
  seen_action : (i : ℕ) (a : Action) (c : Core) (first : Memory) (live less : ℕ → ℕ) (sig : ℕ → Local) (totals : ℕ → ℕ) → AreNear a.sources ⊎ FarAlone a.takes_first a.sources → IsKnown n base size P numbers live a → IsFit count size a → Each IsIns (action_far_code count size far aligned a) → Each G (near_action_code count size far aligned a) → i + count ≤ n
      → Points n base size P numbers rsp ground Q far aligned count some i c.gpr → c.gpr 4 ≡ rsp → Lanes n base size P i count c.memory sig → Framed numbers rsp c totals → AreAt n base size P numbers rsp ground (Nearby i c.gpr first) far aligned count some a.takes_first a.takes_second a.op a.prefix live sig a.to c a.sources
      → Remains n base size P numbers rsp ground (Nearby i c.gpr first) far aligned count some a.to less sig c → Bounded c → Rest n base size P numbers rsp ground Q far aligned count some i first c.memory → Fetches i c.gpr first sig
      → (d : Core) × Line (Steps i c.gpr first) (action_far_code count size far aligned a) c d × After n base size P numbers rsp ground (Nearby i c.gpr first) far aligned count some i c d first (live_act less a) (Acted a sig) (More a sig totals)
  seen_action i a c first live less sig totals (inl near) known fit ins goes w at stack h framed there rest bound o fetch =
      let N = Nearby i c.gpr first in
      let list = action_far_code count size far aligned a in
      let x = action_line n base size P numbers rsp ground N far aligned count some i a c first live less sig totals near known fit ins w at stack h framed there rest bound o (λ u ins g m. (g, m)) in
      (x.0, line_with N (Steps i c.gpr first) G (λ u ins t g. inl (t, g)) list (subst (Each G) (near_same count size far aligned a near) goes) c x.0 x.1, x.2)
  seen_action i a c first live less sig totals (inr alone) known fit ins goes w at stack h framed there rest bound o fetch =
      far_action_line n base size P numbers rsp ground far aligned count some fars small G i a alone.0 alone.1 alone.2 c first live less sig totals alone.3 alone.4 known fit ins goes w at stack h framed rest bound o fetch

  -- one action under these names
  named_action : (names : List ℕ) (i : ℕ) (a : Action) (c : Core) (first : Memory) (live less : ℕ → ℕ) (sig : ℕ → Local) (totals : ℕ → ℕ) → AreNear a.sources ⊎ FarAlone a.takes_first a.sources → IsPermutation names → Fixed n base size P numbers rsp ground (Nearby i c.gpr first) far aligned count some names
      → IsKnown n base size P numbers live a → IsFit count size a → Each IsIns (action_far_code count size far aligned a) → Each G (near_action_code count size far aligned a) → i + count ≤ n → Points n base size P numbers rsp ground Q far aligned count some i c.gpr → c.gpr 4 ≡ rsp → Lanes n base size P i count c.memory sig → Framed numbers rsp c totals
      → AreAt n base size P numbers rsp ground (Nearby i c.gpr first) far aligned count some a.takes_first a.takes_second a.op a.prefix live sig a.to (seen_as names c) a.sources → Remains n base size P numbers rsp ground (Nearby i c.gpr first) far aligned count some a.to less sig (seen_as names c) → Bounded c
      → Rest n base size P numbers rsp ground Q far aligned count some i first c.memory → Fetches i c.gpr first sig → ((u : Core) (ins : Ins) → Steps i c.gpr first u ins → Q u ins)
      → (d : Core) × Line Q (map (renamed (renaming names)) (action_far_code count size far aligned a)) c d × Left i c d first (Acted a sig) (More a sig totals) × Standing n base size P numbers rsp ground Q far aligned count some (live_act less a) (Acted a sig) (seen_as names d)
  named_action names i a c first live less sig totals kind p fixed known fit ins goes w at stack h framed there rest bound o fetch keeps =
      let list = action_far_code count size far aligned a in
      let v = seen_as names c in
      let S = Steps i c.gpr first in
      let x = seen_action i a v first live less sig totals kind known fit ins goes w at stack h (framed_same numbers rsp ground.frame c v totals (λ y l u. refl) (λ g l. ap c.xmm (fixed g l)) framed) there rest (seen_bounded names c p bound) o fetch in
      let carry : (u t : Core) (ins : Ins) → Renames (renaming names) u t → S u ins → Q t (renamed (renaming names) ins) = λ u t ins r q. keeps t (renamed (renaming names) ins) (⊎_elim
      (λ m. inl ((λ k ne. ap (λ g. g k) r.gpr ∙ m.0.0 k ne, λ b e z. ap (λ g. g b) r.memory ∙ m.0.1 b e z), turned (renaming names) ins m.1))
      (λ m. inr (ap (λ g. g 4) r.gpr ∙ m.0, λ b e z. ap (λ g. g b) r.memory ∙ m.1 b e z, far_renamed base numbers rsp i count (renaming names) u t ins r.gpr m.2))
      q) in
      let y = line_named names p S Q carry list v x.0 c (seen_renames names c) x.1 in
      let e = x.0 in
      let d = y.0 in
      let r = y.2 in (
        d,
        y.1,
        record {
          gpr = λ k ne. ap (λ g. g k) r.gpr ∙ x.2.gpr k ne;
          lanes = λ k hk q l b lb. ap (λ m. m (base k + (i + q) * size k + b)) r.memory ∙ x.2.lanes k hk q l b lb;
          framed = framed_same numbers rsp ground.frame e d (More a sig totals) (λ y l u. ap (λ m. m y) r.memory) (λ g l. ap d.xmm (sym (fixed g l)) ∙ r.xmm (resident_register g)) x.2.framed;
          others = λ b m s. ap (λ g. g b) r.memory ∙ x.2.others b m s;
          bounded = line_bounded Q (map (renamed (renaming names)) list) c d (each_renamed (renaming names) p.below list ins) y.1 bound;
        },
        λ q lq k lk b lb lw. held_same rsp e (seen_as names d) q (k * live_act less a q + b) (r.xmm (place_register q)) (ap (λ m. m (rsp + spill_slot (q - registers) + (k * live_act less a q + b))) r.memory) ∙ x.2.standing q lq k lk b lb lw,
      )

  -- a whole block
  pub named_line : (names : List ℕ) (i : ℕ) (actions : List Action) (c : Core) (first : Memory) (live : ℕ → ℕ) (sig : ℕ → Local) (totals : ℕ → ℕ) → IsPermutation names → ((g : ℕ) → IsResident numbers.last g → renaming names (resident_register g) ≡ resident_register g)
      → AllKnown n base size P numbers live actions → AllTaken actions → Each (IsFit count size) actions → Each (λ a. Each IsIns (action_far_code count size far aligned a)) actions → Each (λ a. Each G (near_action_code count size far aligned a)) actions → i + count ≤ n → Points n base size P numbers rsp ground Q far aligned count some i c.gpr → c.gpr 4 ≡ rsp
      → Lanes n base size P i count c.memory sig → Framed numbers rsp c totals → Standing n base size P numbers rsp ground Q far aligned count some live sig (seen_as names c) → Bounded c → Rest n base size P numbers rsp ground Q far aligned count some i first c.memory → Fetches i c.gpr first sig → ((u : Core) (ins : Ins) → Steps i c.gpr first u ins → Q u ins)
      → (d : Core) × Line Q (named_code names count size far aligned actions) c d × Left i c d first (λ q. local n base size P numbers actions (sig q)) (Added actions sig totals)
  named_line names i [] c first live sig totals p fixed known taken fit ins goes w at stack h framed stand bound o fetch keeps = (
    c,
    refl,
    record {
      gpr = λ r ne. refl;
      lanes = h;
      framed = framed_totals numbers rsp c totals (λ g. totals g + sum_below count (λ q. 0)) (no_growth n base size P numbers rsp ground Q far aligned count some totals) framed;
      others = o;
      bounded = bound;
    },
  )
  named_line names i (a ∷ rest) c first live sig totals p fixed known taken fit ins goes w at stack h framed stand bound o fetch keeps =
      let k = known.0 in
      let mine = action_names a names in
      let less = forget_all a.takes_first a.takes_second a.sources live in
      let kind = near_or_far a.takes_first a.takes_second rest a.sources taken.0 in
      let s = opened n base size P numbers rsp ground (Nearby i c.gpr first) far aligned count some a.takes_first a.takes_second rest a.op a.prefix a.to a.sources live sig names c taken.0 k.to k.sources k.kept k.apart (clear_of numbers.last a.to k.to_within) k.from_within (room_of n base size P numbers rsp ground (Nearby i c.gpr first) far aligned count some a fit.0.lanes) p fixed stand in
      let x = named_action mine i a c first live less sig totals kind s.permutes s.fixed k fit.0 ins.0 goes.0 w at stack h framed s.at s.rest bound o fetch keeps in
      let gpr = x.2.gpr in
      let y = named_line mine i rest x.0 first (live_act less a) (Acted a sig) (More a sig totals) s.permutes s.fixed (rest_known n base size P numbers live a rest taken.0 known.1) taken.1 fit.1 ins.1 goes.1 w (λ j hj t. (ap (λ y. y + far j) (gpr (pointer j) (not_0 j)) ∙ (at j hj t).0, (at j hj t).1)) (gpr 4 (λ z. omega (arith, z)) ∙ stack)
      x.2.lanes x.2.framed x.3 x.2.bounded x.2.others (fetches_on i a c x.0 first sig gpr fetch)
      (λ u ins t. keeps u ins (⊎_elim (λ m. inl ((λ r ne. m.0.0 r ne ∙ gpr r ne, m.0.1), m.1)) (λ m. inr (m.0 ∙ gpr 4 (λ z. omega (arith, z)), m.1, m.2)) t)) in (
        y.0,
        line_append Q (map (renamed (renaming mine)) (action_far_code count size far aligned a)) (named_code mine count size far aligned rest) c x.0 y.0 x.1 y.1,
        record {
          gpr = λ r ne. y.2.gpr r ne ∙ gpr r ne;
          lanes = y.2.lanes;
          framed = framed_totals numbers rsp y.0 _ (Added (a ∷ rest) sig totals) (grown_on n base size P numbers rsp ground Q far aligned count some a rest sig totals) y.2.framed;
          others = y.2.others;
          bounded = y.2.bounded;
        },
      )
