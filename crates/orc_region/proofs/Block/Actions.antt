-- Blocks of actions do so many elements at once as emulation does them one by one.
use Rattle.std.proofs.Common.{◌||◌, ◌≡◌, ◌≢◌, ℕ, suc, ◌+◌, ◌-◌, ◌*◌, ◌%◌, ◌^◌, ◌<◌, ◌≤◌, Bool, true, false, max, if◌then◌else◌, List, [], ◌∷◌, ◌++◌, get_or, Option, None, Some, is_some, refl, sym, ap, ap₂, ◌∙◌, subst, arith, le_trans, map, append-nil, inl, inr, ⊎_elim}
use Rattle.std.proofs.lemmas.Bool.{cases_eq}
use Rattle.std.proofs.Math.Nat.{le-max_left, le-max_right, mul-le-mul_left, mul-le-mul_right, mod-eq_of_lt, mod-mod}
use Rattle.orc_bits.specs.Numbers.{cut}
use Rattle.orc_bits.specs.Lanes.{lane, AreBytes, change}
use Rattle.orc_bits.specs.Memory.{Memory, IsMapped}
use Rattle.orc_bits.proofs.LaneLaws.{lane_of_digits, lane_one, lane-from_lanes, change_other, change_same}
use Rattle.orc_bits.proofs.Memories.{or_else, mapped_value}
use Rattle.orc_ops.specs.declared.opcode.Op.{Op}
use Rattle.orc_ops.specs.Far.{far_size}
use Rattle.orc_ops.specs.Table.{row, wide, to, size_of_result, size_of_source}
use Rattle.orc_ops.specs.Stems.{apply}
use Rattle.orc_ops.specs.Formula.{formula, source_of}
use Rattle.x86_ins.specs.declared.ins.Ins.{Ins}
use Rattle.x86_ins.specs.declared.ins.Ins.TheVariants.{VecLoad, VecStore}
use Rattle.x86_ins.specs.declared.ins.MoveOp.TheVariants.{Movdqu}
use Rattle.x86_ins.specs.declared.ins.VecOp.TheVariants.{Movdqa}
use Rattle.x86_ins.specs.Renaming.{renamed}
use Rattle.x86_ins.specs.Vectors.{after, shape, result_of}
use Rattle.x86_ins.specs.Machine.{Core, Bounded, with_lanes}
use Rattle.x86_ins.specs.Spelling.{IsIns}
use Rattle.x86_ins.specs.Way.{Each}
use Rattle.x86_ins.proofs.Registers.{registers_after}
use Rattle.x86_ins.proofs.Renamed.{after_renamed, simd_renamed}
use Rattle.x86_flow.specs.Moves.{IsWidth, away, load_far_code, store_either_code}
use Rattle.x86_flow.specs.Does.{Line}
use Rattle.x86_flow.proofs.Moves.{IsFill, line_append, load_line_at, store_either_line}
use Rattle.x86_flow.proofs.Plans.{rule_line}
use Rattle.sse_laws.specs.Meets.{widest, size_beside, is_shift, second_of, results_at}
use Rattle.sse_acc.specs.Sums.{AddsUp, sum_below, sum_of}
use Rattle.sse_acc.specs.Sums.{number_of as adds_number}
use Rattle.sse_acc.proofs.Totals.{sum_below-same}
use Rattle.orc_program.specs.Meaning.{sub_lane, pack}
use Rattle.orc_frame.specs.Layout.{pattern_slot, sum_slot, frame_size, spill_slot}
use Rattle.orc_program.specs.Need.{registers}
use Rattle.orc_frame.specs.Parts.{InChanged}
use Rattle.orc_region.specs.Code.{Action, spares_second, IsRule, Source, FromArray, FromPattern, FromResident, FromPlace, FromSlot, FromFar, Target, ToArray, ToSum, ToResident, ToPlace, ToSlot, pointer, place_register, resident_register, slot_place, made_in, first_register, second_register, third_register, sum_home, rule_register, rule_code, source_far_code, brought, sources_far_code, sum_code, result_far_code, results_far_code, action_code, action_far_code}
use Rattle.orc_region.specs.Elements.{sum_byte}
use Rattle.orc_region.proofs.Block.RuleRegisters.{register_0, register_1, register_one, register_place, adds_renamed, adding_register, resident_0, resident_1, resident_2, resident_grown, resident_kept, seen}
use Rattle.orc_region.proofs.Block.Sums.{IsResident, IsFramed, SameSums, byte_register, byte_slot, byte_same, SourceWithin, TargetWithin, IsClear, clear_of}
use Rattle.orc_region.proofs.Block.Registers.{not_0}
use Rattle.orc_region.proofs.Arithmetic.Digits.{digit, digit_small, byte_split, byte_within, byte_further}
use Rattle.orc_region.proofs.Arithmetic.SubLanes.{lane_sub_lane, packed_bytes}
use Rattle.orc_region.proofs.Checked.Sized.{one_shift, shift_two}
use Rattle.orc_region.proofs.Block.Cells.{Numbers, OfDests, Local, given_by, given, adds_to, results_add, live_target, live_targets, live_act, Lanes, Others, AtElements, IsOf, IsTo, IsFrom, IsBeside, IsNumber, IsCounted, AreFrom, IsMade, AreMade, AreTo, IsKept, IsKnown, Separate, Low, set_local, set_target, set_results, value_of, local_act, adds, store_lanes, store_others}
use Rattle.orc_region.proofs.Block.Meeting.{results_by, Meeting, meeting}
use Rattle.orc_region.proofs.Block.Keeping.{line_bounded, each_front, each_back}
use Rattle.orc_region.proofs.Block.Taken.{IsNear, AreNear}
use Rattle.orc_region.proofs.Block.Places.{held, held_register, held_slot, held_same, held_beside}
use Rattle.orc_region.proofs.Block.Frames.{IsFrame, Framed, framed_same, framed_totals, framed_spilled, framed_grown, load_slot, store_slot, pattern_lane, same_sum, no_sum, adds_all, sum_both}

-- so many elements can be moved at once
abbrev pub IsMovedFrom : ℕ → (ℕ → ℕ) → Source → Type 0
IsMovedFrom count size (FromArray k) = IsWidth (count * size k)
IsMovedFrom count size (FromPattern j) = Unit {0}
IsMovedFrom count size (FromResident j g) = Unit {0}
IsMovedFrom count size (FromPlace p) = Unit {0}
IsMovedFrom count size (FromFar load array js) = IsWidth (count * far_size load)
IsMovedFrom count size (FromSlot k) = Unit {0}

abbrev pub IsMovedTo : ℕ → (ℕ → ℕ) → Target → Type 0
IsMovedTo count size (ToArray k) = IsWidth (count * size k)
IsMovedTo count size (ToSum g) = Unit {0}
IsMovedTo count size (ToResident g) = Unit {0}
IsMovedTo count size (ToPlace p) = Unit {0}
IsMovedTo count size (ToSlot k) = Unit {0}

-- so many elements of the action's slots can be moved at once, and their lanes fit into a register
pub record IsFit (count : ℕ) (size : ℕ → ℕ) (a : Action) : Type 0 where
  pub to : Each (IsMovedTo count size) a.to
  pub sources : Each (IsMovedFrom count size) a.sources
  pub lanes : count * a.prefix * widest a.op ≤ 16
  pub rule : IsRule count a.op a.by a.rule
  pub known : Each IsIns (action_code count size a)

pub lane_fits : (q count w : ℕ) → q < count → count * w ≤ 16 → q * w + w ≤ 16
lane_fits q count w l h =
    let m : suc q * w ≤ count * w = mul-le-mul_right w (let p : suc q ≤ count = omega (arith, l) in p) in
    let e : suc q * w ≡ q * w + w = omega arith in
    omega (arith, m, e, h)

pub no_lane : (x : List ℕ) (n q : ℕ) → n ≡ 0 → lane n q x ≡ 0
no_lane x n q e = ap (λ w. lane w q x) e ∙ lane_of_digits x 0 q 0 (λ k l. absurd (omega (arith, l)))

pub second_is : (op : Op) (q : ℕ) (x : ℕ → List ℕ) → is_shift (row op).kind ≡ false → second_of op q x ≡ lane (size_of_source op 1) q (x 1)
second_is op q x e = ap (λ b. if b then lane 8 0 (x 1) else lane (size_of_source op 1) q (x 1)) e

-- a copy has the register's bytes
pub copied_byte : (x y : List ℕ) → AreBytes y → (j : ℕ) → j < 16 → get_or (result_of (shape Movdqa) x y) j 0 ≡ get_or y j 0
copied_byte x y bytes j l =
    let z = result_of (shape Movdqa) x y in
    let there : lane 1 j z ≡ lane 1 j y % 256 ^ 1 = lane-from_lanes 1 (λ q. lane 1 q y) j (omega arith) (omega (arith, l)) in
    let small = bytes j in
    sym (lane_one j z) ∙ there ∙ ap (λ v. v % 256 ^ 1) (lane_one j y) ∙ mod-eq_of_lt small

-- ---- a formula cuts its sources

cut_twice : (w v : ℕ) → v % 2 ^ w % 2 ^ w ≡ v % 2 ^ w
cut_twice w v = mod-mod v (2 ^ w)

formula_first : (op : Op) (v b : ℕ) → formula op (v % 2 ^ (8 * size_of_source op 0)) b ≡ formula op v b
unfolding formula
formula_first op v b = ap (λ x. apply (row op).stem (wide op) (to op) x (source_of op 1 b)) (cut_twice (8 * size_of_source op 0) v)

formula_second : (op : Op) (a v : ℕ) → formula op a (v % 2 ^ (8 * size_of_source op 1)) ≡ formula op a v
unfolding formula
formula_second op a v = ap (λ x. apply (row op).stem (wide op) (to op) (source_of op 0 a) x) (cut_twice (8 * size_of_source op 1) v)

-- the bytes of the first source, and of a second one that is no count
first_width : (op : Op) → size_of_source op 0 ≤ widest op
first_width op = within (size_of_result op 0) (size_of_result op 1) (size_of_source op 0) (size_beside op)
  where
    within : (a b c d : ℕ) → c ≤ max (max a b) (max c d)
    within a b c d = le_trans (le-max_left c d) (le-max_right (max a b) (max c d))

second_width : (op : Op) → is_shift (row op).kind ≡ false → size_of_source op 1 ≤ widest op
second_width op e = subst (λ n. n ≤ widest op) (ap (λ b. if b then 0 else size_of_source op 1) e) (within (size_of_result op 0) (size_of_result op 1) (size_of_source op 0) (size_beside op))
  where
    within : (a b c d : ℕ) → d ≤ max (max a b) (max c d)
    within a b c d = le_trans (le-max_right c d) (le-max_right (max a b) (max c d))

narrower : (q w v : ℕ) → w ≤ v → q * v + v ≤ 16 → q * w + w ≤ 16
narrower q w v l h = let m : suc q * w ≤ suc q * v = mul-le-mul_left (suc q) l in let a : suc q * w ≡ q * w + w = omega arith in let b : suc q * v ≡ q * v + v = omega arith in omega (arith, m, a, b, h)

-- ---- so many elements from one on

-- what a turn does its work on: n elements of arrays, patterns and running sums, with RSP at `rsp`
pub record Ground (n : ℕ) (base size : ℕ → ℕ) (P : ℕ → Type 0) (numbers : Numbers) (rsp : ℕ) : Type 0 where
  pub separate : Separate n base size P
  pub low : Low n base size P
  pub frame : IsFrame numbers rsp
  -- arrays lie outside the frame
  pub apart : (k : ℕ) → P k → (i : ℕ) → i < n → (r : ℕ) → r < size k → rsp ≤ base k + i * size k + r → base k + i * size k + r < rsp + frame_size → ⊥

module _ (n : ℕ) (base size : ℕ → ℕ) (P : ℕ → Type 0) (numbers : Numbers) (rsp : ℕ) (ground : Ground n base size P numbers rsp) (Q : Core → Ins → Type 0) (far : ℕ → ℕ) (aligned : ℕ → Bool) (count : ℕ) (some : 0 < count) where
  separate : Separate n base size P
  separate = ground.separate

  low : Low n base size P
  low = ground.low

  -- but for dests' cells of these elements, running sums and spill slots memory is as at first
  abbrev pub Rest : ℕ → Memory → Memory → Type 0
  Rest i first mem = (a : ℕ) → (AtElements n base size (OfDests P) i count a → ⊥) → (InChanged rsp numbers.sums a → ⊥) → mem a ≡ first a

  -- what lets Q be known at each step: but for RAX the general registers stand, and only dests' cells of these elements, running sums and spill slots have changed
  abbrev pub Keeps : ℕ → (ℕ → ℕ) → Memory → Type 0
  Keeps i gpr first = (u : Core) (ins : Ins) → ((r : ℕ) → r ≢ 0 → u.gpr r ≡ gpr r) → Rest i first u.memory → Q u ins

  -- what lets it be known while memory stands
  abbrev Stays : Core → Type 0
  Stays c = (u : Core) (ins : Ins) → u.memory ≡ c.memory → ((r : ℕ) → r ≢ 0 → u.gpr r ≡ c.gpr r) → Q u ins

  -- the pointers of the arrays that have bytes, and what aligned stores ask
  abbrev pub Points : ℕ → (ℕ → ℕ) → Type 0
  Points i gpr = (k : ℕ) → P k → 0 < size k → (gpr (pointer k) + far k ≡ base k + i * size k) × (aligned k ≡ true → (count * size k ≡ 16) × ((base k + i * size k) % 16 ≡ 0))

  -- in the 16 bytes at a place stands a value of so many bytes an element, of each of the elements
  abbrev pub StandsAt : (ℕ → ℕ) → (ℕ → Local) → Core → ℕ → Type 0
  StandsAt live sig c p = (q : ℕ) → q < count → (r : ℕ) → r < live p → q * live p + r < 16 → held rsp c p (q * live p + r) ≡ Some (digit ((sig q).values p) r)

  abbrev pub Standing : (ℕ → ℕ) → (ℕ → Local) → Core → Type 0
  Standing live sig c = (p : ℕ) → p ≤ numbers.last → StandsAt live sig c p

  -- it does so still where those bytes stay
  pub still : (live : ℕ → ℕ) (sig : ℕ → Local) (c d : Core) (p : ℕ) → ((b : ℕ) → b < 16 → held rsp d p b ≡ held rsp c p b) → StandsAt live sig c p → StandsAt live sig d p
  still live sig c d p same h q l r lr lb = same (q * live p + r) lb ∙ h q l r lr lb

  -- where the vector register and the frame's memory stay
  pub still_there : (live : ℕ → ℕ) (sig : ℕ → Local) (c d : Core) (p : ℕ) → p ≤ numbers.last → d.xmm (place_register p) ≡ c.xmm (place_register p) → ((x : ℕ) → rsp + spill_slot 0 ≤ x → x < rsp + frame_size → d.memory x ≡ c.memory x) → StandsAt live sig c p → StandsAt live sig d p
  still_there live sig c d p lp x same = still live sig c d p (λ b lb. held_same rsp c d p b x (same (rsp + spill_slot (p - registers) + b) (omega arith) (omega (arith, lp, lb, ground.frame.few_places))))

  -- what a block leaves
  pub record After (i : ℕ) (c d : Core) (first : Memory) (live : ℕ → ℕ) (sig : ℕ → Local) (totals : ℕ → ℕ) : Type 0 where
    pub gpr : (r : ℕ) → r ≢ 0 → d.gpr r ≡ c.gpr r
    pub lanes : Lanes n base size P i count d.memory sig
    pub standing : Standing live sig d
    pub framed : Framed numbers rsp d totals
    pub others : Rest i first d.memory
    pub bounded : Bounded d

  near : (i k b : ℕ) → IsOf n base size P k b → i + count ≤ n → base k + i * size k + 16 < 2 ^ 63
  near i k b o w = let l = low k o.array i (omega (arith, w, some)) 0 o.some in omega (arith, l)

  -- a byte of these elements, by its distance from the first
  byte_at : (i k b : ℕ) (mem : Memory) (sig : ℕ → Local) → IsOf n base size P k b → Lanes n base size P i count mem sig → (q r : ℕ) → q < count → r < size k → mem (base k + i * size k + (q * size k + r)) ≡ Some (digit ((sig q).cells k) r)
  byte_at i k b mem sig o h q r l lr = ap mem (sym (byte_further (base k) i q (size k) r)) ∙ h k o.array q l r lr

  each_byte : (i k b : ℕ) (mem : Memory) (sig : ℕ → Local) → IsOf n base size P k b → Lanes n base size P i count mem sig → (j : ℕ) → j < count * size k → (v : ℕ) × (v < 256) × (mem (base k + i * size k + j) ≡ Some v)
  each_byte i k b mem sig o h j l =
      let x = byte_split (size k) count j l in
      (digit ((sig x.0).cells k) x.1, digit_small ((sig x.0).cells k) x.1, ap (λ t. mem (base k + i * size k + t)) x.4 ∙ byte_at i k b mem sig o h x.0 x.1 x.2 x.3)

  -- what a load leaves: sub-lanes of w bytes, `prefix` of them for each element
  record Got (k w prefix x : ℕ) (sig : ℕ → Local) (c d : Core) : Type 0 where
    memory : d.memory ≡ c.memory
    gpr : (r : ℕ) → r ≢ 0 → d.gpr r ≡ c.gpr r
    others : (y : ℕ) → y ≢ x → d.xmm y ≡ c.xmm y
    lanes : AreBytes (d.xmm x) → (q : ℕ) → q < count → (p : ℕ) → p < prefix → lane w (q * prefix + p) (d.xmm x) ≡ sub_lane (8 * w) ((sig q).cells k) p

  load_cells : (i k w prefix x : ℕ) (c : Core) (sig : ℕ → Local) → IsOf n base size P k (w * prefix) → IsWidth (count * size k) → i + count ≤ n → Points i c.gpr → Lanes n base size P i count c.memory sig → Stays c
      → (d : Core) × Line Q (load_far_code (count * size k) x (pointer k) (far k)) c d × Got k w prefix x sig c d
  load_cells i k w prefix x c sig o wide fits at h stays =
      let b = w * prefix in
      let p = base k + i * size k in
      let z : ℕ → ℕ = λ j. or_else 0 (c.memory (p + j)) in
      let byte = each_byte i k b c.memory sig o h in
      let there : (j : ℕ) → j < count * size k → c.memory (p + j) ≡ Some (z j) = λ j l. let v = byte j l in v.2 ∙ ap (λ m. Some (or_else 0 m)) (sym v.2) in
      let small : (j : ℕ) → j < count * size k → z j < 256 = λ j l. let v = byte j l in subst (λ m. or_else 0 m < 256) (sym v.2) v.1 in
      let l = load_line_at Q c (count * size k) x (pointer k) (far k) p z (λ u ins m g t. stays u ins m g) wide (at k o.array o.some).0 (near i k b o fits) there (λ two. small 0 (omega (arith, two))) in
      let d = l.0 in
      let g = l.2 in
      let digits : AreBytes (d.xmm x) → (q : ℕ) → q < count → (r : ℕ) → r < size k → get_or (d.xmm x) (q * size k + r) 0 ≡ digit ((sig q).cells k) r = λ bytes q lq r lr.
      let j = q * size k + r in
      let lj = byte_within q count (size k) r lq lr in
      let is : z j ≡ digit ((sig q).cells k) r = ap (or_else 0) (byte_at i k b c.memory sig o h q r lq lr) in
      let full : get_or (d.xmm x) j 0 ≡ get_or (d.xmm x) j 0 % 256 = sym (mod-eq_of_lt (bytes j)) in
      let cut : z j % 256 ≡ z j = mod-eq_of_lt (small j lj) in
      full ∙ g.bytes j lj ∙ cut ∙ is in (
        d,
        l.1,
        record {
          memory = g.memory;
          gpr = g.gpr;
          others = g.others;
          lanes = λ bytes q lq. lane_sub_lane (d.xmm x) w prefix q ((sig q).cells k) (subst (λ s. (r : ℕ) → r < s → get_or (d.xmm x) (q * s + r) 0 ≡ digit ((sig q).cells k) r) o.bytes_are (digits bytes q lq));
        },
      )

  -- what a source leaves in a register: its sub-lanes, or a pattern's bytes
  abbrev pub InRegister : ℕ → ℕ → (ℕ → Local) → Source → List ℕ → Type 0
  InRegister w prefix sig (FromArray k) x = (q : ℕ) → q < count → (p : ℕ) → p < prefix → lane w (q * prefix + p) x ≡ sub_lane (8 * w) ((sig q).cells k) p
  InRegister w prefix sig (FromPattern j) x = (b : ℕ) → b < 16 → get_or x b 0 ≡ digit (numbers.number j) (b % numbers.period j)
  InRegister w prefix sig (FromResident j g) x = (b : ℕ) → b < 16 → get_or x b 0 ≡ digit (numbers.number j) (b % numbers.period j)
  InRegister w prefix sig (FromPlace k) x = (q : ℕ) → q < count → (p : ℕ) → p < prefix → lane w (q * prefix + p) x ≡ sub_lane (8 * w) ((sig q).values k) p
  InRegister w prefix sig (FromFar load array js) x = (q : ℕ) → q < count → (p : ℕ) → p < prefix → lane w (q * prefix + p) x ≡ sub_lane (8 * w) ((sig q).fars load array js) p
  InRegister w prefix sig (FromSlot k) x = (q : ℕ) → q < count → (p : ℕ) → p < prefix → lane w (q * prefix + p) x ≡ sub_lane (8 * w) ((sig q).values (slot_place k)) p

  -- what a source at a place is loaded from
  abbrev pub IsThere : (ℕ → ℕ) → (ℕ → Local) → Core → Source → Type 0
  IsThere live sig c (FromArray k) = Unit {0}
  IsThere live sig c (FromPattern j) = Unit {0}
  IsThere live sig c (FromResident j g) = Unit {0}
  IsThere live sig c (FromPlace p) = StandsAt live sig c p
  IsThere live sig c (FromFar load array js) = Unit {0}
  IsThere live sig c (FromSlot k) = StandsAt live sig c (slot_place k)

  pub is_there : (live : ℕ → ℕ) (sig : ℕ → Local) (c : Core) (s : Source) → SourceWithin numbers.last s → Standing live sig c → IsThere live sig c s
  is_there live sig c (FromArray k) l stand = tt
  is_there live sig c (FromPattern j) l stand = tt
  is_there live sig c (FromResident j g) l stand = tt
  is_there live sig c (FromPlace p) l stand = stand p l
  is_there live sig c (FromFar load array js) l stand = tt
  is_there live sig c (FromSlot k) l stand = stand (slot_place k) l

  -- the elements of a value fit into a register
  abbrev pub HasRoom : ℕ → ℕ → Source → Type 0
  HasRoom w prefix (FromArray k) = Unit {0}
  HasRoom w prefix (FromPattern j) = Unit {0}
  HasRoom w prefix (FromResident j g) = Unit {0}
  HasRoom w prefix (FromPlace p) = count * (w * prefix) ≤ 16
  HasRoom w prefix (FromFar load array js) = Unit {0}
  HasRoom w prefix (FromSlot k) = count * (w * prefix) ≤ 16

  -- it stays where another register was loaded
  there_still : (live : ℕ → ℕ) (sig : ℕ → Local) (c d : Core) (s : Source) (ts : List Target) → IsKept n base size P numbers ts s → d.memory ≡ c.memory → ((z : ℕ) → z ≢ first_register ts → d.xmm z ≡ c.xmm z) → IsThere live sig c s → IsThere live sig d s
  there_still live sig c d (FromArray k) ts kept memory same h = tt
  there_still live sig c d (FromPattern j) ts kept memory same h = tt
  there_still live sig c d (FromResident j g) ts kept memory same h = tt
  there_still live sig c d (FromPlace p) ts kept memory same h =
      still live sig c d p (λ b lb. held_same rsp c d p b (same (place_register p) (λ z. kept.0 (sym z))) (ap (λ f. f (rsp + spill_slot (p - registers) + b)) memory)) h
  there_still live sig c d (FromFar load array js) ts kept memory same h = tt
  there_still live sig c d (FromSlot k) ts kept memory same h =
      still live sig c d (slot_place k) (λ b lb. held_slot rsp d k b ∙ ap (λ f. f (rsp + spill_slot k + b)) memory ∙ sym (held_slot rsp c k b)) h

  record GotFrom (s : Source) (w prefix x : ℕ) (sig : ℕ → Local) (c d : Core) : Type 0 where
    memory : d.memory ≡ c.memory
    gpr : (r : ℕ) → r ≢ 0 → d.gpr r ≡ c.gpr r
    others : (y : ℕ) → y ≢ x → d.xmm y ≡ c.xmm y
    lanes : AreBytes (d.xmm x) → InRegister w prefix sig s (d.xmm x)

  -- of a value of so many bytes
  bytes_at : (live : ℕ → ℕ) (sig : ℕ → Local) (c : Core) (p s : ℕ) → live p ≡ s → StandsAt live sig c p → (q : ℕ) → q < count → (r : ℕ) → r < s → q * s + r < 16 → held rsp c p (q * s + r) ≡ Some (digit ((sig q).values p) r)
  bytes_at live sig c p s e stand q lq = subst (λ s. (r : ℕ) → r < s → q * s + r < 16 → held rsp c p (q * s + r) ≡ Some (digit ((sig q).values p) r)) e (stand q lq)

  -- a register that has the bytes of a place's register has the sub-lanes of the value there
  pub in_register : (live : ℕ → ℕ) (sig : ℕ → Local) (c : Core) (w prefix p : ℕ) (x : List ℕ) → p < registers → live p ≡ w * prefix → StandsAt live sig c p → count * (w * prefix) ≤ 16 → x ≡ c.xmm (place_register p) → InRegister w prefix sig (FromPlace p) x
  in_register live sig c w prefix p x few size_is stand room same q lq = lane_sub_lane x w prefix q ((sig q).values p) (λ r lr.
      let within = byte_within q count (w * prefix) r lq lr in
      let b = q * (w * prefix) + r in
      ap (λ v. get_or v b 0) same ∙ ap (or_else 0) (sym (held_register rsp c p b few) ∙ bytes_at live sig c p (w * prefix) size_is stand q lq r lr (omega (arith, within, room))))

  load_source : (i : ℕ) (s : Source) (w prefix x : ℕ) (c : Core) (live : ℕ → ℕ) (sig : ℕ → Local) (totals : ℕ → ℕ) → IsNear s → IsFrom n base size P numbers live w prefix s → IsMovedFrom count size s → i + count ≤ n → Points i c.gpr → c.gpr 4 ≡ rsp
      → Lanes n base size P i count c.memory sig → Framed numbers rsp c totals → IsThere live sig c s → HasRoom w prefix s → Bounded c → Stays c → (d : Core) × Line Q (source_far_code count size far x s) c d × GotFrom s w prefix x sig c d
  load_source i (FromArray k) w prefix x c live sig totals near o wide fits at stack h framed there room bound stays =
      let l = load_cells i k w prefix x c sig o wide fits at h stays in
      (l.0, l.1, record { memory = l.2.memory; gpr = l.2.gpr; others = l.2.others; lanes = l.2.lanes })
  load_source i (FromPattern j) w prefix x c live sig totals near o wide fits at stack h framed there room bound stays =
      let l = load_slot c x rsp (pattern_slot j) (λ b. digit (numbers.number j) (b % numbers.period j)) stack (omega (arith, ground.frame.low, ground.frame.few_patterns, o.0)) (framed.patterns j o.0) in (
        l.0,
        (stays c _ refl (λ r ne. refl), (l.0, l.1, refl)),
        record { memory = l.2.memory; gpr = λ r ne. ap (λ f. f r) l.2.gpr; others = l.2.others; lanes = λ bytes. l.2.bytes },
      )
  load_source i (FromResident j g) w prefix x c live sig totals near o wide fits at stack h framed there room bound stays =
      let y = resident_register g in
      let new = result_of (shape Movdqa) (c.xmm x) (c.xmm y) in
      let d : Core = with_lanes c (change c.xmm x new) in
      let byte : (b : ℕ) → b < 16 → get_or (c.xmm y) b 0 ≡ digit (numbers.number j) (b % numbers.period j) = λ b lb.
      ap (λ k. get_or (c.xmm (resident_register k)) b 0) o.2 ∙ framed.residents j o.0 (subst (IsResident numbers.last) o.2 o.3) b lb in (
        d,
        (stays c _ refl (λ r ne. refl), (d, refl, refl)),
        record {
          memory = refl;
          gpr = λ r ne. refl;
          others = λ z ne. change_other c.xmm x new z ne;
          lanes = λ bytes b lb. ap (λ v. get_or v b 0) (change_same c.xmm x new) ∙ copied_byte (c.xmm x) (c.xmm y) (bound.xmm y) b lb ∙ byte b lb;
        },
      )
  load_source i (FromPlace p) w prefix x c live sig totals near o wide fits at stack h framed there room bound stays =
      let y = place_register p in
      let new = result_of (shape Movdqa) (c.xmm x) (c.xmm y) in
      let d : Core = with_lanes c (change c.xmm x new) in
      let byte : (q : ℕ) → q < count → (r : ℕ) → r < w * prefix → get_or (d.xmm x) (q * (w * prefix) + r) 0 ≡ digit ((sig q).values p) r = λ q lq r lr.
      let b = q * (w * prefix) + r in
      let few : b < 16 = (let within = byte_within q count (w * prefix) r lq lr in omega (arith, within, room)) in
      ap (λ v. get_or v b 0) (change_same c.xmm x new) ∙ copied_byte (c.xmm x) (c.xmm y) (bound.xmm y) b few
      ∙ ap (or_else 0) (sym (held_register rsp c p b o.0) ∙ bytes_at live sig c p (w * prefix) o.1 there q lq r lr few) in (
        d,
        (stays c _ refl (λ r ne. refl), (d, refl, refl)),
        record {
          memory = refl;
          gpr = λ r ne. refl;
          others = λ z ne. change_other c.xmm x new z ne;
          lanes = λ bytes q lq. lane_sub_lane (d.xmm x) w prefix q ((sig q).values p) (byte q lq);
        },
      )
  load_source i (FromFar load array js) w prefix x c live sig totals near o wide fits at stack h framed there room bound stays = absurd near
  load_source i (FromSlot k) w prefix x c live sig totals near o wide fits at stack h framed there room bound stays =
      let p = rsp + spill_slot k in
      let z : ℕ → ℕ = λ b. or_else 0 (c.memory (p + b)) in
      let mapped : (b : ℕ) → b < 16 → c.memory (p + b) ≡ Some (z b) = λ b lb. let v = mapped_value c.memory (p + b) (framed.worked (p + b) (omega arith, (let few = o.0 in omega (arith, few, lb)))) in v.1 ∙ ap (λ m. Some (or_else 0 m)) (sym v.1) in
      let l = load_slot c x rsp (spill_slot k) z stack (let few = o.0 in omega (arith, ground.frame.low, few)) mapped in
      let byte : (q : ℕ) → q < count → (r : ℕ) → r < w * prefix → get_or (l.0.xmm x) (q * (w * prefix) + r) 0 ≡ digit ((sig q).values (slot_place k)) r = λ q lq r lr.
      let b = q * (w * prefix) + r in
      let few : b < 16 = (let within = byte_within q count (w * prefix) r lq lr in omega (arith, within, room)) in
      l.2.bytes b few ∙ ap (or_else 0) (sym (held_slot rsp c k b) ∙ bytes_at live sig c (slot_place k) (w * prefix) o.1 there q lq r lr few) in (
        l.0,
        (stays c _ refl (λ r ne. refl), (l.0, l.1, refl)),
        record {
          memory = l.2.memory;
          gpr = λ r ne. ap (λ f. f r) l.2.gpr;
          others = l.2.others;
          lanes = λ bytes q lq. lane_sub_lane (l.0.xmm x) w prefix q ((sig q).values (slot_place k)) (byte q lq);
        },
      )

  -- a source is where it is loaded from; one that is taken over is in its register
  abbrev pub IsAt : Bool → (ℕ → ℕ) → (ℕ → Local) → ℕ → ℕ → ℕ → Core → Source → Type 0
  IsAt true live sig w prefix x c s = InRegister w prefix sig s (c.xmm x)
  IsAt false live sig w prefix x c s = IsThere live sig c s

  abbrev pub AreAt : Bool → Bool → Op → ℕ → (ℕ → ℕ) → (ℕ → Local) → List Target → Core → List Source → Type 0
  AreAt one two op prefix live sig ts c [] = Unit {0}
  AreAt one two op prefix live sig ts c (s ∷ []) = IsAt one live sig (size_of_source op 0) prefix (first_register ts) c s
  AreAt one two op prefix live sig ts c (s ∷ t ∷ more) = IsAt one live sig (size_of_source op 0) prefix (first_register ts) c s × IsAt two live sig (size_of_source op 1) prefix (second_register ts) c t

  -- it stays there where another register was loaded
  at_still : (taken : Bool) (live : ℕ → ℕ) (sig : ℕ → Local) (w prefix y : ℕ) (c d : Core) (s : Source) (ts : List Target) → y ≢ first_register ts → IsKept n base size P numbers ts s → d.memory ≡ c.memory → ((z : ℕ) → z ≢ first_register ts → d.xmm z ≡ c.xmm z)
      → IsAt taken live sig w prefix y c s → IsAt taken live sig w prefix y d s
  at_still true live sig w prefix y c d s ts ne kept memory same h = subst (InRegister w prefix sig s) (sym (same y ne)) h
  at_still false live sig w prefix y c d s ts ne kept memory same h = there_still live sig c d s ts kept memory same h

  bring_source : (taken : Bool) (i : ℕ) (s : Source) (w prefix x : ℕ) (c : Core) (live : ℕ → ℕ) (sig : ℕ → Local) (totals : ℕ → ℕ) → IsNear s → IsFrom n base size P numbers live w prefix s → IsMovedFrom count size s → i + count ≤ n → Points i c.gpr → c.gpr 4 ≡ rsp
      → Lanes n base size P i count c.memory sig → Framed numbers rsp c totals → IsAt taken live sig w prefix x c s → HasRoom w prefix s → Bounded c → Stays c → (d : Core) × Line Q (brought taken (source_far_code count size far x s)) c d × GotFrom s w prefix x sig c d
  bring_source true i s w prefix x c live sig totals near o wide fits at stack h framed there room bound stays = (c, refl, record { memory = refl; gpr = λ r ne. refl; others = λ y ne. refl; lanes = λ bytes. there })
  bring_source false i s w prefix x c live sig totals near o wide fits at stack h framed there room bound stays = load_source i s w prefix x c live sig totals near o wide fits at stack h framed there room bound stays

  -- the lanes of a pattern as a first source, and as a second one or a count
  pattern_first : (op : Op) (prefix j : ℕ) (x : List ℕ) → numbers.period j ≡ size_of_source op 0 → ((k : ℕ) → k < 16 → get_or x k 0 ≡ digit (numbers.number j) (k % numbers.period j))
      → (q p : ℕ) → (q * prefix + p) * widest op + widest op ≤ 16 → (b : ℕ) → formula op (lane (size_of_source op 0) (q * prefix + p) x) b ≡ formula op (numbers.number j) b
  pattern_first op prefix j x e h q p fits b =
      ap (λ v. formula op v b) (pattern_lane x (size_of_source op 0) (numbers.number j) (q * prefix + p) (λ k lk. h k lk ∙ ap (λ w. digit (numbers.number j) (k % w)) e) (narrower (q * prefix + p) (size_of_source op 0) (widest op) (first_width op) fits))
      ∙ formula_first op (numbers.number j) b

  pattern_second : (op : Op) (prefix j : ℕ) (x : ℕ → List ℕ) → numbers.period j ≡ size_of_source op 1 → ((k : ℕ) → k < 16 → get_or (x 1) k 0 ≡ digit (numbers.number j) (k % numbers.period j))
      → (q p : ℕ) → (q * prefix + p) * widest op + widest op ≤ 16 → (a : ℕ) → formula op a (second_of op (q * prefix + p) x) ≡ formula op a (numbers.number j)
  pattern_second op prefix j x e h q p fits a = go (is_shift (row op).kind) refl
    where
      bytes : (k : ℕ) → k < 16 → get_or (x 1) k 0 ≡ digit (numbers.number j) (k % size_of_source op 1)
      bytes k lk = h k lk ∙ ap (λ w. digit (numbers.number j) (k % w)) e

      at_lane : (t : ℕ) → t * size_of_source op 1 + size_of_source op 1 ≤ 16 → formula op a (lane (size_of_source op 1) t (x 1)) ≡ formula op a (numbers.number j)
      at_lane t room = ap (formula op a) (pattern_lane (x 1) (size_of_source op 1) (numbers.number j) t bytes room) ∙ formula_second op a (numbers.number j)

      go : (b : Bool) → is_shift (row op).kind ≡ b → formula op a (second_of op (q * prefix + p) x) ≡ formula op a (numbers.number j)
      go false e = ap (formula op a) (second_is op (q * prefix + p) x e) ∙ at_lane (q * prefix + p) (narrower (q * prefix + p) (size_of_source op 1) (widest op) (second_width op e) fits)
      go true e =
          let eight : size_of_source op 1 ≡ 8 = shift_two op e in
          ap (λ b. formula op a (if b then lane 8 0 (x 1) else lane (size_of_source op 1) (q * prefix + p) (x 1))) e
          ∙ ap (λ w. formula op a (lane w 0 (x 1))) (sym eight) ∙ at_lane 0 (omega (arith, eight))

  -- the first source of a lane
  pub first_value : (op : Op) (prefix : ℕ) (s : Source) (live : ℕ → ℕ) (sig : ℕ → Local) (x : List ℕ) → IsFrom n base size P numbers live (size_of_source op 0) prefix s → InRegister (size_of_source op 0) prefix sig s x
      → (q : ℕ) → q < count → (p : ℕ) → p < prefix → (q * prefix + p) * widest op + widest op ≤ 16 → (b : ℕ) → formula op (lane (size_of_source op 0) (q * prefix + p) x) b ≡ formula op (given_by numbers.number (size_of_source op 0) (sig q) s p) b
  first_value op prefix (FromArray k) live sig x o h q l p lp fits b = ap (λ v. formula op v b) (h q l p lp)
  first_value op prefix (FromPlace k) live sig x o h q l p lp fits b = ap (λ v. formula op v b) (h q l p lp)
  first_value op prefix (FromFar load array js) live sig x o h q l p lp fits b = ap (λ v. formula op v b) (h q l p lp)
  first_value op prefix (FromSlot k) live sig x o h q l p lp fits b = ap (λ v. formula op v b) (h q l p lp)
  first_value op prefix (FromPattern j) live sig x o h q l p lp fits b = pattern_first op prefix j x o.1 h q p fits b
  first_value op prefix (FromResident j g) live sig x o h q l p lp fits b = pattern_first op prefix j x o.1 h q p fits b

  -- and the second, or the count
  second_value : (op : Op) (prefix : ℕ) (s : Source) (live : ℕ → ℕ) (sig : ℕ → Local) (x : ℕ → List ℕ) → IsFrom n base size P numbers live (size_of_source op 1) prefix s → IsBeside n base size P numbers op s → InRegister (size_of_source op 1) prefix sig s (x 1)
      → (q : ℕ) → q < count → (p : ℕ) → p < prefix → (q * prefix + p) * widest op + widest op ≤ 16 → (a : ℕ) → formula op a (second_of op (q * prefix + p) x) ≡ formula op a (given_by numbers.number (size_of_source op 1) (sig q) s p)
  second_value op prefix (FromArray k) live sig x o plain h q l p lp fits a = ap (formula op a) (second_is op (q * prefix + p) x plain ∙ h q l p lp)
  second_value op prefix (FromPlace k) live sig x o plain h q l p lp fits a = ap (formula op a) (second_is op (q * prefix + p) x plain ∙ h q l p lp)
  second_value op prefix (FromFar load array js) live sig x o plain h q l p lp fits a = absurd plain
  second_value op prefix (FromSlot k) live sig x o plain h q l p lp fits a = ap (formula op a) (second_is op (q * prefix + p) x plain ∙ h q l p lp)
  second_value op prefix (FromPattern j) live sig x o plain h q l p lp fits a = pattern_second op prefix j x o.1 h q p fits a
  second_value op prefix (FromResident j g) live sig x o plain h q l p lp fits a = pattern_second op prefix j x o.1 h q p fits a

  -- what an opcode makes of each sub-lane
  abbrev pub made : Op → Local → List Source → ℕ → ℕ × ℕ
  made op l ss p = formula op ((given numbers.number op l ss).0 p) ((given numbers.number op l ss).1 p)

  -- the registers hold an action's sources, but for a count that the rule has in itself
  abbrev pub Values : Option ℕ → Op → ℕ → List Source → (ℕ → Local) → (ℕ → List ℕ) → Type 0
  Values by op prefix ss sig x = (q : ℕ) → q < count → (p : ℕ) → p < prefix → results_by by op (q * prefix + p) x ≡ made op (sig q) ss p

  abbrev pub Fits : Op → ℕ → Type 0
  Fits op prefix = (q : ℕ) → q < count → (p : ℕ) → p < prefix → (q * prefix + p) * widest op + widest op ≤ 16

  -- what the loads of an action's sources to registers a and b leave
  record Read (by : Option ℕ) (op : Op) (prefix : ℕ) (ss : List Source) (sig : ℕ → Local) (a b : ℕ) (c d : Core) : Type 0 where
    memory : d.memory ≡ c.memory
    gpr : (r : ℕ) → r ≢ 0 → d.gpr r ≡ c.gpr r
    others : (y : ℕ) → y ≢ a → y ≢ b → d.xmm y ≡ c.xmm y
    bounded : Bounded d
    value : (x : ℕ → List ℕ) → x 0 ≡ d.xmm a → x 1 ≡ d.xmm b → Values by op prefix ss sig x

  -- the elements of sources fit into a register
  pub record Room (op : Op) (prefix : ℕ) : Type 0 where
    pub first : count * (size_of_source op 0 * prefix) ≤ 16
    pub second : is_shift (row op).kind ≡ false → count * (size_of_source op 1 * prefix) ≤ 16

  pub first_room : (op : Op) (prefix : ℕ) (s : Source) → Room op prefix → HasRoom (size_of_source op 0) prefix s
  first_room op prefix (FromArray k) room = tt
  first_room op prefix (FromPattern j) room = tt
  first_room op prefix (FromResident j g) room = tt
  first_room op prefix (FromPlace p) room = room.first
  first_room op prefix (FromFar load array js) room = tt
  first_room op prefix (FromSlot k) room = room.first

  pub second_room : (op : Op) (prefix : ℕ) (s : Source) → IsBeside n base size P numbers op s → Room op prefix → HasRoom (size_of_source op 1) prefix s
  second_room op prefix (FromArray k) plain room = tt
  second_room op prefix (FromPattern j) plain room = tt
  second_room op prefix (FromResident j g) plain room = tt
  second_room op prefix (FromPlace p) plain room = room.second plain
  second_room op prefix (FromFar load array js) plain room = tt
  second_room op prefix (FromSlot k) plain room = room.second plain

  sources_line : (one two : Bool) (i : ℕ) (op : Op) (prefix : ℕ) (ss : List Source) (ts : List Target) (c : Core) (live : ℕ → ℕ) (sig : ℕ → Local) (totals : ℕ → ℕ) → AreNear ss → AreFrom n base size P numbers live op prefix ss → Each (IsKept n base size P numbers ts) ss → first_register ts ≢ second_register ts → IsClear numbers.last ts
      → Fits op prefix → Room op prefix → Each (IsMovedFrom count size) ss → Each IsIns (sources_far_code one two count size far (first_register ts) (second_register ts) ss) → i + count ≤ n
      → Points i c.gpr → c.gpr 4 ≡ rsp → Lanes n base size P i count c.memory sig → Framed numbers rsp c totals → AreAt one two op prefix live sig ts c ss → Bounded c → Stays c
      → (d : Core) × Line Q (sources_far_code one two count size far (first_register ts) (second_register ts) ss) c d × Read None op prefix ss sig (first_register ts) (second_register ts) c d
  sources_line one two i op prefix [] ts c live sig totals near known kept apart clear fits room wide ins w at stack h framed stand bound stays = absurd known
  sources_line one two i op prefix (s ∷ []) ts c live sig totals near known kept apart clear fits room wide ins w at stack h framed stand bound stays =
      let a = first_register ts in
      let x = bring_source one i s (size_of_source op 0) prefix a c live sig totals near known.0 wide.0 w at stack h framed stand (first_room op prefix s room) bound stays in
      let d = x.0 in
      let b = line_bounded Q (brought one (source_far_code count size far a s)) c d ins x.1 bound in (
        d,
        x.1,
        record {
          memory = x.2.memory;
          gpr = x.2.gpr;
          others = λ y na nb. x.2.others y na;
          bounded = b;
          value = λ v e0 e1 q l p lp.
              ap (formula op (lane (size_of_source op 0) (q * prefix + p) (v 0))) (second_is op (q * prefix + p) v (one_shift op known.1) ∙ no_lane (v 1) (size_of_source op 1) (q * prefix + p) known.1)
              ∙ first_value op prefix s live sig (v 0) known.0 (subst (InRegister (size_of_source op 0) prefix sig s) (sym e0) (x.2.lanes (b.xmm a))) q l p lp (fits q l p lp) 0;
        },
      )
  sources_line one two i op prefix (s ∷ t ∷ more) ts c live sig totals near known kept apart clear fits room wide ins w at stack h framed stand bound stays =
      let a = first_register ts in
      let e = second_register ts in
      let front = brought one (source_far_code count size far a s) in
      let back = brought two (source_far_code count size far e t) in
      let x = bring_source one i s (size_of_source op 0) prefix a c live sig totals near.0 known.0 wide.0 w at stack h framed stand.0 (first_room op prefix s room) bound stays in
      let b = x.0 in
      let at' : Points i b.gpr = λ j hj s. (ap (λ y. y + far j) (x.2.gpr (pointer j) (not_0 j)) ∙ (at j hj s).0, (at j hj s).1) in
      let h' : Lanes n base size P i count b.memory sig = λ j hj q l r lr. ap (λ f. f (base j + (i + q) * size j + r)) x.2.memory ∙ h j hj q l r lr in
      let there : IsAt two live sig (size_of_source op 1) prefix e b t = at_still two live sig (size_of_source op 1) prefix e c b t ts (λ z. apart (sym z)) kept.1.0 x.2.memory (λ z ne. x.2.others z ne) stand.1 in
      let y = bring_source two i t (size_of_source op 1) prefix e b live sig totals near.1 known.1 wide.1.0 w at' (x.2.gpr 4 (λ e. omega (arith, e)) ∙ stack) h' (framed_same numbers rsp ground.frame c b totals (λ y l u. ap (λ f. f y) x.2.memory) (λ g l. x.2.others (resident_register g) (λ e. (clear g l).0 (sym e))) framed) there (second_room op prefix t known.2 room) (line_bounded Q front c b (each_front IsIns front back ins) x.1 bound) (λ u i m g. stays u i (m ∙ x.2.memory) (λ r ne. g r ne ∙ x.2.gpr r ne)) in
      let d = y.0 in
      let line : Line Q (front ++ back) c d = line_append Q front back c b d x.1 y.1 in
      let bd = line_bounded Q (front ++ back) c d ins line bound in
      let same : d.xmm a ≡ b.xmm a = y.2.others a apart in
      let first : InRegister (size_of_source op 0) prefix sig s (d.xmm a) = subst (InRegister (size_of_source op 0) prefix sig s) (sym same) (x.2.lanes (subst AreBytes same (bd.xmm a))) in (
        d,
        line,
        record {
          memory = y.2.memory ∙ x.2.memory;
          gpr = λ r ne. y.2.gpr r ne ∙ x.2.gpr r ne;
          others = λ z na nb. y.2.others z nb ∙ x.2.others z na;
          bounded = bd;
          value = λ v e0 e1 q l p lp.
              second_value op prefix t live sig v known.1 known.2 (subst (InRegister (size_of_source op 1) prefix sig t) (sym e1) (y.2.lanes (bd.xmm e))) q l p lp (fits q l p lp) (lane (size_of_source op 0) (q * prefix + p) (v 0))
              ∙ first_value op prefix s live sig (v 0) known.0 (subst (InRegister (size_of_source op 0) prefix sig s) (sym e0) first) q l p lp (fits q l p lp) (given_by numbers.number (size_of_source op 1) (sig q) t p);
        },
      )

  number_given : (m w : ℕ) (l : Local) (t : Source) (p : ℕ) → IsNumber n base size P numbers m t → given_by numbers.number w l t p ≡ m
  number_given m w l (FromArray k) p h = absurd h
  number_given m w l (FromPattern j) p h = h
  number_given m w l (FromResident j g) p h = h
  number_given m w l (FromPlace k) p h = absurd h
  number_given m w l (FromFar load array js) p h = absurd h
  number_given m w l (FromSlot k) p h = absurd h

  -- the same where the rule may have the second source in itself
  sources_line_by : (by : Option ℕ) (one two : Bool) (i : ℕ) (op : Op) (prefix : ℕ) (ss : List Source) (ts : List Target) (c : Core) (live : ℕ → ℕ) (sig : ℕ → Local) (totals : ℕ → ℕ) → AreNear ss → IsCounted n base size P numbers by ss → AreFrom n base size P numbers live op prefix ss → Each (IsKept n base size P numbers ts) ss → first_register ts ≢ second_register ts
      → IsClear numbers.last ts → Fits op prefix → Room op prefix → Each (IsMovedFrom count size) ss → Each IsIns (sources_far_code one (is_some by || two) count size far (first_register ts) (second_register ts) ss) → i + count ≤ n
      → Points i c.gpr → c.gpr 4 ≡ rsp → Lanes n base size P i count c.memory sig → Framed numbers rsp c totals → AreAt one two op prefix live sig ts c ss → Bounded c → Stays c
      → (d : Core) × Line Q (sources_far_code one (is_some by || two) count size far (first_register ts) (second_register ts) ss) c d × Read by op prefix ss sig (first_register ts) (second_register ts) c d
  sources_line_by None one two i op prefix ss ts c live sig totals near counted known kept apart clear fits room wide ins w at stack h framed stand bound stays =
      sources_line one two i op prefix ss ts c live sig totals near known kept apart clear fits room wide ins w at stack h framed stand bound stays
  sources_line_by (Some m) one two i op prefix [] ts c live sig totals near counted known kept apart clear fits room wide ins w at stack h framed stand bound stays = absurd counted
  sources_line_by (Some m) one two i op prefix (s ∷ []) ts c live sig totals near counted known kept apart clear fits room wide ins w at stack h framed stand bound stays = absurd counted
  sources_line_by (Some m) one two i op prefix (s ∷ t ∷ more) ts c live sig totals near counted known kept apart clear fits room wide ins w at stack h framed stand bound stays =
      let a = first_register ts in
      let code = brought one (source_far_code count size far a s) in
      let x = bring_source one i s (size_of_source op 0) prefix a c live sig totals near.0 known.0 wide.0 w at stack h framed stand.0 (first_room op prefix s room) bound stays in
      let d = x.0 in
      let line : Line Q (code ++ []) c d = subst (λ l. Line Q l c d) (sym (append-nil code)) x.1 in
      let b = line_bounded Q (code ++ []) c d ins line bound in (
        d,
        line,
        record {
          memory = x.2.memory;
          gpr = x.2.gpr;
          others = λ y na nb. x.2.others y na;
          bounded = b;
          value = λ v e0 e1 q l p lp.
              ap (formula op (lane (size_of_source op 0) (q * prefix + p) (v 0))) (sym (number_given m (size_of_source op 1) (sig q) t p counted))
              ∙ first_value op prefix s live sig (v 0) known.0 (subst (InRegister (size_of_source op 0) prefix sig s) (sym e0) (x.2.lanes (b.xmm a))) q l p lp (fits q l p lp) (given_by numbers.number (size_of_source op 1) (sig q) t p);
        },
      )

  -- what a store of packed numbers leaves
  record Put (i k : ℕ) (v : ℕ → ℕ) (sig : ℕ → Local) (c d : Core) : Type 0 where
    gpr : (r : ℕ) → r ≢ 0 → d.gpr r ≡ c.gpr r
    xmm : d.xmm ≡ c.xmm
    lanes : Lanes n base size P i count d.memory (λ q. set_local n base size P (sig q) k (v q))
    others : Others n base size (OfDests P) i count c.memory d.memory

  store_cells : (i k w prefix x : ℕ) (g : ℕ → ℕ → ℕ) (c : Core) (sig : ℕ → Local) → IsTo n base size P k (w * prefix) → IsWidth (count * size k) → i + count ≤ n → Points i c.gpr → Lanes n base size P i count c.memory sig → Stays c
      → AreBytes (c.xmm x) → ((q : ℕ) → q < count → (p : ℕ) → p < prefix → lane w (q * prefix + p) (c.xmm x) ≡ g q p)
      → (d : Core) × Line Q (store_either_code (aligned k) (count * size k) x (pointer k) (far k)) c d × Put i k (λ q. pack (8 * w) prefix (g q)) sig c d
  store_cells i k w prefix x g c sig o wide fits at h stays bytes lanes =
      let b = w * prefix in
      let p = base k + i * size k in
      let v : ℕ → ℕ = λ q. pack (8 * w) prefix (g q) in
      let z : ℕ → ℕ = λ j. get_or (c.xmm x) j 0 in
      let there : (j : ℕ) → j < count * size k → IsMapped c.memory (p + j) = λ j l. ap is_some (each_byte i k b c.memory sig o.of h j l).2 in
      let s = store_either_line Q c (aligned k) (count * size k) x (pointer k) (far k) p (at k o.of.array o.of.some).1 (λ u ins m g t. stays u ins m g) wide (not_0 k) (at k o.of.array o.of.some).0 (near i k b o.of fits) there bytes in
      let d = s.0 in
      let numbers : (q r : ℕ) → q < count → r < size k → z (q * size k + r) ≡ digit (v q) r = λ q r l.
      subst (λ t. r < t → z (q * t + r) ≡ digit (v q) r) (sym o.of.bytes_are) (packed_bytes (c.xmm x) bytes w prefix q (g q) (lanes q l) r) in (
        d,
        s.1,
        record {
          gpr = s.2.gpr;
          xmm = s.2.xmm;
          lanes = store_lanes n base size P separate low i count c.memory d.memory sig k z v o.of.array o.of.some fits h s.2.memory numbers;
          others = store_others n base size (OfDests P) i count c.memory d.memory k z (o.of.array, o.dest) s.2.memory;
        },
      )

  -- registers a and b hold these numbers
  record Holds (op : Op) (prefix : ℕ) (g : ℕ → ℕ → ℕ × ℕ) (x : ℕ → List ℕ) (a b : ℕ) : Type 0 where
    bytes : (r : ℕ) → AreBytes (x r)
    first : (q : ℕ) → q < count → (p : ℕ) → p < prefix → lane (size_of_result op 0) (q * prefix + p) (x a) ≡ (g q p).0
    second : (q : ℕ) → q < count → (p : ℕ) → p < prefix → lane (size_of_result op 1) (q * prefix + p) (x b) ≡ (g q p).1

  abbrev pub packed : Op → ℕ → (ℕ → ℕ × ℕ) → ℕ × ℕ
  packed op prefix g = (pack (8 * size_of_result op 0) prefix (λ p. (g p).0), pack (8 * size_of_result op 1) prefix (λ p. (g p).1))

  -- what the rule and the stores of an action leave
  pub record Wrote (i : ℕ) (op : Op) (prefix : ℕ) (ts : List Target) (v : ℕ → ℕ × ℕ) (live : ℕ → ℕ) (sig : ℕ → Local) (totals : ℕ → ℕ) (first : Memory) (c d : Core) : Type 0 where
    pub gpr : (r : ℕ) → r ≢ 0 → d.gpr r ≡ c.gpr r
    pub lanes : Lanes n base size P i count d.memory (λ q. set_results n base size P (sig q) ts (v q))
    pub standing : Standing (live_targets live op prefix ts) (λ q. set_results n base size P (sig q) ts (v q)) d
    pub framed : Framed numbers rsp d (λ g. totals g + sum_below count (λ q. results_add ts (v q) g))
    pub others : Rest i first d.memory

  -- what holds while memory stands
  stay : (i : ℕ) (c : Core) (gpr : ℕ → ℕ) (first : Memory) → ((r : ℕ) → r ≢ 0 → c.gpr r ≡ gpr r) → Rest i first c.memory → Keeps i gpr first → Stays c
  stay i c gpr first e o keeps u ins m g = keeps u ins (λ r ne. g r ne ∙ e r ne) (λ v out sums. ap (λ f. f v) m ∙ o v out sums)

  rest_more : (i : ℕ) (first c d : Memory) → Rest i first c → Others n base size (OfDests P) i count c d → Rest i first d
  rest_more i first c d o x a m s = x a m ∙ o a m s

  -- stores to cells leave the frame
  frame_same : (i : ℕ) (c d : Memory) → i + count ≤ n → Others n base size (OfDests P) i count c d → (x : ℕ) → rsp ≤ x → x < rsp + frame_size → d x ≡ c x
  frame_same i c d w o x l u = o x (λ at. ground.apart at.0 at.1.0 (i + at.2) (omega (arith, at.3, w)) at.4 at.5 (subst (λ a. rsp ≤ a) at.6 l) (subst (λ a. a < rsp + frame_size) at.6 u))

  frame_kept : (i : ℕ) (c d : Core) (totals : ℕ → ℕ) → i + count ≤ n → Others n base size (OfDests P) i count c.memory d.memory → d.xmm ≡ c.xmm → Framed numbers rsp c totals → Framed numbers rsp d totals
  frame_kept i c d totals w o same = framed_same numbers rsp ground.frame c d totals (frame_same i c.memory d.memory w o) (λ g l. ap (λ x. x (resident_register g)) same)

  -- what a store of 16 bytes of the frame leaves that elements may change
  slot_stored : (i far : ℕ) (mem end : Memory) (z : ℕ → ℕ) (first : Memory) (sig : ℕ → Local) → far + 16 ≤ frame_size → ((b : ℕ) → b < 16 → InChanged rsp numbers.sums (rsp + far + b)) → i + count ≤ n → IsFill 16 mem (rsp + far) z end → Lanes n base size P i count mem sig → Rest i first mem
      → Lanes n base size P i count end sig × Rest i first end
  slot_stored i far mem end z first sig inside changed w f h o = (
    λ k hk q l r lr. f.outside (base k + (i + q) * size k + r) (λ j lj e. ground.apart k hk (i + q) (omega (arith, l, w)) r lr (omega (arith, e)) (omega (arith, e, lj, inside))) ∙ h k hk q l r lr,
    λ x m s. f.outside x (λ j lj e. s (subst (InChanged rsp numbers.sums) (sym e) (changed j lj))) ∙ o x m s,
  )

  nothing_added : (totals : ℕ → ℕ) (c : Core) (g : ℕ → ℕ → ℕ) → ((q h : ℕ) → g q h ≡ 0) → Framed numbers rsp c totals → Framed numbers rsp c (λ h. totals h + sum_below count (λ q. g q h))
  nothing_added totals c g none = framed_totals numbers rsp c totals (λ h. totals h + sum_below count (λ q. g q h)) (λ h. let e = sum_below-same count (λ q. g q h) (λ q. 0) (λ q l. none q h) ∙ no_sum count in omega (arith, e))

  -- ---- results that are no running sums

  -- a value is made at a place, and others stand where they stood
  made_at : (w prefix k : ℕ) (g : ℕ → ℕ → ℕ) (live : ℕ → ℕ) (sig : ℕ → Local) (d : Core) (y : List ℕ) → AreBytes y → ((q : ℕ) → q < count → (p : ℕ) → p < prefix → lane w (q * prefix + p) y ≡ g q p) → ((b : ℕ) → b < 16 → held rsp d k b ≡ Some (get_or y b 0))
      → (p : ℕ) → (p ≢ k → StandsAt live sig d p) → StandsAt (change live k (w * prefix)) (λ q. set_target n base size P (sig q) (ToPlace k) (pack (8 * w) prefix (g q))) d p
  made_at w prefix k g live sig d y bytes lanes made p stand = ⊎_elim here there (cases_eq p k)
    where
      value : ℕ → ℕ
      value q = pack (8 * w) prefix (g q)

      Here : ℕ → Type 0
      Here j = StandsAt (change live k (w * prefix)) (λ q. set_target n base size P (sig q) (ToPlace k) (value q)) d j

      at_place : Here k
      at_place q lq b lb within =
          let size_is : change live k (w * prefix) k ≡ w * prefix = change_same live k (w * prefix) in
          ap (λ n. held rsp d k (q * n + b)) size_is
          ∙ made (q * (w * prefix) + b) (subst (λ n. q * n + b < 16) size_is within)
          ∙ ap Some (packed_bytes y bytes w prefix q (g q) (lanes q lq) b (subst (λ n. b < n) size_is lb) ∙ ap (λ v. digit v b) (sym (change_same (sig q).values k (value q))))

      here : p ≡ k → Here p
      here e = subst Here (sym e) at_place

      there : p ≢ k → Here p
      there ne q lq b lb within =
          let size_is : change live k (w * prefix) p ≡ live p = change_other live k (w * prefix) p ne in
          ap (λ n. held rsp d p (q * n + b)) size_is
          ∙ stand ne q lq b (subst (λ n. b < n) size_is lb) (subst (λ n. q * n + b < 16) size_is within)
          ∙ ap (λ v. Some (digit v b)) (sym (change_other (sig q).values k (value q) p ne))

  -- what one result leaves: cells and spill slots are stored, and a value stands at its place; some places are left out
  record Result (i w prefix : ℕ) (t : Target) (g : ℕ → ℕ → ℕ) (live : ℕ → ℕ) (sig : ℕ → Local) (totals : ℕ → ℕ) (first : Memory) (Out : ℕ → Type 0) (c d : Core) : Type 0 where
    gpr : (r : ℕ) → r ≢ 0 → d.gpr r ≡ c.gpr r
    xmm : d.xmm ≡ c.xmm
    lanes : Lanes n base size P i count d.memory (λ q. set_target n base size P (sig q) t (pack (8 * w) prefix (g q)))
    standing : (p : ℕ) → p ≤ numbers.last → (Out p → ⊥) → StandsAt (live_target live t (w * prefix)) (λ q. set_target n base size P (sig q) t (pack (8 * w) prefix (g q))) d p
    framed : Framed numbers rsp d totals
    others : Rest i first d.memory

  result_line : (i w prefix x : ℕ) (t : Target) (g : ℕ → ℕ → ℕ) (c : Core) (first : Memory) (live : ℕ → ℕ) (sig : ℕ → Local) (totals : ℕ → ℕ) (Out : ℕ → Type 0) → x < 6 → IsMade n base size P numbers (w * prefix) t → IsMovedTo count size t → i + count ≤ n
      → Points i c.gpr → c.gpr 4 ≡ rsp → Lanes n base size P i count c.memory sig → Framed numbers rsp c totals → AreBytes (c.xmm (made_in x t)) → ((q : ℕ) → q < count → (p : ℕ) → p < prefix → lane w (q * prefix + p) (c.xmm (made_in x t)) ≡ g q p)
      → ((p : ℕ) → p ≤ numbers.last → (Out p → ⊥) → made_in x t ≢ place_register p → StandsAt live sig c p) → Rest i first c.memory → Keeps i c.gpr first
      → (d : Core) × Line Q (result_far_code count size far aligned x t) c d × Result i w prefix t g live sig totals first Out c d
  result_line i w prefix x (ToSum k) g c first live sig totals Out few known wide fits at stack h framed bytes lanes stand o keeps = absurd known
  result_line i w prefix x (ToResident k) g c first live sig totals Out few known wide fits at stack h framed bytes lanes stand o keeps = absurd known
  result_line i w prefix x (ToPlace k) g c first live sig totals Out few known wide fits at stack h framed bytes lanes stand o keeps = (
    c,
    refl,
    record {
      gpr = λ r ne. refl;
      xmm = refl;
      lanes = h;
      standing = λ p l out. made_at w prefix k g live sig c (c.xmm (place_register k)) bytes lanes (λ b lb. held_register rsp c k b known) p (λ ne. stand p l out (λ e. ne (omega (arith, e))));
      framed = framed;
      others = o;
    },
  )
  result_line i w prefix x (ToArray k) g c first live sig totals Out few known wide fits at stack h framed bytes lanes stand o keeps =
      let s = store_cells i k w prefix x g c sig known wide fits at h (stay i c c.gpr first (λ r ne. refl) o keeps) bytes lanes in
      let same = frame_same i c.memory s.0.memory fits s.2.others in (
        s.0,
        s.1,
        record {
          gpr = s.2.gpr;
          xmm = s.2.xmm;
          lanes = s.2.lanes;
          standing = λ p l out. still_there live sig c s.0 p l (ap (λ f. f (place_register p)) s.2.xmm) (λ x a u. same x (omega (arith, a)) u) (stand p l out (λ e. omega (arith, e, few)));
          framed = frame_kept i c s.0 totals fits s.2.others s.2.xmm framed;
          others = rest_more i first c.memory s.0.memory o s.2.others;
        },
      )
  result_line i w prefix x (ToSlot k) g c first live sig totals Out few known wide fits at stack h framed bytes lanes stand o keeps =
      let s = store_slot c x rsp (spill_slot k) stack (omega (arith, ground.frame.low, known)) (λ b lb. framed.worked (rsp + spill_slot k + b) (omega arith, omega (arith, known, lb))) in
      let d = s.0 in
      let z : ℕ → ℕ = λ b. get_or (c.xmm x) b 0 in
      let f : IsFill 16 c.memory (rsp + spill_slot k) z d.memory = s.4 in
      let kept = slot_stored i (spill_slot k) c.memory d.memory z first sig (omega (arith, known)) (λ b lb. inr (omega arith, omega (arith, known, lb))) fits f h o in
      let beside : (p : ℕ) → p ≢ slot_place k → (b : ℕ) → b < 16 → held rsp d p b ≡ held rsp c p b = λ p ne b lb.
      held_beside rsp c d p k b ne (ap (λ f. f (place_register p)) s.3) (λ j nj. f.outside (rsp + spill_slot j + b) (λ e le q. nj (omega (arith, q, lb, le)))) in (
        d,
        (stay i c c.gpr first (λ r ne. refl) o keeps c (VecStore Movdqu x (away 4 (spill_slot k))) refl (λ r ne. refl), (d, s.1, refl)),
        record {
          gpr = λ r ne. ap (λ f. f r) s.2;
          xmm = s.3;
          lanes = kept.0;
          standing = λ p l out. made_at w prefix (slot_place k) g live sig d (c.xmm x) bytes lanes (λ b lb. held_slot rsp d k b ∙ f.inside b lb) p (λ ne. still live sig c d p (beside p ne) (stand p l out (λ e. omega (arith, e, few))));
          framed = framed_spilled numbers rsp ground.frame c d totals k z f (λ g l. ap (λ x. x (resident_register g)) s.3) framed;
          others = kept.1;
        },
      )

  no_sum_added : (bytes : ℕ) (t : Target) (v g : ℕ) → IsMade n base size P numbers bytes t → adds_to t v g ≡ 0
  no_sum_added bytes (ToArray k) v g known = refl
  no_sum_added bytes (ToPlace k) v g known = refl
  no_sum_added bytes (ToSlot k) v g known = refl
  no_sum_added bytes (ToSum k) v g known = absurd known
  no_sum_added bytes (ToResident k) v g known = absurd known

  -- what a rule leaves, before its results are stored: the values at places in whose registers no result is made
  abbrev pub Remains : List Target → (ℕ → ℕ) → (ℕ → Local) → Core → Type 0
  Remains ts live sig c = (p : ℕ) → p ≤ numbers.last → first_register ts ≢ place_register p → second_register ts ≢ place_register p → StandsAt live sig c p

  one_result_line : (i : ℕ) (op : Op) (prefix : ℕ) (g : ℕ → ℕ → ℕ × ℕ) (t : Target) (c : Core) (first : Memory) (live : ℕ → ℕ) (sig : ℕ → Local) (totals : ℕ → ℕ) → IsMade n base size P numbers (size_of_result op 0 * prefix) t → IsMovedTo count size t → i + count ≤ n
      → Points i c.gpr → c.gpr 4 ≡ rsp → Lanes n base size P i count c.memory sig → Framed numbers rsp c totals → Holds op prefix g c.xmm (made_in 0 t) 1 → Remains (t ∷ []) live sig c → Rest i first c.memory → Keeps i c.gpr first
      → (d : Core) × Line Q (result_far_code count size far aligned 0 t) c d × Wrote i op prefix (t ∷ []) (λ q. packed op prefix (g q)) live sig totals first c d
  one_result_line i op prefix g t c first live sig totals known wide w at stack h framed holds remains o keeps =
      let x = result_line i (size_of_result op 0) prefix 0 t (λ q p. (g q p).0) c first live sig totals (λ p. ⊥) (omega arith) known wide w at stack h framed (holds.bytes (made_in 0 t)) holds.first (λ p l out ne. remains p l ne (λ e. omega (arith, e))) o keeps in (
        x.0,
        x.1,
        record {
          gpr = x.2.gpr;
          lanes = x.2.lanes;
          standing = λ p l. x.2.standing p l (λ z. z);
          framed = nothing_added totals x.0 (λ q h. adds_to t (packed op prefix (g q)).0 h) (λ q h. no_sum_added (size_of_result op 0 * prefix) t (packed op prefix (g q)).0 h known) x.2.framed;
          others = x.2.others;
        },
      )

  two_results_line : (i : ℕ) (op : Op) (prefix : ℕ) (g : ℕ → ℕ → ℕ × ℕ) (t u : Target) (more : List Target) (c : Core) (first : Memory) (live : ℕ → ℕ) (sig : ℕ → Local) (totals : ℕ → ℕ) → IsMade n base size P numbers (size_of_result op 0 * prefix) t → IsMade n base size P numbers (size_of_result op 1 * prefix) u
      → IsMovedTo count size t → IsMovedTo count size u → i + count ≤ n
      → Points i c.gpr → c.gpr 4 ≡ rsp → Lanes n base size P i count c.memory sig → Framed numbers rsp c totals → Holds op prefix g c.xmm (made_in 0 t) (made_in 1 u) → Remains (t ∷ u ∷ more) live sig c → Rest i first c.memory → Keeps i c.gpr first
      → (d : Core) × Line Q (result_far_code count size far aligned 0 t ++ result_far_code count size far aligned 1 u) c d × Wrote i op prefix (t ∷ u ∷ more) (λ q. packed op prefix (g q)) live sig totals first c d
  two_results_line i op prefix g t u more c first live sig totals known known' wide wide' w at stack h framed holds remains o keeps =
      let one = result_far_code count size far aligned 0 t in
      let two = result_far_code count size far aligned 1 u in
      let x = result_line i (size_of_result op 0) prefix 0 t (λ q p. (g q p).0) c first live sig totals (λ p. made_in 1 u ≡ place_register p) (omega arith) known wide w at stack h framed (holds.bytes (made_in 0 t)) holds.first (λ p l out ne. remains p l ne out) o keeps in
      let b = x.0 in
      let same : b.xmm (made_in 1 u) ≡ c.xmm (made_in 1 u) = ap (λ f. f (made_in 1 u)) x.2.xmm in
      let sig' : ℕ → Local = λ q. set_target n base size P (sig q) t (packed op prefix (g q)).0 in
      let y = result_line i (size_of_result op 1) prefix 1 u (λ q p. (g q p).1) b first (live_target live t (size_of_result op 0 * prefix)) sig' totals (λ p. ⊥) (omega arith) known' wide' w (λ j hj s. (ap (λ y. y + far j) (x.2.gpr (pointer j) (not_0 j)) ∙ (at j hj s).0, (at j hj s).1))
      (x.2.gpr 4 (λ e. omega (arith, e)) ∙ stack) x.2.lanes x.2.framed (subst AreBytes (sym same) (holds.bytes (made_in 1 u))) (λ q l p lp. ap (lane (size_of_result op 1) (q * prefix + p)) same ∙ holds.second q l p lp) (λ p l out ne. x.2.standing p l ne) x.2.others (λ v ins gs m. keeps v ins (λ r ne. gs r ne ∙ x.2.gpr r ne) m) in
      let d = y.0 in (
        d,
        line_append Q one two c b d x.1 y.1,
        record {
          gpr = λ r ne. y.2.gpr r ne ∙ x.2.gpr r ne;
          lanes = y.2.lanes;
          standing = λ p l. y.2.standing p l (λ z. z);
          framed = nothing_added totals d (λ q h. adds_to t (packed op prefix (g q)).0 h + adds_to u (packed op prefix (g q)).1 h) (λ q h. let a = no_sum_added (size_of_result op 0 * prefix) t (packed op prefix (g q)).0 h known in let b = no_sum_added (size_of_result op 1 * prefix) u (packed op prefix (g q)).1 h known' in omega (arith, a, b)) y.2.framed;
          others = y.2.others;
        },
      )

  -- a rule that computes leaves its results in the registers that they go to
  computed_line : (by : Option ℕ) (op : Op) (prefix : ℕ) (ss : List Source) (ts : List Target) (rule : List Ins) (c : Core) (live : ℕ → ℕ) (sig : ℕ → Local) → Meeting by op rule → first_register ts ≢ second_register ts → third_register ts ≡ 2 → IsClear numbers.last ts → Fits op prefix
      → Values by op prefix ss sig (λ r. c.xmm (rule_register ts r)) → Bounded c → Stays c → Remains ts live sig c
      → Line Q (map (renamed (rule_register ts)) rule) c (with_lanes c (after (map (renamed (rule_register ts)) rule) c.xmm))
      × Holds op prefix (λ q. made op (sig q) ss) (after (map (renamed (rule_register ts)) rule) c.xmm) (first_register ts) (second_register ts)
      × Remains ts live sig (with_lanes c (after (map (renamed (rule_register ts)) rule) c.xmm)) × SameSums numbers.last rsp c (with_lanes c (after (map (renamed (rule_register ts)) rule) c.xmm))
  computed_line by op prefix ss ts rule c live sig meets apart third clear fits value bound stays remains =
      let f : ℕ → ℕ = rule_register ts in
      let list = map (renamed f) rule in
      let x : ℕ → List ℕ = λ r. c.xmm (f r) in
      let turned : (r : ℕ) → after list c.xmm (f r) ≡ after rule x r = after_renamed f (register_one ts) rule c.xmm in
      let at_first : after list c.xmm (first_register ts) ≡ after rule x 0 = ap (after list c.xmm) (sym (register_0 ts)) ∙ turned 0 in
      let at_second : after list c.xmm (second_register ts) ≡ after rule x 1 = ap (after list c.xmm) (sym (register_1 ts apart)) ∙ turned 1 in
      let small : (r : ℕ) → AreBytes (x r) = λ r. bound.xmm (f r) in
      let same : (p : ℕ) → first_register ts ≢ place_register p → second_register ts ≢ place_register p → after list c.xmm (place_register p) ≡ c.xmm (place_register p) = λ p nf ns.
      let here : f (place_register p) ≡ place_register p = register_place ts p nf ns (λ e. omega (arith, e, third)) in
      ap (after list c.xmm) (sym here) ∙ turned (place_register p) ∙ meets.keeps x (place_register p) (omega arith) ∙ ap c.xmm here in (
        rule_line Q list (simd_renamed f rule ∙ meets.vectors) c (λ t ins gs fs ms. stays t ins ms (λ r ne. ap (λ g. g r) gs)),
        record {
          bytes = registers_after list c.xmm bound.xmm;
          first = λ q l p lp. ap (lane (size_of_result op 0) (q * prefix + p)) at_first ∙ meets.first x small (q * prefix + p) (fits q l p lp) ∙ ap (λ (z : ℕ × ℕ). z.0) (value q l p lp);
          second = λ q l p lp. ap (lane (size_of_result op 1) (q * prefix + p)) at_second ∙ meets.second x small (q * prefix + p) (fits q l p lp) ∙ ap (λ (z : ℕ × ℕ). z.1) (value q l p lp);
        },
        λ p l nf ns. still_there live sig c (with_lanes c (after list c.xmm)) p l (same p nf ns) (λ x a u. refl) (remains p l nf ns),
        λ g l. same (registers - (g + 1)) (clear g l).0 (clear g l).1,
      )

  -- ---- one running sum

  one_lane : (q k : ℕ) → k ≡ 1 → q * k + 0 ≡ q
  one_lane q k e = ap (λ k. q * k + 0) e ∙ (let z : q * 1 + 0 ≡ q = omega arith in z)

  one_pack : (w k : ℕ) (g : ℕ → ℕ) → k ≡ 1 → pack (8 * w) k g ≡ g 0
  one_pack w k g e = ap (λ k. pack (8 * w) k g) e ∙ ap (λ x. 0 + g 0 * 2 ^ x) (let z : 8 * w * 0 ≡ 0 = omega arith in z) ∙ (let z : 0 + g 0 * 1 ≡ g 0 = omega arith in z)

  same_results : (op : Op) (q : ℕ) (x y : ℕ → List ℕ) → x 0 ≡ y 0 → x 1 ≡ y 1 → results_at op q x ≡ results_at op q y
  same_results op q x y e f = ap₂ (λ s t. formula op (lane (size_of_source op 0) q s) (if is_shift (row op).kind then lane 8 0 t else lane (size_of_source op 1) q t)) e f

  -- what the elements add
  abbrev amount : Op → ℕ → List Source → (ℕ → Local) → ℕ
  amount op prefix ss sig = sum_below count (λ q. (packed op prefix (made op (sig q) ss)).0)

  amount_is : (op : Op) (prefix : ℕ) (ss : List Source) (sig : ℕ → Local) (x y : ℕ → List ℕ) → prefix ≡ 1 → y 0 ≡ x 0 → y 1 ≡ x 1 → Values None op prefix ss sig x → sum_below count (λ q. adds_number op q y) ≡ amount op prefix ss sig
  amount_is op prefix ss sig x y one e f value = sum_below-same count (λ q. adds_number op q y) (λ q. (packed op prefix (made op (sig q) ss)).0) (λ q l.
      ap (λ (z : ℕ × ℕ). z.0) (same_results op q y x e f ∙ ap (λ t. results_at op t x) (sym (one_lane q prefix one)) ∙ value q l 0 (omega (arith, one)))
      ∙ sym (one_pack (size_of_result op 0) prefix (λ p. (made op (sig q) ss p).0) one))

  abbrev load_sum : ℕ → Ins
  load_sum g = VecLoad Movdqu 2 (away 4 (sum_slot g))

  abbrev store_sum : ℕ → Ins
  store_sum g = VecStore Movdqu 2 (away 4 (sum_slot g))

  -- the sum after the rule
  grows : (op : Op) (prefix : ℕ) (ss : List Source) (sig : ℕ → Local) (rule : List Ins) (g : ℕ) (running : List ℕ) (x y : ℕ → List ℕ) → numbers.width g ≡ size_of_result op 0 → prefix ≡ 1 → AddsUp op count rule → Values None op prefix ss sig x
      → y 0 ≡ x 0 → y 1 ≡ x 1 → ((b : ℕ) → b < 16 → get_or (y 2) b 0 ≡ get_or running b 0) → ((r : ℕ) → AreBytes (y r))
      → cut (8 * numbers.width g) (sum_of (numbers.width g) (after rule y 2)) ≡ cut (8 * numbers.width g) (sum_of (numbers.width g) running + amount op prefix ss sig)
  grows op prefix ss sig rule g running x y width one adds value e f bytes small =
      let w = size_of_result op 0 in
      subst (λ w. cut (8 * w) (sum_of w (after rule y 2)) ≡ cut (8 * w) (sum_of w running + amount op prefix ss sig)) (sym width)
      (adds.grows y small ∙ ap₂ (λ s t. cut (8 * w) (s + t)) (same_sum w (y 2) running bytes) (amount_is op prefix ss sig x y one e f value))

  sum_low : (g : ℕ) → g < numbers.sums → rsp + sum_slot g + 16 < 2 ^ 63
  sum_low g l = omega (arith, ground.frame.low, ground.frame.few_sums, l)

  sum_line : (i : ℕ) (op : Op) (prefix : ℕ) (ss : List Source) (rule : List Ins) (g : ℕ) (c : Core) (first : Memory) (live : ℕ → ℕ) (sig : ℕ → Local) (totals : ℕ → ℕ) → g < numbers.sums → IsFramed numbers.last g → numbers.width g ≡ size_of_result op 0 → prefix ≡ 1 → AddsUp op count rule → i + count ≤ n
      → c.gpr 4 ≡ rsp → Lanes n base size P i count c.memory sig → Framed numbers rsp c totals → Standing live sig c → Values None op prefix ss sig c.xmm → Bounded c → Each IsIns (load_sum g ∷ []) → Rest i first c.memory → Keeps i c.gpr first
      → (d : Core) × Line Q (load_sum g ∷ (rule ++ store_sum g ∷ [])) c d × Wrote i op prefix (ToSum g ∷ []) (λ q. packed op prefix (made op (sig q) ss)) live sig totals first c d
  sum_line i op prefix ss rule g c first live sig totals lg slot width one adds w stack h framed stand value bound ins o keeps =
      let stays = stay i c c.gpr first (λ r ne. refl) o keeps in
      let held_sum : (b : ℕ) → b < 16 → c.memory (rsp + sum_slot g + b) ≡ Some (get_or (framed.running g) b 0) = λ b lb. sym (byte_slot numbers.last rsp c g b slot) ∙ framed.sums g lg b lb in
      let l = load_slot c 2 rsp (sum_slot g) (λ b. get_or (framed.running g) b 0) stack (sum_low g lg) held_sum in
      let b = l.0 in
      let in_c : Q c (load_sum g) = stays c (load_sum g) refl (λ r ne. refl) in
      let load : Line Q (load_sum g ∷ []) c b = (in_c, (b, l.1, refl)) in
      let bounded = line_bounded Q (load_sum g ∷ []) c b ins load bound in
      let gpr : (r : ℕ) → b.gpr r ≡ c.gpr r = λ r. ap (λ f. f r) l.2.gpr in
      let u : Core = with_lanes b (after rule b.xmm) in
      let line : Line Q rule b u = rule_line Q rule adds.vectors b (λ t ins gs fs ms. stays t ins (ms ∙ l.2.memory) (λ r ne. ap (λ f. f r) gs ∙ gpr r)) in
      let there : (j : ℕ) → j < 16 → IsMapped u.memory (rsp + sum_slot g + j) = λ j lj. ap (λ m. is_some (m (rsp + sum_slot g + j))) l.2.memory ∙ ap is_some (held_sum j lj) in
      let s = store_slot u 2 rsp (sum_slot g) (gpr 4 ∙ stack) (sum_low g lg) there in
      let d = s.0 in
      let f : IsFill 16 c.memory (rsp + sum_slot g) (λ j. get_or (after rule b.xmm 2) j 0) d.memory = subst (λ m. IsFill 16 m (rsp + sum_slot g) (λ j. get_or (after rule b.xmm 2) j 0) d.memory) l.2.memory s.4 in
      let few = ground.frame.few_sums in
      let kept = slot_stored i (sum_slot g) c.memory d.memory (λ j. get_or (after rule b.xmm 2) j 0) first sig (omega (arith, lg, few)) (λ j lj. inl (omega arith, omega (arith, lg, lj))) w f h o in
      let same : (p : ℕ) → d.xmm (place_register p) ≡ c.xmm (place_register p) = λ p. ap (λ f. f (place_register p)) s.3 ∙ adds.keeps b.xmm (place_register p) (omega arith) ∙ l.2.others (place_register p) (λ e. omega (arith, e)) in
      let beside : (k : ℕ) → k < numbers.sums → k ≢ g → (j : ℕ) → j < 16 → sum_byte numbers.last rsp d k j ≡ sum_byte numbers.last rsp c k j = λ k lk ne j lj.
      byte_same numbers.last rsp c d k j (λ r. same (registers - (k + 1))) (λ m. f.outside (rsp + sum_slot k + j) (λ q lq e. ne (omega (arith, e, lj, lq)))) in
      let grown = framed_grown numbers rsp ground.frame c d totals framed g (amount op prefix ss sig) lg (after rule b.xmm 2) (registers_after rule b.xmm bounded.xmm 2) (λ j lj. byte_slot numbers.last rsp d g j slot ∙ f.inside j lj) beside (λ k ne r. same (registers - (k + 1)))
      (λ y ly uy. f.outside y (λ j lj e. omega (arith, e, uy))) (λ y i. f.outside y (λ j lj e. let a = i.0 in omega (arith, e, lj, lg, few, a)))
      (grows op prefix ss sig rule g (framed.running g) c.xmm b.xmm width one adds value (l.2.others 0 (λ e. omega (arith, e))) (l.2.others 1 (λ e. omega (arith, e))) l.2.bytes bounded.xmm) in (
        d,
        (in_c, (b, l.1, line_append Q rule (store_sum g ∷ []) b u d line (stays u (store_sum g) l.2.memory (λ r ne. gpr r), (d, s.1, refl)))),
        record {
          gpr = λ r ne. ap (λ f. f r) s.2 ∙ gpr r;
          lanes = kept.0;
          standing = λ p lp. still_there live sig c d p lp (same p) (λ x a u. f.outside x (λ j lj e. omega (arith, a, e, lj, lg, few))) (stand p lp);
          framed = framed_totals numbers rsp d _ _ (λ k. ap (λ t. totals k + t) (adds_all count g k (λ q. (packed op prefix (made op (sig q) ss)).0))) grown;
          others = kept.1;
        },
      )

  -- a running sum that stands in a register: the rule adds to it there
  resident_line : (i : ℕ) (op : Op) (prefix : ℕ) (ss : List Source) (rule : List Ins) (g : ℕ) (c : Core) (first : Memory) (live : ℕ → ℕ) (sig : ℕ → Local) (totals : ℕ → ℕ) → g < numbers.sums → IsResident numbers.last g → numbers.width g ≡ size_of_result op 0 → prefix ≡ 1 → AddsUp op count rule
      → Lanes n base size P i count c.memory sig → Framed numbers rsp c totals → Standing live sig c → Values None op prefix ss sig c.xmm → Bounded c → Rest i first c.memory → Keeps i c.gpr first
      → (d : Core) × Line Q (map (renamed (rule_register (ToResident g ∷ []))) rule) c d × Wrote i op prefix (ToResident g ∷ []) (λ q. packed op prefix (made op (sig q) ss)) live sig totals first c d
  resident_line i op prefix ss rule g c first live sig totals lg register width one adds h framed stand value bound o keeps =
      let list = map (renamed (adding_register g)) rule in
      let new : ℕ → List ℕ = after list c.xmm in
      let d : Core = with_lanes c new in
      let y : ℕ → List ℕ = seen g rule c.xmm in
      let few = ground.frame.few_sums in
      let same : (r : ℕ) → 6 ≤ r → r ≢ resident_register g → new r ≡ c.xmm r = resident_kept g rule c.xmm adds.keeps in
      let held_sum : (b : ℕ) → b < 16 → get_or (y 2) b 0 ≡ get_or (framed.running g) b 0 = λ b lb.
      ap (λ r. get_or (c.xmm r) b 0) (resident_2 g) ∙ ap (or_else 0) (sym (byte_register numbers.last rsp c g b register) ∙ framed.sums g lg b lb) in
      let small : (r : ℕ) → AreBytes (y r) = λ r. bound.xmm (adding_register g r) in
      let more = grows op prefix ss sig rule g (framed.running g) c.xmm y width one adds value (ap c.xmm (resident_0 g)) (ap c.xmm (resident_1 g)) held_sum small in
      let at_home : new (resident_register g) ≡ after rule y 2 = resident_grown g rule c.xmm in
      let beside : (k : ℕ) → k < numbers.sums → k ≢ g → (j : ℕ) → j < 16 → sum_byte numbers.last rsp d k j ≡ sum_byte numbers.last rsp c k j = λ k lk ne j lj.
      byte_same numbers.last rsp c d k j (λ r. same (resident_register k) (omega arith) (λ e. ne (omega (arith, e, lk, lg, few)))) (λ m. refl) in
      let grown = framed_grown numbers rsp ground.frame c d totals framed g (amount op prefix ss sig) lg (after rule y 2) (registers_after rule y small 2)
      (λ j lj. byte_register numbers.last rsp d g j register ∙ ap (λ v. Some (get_or v j 0)) at_home) beside (λ k ne r. same (resident_register k) (omega arith) (λ e. ne (omega (arith, e, r, register)))) (λ y ly uy. refl) (λ y i. refl) more in (
        d,
        rule_line Q list (simd_renamed (adding_register g) rule ∙ adds.vectors) c (λ t ins gs fs ms. stay i c c.gpr first (λ r ne. refl) o keeps t ins ms (λ r ne. ap (λ f. f r) gs)),
        record {
          gpr = λ r ne. refl;
          lanes = h;
          standing = λ p lp. still_there live sig c d p lp (same (place_register p) (omega arith) (λ e. omega (arith, e, lp, register))) (λ x a u. refl) (stand p lp);
          framed = framed_totals numbers rsp d _ _ (λ k. ap (λ t. totals k + t) (adds_all count g k (λ q. (packed op prefix (made op (sig q) ss)).0))) grown;
          others = o;
        },
      )

  -- ---- an action

  abbrev Known : Option ℕ → Op → ℕ → List Source → List Target → (ℕ → Local) → (ℕ → List ℕ) → Type 0
  Known by op prefix ss ts sig y = (x : ℕ → List ℕ) → x 0 ≡ y (first_register ts) → x 1 ≡ y (second_register ts) → Values by op prefix ss sig x

  in_rule : (by : Option ℕ) (op : Op) (prefix : ℕ) (ss : List Source) (ts : List Target) (sig : ℕ → Local) (y : ℕ → List ℕ) → first_register ts ≢ second_register ts → Known by op prefix ss ts sig y → Values by op prefix ss sig (λ r. y (rule_register ts r))
  in_rule by op prefix ss ts sig y apart value = value (λ r. y (rule_register ts r)) (ap y (register_0 ts)) (ap y (register_1 ts apart))

  -- a rule that adds has no count in itself
  in_registers : (by : Option ℕ) → by ≡ None → (op : Op) (prefix : ℕ) (ss : List Source) (sig : ℕ → Local) (x : ℕ → List ℕ) → Values by op prefix ss sig x → Values None op prefix ss sig x
  in_registers by e op prefix ss sig x = subst (λ b. Values b op prefix ss sig x) e

  -- where a result is no running sum the rule's XMM2 keeps its name
  third_of : (bytes : ℕ) (t : Target) → IsMade n base size P numbers bytes t → sum_home t ≡ 2
  third_of bytes (ToArray k) o = refl
  third_of bytes (ToSum g) o = refl
  third_of bytes (ToResident g) o = absurd o
  third_of bytes (ToPlace p) o = refl
  third_of bytes (ToSlot k) o = refl

  -- the rule, and the store of one result
  one_finish : (i : ℕ) (by : Option ℕ) (op : Op) (prefix : ℕ) (ss : List Source) (rule : List Ins) (t : Target) (c : Core) (first : Memory) (live : ℕ → ℕ) (sig : ℕ → Local) (totals : ℕ → ℕ) → AreMade n base size P numbers op prefix (t ∷ []) → Meeting by op rule → made_in 0 t ≢ 1 → IsClear numbers.last (t ∷ []) → IsMovedTo count size t → Fits op prefix
      → i + count ≤ n → Points i c.gpr → c.gpr 4 ≡ rsp → Lanes n base size P i count c.memory sig → Framed numbers rsp c totals → Remains (t ∷ []) live sig c → Known by op prefix ss (t ∷ []) sig c.xmm → Bounded c → Rest i first c.memory → Keeps i c.gpr first
      → (d : Core) × Line Q (map (renamed (rule_register (t ∷ []))) rule ++ result_far_code count size far aligned 0 t) c d × Wrote i op prefix (t ∷ []) (λ q. packed op prefix (made op (sig q) ss)) live sig totals first c d
  one_finish i by op prefix ss rule t c first live sig totals known meets apart clear wide fits w at stack h framed remains value bound o keeps =
      let ts = t ∷ [] in
      let list = map (renamed (rule_register ts)) rule in
      let x = computed_line by op prefix ss ts rule c live sig meets apart (third_of (size_of_result op 0 * prefix) t known.0) clear fits (in_rule by op prefix ss ts sig c.xmm apart value) bound (stay i c c.gpr first (λ r ne. refl) o keeps) remains in
      let u : Core = with_lanes c (after list c.xmm) in
      let s = one_result_line i op prefix (λ q. made op (sig q) ss) t u first live sig totals known.0 wide w at stack h (framed_same numbers rsp ground.frame c u totals (λ y l m. refl) x.3 framed) x.1 x.2 o keeps in
      (s.0, line_append Q list (result_far_code count size far aligned 0 t) c u s.0 x.0 s.1, record { gpr = s.2.gpr; lanes = s.2.lanes; standing = s.2.standing; framed = s.2.framed; others = s.2.others })

  -- the same with two
  two_finish : (i : ℕ) (by : Option ℕ) (op : Op) (prefix : ℕ) (ss : List Source) (rule : List Ins) (t u : Target) (more : List Target) (c : Core) (first : Memory) (live : ℕ → ℕ) (sig : ℕ → Local) (totals : ℕ → ℕ) → AreMade n base size P numbers op prefix (t ∷ u ∷ more) → Meeting by op rule → made_in 0 t ≢ made_in 1 u → IsClear numbers.last (t ∷ u ∷ more)
      → IsMovedTo count size t → IsMovedTo count size u → Fits op prefix → i + count ≤ n → Points i c.gpr → c.gpr 4 ≡ rsp → Lanes n base size P i count c.memory sig → Framed numbers rsp c totals → Remains (t ∷ u ∷ more) live sig c → Known by op prefix ss (t ∷ u ∷ more) sig c.xmm → Bounded c → Rest i first c.memory → Keeps i c.gpr first
      → (d : Core) × Line Q (map (renamed (rule_register (t ∷ u ∷ more))) rule ++ (result_far_code count size far aligned 0 t ++ result_far_code count size far aligned 1 u)) c d × Wrote i op prefix (t ∷ u ∷ more) (λ q. packed op prefix (made op (sig q) ss)) live sig totals first c d
  two_finish i by op prefix ss rule t u more c first live sig totals known meets apart clear wide wide' fits w at stack h framed remains value bound o keeps =
      let ts = t ∷ u ∷ more in
      let list = map (renamed (rule_register ts)) rule in
      let stores = result_far_code count size far aligned 0 t ++ result_far_code count size far aligned 1 u in
      let x = computed_line by op prefix ss ts rule c live sig meets apart (third_of (size_of_result op 0 * prefix) t known.0) clear fits (in_rule by op prefix ss ts sig c.xmm apart value) bound (stay i c c.gpr first (λ r ne. refl) o keeps) remains in
      let v : Core = with_lanes c (after list c.xmm) in
      let s = two_results_line i op prefix (λ q. made op (sig q) ss) t u more v first live sig totals known.0 known.2 wide wide' w at stack h (framed_same numbers rsp ground.frame c v totals (λ y l m. refl) x.3 framed) x.1 x.2 o keeps in
      (s.0, line_append Q list stores c v s.0 x.0 s.1, record { gpr = s.2.gpr; lanes = s.2.lanes; standing = s.2.standing; framed = s.2.framed; others = s.2.others })

  pub finish_line : (i : ℕ) (by : Option ℕ) (op : Op) (prefix : ℕ) (ss : List Source) (rule : List Ins) (ts : List Target) (c : Core) (first : Memory) (live : ℕ → ℕ) (sig : ℕ → Local) (totals : ℕ → ℕ) → AreTo n base size P numbers op prefix ts → IsRule count op by rule → first_register ts ≢ second_register ts → Each (TargetWithin numbers.last) ts → Each (IsMovedTo count size) ts → Fits op prefix
      → Each IsIns (sum_code ts) → i + count ≤ n → Points i c.gpr → c.gpr 4 ≡ rsp → Lanes n base size P i count c.memory sig → Framed numbers rsp c totals → Remains ts live sig c
      → ((x : ℕ → List ℕ) → x 0 ≡ c.xmm (first_register ts) → x 1 ≡ c.xmm (second_register ts) → Values by op prefix ss sig x) → Bounded c → Rest i first c.memory → Keeps i c.gpr first
      → (d : Core) × Line Q (sum_code ts ++ (map (renamed (rule_register ts)) rule ++ results_far_code count size far aligned ts)) c d × Wrote i op prefix ts (λ q. packed op prefix (made op (sig q) ss)) live sig totals first c d
  finish_line i by op prefix ss rule [] c first live sig totals known is apart within wide fits ins w at stack h framed remains value bound o keeps = absurd known
  finish_line i by op prefix ss rule (ToSum g ∷ []) c first live sig totals known is apart within wide fits ins w at stack h framed remains value bound o keeps =
      sum_line i op prefix ss (map (renamed (rule_register (ToSum g ∷ []))) rule) g c first live sig totals known.0 within.0 known.2 known.3 (adds_renamed g op count rule (is.adds known.1).1) w stack h framed (λ p l. remains p l (λ e. omega (arith, e)) (λ e. omega (arith, e))) (in_registers by (is.adds known.1).0 op prefix ss sig c.xmm (value c.xmm refl refl)) bound ins o keeps
  finish_line i by op prefix ss rule (ToResident g ∷ []) c first live sig totals known is apart within wide fits ins w at stack h framed remains value bound o keeps =
      resident_end g (resident_line i op prefix ss rule g c first live sig totals known.0 within.0 known.2 known.3 (is.adds known.1).1 h framed (λ p l. remains p l (λ e. omega (arith, e)) (λ e. omega (arith, e))) (in_registers by (is.adds known.1).0 op prefix ss sig c.xmm (value c.xmm refl refl)) bound o keeps)
    where
      resident_end : (g : ℕ) → (d : Core) × Line Q (map (renamed (rule_register (ToResident g ∷ []))) rule) c d × Wrote i op prefix (ToResident g ∷ []) (λ q. packed op prefix (made op (sig q) ss)) live sig totals first c d
          → (d : Core) × Line Q (map (renamed (rule_register (ToResident g ∷ []))) rule ++ []) c d × Wrote i op prefix (ToResident g ∷ []) (λ q. packed op prefix (made op (sig q) ss)) live sig totals first c d
      resident_end g x = (x.0, subst (λ l. Line Q l c x.0) (sym (append-nil (map (renamed (rule_register (ToResident g ∷ []))) rule))) x.1, x.2)
  finish_line i by op prefix ss rule (ToArray k ∷ []) c first live sig totals known is apart within wide fits ins w at stack h framed remains value bound o keeps =
      one_finish i by op prefix ss rule (ToArray k) c first live sig totals known (meeting by op rule (is.meets known.1)) apart (clear_of numbers.last (ToArray k ∷ []) within) wide.0 fits w at stack h framed remains value bound o keeps
  finish_line i by op prefix ss rule (ToPlace p ∷ []) c first live sig totals known is apart within wide fits ins w at stack h framed remains value bound o keeps =
      one_finish i by op prefix ss rule (ToPlace p) c first live sig totals known (meeting by op rule (is.meets known.1)) apart (clear_of numbers.last (ToPlace p ∷ []) within) wide.0 fits w at stack h framed remains value bound o keeps
  finish_line i by op prefix ss rule (ToSlot k ∷ []) c first live sig totals known is apart within wide fits ins w at stack h framed remains value bound o keeps =
      one_finish i by op prefix ss rule (ToSlot k) c first live sig totals known (meeting by op rule (is.meets known.1)) apart (clear_of numbers.last (ToSlot k ∷ []) within) wide.0 fits w at stack h framed remains value bound o keeps
  finish_line i by op prefix ss rule (ToSum g ∷ t ∷ more) c first live sig totals known is apart within wide fits ins w at stack h framed remains value bound o keeps = absurd known.0
  finish_line i by op prefix ss rule (ToResident g ∷ t ∷ more) c first live sig totals known is apart within wide fits ins w at stack h framed remains value bound o keeps = absurd known.0
  finish_line i by op prefix ss rule (ToArray k ∷ u ∷ more) c first live sig totals known is apart within wide fits ins w at stack h framed remains value bound o keeps =
      two_finish i by op prefix ss rule (ToArray k) u more c first live sig totals known (meeting by op rule (is.meets known.1)) apart (clear_of numbers.last (ToArray k ∷ u ∷ more) within) wide.0 wide.1.0 fits w at stack h framed remains value bound o keeps
  finish_line i by op prefix ss rule (ToPlace p ∷ u ∷ more) c first live sig totals known is apart within wide fits ins w at stack h framed remains value bound o keeps =
      two_finish i by op prefix ss rule (ToPlace p) u more c first live sig totals known (meeting by op rule (is.meets known.1)) apart (clear_of numbers.last (ToPlace p ∷ u ∷ more) within) wide.0 wide.1.0 fits w at stack h framed remains value bound o keeps
  finish_line i by op prefix ss rule (ToSlot k ∷ u ∷ more) c first live sig totals known is apart within wide fits ins w at stack h framed remains value bound o keeps =
      two_finish i by op prefix ss rule (ToSlot k) u more c first live sig totals known (meeting by op rule (is.meets known.1)) apart (clear_of numbers.last (ToSlot k ∷ u ∷ more) within) wide.0 wide.1.0 fits w at stack h framed remains value bound o keeps

  -- what an action adds to the totals
  abbrev pub Grown : List Action → (ℕ → Local) → (ℕ → ℕ) → ℕ → ℕ
  Grown actions sig totals g = totals g + sum_below count (λ q. adds n base size P numbers actions (sig q) g)

  abbrev pub GrownBy : Action → (ℕ → Local) → (ℕ → ℕ) → ℕ → ℕ
  GrownBy a sig totals g = totals g + sum_below count (λ q. results_add a.to (value_of n base size P numbers a (sig q)) g)

  pub room_of : (a : Action) → count * a.prefix * widest a.op ≤ 16 → Room a.op a.prefix
  room_of a h = record { first = within (size_of_source a.op 0) (first_width a.op); second = λ plain. within (size_of_source a.op 1) (second_width a.op plain) }
    where
      within : (w : ℕ) → w ≤ widest a.op → count * (w * a.prefix) ≤ 16
      within w l =
          let m : count * a.prefix * w ≤ count * a.prefix * widest a.op = mul-le-mul_left (count * a.prefix) l in
          let e : count * (w * a.prefix) ≡ count * a.prefix * w = omega arith in
          omega (arith, m, e, h)

  -- one whose sources are no far load's values
  pub action_line : (i : ℕ) (a : Action) (c : Core) (first : Memory) (live less : ℕ → ℕ) (sig : ℕ → Local) (totals : ℕ → ℕ) → AreNear a.sources → IsKnown n base size P numbers live a → IsFit count size a → Each IsIns (action_far_code count size far aligned a) → i + count ≤ n → Points i c.gpr → c.gpr 4 ≡ rsp
      → Lanes n base size P i count c.memory sig → Framed numbers rsp c totals → AreAt a.takes_first a.takes_second a.op a.prefix live sig a.to c a.sources → Remains a.to less sig c
      → Bounded c → Rest i first c.memory → Keeps i c.gpr first → (d : Core) × Line Q (action_far_code count size far aligned a) c d × After i c d first (live_act less a) (λ q. local_act n base size P numbers a (sig q)) (GrownBy a sig totals)
  action_line i a c first live less sig totals near known fit ins_a w at stack h framed there remains bound o keeps =
      let loads = sources_far_code a.takes_first (spares_second a) count size far (first_register a.to) (second_register a.to) a.sources in
      let rest = sum_code a.to ++ (rule_code a ++ results_far_code count size far aligned a.to) in
      let stays = stay i c c.gpr first (λ r ne. refl) o keeps in
      let fits : Fits a.op a.prefix = λ q l p lp. lane_fits (q * a.prefix + p) (count * a.prefix) (widest a.op) (byte_within q count a.prefix p l lp) fit.lanes in
      let clear = clear_of numbers.last a.to known.to_within in
      let x = sources_line_by a.by a.takes_first a.takes_second i a.op a.prefix a.sources a.to c live sig totals near known.counted known.sources known.kept known.apart clear fits (room_of a fit.lanes) fit.sources (each_front IsIns loads rest ins_a) w at stack h framed there bound stays in
      let e = x.0 in
      let g = x.2 in
      let s = finish_line i a.by a.op a.prefix a.sources a.rule a.to e first less sig totals known.to fit.rule known.apart known.to_within fit.to fits
      (each_front IsIns (sum_code a.to) (rule_code a ++ results_far_code count size far aligned a.to) (each_back IsIns loads rest ins_a)) w (λ k hk t. (ap (λ y. y + far k) (g.gpr (pointer k) (not_0 k)) ∙ (at k hk t).0, (at k hk t).1)) (g.gpr 4 (λ z. omega (arith, z)) ∙ stack)
      (λ k hk q l r lr. ap (λ f. f (base k + (i + q) * size k + r)) g.memory ∙ h k hk q l r lr) (framed_same numbers rsp ground.frame c e totals (λ y l u. ap (λ f. f y) g.memory) (λ k l. g.others (resident_register k) (λ z. (clear k l).0 (sym z)) (λ z. (clear k l).1 (sym z))) framed)
      (λ p l nf ns. still_there less sig c e p l (g.others (place_register p) (λ z. nf (sym z)) (λ z. ns (sym z))) (λ x a u. ap (λ f. f x) g.memory) (remains p l nf ns)) g.value g.bounded
      (λ v out sums. ap (λ f. f v) g.memory ∙ o v out sums) (λ t ins gs m. keeps t ins (λ r ne. gs r ne ∙ g.gpr r ne) m) in
      let d = s.0 in
      let line : Line Q (action_far_code count size far aligned a) c d = line_append Q loads rest c e d x.1 s.1 in (
        d,
        line,
        record {
          gpr = λ r ne. s.2.gpr r ne ∙ g.gpr r ne;
          lanes = s.2.lanes;
          standing = s.2.standing;
          framed = s.2.framed;
          others = s.2.others;
          bounded = line_bounded Q (action_far_code count size far aligned a) c d ins_a line bound;
        },
      )

  pub grown_on : (a : Action) (rest : List Action) (sig : ℕ → Local) (totals : ℕ → ℕ) (g : ℕ) → Grown rest (λ q. local_act n base size P numbers a (sig q)) (GrownBy a sig totals) g ≡ Grown (a ∷ rest) sig totals g
  grown_on a rest sig totals g =
      let x : ℕ → ℕ = λ q. results_add a.to (value_of n base size P numbers a (sig q)) g in
      let y : ℕ → ℕ = λ q. adds n base size P numbers rest (local_act n base size P numbers a (sig q)) g in
      (let z : totals g + sum_below count x + sum_below count y ≡ totals g + (sum_below count x + sum_below count y) = omega arith in z) ∙ ap (λ t. totals g + t) (sum_both count x y)

  pub no_growth : (totals : ℕ → ℕ) (g : ℕ) → totals g ≡ totals g + sum_below count (λ q. 0)
  no_growth totals g = let e = no_sum count in omega (arith, e)
