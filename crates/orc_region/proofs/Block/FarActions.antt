-- An action whose source is a far load's values does so many elements at once as emulation does them one by one.
use Rattle.std.proofs.Common.{◌≡◌, ◌≢◌, ℕ, zero, suc, ◌+◌, ◌*◌, ◌/◌, ◌%◌, ◌^◌, ◌<◌, ◌≤◌, ◌==◌, ◌⊎◌, ℤ, pos, Bool, true, false, if◌then◌else◌, List, [], ◌∷◌, ◌++◌, length, map, get_or, Option, Some, None, is_some, refl, sym, ap, ap₂, ◌∙◌, subst, arith, inl, inr, ⊎_elim}
use Rattle.std.proofs.lemmas.Bool.{eqb-true}
use Rattle.std.proofs.Math.Nat.{mod-eq_of_lt}
use Rattle.orc_bits.specs.Numbers.{cut}
use Rattle.orc_bits.specs.Lanes.{lane, AreBytes, change}
use Rattle.orc_bits.specs.Memory.{Memory, word, IsMapped}
use Rattle.orc_bits.proofs.LaneLaws.{change_other, change_same, lane-lt, lane-same, pow256}
use Rattle.orc_ops.specs.declared.far.Far.{Far}
use Rattle.orc_ops.specs.Far.{far_size}
use Rattle.orc_ops.specs.Formula.{formula}
use Rattle.orc_ops.specs.Table.{size_of_source}
use Rattle.orc_program.specs.Meaning.{sub_lane}
use Rattle.sse_laws.specs.Meets.{widest}
use Rattle.x86_ins.specs.declared.ins.Ins.{Ins}
use Rattle.x86_ins.specs.declared.ins.Ins.TheVariants.{Vec}
use Rattle.x86_ins.specs.declared.ins.VecOp.TheVariants.{Movdqa}
use Rattle.x86_ins.specs.Machine.{Core, Bounded, moved, with_lanes}
use Rattle.x86_ins.specs.Spelling.{IsIns}
use Rattle.x86_ins.specs.Vectors.{shape, result_of}
use Rattle.x86_ins.specs.Way.{Each}
use Rattle.x86_flow.specs.Does.{Line}
use Rattle.x86_flow.specs.Moves.{IsWidth}
use Rattle.x86_flow.proofs.Frame.{word_same}
use Rattle.x86_flow.proofs.Moves.{line_append}
use Rattle.x86_flow.proofs.Plans.{line_map}
use Rattle.orc_frame.specs.Layout.{pattern_slot, row_slot, block_slot, index_slot, work_slot, spill_slot, frame_size}
use Rattle.orc_frame.specs.Parts.{Between, InChanged, InWorked}
use Rattle.orc_resample.specs.declared.turn.FarSource.{FarSource}
use Rattle.orc_resample.specs.Bring.{IsSpare, InWords, InOwn, AtHand, OnTurn}
use Rattle.orc_resample.specs.Code.{bring_code}
use Rattle.orc_resample.specs.Ready.{AmongCells, InWord, IsRead, value_at}
use Rattle.orc_resample.specs.Ready.{Source as Reading}
use Rattle.orc_resample.proofs.Values.{value_kept, value_scalars, reads_scalars}
use Rattle.orc_region.specs.Code.{Action, spares_second, Source, FromFar, pointer, place_register, resident_register, first_register, second_register, rule_code, far_source, from_zero_code, sources_far_code, sum_code, results_far_code, action_far_code}
use Rattle.orc_region.proofs.Arithmetic.Digits.{digit, byte_within}
use Rattle.orc_region.proofs.Block.Actions.{Ground, IsFit, IsMovedFrom, After, Points, Remains, InRegister, Values, Fits, GrownBy, lane_fits, second_is, no_lane, copied_byte, first_value, still_there, finish_line}
use Rattle.orc_region.proofs.Block.Cells.{Numbers, OfDests, Local, Lanes, AtElements, AreFrom, IsCounted, IsKnown, live_act, local_act}
use Rattle.orc_region.proofs.Block.Far.{kept_low, far_brings}
use Rattle.orc_region.proofs.Block.Fars.{scalar_in, far_at, IsFarFrom, InFars, FarGround, FarRow, FarValues, TouchesFar}
use Rattle.orc_region.proofs.Block.FarWords.{pattern_word}
use Rattle.orc_region.proofs.Block.Frames.{Framed, framed_below}
use Rattle.orc_region.proofs.Block.Keeping.{line_bounded, each_front, each_back}
use Rattle.orc_region.proofs.Block.Registers.{not_0}
use Rattle.orc_region.proofs.Block.Sums.{clear_of}
use Rattle.orc_region.proofs.Block.Touched.{near_sources_code, near_action_code, line_with, width_few}
use Rattle.orc_region.proofs.Checked.Sized.{one_shift}

-- ---- what far loads read, for some of a row's elements and for all

module _ (base : ℕ → ℕ) (numbers : Numbers) where
  pub fars_wide : (i count n : ℕ) → i + count ≤ n → (x : ℕ) → InFars base numbers i count x → InFars base numbers 0 n x
  fars_wide i count n w x h =
      let m = h.4 in
      let l = m.1 in
      let e : i + m.0 ≡ 0 + (i + m.0) = omega arith in
      (h.0, h.1, h.2, h.3, (i + m.0, omega (arith, l, w), (m.2.0, subst (λ t. IsRead h.0 (far_at numbers base h.1 h.2 0) t m.2.0) e m.2.1, m.2.2)))

  pub fars_one : (load : Far) (k : ℕ) (js : List ℕ) → numbers.far load k js → (i count q : ℕ) → q < count → (x : ℕ) → AmongCells load 1 (far_at numbers base k js (i + q)) x → InFars base numbers i count x
  fars_one load k js h i count q l x m =
      let one = m.1 in
      let e : i + q + m.0 ≡ i + q = omega (arith, one) in
      (load, k, js, h, (q, l, (m.2.0, subst (λ t. IsRead load (far_at numbers base k js i) t m.2.0) e m.2.1, m.2.2)))

-- what far loads' code finds in the frame stands where its words and what is read do
pub row_kept : (n : ℕ) (base size : ℕ → ℕ) (P : ℕ → Type 0) (numbers : Numbers) (rsp : ℕ) → FarGround n base size P numbers rsp → rsp + frame_size ≤ 2 ^ 47 → (rdi : ℕ) (mem end : Memory)
    → ((x : ℕ) → rsp + row_slot 0 ≤ x → x < rsp + block_slot + 8 → end x ≡ mem x) → ((x : ℕ) → InFars base numbers 0 n x → end x ≡ mem x) → FarRow n base numbers rsp rdi mem → FarRow n base numbers rsp rdi end
row_kept n base size P numbers rsp fars low rdi mem end words cells h = record {
  bases = λ load k js f. (let l = (fars.from load k js f).slot.1 in word_same end mem (rsp + row_slot k) (omega (arith, low, l)) (λ x a b. words x (omega (arith, a)) (omega (arith, b, l)))) ∙ h.bases load k js f;
  block = λ load k js f. word_same end mem (rsp + block_slot) (omega (arith, low)) (λ x a b. words x (omega (arith, a)) b) ∙ h.block load k js f;
  mapped = λ x f. subst (λ v. is_some v ≡ true) (sym (cells x f)) (h.mapped x f);
}

-- ---- values in a register

-- a value alone in its lane
in_lane : (w prefix v p q : ℕ) (x : List ℕ) → prefix ≡ 1 → p < prefix → v < 2 ^ (8 * w) → lane w q x ≡ v → lane w (q * prefix + p) x ≡ sub_lane (8 * w) v p
in_lane w prefix v p q x one l small e =
    let z : p ≡ 0 = omega (arith, one, l) in
    let r : q * 1 + 0 ≡ q = omega arith in
    let none : 8 * w * 0 ≡ 0 = omega arith in
    let whole : v / 1 ≡ v = omega arith in
    ap (λ t. lane w t x) (ap₂ (λ a b. q * a + b) one z ∙ r) ∙ e
    ∙ sym (ap (λ t. v / 2 ^ (8 * w * t) % 2 ^ (8 * w)) z ∙ ap (λ t. v / 2 ^ t % 2 ^ (8 * w)) none ∙ ap (λ t. t % 2 ^ (8 * w)) whole ∙ mod-eq_of_lt small)

-- what stands in XMM0 goes on to register x
record Went (x : ℕ) (c d : Core) : Type 0 where
  gpr : d.gpr ≡ c.gpr
  memory : d.memory ≡ c.memory
  others : (y : ℕ) → y ≢ x → d.xmm y ≡ c.xmm y
  bytes : (j : ℕ) → j < 16 → get_or (d.xmm x) j 0 ≡ get_or (c.xmm 0) j 0

from_zero_line : (Q : Core → Ins → Type 0) (x : ℕ) (c : Core) → AreBytes (c.xmm 0) → Q c (Vec Movdqa x 0) → (d : Core) × Line Q (from_zero_code x) c d × Went x c d
from_zero_line Q x c bytes here = go (x == 0) refl
  where
    go : (b : Bool) → (x == 0) ≡ b → (d : Core) × Line Q (if b then [] else Vec Movdqa x 0 ∷ []) c d × Went x c d
    go true e = (c, refl, record { gpr = refl; memory = refl; others = λ y ne. refl; bytes = λ j l. ap (λ r. get_or (c.xmm r) j 0) (eqb-true x 0 e) })
    go false e =
        let new = result_of (shape Movdqa) (c.xmm x) (c.xmm 0) in
        let d : Core = with_lanes c (change c.xmm x new) in (
          d,
          (here, (d, refl, refl)),
          record {
            gpr = refl;
            memory = refl;
            others = λ y ne. change_other c.xmm x new y ne;
            bytes = λ j l. ap (λ v. get_or v j 0) (change_same c.xmm x new) ∙ copied_byte (c.xmm x) (c.xmm 0) bytes j l;
          },
        )

-- ---- words of the frame

in_word : (rsp d x : ℕ) → rsp + 2048 ≤ 2 ^ 47 → d + 8 ≤ 2048 → InWord (moved rsp (pos d)) x → (rsp + d ≤ x) × (x < rsp + d + 8)
in_word rsp d x low h w =
    let l = w.1 in
    let e : x ≡ ((rsp + d) % 2 ^ 64 + w.0) % 2 ^ 64 = w.2 in
    (omega (arith, low, h, l, e), omega (arith, low, h, l, e))

few_patterns : (numbers : Numbers) → numbers.patterns ≤ 48 → (js : List ℕ) → Each (λ j. (j < numbers.patterns) × (numbers.period j ≡ 4)) js → Each (λ j. j < 48) js
few_patterns numbers few [] h = tt
few_patterns numbers few (j ∷ js) h = ((let l = h.0.0 in omega (arith, l, few)), few_patterns numbers few js h.1)

-- one source is no count
no_count : (n : ℕ) (base size : ℕ → ℕ) (P : ℕ → Type 0) (numbers : Numbers) (by : Option ℕ) (s : Source) → IsCounted n base size P numbers by (s ∷ []) → by ≡ None
no_count n base size P numbers None s h = refl
no_count n base size P numbers (Some m) s h = absurd h

-- ---- an action

module _ (n : ℕ) (base size : ℕ → ℕ) (P : ℕ → Type 0) (numbers : Numbers) (rsp : ℕ) (ground : Ground n base size P numbers rsp) (far : ℕ → ℕ) (aligned : ℕ → Bool) (count : ℕ) (some : 0 < count) where
  -- outside dests' cells of these elements and what they change in the frame memory is as at first
  abbrev pub Stood : ℕ → Memory → Memory → Type 0
  Stood i first mem = (a : ℕ) → (AtElements n base size (OfDests P) i count a → ⊥) → (InChanged rsp numbers.sums a → ⊥) → mem a ≡ first a

  -- what is known at each step but for those of far loads' code: there the general registers but RAX stand too
  abbrev pub Near : ℕ → (ℕ → ℕ) → Memory → Core → Ins → Type 0
  Near i gpr first u ins = ((r : ℕ) → r ≢ 0 → u.gpr r ≡ gpr r) × Stood i first u.memory

  -- at each step: of those instructions G holds, and those of far loads' code touch the frame and elements that are read
  abbrev pub Step : (Ins → Type 0) → ℕ → (ℕ → ℕ) → Memory → Core → Ins → Type 0
  Step G i gpr first u ins = (Near i gpr first u ins × G ins) ⊎ ((u.gpr 4 ≡ gpr 4) × Stood i first u.memory × TouchesFar base numbers rsp i count u ins)

  -- what far loads' code finds for these elements
  pub record Fetching (i : ℕ) (gpr : ℕ → ℕ) (first : Memory) (sig : ℕ → Local) : Type 0 where
    pub row : FarRow n base numbers rsp (gpr 7) first
    pub values : FarValues base numbers i count first sig
    pub pointers : (load : Far) (k : ℕ) (js : List ℕ) → numbers.far load k js → (gpr (pointer k) + far k) % 2 ^ 64 ≡ (base k + i * size k) % 2 ^ 64

  in_frame : (x : ℕ) → InChanged rsp numbers.sums x → (rsp ≤ x) × (x < rsp + frame_size)
  in_frame x h = ⊎_elim (λ a. (let low = a.0 in omega (arith, low), (let high = a.1 in let few = ground.frame.few_sums in omega (arith, high, few)))) (λ a. (let low = a.0 in omega (arith, low), a.1)) h

  -- the words in which far loads' code works
  abbrev pub Waits : ℕ → Type 0
  Waits = Between (rsp + index_slot) (rsp + spill_slot 0)

  waits_worked : (x : ℕ) → Waits x → InWorked rsp x
  waits_worked x h = (h.0, let u = h.1 in omega (arith, u))

  -- cells lie outside the frame
  cell_frame : (i : ℕ) → i + count ≤ n → (x : ℕ) → rsp ≤ x → x < rsp + frame_size → AtElements n base size (OfDests P) i count x → ⊥
  cell_frame i w x l u at = ground.apart at.0 at.1.0 (i + at.2) (let m = at.3 in omega (arith, m, w)) at.4 at.5 (subst (λ a. rsp ≤ a) at.6 l) (subst (λ a. a < rsp + frame_size) at.6 u)

  module _ (fars : FarGround n base size P numbers rsp) (few : n < 2 ^ 31) where
    -- what is read stays
    pub fars_stand : (i : ℕ) → i + count ≤ n → (first mem : Memory) → Stood i first mem → (x : ℕ) → InFars base numbers i count x → mem x ≡ first x
    fars_stand i w first mem o x h =
        let row = fars_wide base numbers i count n w x h in
        o x (λ at. fars.dests x row at.0 at.1 (i + at.2) (let m = at.3 in omega (arith, m, w)) at.4 at.5 at.6) (λ s. let f = in_frame x s in fars.frame x row f.0 f.1)

    module _ (i : ℕ) (w : i + count ≤ n) (c : Core) (first : Memory) (sig : ℕ → Local) (totals : ℕ → ℕ) (stack : c.gpr 4 ≡ rsp) (fetch : Fetching i c.gpr first sig) (o : Stood i first c.memory) (framed : Framed numbers rsp c totals) (bound : Bounded c)
        (load : Far) (k : ℕ) (js : List ℕ) (h : numbers.far load k js) where
      abbrev source : FarSource
      source = far_source (far k) load k js

      known : IsFarFrom numbers size load k js
      known = fars.from load k js h

      room : c.gpr 4 + 2048 ≤ 2 ^ 47
      room = (let low = ground.frame.low in omega (arith, stack, low))

      patterns : Each (λ j. j < 48) js
      patterns = few_patterns numbers ground.frame.few_patterns js known.patterns

      -- ---- the scalars' words

      frame_at : (d : ℕ) → d + 8 ≤ 2048 → (c.gpr 4 + d) % 2 ^ 64 ≡ rsp + d
      frame_at d l = omega (arith, room, stack, l)

      scalar_word : (js : List ℕ) → Each (λ j. (j < numbers.patterns) × (numbers.period j ≡ 4)) js → (at : ℕ) → (v : ℕ) × (cut 32 v ≡ cut 32 (scalar_in numbers js at)) × (at < length js → word c.memory (moved (c.gpr 4) (get_or (map (λ j. pos (pattern_slot j)) js) at (pos 0))) ≡ Some v)
      scalar_word [] hs at = (0, refl, λ l. absurd (omega (arith, l)))
      scalar_word (j ∷ js) hs zero =
          let few_all = ground.frame.few_patterns in
          let l = hs.0.0 in
          let low = ground.frame.low in
          let x = pattern_word c.memory (rsp + pattern_slot j) (numbers.number j) (omega (arith, low, l, few_all)) (λ b lb. framed.patterns j l b lb ∙ ap (λ p. Some (digit (numbers.number j) (b % p))) hs.0.1) in
          (x.0, x.2, λ m. ap (word c.memory) (frame_at (pattern_slot j) (omega (arith, l, few_all))) ∙ x.1)
      scalar_word (j ∷ js) hs (suc at) = let x = scalar_word js hs.1 at in (x.0, x.1, λ l. x.2 (omega (arith, l)))

      abbrev p : (v : ℕ) × (cut 32 v ≡ cut 32 (scalar_in numbers js 0)) × (0 < length js → word c.memory (moved (c.gpr 4) (get_or (map (λ j. pos (pattern_slot j)) js) 0 (pos 0))) ≡ Some v)
      p = scalar_word js known.patterns 0

      abbrev q : (v : ℕ) × (cut 32 v ≡ cut 32 (scalar_in numbers js 1)) × (1 < length js → word c.memory (moved (c.gpr 4) (get_or (map (λ j. pos (pattern_slot j)) js) 1 (pos 0))) ≡ Some v)
      q = scalar_word js known.patterns 1

      abbrev s : Reading
      s = record { first = i; p = p.0; q = q.0; base = base k }

      among : (x : ℕ) → AmongCells load count s x → InFars base numbers i count x
      among x m = (load, k, js, h, (m.0, m.1, (m.2.0, reads_scalars load s (far_at numbers base k js i) (λ l. p.1) (λ l. q.1) (i + m.0) m.2.0 m.2.1, m.2.2)))

      -- ---- the frame's words

      row_word : (d : ℕ) → 832 ≤ d → d + 8 ≤ index_slot → word c.memory (moved (c.gpr 4) (pos d)) ≡ word first (rsp + d)
      row_word d l u =
          let low = ground.frame.low in
          let sums = ground.frame.few_sums in
          ap (word c.memory) (frame_at d (omega (arith, u)))
          ∙ word_same c.memory first (rsp + d) (omega (arith, low, u)) (λ x a b. o x (cell_frame i w x (omega (arith, a)) (omega (arith, b, u))) (λ t. ⊎_elim (λ y. let z = y.1 in omega (arith, z, a, l, sums)) (λ y. let z = y.0 in omega (arith, z, b, u)) t))

      spare_waits : (x : ℕ) → InWords (IsSpare source) (c.gpr 4) x → Waits x
      spare_waits x m = ⊎_elim (λ e. at_slot index_slot (omega arith) (omega arith) e) (λ e. at_slot work_slot (omega arith) (omega arith) e) m.1
        where
          at_slot : (d : ℕ) → index_slot ≤ d → d + 8 ≤ 1024 → m.0 ≡ pos d → Waits x
          at_slot d l u e = (let y = in_word (c.gpr 4) d x room (omega (arith, u)) (subst (λ (z : ℤ). InWord (moved (c.gpr 4) z) x) e m.2) in let a = y.0 in let b = y.1 in (omega (arith, a, l, stack), omega (arith, b, u, stack)))

      spare_worked : (x : ℕ) → InWords (IsSpare source) (c.gpr 4) x → InWorked rsp x
      spare_worked x m = waits_worked x (spare_waits x m)

      own_frame : (x : ℕ) → InOwn source c x → (rsp ≤ x) × (x < rsp + frame_size)
      own_frame x (inl m) = (let y = spare_waits x m in let a = y.0 in let b = y.1 in (omega (arith, a), omega (arith, b)))
      own_frame x (inr m) =
          let z = kept_low (far k) load k js known.slot.1 patterns known.count m.0 m.1 in
          let l = z.1 in
          let y = in_word (c.gpr 4) z.0 x room (omega (arith, l)) (subst (λ (t : ℤ). InWord (moved (c.gpr 4) t) x) z.2 m.2) in
          let a = y.0 in
          let b = y.1 in
          (omega (arith, a, stack), omega (arith, b, l, stack))

      at_hand : AtHand count source s c
      at_hand = record {
        bounded = bound;
        frame = room;
        pointer = fetch.pointers load k js h ∙ ap (λ z. (base k + i * z) % 2 ^ 64) known.size_is;
        last = omega (arith, w, few);
        block = row_word block_slot (omega arith) (omega arith) ∙ fetch.row.block load k js h;
        array = row_word (row_slot k) (omega arith) (let l = known.slot.1 in omega (arith, l)) ∙ fetch.row.bases load k js h;
        first_scalar = λ l. p.2 (omega (arith, l, known.count));
        second_scalar = λ l. q.2 (omega (arith, l, known.count));
        mapped = λ x m. let a = among x m in subst (λ v. is_some v ≡ true) (sym (fars_stand i w first c.memory o x a)) (fetch.row.mapped x (fars_wide base numbers i count n w x a));
        spare = λ x m. framed.worked x (spare_worked x m);
        apart = λ x m t. let y = spare_waits x m in let a = y.0 in let b = y.1 in fars.frame x (fars_wide base numbers i count n w x (among x t)) (omega (arith, a)) (omega (arith, b));
      }

      -- ---- what the code does

      value_is : (j : ℕ) → j < count → value_at load s c.memory (i + j) ≡ (sig j).fars load k js
      value_is j l =
          let t = far_at numbers base k js (i + j) in
          value_scalars load s t refl (λ l. p.1) (λ l. q.1) c.memory (i + j)
          ∙ value_kept load t c.memory first (i + j) (λ x m. fars_stand i w first c.memory o x (fars_one base numbers load k js h i count j l x m))
          ∙ sym (fetch.values load k js h j l).1

      far_step : (G : Ins → Type 0) (u : Core) (ins : Ins) → OnTurn count source s c u ins → Step G i c.gpr first u ins
      far_step G u ins t = inr (
        t.0.stack,
        λ a m e. t.0.memory a (λ z. e (inr (spare_worked a z))) ∙ o a m e,
        (λ x y. ⊎_elim (λ a. let f = own_frame x a.1 in inl (a.0, f.0, f.1)) (λ a. inr (a.0, among x a.1)) (t.1 x y), t.2),
      )

      -- its values stand in register x
      pub record Fetched (x : ℕ) (d : Core) : Type 0 where
        pub gpr : (r : ℕ) → r ≢ 0 → d.gpr r ≡ c.gpr r
        pub memory : (a : ℕ) → (Waits a → ⊥) → d.memory a ≡ c.memory a
        pub mapped : (a : ℕ) → IsMapped c.memory a → IsMapped d.memory a
        pub others : (y : ℕ) → 6 ≤ y → y ≢ x → d.xmm y ≡ c.xmm y
        pub values : (j : ℕ) → j < count → lane (far_size load) j (d.xmm x) ≡ (sig j).fars load k js

      pub fetch_line : (G : Ins → Type 0) (x : ℕ) → IsWidth (count * far_size load) → Each IsIns (bring_code source count) → Each G (from_zero_code x) → (d : Core) × Line (Step G i c.gpr first) (bring_code source count ++ from_zero_code x) c d × Fetched x d
      fetch_line G x width ins goes =
          let code = bring_code source count in
          let b = far_brings (far k) load k js known.slot.1 patterns known.count count width ins s c at_hand in
          let u = b.0 in
          let g = b.2 in
          let first_line : Line (Step G i c.gpr first) code c u = line_map (OnTurn count source s c) (Step G i c.gpr first) (far_step G) code c u b.1 in
          let kept : (a : ℕ) → (Waits a → ⊥) → u.memory a ≡ c.memory a = λ a m. g.stays.memory a (λ z. m (spare_waits a z)) in
          let near : Near i c.gpr first u (Vec Movdqa x 0) = (g.gpr, λ a m e. kept a (λ z. e (inr (waits_worked a z))) ∙ o a m e) in
          let z = from_zero_line (Near i c.gpr first) x u (g.bounded.xmm 0) near in
          let d = z.0 in
          let second_line : Line (Step G i c.gpr first) (from_zero_code x) u d = line_with (Near i c.gpr first) (Step G i c.gpr first) G (λ v m t y. inl (t, y)) (from_zero_code x) goes u d z.1 in
          let most : count * far_size load ≤ 16 = width_few (count * far_size load) width in (
            d,
            line_append (Step G i c.gpr first) code (from_zero_code x) c u d first_line second_line,
            record {
              gpr = λ r ne. ap (λ f. f r) z.2.gpr ∙ g.gpr r ne;
              memory = λ a m. ap (λ f. f a) z.2.memory ∙ kept a m;
              mapped = λ a m. subst (λ f. IsMapped f a) (sym z.2.memory) (g.stays.mapped a m);
              others = λ y l ne. z.2.others y ne ∙ g.stays.xmm y l;
              values = λ j l. lane-same (d.xmm x) (u.xmm 0) (far_size load) j (λ b lb. let within = byte_within j count (far_size load) b l lb in z.2.bytes (j * far_size load + b) (omega (arith, within, most))) ∙ g.values j l ∙ value_is j l;
            },
          )

    -- ---- all of the action

    pub far_action_line : (G : Ins → Type 0) (i : ℕ) (a : Action) (load : Far) (k : ℕ) (js : List ℕ) (c : Core) (first : Memory) (live less : ℕ → ℕ) (sig : ℕ → Local) (totals : ℕ → ℕ) → a.sources ≡ FromFar load k js ∷ [] → a.takes_first ≡ false → IsKnown n base size P numbers live a → IsFit count size a → Each IsIns (action_far_code count size far aligned a)
        → Each G (near_action_code count size far aligned a) → i + count ≤ n → Points n base size P numbers rsp ground (Near i c.gpr first) far aligned count some i c.gpr → c.gpr 4 ≡ rsp → Lanes n base size P i count c.memory sig → Framed numbers rsp c totals → Remains n base size P numbers rsp ground (Near i c.gpr first) far aligned count some a.to less sig c
        → Bounded c → Stood i first c.memory → Fetching i c.gpr first sig
        → (d : Core) × Line (Step G i c.gpr first) (action_far_code count size far aligned a) c d × After n base size P numbers rsp ground (Near i c.gpr first) far aligned count some i c d first (live_act less a) (λ q. local_act n base size P numbers a (sig q)) (GrownBy n base size P numbers rsp ground (Near i c.gpr first) far aligned count some a sig totals)
    far_action_line G i a load k js c first live less sig totals from takes known fit ins_a goes w at stack lanes framed remains bound o fetch =
        let Q = Near i c.gpr first in
        let S = Step G i c.gpr first in
        let x = first_register a.to in
        let y = second_register a.to in
        let bring = bring_code (far_source (far k) load k js) count in
        let loads = bring ++ from_zero_code x in
        let rest = sum_code a.to ++ (rule_code a ++ results_far_code count size far aligned a.to) in
        let loads_are : sources_far_code a.takes_first (spares_second a) count size far x y a.sources ≡ loads = ap₂ (λ b ss. sources_far_code b (spares_second a) count size far x y ss) takes from in
        let near_are : near_sources_code a.takes_first (spares_second a) count size far x y a.sources ≡ from_zero_code x = ap₂ (λ b ss. near_sources_code b (spares_second a) count size far x y ss) takes from in
        let ins : Each IsIns (loads ++ rest) = subst (λ l. Each IsIns (l ++ rest)) loads_are ins_a in
        let goes_all : Each G (from_zero_code x ++ rest) = subst (λ l. Each G (l ++ rest)) near_are goes in
        let sources : AreFrom n base size P numbers live a.op a.prefix (FromFar load k js ∷ []) = subst (AreFrom n base size P numbers live a.op a.prefix) from known.sources in
        let h = sources.0.0 in
        let size_is : size_of_source a.op 0 ≡ far_size load = sources.0.1 in
        let one : a.prefix ≡ 1 = sources.0.2 in
        let width : IsWidth (count * far_size load) = (subst (Each (IsMovedFrom count size)) from fit.sources).0 in
        let none : a.by ≡ None = no_count n base size P numbers a.by (FromFar load k js) (subst (IsCounted n base size P numbers a.by) from known.counted) in
        let fits : Fits n base size P numbers rsp ground Q far aligned count some a.op a.prefix = λ q l p lp. lane_fits (q * a.prefix + p) (count * a.prefix) (widest a.op) (byte_within q count a.prefix p l lp) fit.lanes in
        let clear = clear_of numbers.last a.to known.to_within in
        let f = fetch_line i w c first sig totals stack fetch o framed bound load k js h G x width (each_front IsIns bring (from_zero_code x) (each_front IsIns loads rest ins)) (each_front G (from_zero_code x) rest goes_all) in
        let e = f.0 in
        let g = f.2 in
        let bounded : Bounded e = line_bounded S loads c e (each_front IsIns loads rest ins) f.1 bound in
        let small : (q : ℕ) → q < count → (sig q).fars load k js < 2 ^ (8 * far_size load) = λ q l. subst (λ m. (sig q).fars load k js < m) (pow256 (far_size load)) (subst (λ v. v < 256 ^ far_size load) (g.values q l) (lane-lt (e.xmm x) (bounded.xmm x) (far_size load) q)) in
        let held : InRegister n base size P numbers rsp ground Q far aligned count some (size_of_source a.op 0) a.prefix sig (FromFar load k js) (e.xmm x) = λ q l p lp.
        subst (λ v. lane v (q * a.prefix + p) (e.xmm x) ≡ sub_lane (8 * v) ((sig q).fars load k js) p) (sym size_is) (in_lane (far_size load) a.prefix ((sig q).fars load k js) p q (e.xmm x) one lp (small q l) (g.values q l)) in
        let value : (v : ℕ → List ℕ) → v 0 ≡ e.xmm x → v 1 ≡ e.xmm y → Values n base size P numbers rsp ground Q far aligned count some a.by a.op a.prefix a.sources sig v = λ v e0 e1.
        subst (λ ss. Values n base size P numbers rsp ground Q far aligned count some a.by a.op a.prefix ss sig v) (sym from)
        (subst (λ b. Values n base size P numbers rsp ground Q far aligned count some b a.op a.prefix (FromFar load k js ∷ []) sig v) (sym none)
        (λ q l p lp. ap (formula a.op (lane (size_of_source a.op 0) (q * a.prefix + p) (v 0))) (second_is a.op (q * a.prefix + p) v (one_shift a.op sources.1) ∙ no_lane (v 1) (size_of_source a.op 1) (q * a.prefix + p) sources.1)
        ∙ first_value n base size P numbers rsp ground Q far aligned count some a.op a.prefix (FromFar load k js) live sig (v 0) sources.0 (subst (InRegister n base size P numbers rsp ground Q far aligned count some (size_of_source a.op 0) a.prefix sig (FromFar load k js)) (sym e0) held) q l p lp (fits q l p lp) 0)) in
        let outside : (z : ℕ) → (Waits z → ⊥) → e.memory z ≡ c.memory z = g.memory in
        let lanes_e : Lanes n base size P i count e.memory sig = λ j hj q l r lr.
        outside (base j + (i + q) * size j + r) (λ z. let lz = z.0 in let uz = z.1 in ground.apart j hj (i + q) (omega (arith, l, w)) r lr (omega (arith, lz)) (omega (arith, uz))) ∙ lanes j hj q l r lr in
        let framed_e : Framed numbers rsp e totals = framed_below numbers rsp ground.frame c e totals (λ z l u. outside z (λ t. let lt = t.0 in omega (arith, lt, u))) (λ z t m. g.mapped z m) (λ j l. g.others (resident_register j) (omega arith) (λ z. (clear j l).0 (sym z))) framed in
        let remains_e : Remains n base size P numbers rsp ground Q far aligned count some a.to less sig e = λ p l nf ns.
        still_there n base size P numbers rsp ground Q far aligned count some less sig c e p l (g.others (place_register p) (omega arith) (λ z. nf (sym z))) (λ z lz u. outside z (λ t. let ut = t.1 in omega (arith, lz, ut))) (remains p l nf ns) in
        let s = finish_line n base size P numbers rsp ground Q far aligned count some i a.by a.op a.prefix a.sources a.rule a.to e first less sig totals known.to fit.rule known.apart known.to_within fit.to fits
        (each_front IsIns (sum_code a.to) (rule_code a ++ results_far_code count size far aligned a.to) (each_back IsIns loads rest ins)) w (λ j hj t. (ap (λ v. v + far j) (g.gpr (pointer j) (not_0 j)) ∙ (at j hj t).0, (at j hj t).1)) (g.gpr 4 (λ z. omega (arith, z)) ∙ stack)
        lanes_e framed_e remains_e value bounded (λ v out sums. outside v (λ z. sums (inr (waits_worked v z))) ∙ o v out sums) (λ t u gs m. (λ r ne. gs r ne ∙ g.gpr r ne, m)) in
        let d = s.0 in
        let finish : Line S rest e d = line_with Q S G (λ u m t y. inl (t, y)) rest (each_back G (from_zero_code x) rest goes_all) e d s.1 in
        let line : Line S (action_far_code count size far aligned a) c d = subst (λ l. Line S (l ++ rest) c d) (sym loads_are) (line_append S loads rest c e d f.1 finish) in (
          d,
          line,
          record {
            gpr = λ r ne. s.2.gpr r ne ∙ g.gpr r ne;
            lanes = s.2.lanes;
            standing = s.2.standing;
            framed = s.2.framed;
            others = s.2.others;
            bounded = line_bounded S (action_far_code count size far aligned a) c d ins_a line bound;
          },
        )
