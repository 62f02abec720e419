-- A turn does so many elements: a block, and the pointers and the counter go on.
use Rattle.std.proofs.Common.{◌≡◌, ◌≢◌, ℕ, zero, suc, ◌+◌, ◌-◌, ◌*◌, ◌%◌, ◌^◌, ◌<◌, ◌≤◌, Bool, true, false, pos, List, [], ◌∷◌, ◌++◌, suc-mul, Some, is_some, refl, sym, ap, ◌∙◌, subst, arith, ◌⊎◌, inl, inr, ⊎_elim}
use Rattle.std.proofs.Math.Nat.{add-mul, mul_assoc}
use Rattle.std.proofs.lemmas.Bool.{cases_eq}
use Rattle.orc_bits.specs.Memory.{Memory, IsMapped}
use Rattle.orc_bits.proofs.LaneLaws.{change_other, change_same}
use Rattle.orc_bits.proofs.Memories.{mapped_value, or_else}
use Rattle.orc_ops.specs.declared.far.Far.{Far}
use Rattle.x86_ins.specs.declared.ins.AluOp.TheVariants.{Add, Sub}
use Rattle.x86_ins.specs.declared.ins.Ins.{Ins}
use Rattle.x86_ins.specs.declared.ins.Ins.TheVariants.{AluImm}
use Rattle.x86_ins.specs.Machine.{Core, Bounded, span, alu_core, alu_result}
use Rattle.x86_ins.specs.Spelling.{IsIns}
use Rattle.x86_ins.specs.Way.{Each}
use Rattle.orc_bits.specs.Numbers.{wrap}
use Rattle.x86_flow.specs.Does.{Line}
use Rattle.x86_flow.proofs.Moves.{line_append}
use Rattle.x86_flow.proofs.Touching.{touches_none}
use Rattle.x86_flow.proofs.Plans.{line_map}
use Rattle.orc_frame.specs.Layout.{frame_size}
use Rattle.orc_frame.specs.Parts.{InChanged}
use Rattle.orc_resample.specs.Ready.{AmongCells, value_at}
use Rattle.orc_resample.proofs.Values.{value_kept}
use Rattle.orc_region.specs.Code.{Plan, Action, AreBlocks, IsBlocksTurn, pointer, resident_register, far_by, own_names, action_far_code, actions_far_code, advance_code}
use Rattle.orc_region.proofs.Block.Registers.{not_0, not_1, not_4, not_7, pointer_one}
use Rattle.sse_acc.specs.Sums.{sum_below}
use Rattle.orc_region.proofs.Block.Cells.{Numbers, OfDests, Local, no_values, Lanes, Others, AtElements, AllKnown, Decided, Low, local, adds, elements_or_not, same_end}
use Rattle.orc_region.proofs.Block.Frames.{Framed, framed_same}
use Rattle.orc_region.proofs.Arithmetic.Digits.{number_of, digit_of}
use Rattle.orc_region.proofs.Block.Keeping.{line_bounded}
use Rattle.orc_region.proofs.Row.Counters.{Tested}
use Rattle.orc_region.proofs.Block.Actions.{IsFit, Ground}
use Rattle.orc_region.proofs.Block.FarActions.{Step, Fetching, fars_wide, fars_one, row_kept}
use Rattle.orc_region.proofs.Block.Fars.{far_at, InFars, HasByte, FarGround, FarRow, FarValues}
use Rattle.orc_region.proofs.Block.Named.{named_line}
use Rattle.orc_region.proofs.Block.Names.{own_permutes, own_name}
use Rattle.orc_region.proofs.Block.Taken.{AllTaken}
use Rattle.orc_region.proofs.Block.Touched.{TouchesTurn, Goes, goes_renamed, actions_go, goes_touch}

-- pointers of so many slots from a first one go on, and nothing else
pub record Advanced (size : ℕ → ℕ) (count first m : ℕ) (c d : Core) : Type 0 where
  pub moved : (k : ℕ) → first ≤ k → k < first + m → d.gpr (pointer k) ≡ (c.gpr (pointer k) + count * size k) % 2 ^ 64
  pub others : (r : ℕ) → ((k : ℕ) → first ≤ k → k < first + m → r ≢ pointer k) → d.gpr r ≡ c.gpr r
  pub memory : d.memory ≡ c.memory
  pub xmm : d.xmm ≡ c.xmm

module _ (Q : Core → Ins → Type 0) (size : ℕ → ℕ) (count : ℕ) where
  pub advance_line : (first m : ℕ) (c : Core) → ((u : Core) (i : Ins) → u.memory ≡ c.memory → u.gpr 4 ≡ c.gpr 4 → (span i u).1 ≡ 0 → Q u i) → (d : Core) × Line Q (advance_code size count first m) c d × Advanced size count first m c d
  advance_line first zero c keeps = (c, refl, record { moved = λ k l h. absurd (omega (arith, l, h)); others = λ r h. refl; memory = refl; xmm = refl })
  advance_line first (suc m) c keeps =
      let a = advance_line first m c keeps in
      let b = a.0 in
      let g = a.2 in
      let r = pointer (first + m) in
      let v = count * size (first + m) in
      let new = alu_result Add (b.gpr r) (wrap 64 (pos v)) in
      let d : Core = alu_core Add b r (wrap 64 (pos v)) in
      let calm : Q b (AluImm Add r (pos v)) = keeps b _ g.memory (g.others 4 (λ k l h e. not_4 k (sym e))) refl in
      let step : Line Q (AluImm Add r (pos v) ∷ []) b d = (calm, (d, refl, refl)) in
      let same : b.gpr r ≡ c.gpr r = g.others r (λ k l h e. omega (arith, pointer_one (first + m) k e, h)) in
      let new_is : new ≡ (c.gpr r + v) % 2 ^ 64 = omega (arith, same) in
      let go : (k : ℕ) → first ≤ k → k < first + suc m → (k ≡ first + m) ⊎ (k ≢ first + m) → d.gpr (pointer k) ≡ (c.gpr (pointer k) + count * size k) % 2 ^ 64 = λ k l h.
      ⊎_elim (λ e. subst (λ t. d.gpr (pointer t) ≡ (c.gpr (pointer t) + count * size t) % 2 ^ 64) (sym e) (change_same b.gpr r new ∙ new_is))
      (λ ne. change_other b.gpr r new (pointer k) (λ e. ne (pointer_one k (first + m) e)) ∙ g.moved k l (omega (arith, h, ne))) in (
        d,
        line_append Q (advance_code size count first m) (AluImm Add r (pos v) ∷ []) c b d a.1 step,
        record {
          moved = λ k l h. go k l h (cases_eq k (first + m));
          others = λ x h. change_other b.gpr r new x (h (first + m) (omega arith) (omega arith)) ∙ g.others x (λ k l s. h k l (omega (arith, s)));
          memory = g.memory;
          xmm = g.xmm;
        },
      )

abbrev pub IsSlot : ℕ → ℕ → ℕ → Type 0
IsSlot dests sources k = (k < dests) ⊎ ((4 ≤ k) × (k < 4 + sources))

-- what a block needs of arrays, of the frame, of emulation and of the code's plan; RSP is `rsp`
pub record Setting (n : ℕ) (base : ℕ → ℕ) (P : ℕ → Type 0) (numbers : Numbers) (rsp : ℕ) (p : Plan) (Emul : ℕ → Memory → (ℕ → ℕ) → Type 0) (F : ℕ → Type 0) : Type 0 where
  pub ground : Ground n base p.size P numbers rsp
  pub decided : Decided n base p.size P
  pub slots : (k : ℕ) → P k → IsSlot p.dests p.sources k
  pub known : AllKnown n base p.size P numbers no_values p.actions
  pub taken : AllTaken p.actions
  pub few_dests : p.dests ≤ 4
  pub few_sources : p.sources ≤ 8
  pub few : n < 2 ^ 31
  -- memory and the totals of running sums after i elements, and what more of them do
  pub emulates : (i : ℕ) (mem : Memory) (totals : ℕ → ℕ) (sig : ℕ → Local) → Emul i mem totals → (c : ℕ) → i + c ≤ n → Lanes n base p.size P i c mem sig → FarValues base numbers i c mem sig
      → (end : Memory) × Emul (c + i) end (λ g. totals g + sum_below c (λ q. adds n base p.size P numbers p.actions (sig q) g)) × Lanes n base p.size P i c end (λ q. local n base p.size P numbers p.actions (sig q)) × Others n base p.size P i c mem end
  -- F are the addresses where the code's memory need not agree with emulation's: no cells, and all running sums and spill slots
  pub apart : (k : ℕ) → P k → (i : ℕ) → i < n → (r : ℕ) → r < p.size k → F (base k + i * p.size k + r) → ⊥
  pub changed : (a : ℕ) → InChanged rsp numbers.sums a → F a
  -- what far loads read; F has none of it
  pub fars : FarGround n base p.size P numbers rsp
  pub fars_apart : (a : ℕ) → InFars base numbers 0 n a → F a → ⊥
  pub far_slots : (load : Far) (k : ℕ) (js : List ℕ) → numbers.far load k js → IsSlot p.dests p.sources k

module _ (n : ℕ) (base : ℕ → ℕ) (P : ℕ → Type 0) (numbers : Numbers) (rsp : ℕ) (p : Plan) (Emul : ℕ → Memory → (ℕ → ℕ) → Type 0) (F : ℕ → Type 0) (set : Setting n base P numbers rsp p Emul F) where
  -- the address of a byte of an element of the slots with D
  abbrev pub IsCellOf : (ℕ → Type 0) → ℕ → Type 0
  IsCellOf D a = (k : ℕ) × D k × (i : ℕ) × (i < n) × (r : ℕ) × (r < p.size k) × (a ≡ base k + i * p.size k + r)

  abbrev pub IsCell : ℕ → Type 0
  IsCell = IsCellOf P

  abbrev pub IsDestCell : ℕ → Type 0
  IsDestCell = IsCellOf (OfDests P)

  slot_small : (k : ℕ) → P k → k < 12
  slot_small k h = ⊎_elim (λ l. omega (arith, l, set.few_dests)) (λ l. omega (arith, l.1, set.few_sources)) (set.slots k h)

  -- rdi is the value of RDI, and `mem` is the memory before the first turn
  module _ (rdi : ℕ) (mem : Memory) where
    -- what holds at each step
    pub record Calm (c : Core) : Type 0 where
      pub stack : c.gpr 4 ≡ rsp
      pub quiet : (a : ℕ) → (IsDestCell a → ⊥) → (InChanged rsp numbers.sums a → ⊥) → c.memory a ≡ mem a

    -- what the frame has for far loads' code stands
    pub row_now : (c : Core) → Calm c → FarRow n base numbers rsp rdi mem → FarRow n base numbers rsp rdi c.memory
    row_now c h = row_kept n base p.size P numbers rsp set.fars set.ground.frame.low rdi mem c.memory
        (λ x l u. h.quiet x
        (λ t. set.ground.apart t.0 t.1.0 t.2 t.3 t.4 t.5 (subst (λ a. rsp ≤ a) t.6 (let z : rsp ≤ x = omega (arith, l) in z)) (subst (λ a. a < rsp + frame_size) t.6 (let z : x < rsp + frame_size = omega (arith, u) in z)))
        (λ s. ⊎_elim (λ i. let few = set.ground.frame.few_sums in omega (arith, l, i.1, few)) (λ i. omega (arith, u, i.0)) s))
        (λ x f. h.quiet x (λ t. set.fars.dests x f t.0 t.1 t.2 t.3 t.4 t.5 t.6) (λ s. set.fars_apart x f (set.changed x s)))

    -- before element i, where emulation has the memory e and the running sums have these totals
    pub record Inside (i : ℕ) (e : Memory) (totals : ℕ → ℕ) (c : Core) : Type 0 where
      pub pointers : (k : ℕ) → IsSlot p.dests p.sources k → c.gpr (pointer k) ≡ (base k + i * p.size k) % 2 ^ 64
      pub block : c.gpr 7 ≡ rdi
      pub calm : Calm c
      pub agree : (a : ℕ) → (F a → ⊥) → c.memory a ≡ e a
      pub mapped : (a : ℕ) → IsCell a → IsMapped e a
      pub framed : Framed numbers rsp c totals
      pub bounded : Bounded c
      pub row : FarRow n base numbers rsp rdi mem

    -- ---- a block of so many elements

    module _ (count : ℕ) where
      -- slots with aligned stores have a register's bytes of `count` elements, at a multiple of 16 at element i
      abbrev pub Aligns : (ℕ → Bool) → ℕ → Type 0
      Aligns aligned i = (k : ℕ) → P k → aligned k ≡ true → (count * p.size k ≡ 16) × ((base k + i * p.size k) % 16 ≡ 0)

      -- and so so many blocks further on
      aligns_on : (aligned : ℕ → Bool) (i b : ℕ) → Aligns aligned i → Aligns aligned (b * count + i)
      aligns_on aligned i b h k hk e =
          let x = h k hk e in
          let first = x.0 in
          let second = x.1 in
          let blocks : b * count * p.size k ≡ b * 16 = mul_assoc b count (p.size k) ∙ ap (λ t. b * t) first in
          (first, omega (arith, second, blocks, add-mul (b * count) i (p.size k)))

      -- where the cells of elements from j on begin
      abbrev pub base_from : ℕ → ℕ → ℕ
      base_from j k = base k + j * p.size k

      -- Free is what holds where the first dest is stored a whole register at once by stores that aren't aligned
      module _ (Free : Type 0) where
        -- what holds at each step of a block for the elements from j on that began in core c: RSP stands, outside these elements' cells of dests, the running sums and the spill slots so does memory, and the instruction touches the frame, these elements' cells of one array, or elements that far loads read for them
        pub record InBlock (j : ℕ) (c u : Core) (ins : Ins) : Type 0 where
          pub calm : Calm u
          pub only : (a : ℕ) → (AtElements n base p.size (OfDests P) j count a → ⊥) → (InChanged rsp numbers.sums a → ⊥) → u.memory a ≡ c.memory a
          pub touches : TouchesTurn count (base_from j) p.size P rsp Free base numbers j count u ins

        -- such an instruction touches the frame, cells of one array, or elements that far loads read
        pub touches_wide : (j : ℕ) (u : Core) (ins : Ins) → j + count ≤ n → TouchesTurn count (base_from j) p.size P rsp Free base numbers j count u ins → TouchesTurn n base p.size P rsp Free base numbers 0 n u ins
        touches_wide j u ins w (inl (inl h)) = inl (inl h)
        touches_wide j u ins w (inl (inr h)) = inl (inr (
          h.0,
          h.1,
          h.2,
          λ a t. let x = h.3 a t in (j + x.0, omega (arith, x.1, w), x.2, x.3, omega (arith, x.4, add-mul j x.0 (p.size h.0))),
          h.4,
        ))
        touches_wide j u ins w (inr h) = inr (λ a t. ⊎_elim (λ x. inl x) (λ x. inr (x.0, fars_wide base numbers j count n w a x.1)) (h.0 a t), h.1)

        module _ (some : 0 < count) (fit : Each (IsFit count p.size) p.actions) where
          -- the number in a cell
          abbrev number_in : Memory → ℕ → ℕ → ℕ
          number_in m i k = number_of (p.size k) (λ r. or_else 0 (m (base k + i * p.size k + r)))

          -- the numbers of elements from one on; nothing is known of places
          abbrev numbers_in : Memory → ℕ → ℕ → Local
          numbers_in m i q = record { cells = number_in m (i + q); values = no_values; fars = λ load k js. value_at load (far_at numbers base k js (i + q)) m (i + q) }

          holds : (z i : ℕ) (e : Memory) (totals : ℕ → ℕ) (c : Core) → Inside z e totals c → i + count ≤ n → Lanes n base p.size P i count c.memory (numbers_in c.memory i)
          holds z i e totals c h w k hk q l r lr =
              let lq : i + q < n = omega (arith, l, w) in
              let at : ℕ → ℕ = λ j. base k + (i + q) * p.size k + j in
              let byte : (j : ℕ) → j < p.size k → (v : ℕ) × (c.memory (at j) ≡ Some v) = λ j lj.
              let v = mapped_value e (at j) (h.mapped (at j) (k, hk, i + q, lq, j, lj, refl)) in (v.0, h.agree (at j) (set.apart k hk (i + q) lq j lj) ∙ v.1) in
              let small : (j : ℕ) → j < p.size k → or_else 0 (c.memory (at j)) < 256 = λ j lj. let v = byte j lj in subst (λ o. or_else 0 o < 256) (sym v.1) (h.bounded.memory (at j) v.0 v.1) in
              let v = byte r lr in
              v.1 ∙ ap (λ o. Some (or_else 0 o)) (sym v.1) ∙ ap Some (sym (digit_of (p.size k) (λ j. or_else 0 (c.memory (at j))) r small lr))

          -- the elements from j on lie low
          low_from : (j : ℕ) → j + count ≤ n → Low count (base_from j) p.size P
          low_from j w k hk q l r lr = (let x = set.ground.low k hk (j + q) (omega (arith, l, w)) r lr in omega (arith, x, add-mul j q (p.size k)))

          -- the block does the elements from j on, which lie so far behind the pointers, and leaves the pointers
          pub block_steps : (far : ℕ → ℕ) (aligned : ℕ → Bool) → (aligned 0 ≡ false → count * p.size 0 ≡ 16 → Free) → (lag : ℕ) → ((k : ℕ) → far k ≡ lag * p.size k) → Each (λ a. Each IsIns (action_far_code count p.size far aligned a)) p.actions → (i j : ℕ) → j ≡ lag + i → Aligns aligned j → (e : Memory) (totals : ℕ → ℕ) (c : Core) → j + count ≤ n → Inside i e totals c → Emul j e totals
              → (end : Memory) × (new : ℕ → ℕ) × (d : Core) × Emul (count + j) end new × Line (InBlock j c) (actions_far_code count p.size far aligned p.actions) c d × Inside i end new d × ((r : ℕ) → r ≢ 0 → d.gpr r ≡ c.gpr r)
              × ((a : ℕ) → (AtElements n base p.size (OfDests P) j count a → ⊥) → (InChanged rsp numbers.sums a → ⊥) → d.memory a ≡ c.memory a)
          block_steps far aligned free lag far_is ins_all i j same aligns e totals c w h em =
              let sig : ℕ → Local = numbers_in c.memory j in
              let hc : Lanes n base p.size P j count c.memory sig = holds i j e totals c h w in
              let he : Lanes n base p.size P j count e sig = λ k hk q l r lr. sym (h.agree (base k + (j + q) * p.size k + r) (set.apart k hk (j + q) (omega (arith, l, w)) r lr)) ∙ hc k hk q l r lr in
              let dest : (a : ℕ) → AtElements n base p.size (OfDests P) j count a → IsDestCell a = λ a at. (at.0, at.1, j + at.2, omega (arith, at.3, w), at.4, at.5, at.6) in
              let at : (k : ℕ) → P k → 0 < p.size k → (c.gpr (pointer k) + far k ≡ base k + j * p.size k) × (aligned k ≡ true → (count * p.size k ≡ 16) × ((base k + j * p.size k) % 16 ≡ 0)) = λ k hk s.
              ((let l = set.ground.low k hk j (omega (arith, w, some)) 0 s in let x = h.pointers k (set.slots k hk) in omega (arith, l, x, far_is k, add-mul lag i (p.size k), ap (λ t. t * p.size k) same)), aligns k hk) in
              let Only : Core → Type 0 = λ u. (a : ℕ) → (AtElements n base p.size (OfDests P) j count a → ⊥) → (InChanged rsp numbers.sums a → ⊥) → u.memory a ≡ c.memory a in
              let calm : (u : Core) → u.gpr 4 ≡ c.gpr 4 → Only u → Calm u = λ u g o. record {
                stack = g ∙ h.calm.stack;
                quiet = λ a m s. o a (λ x. m (dest a x)) s ∙ h.calm.quiet a m s;
              } in
              let frame = set.ground.frame in
              let whole : (k : ℕ) → P k → aligned k ≡ true → count * p.size k ≡ 16 = λ k hk t. (aligns k hk t).0 in
              let G : Ins → Type 0 = Goes n base p.size P numbers frame.few_patterns frame.few_sums far aligned count whole in
              let goes = actions_go n base p.size P numbers frame.few_patterns frame.few_sums far aligned count whole no_values p.actions set.known fit in
              let here : (ins : Ins) → G ins → Goes count (base_from j) p.size P numbers frame.few_patterns frame.few_sums far aligned count whole ins = λ ins g.
              ⊎_elim (λ x. inl x) (λ y. ⊎_elim (λ x. inr (inl x)) (λ x. inr (inr (x.0, record { array = x.1.array; some = x.1.some; few = x.1.few; by = x.1.by; stores = x.1.stores }))) y) g in
              let row = row_now c h.calm h.row in
              let read : (load : Far) (k : ℕ) (js : List ℕ) → numbers.far load k js → (q : ℕ) → q < count → (x : ℕ) → AmongCells load 1 (far_at numbers base k js (j + q)) x → InFars base numbers 0 n x = λ load k js f q l x m. fars_wide base numbers j count n w x (fars_one base numbers load k js f j count q l x m) in
              let byte : (x : ℕ) → InFars base numbers 0 n x → HasByte c.memory x = λ x f. (let v = mapped_value c.memory x (row.mapped x f) in (v.0, v.1, h.bounded.memory x v.0 v.1)) in
              let agreed : (x : ℕ) → InFars base numbers 0 n x → c.memory x ≡ e x = λ x f. h.agree x (set.fars_apart x f) in
              let fetch : Fetching n base p.size P numbers rsp set.ground far aligned count some j c.gpr c.memory sig = record {
                row = record { bases = row.bases; block = λ load k js f. row.block load k js f ∙ ap Some (sym h.block); mapped = row.mapped };
                values = λ load k js f q l. (λ x m. byte x (read load k js f q l x m), refl);
                pointers = λ load k js f. (let x = h.pointers k (set.far_slots load k js f) in omega (arith, x, far_is k, add-mul lag i (p.size k), ap (λ t. t * p.size k) same));
              } in
              let touch : (u : Core) (ins : Ins) → Step n base p.size P numbers rsp set.ground far aligned count some G j c.gpr c.memory u ins → InBlock j c u ins = λ u ins q. ⊎_elim
              (λ y. record {
                calm = calm u (y.0.0 4 (λ x. omega (arith, x))) y.0.1;
                only = y.0.1;
                touches = inl (goes_touch count (base_from j) p.size P numbers frame.few_patterns frame.few_sums far aligned count whole rsp frame.low (low_from j w) some Free free 0 (omega arith) u (y.0.0 4 (λ x. omega (arith, x)) ∙ h.calm.stack)
                    (λ k hk s. ap (λ y. y + far k) (y.0.0 (pointer k) (not_0 k)) ∙ (at k hk s).0 ∙ (let z : base k + j * p.size k ≡ base k + j * p.size k + 0 * p.size k = omega arith in z)) ins (here ins y.1));
              })
              (λ y. record { calm = calm u y.0 y.1; only = y.1; touches = inr y.2 })
              q in
              let b = named_line n base p.size P numbers rsp set.ground set.fars set.few G (goes_renamed n base p.size P numbers frame.few_patterns frame.few_sums far aligned count whole) (InBlock j c) far aligned count some own_names j p.actions c c.memory no_values sig totals own_permutes (λ g l. own_name (resident_register g) (omega arith)) set.known set.taken fit ins_all goes w at h.calm.stack hc h.framed
              (λ p l q lq r lr lb. absurd (omega (arith, lr))) h.bounded (λ a m s. refl) fetch touch in
              let line : Line (InBlock j c) (actions_far_code count p.size far aligned p.actions) c b.0 = b.1 in
              let values : FarValues base numbers j count e sig = λ load k js f q l. (
                λ x m. (let y = read load k js f q l x m in let v = byte x y in (v.0, sym (agreed x y) ∙ v.1, v.2)),
                value_kept load (far_at numbers base k js (j + q)) c.memory e (j + q) (λ x m. agreed x (read load k js f q l x m)),
              ) in
              let m = set.emulates j e totals sig em count w he values in
              let d = b.0 in
              let x = b.2 in (
                m.0,
                (λ g. totals g + sum_below count (λ q. adds n base p.size P numbers p.actions (sig q) g)),
                d,
                m.1,
                line,
                record {
                  pointers = λ k hk. x.gpr (pointer k) (λ z. not_0 k z) ∙ h.pointers k hk;
                  block = x.gpr 7 (λ z. omega (arith, z)) ∙ h.block;
                  calm = calm d (x.gpr 4 (λ z. omega (arith, z))) x.others;
                  agree = λ a nf. same_end n base p.size P set.ground.separate set.ground.low set.decided slot_small j count c.memory e d.memory m.0 (λ q. local n base p.size P numbers p.actions (sig q)) x.lanes m.2 m.3 a (λ k. x.others a (λ t. k (t.0, t.1.0, t.2, t.3, t.4, t.5, t.6)) (λ s. nf (set.changed a s))) (h.agree a nf);
                  mapped = λ a t. ⊎_elim (λ at. ap is_some (ap m.0 at.6 ∙ m.2 at.0 at.1 at.2 at.3 at.4 at.5)) (λ k. ap is_some (m.3 a k) ∙ h.mapped a t) (elements_or_not n base p.size P set.ground.separate set.ground.low set.decided slot_small j count a);
                  framed = x.framed;
                  bounded = x.bounded;
                  row = h.row;
                },
                x.gpr,
                x.others,
              )

    -- ---- with what holds at each step of a row

    module _ (Q : Core → Ins → Type 0) (Free : Type 0) (calmly : (u : Core) (i : Ins) → Calm u → TouchesTurn n base p.size P rsp Free base numbers 0 n u i → Q u i) where
      -- an instruction that touches nothing
      calm_none : (u : Core) (i : Ins) → Calm u → (span i u).1 ≡ 0 → Q u i
      calm_none u i h e = calmly u i h (inl (inl (λ a t. absurd (touches_none i u e a t))))

      -- a block for the elements so far behind the pointers, which it leaves
      pub block_far_line : (count : ℕ) (some : 0 < count) (fit : Each (IsFit count p.size) p.actions) (far : ℕ → ℕ) (aligned : ℕ → Bool) → (aligned 0 ≡ false → count * p.size 0 ≡ 16 → Free) → (lag : ℕ) → ((k : ℕ) → far k ≡ lag * p.size k) → Each (λ a. Each IsIns (action_far_code count p.size far aligned a)) p.actions → (i : ℕ) → Aligns count aligned (lag + i) → (e : Memory) (totals : ℕ → ℕ) (c : Core) → lag + i + count ≤ n → Inside i e totals c → Emul (lag + i) e totals
          → (end : Memory) × (new : ℕ → ℕ) × (d : Core) × Emul (count + (lag + i)) end new × Line Q (actions_far_code count p.size far aligned p.actions) c d × Inside i end new d × (d.gpr 1 ≡ c.gpr 1)
      block_far_line count some fit far aligned free lag far_is ins_all i aligns e totals c w h em =
          let x = block_steps count Free some fit far aligned free lag far_is ins_all i (lag + i) refl aligns e totals c w h em in
          let line = line_map (InBlock count Free (lag + i) c) Q (λ u ins q. calmly u ins q.calm (touches_wide count Free (lag + i) u ins w q.touches)) (actions_far_code count p.size far aligned p.actions) c x.2 x.4 in
          (x.0, x.1, x.2, x.3, line, x.5, x.6 1 (λ z. omega (arith, z)))

      further : (by b i s : ℕ) → ((b + i * s) % 2 ^ 64 + by * s) % 2 ^ 64 ≡ (b + (by + i) * s) % 2 ^ 64
      further by b i s = omega (arith, add-mul by i s)

      -- the pointers and the counter go on by so many elements, after code that left them
      pub move_line : (by : ℕ) → by ≤ 64 → (code : List Ins) (i : ℕ) (end : Memory) (new : ℕ → ℕ) (c b : Core) → Line Q code c b → Inside i end new b → b.gpr 1 ≡ c.gpr 1 → Bounded c
          → Each IsIns (code ++ (advance_code p.size by 0 p.dests ++ (advance_code p.size by 4 p.sources ++ AluImm Sub 1 (pos by) ∷ [])))
          → (d : Core) × Line Q (code ++ (advance_code p.size by 0 p.dests ++ (advance_code p.size by 4 p.sources ++ AluImm Sub 1 (pos by) ∷ []))) c d × Inside (by + i) end new d × (d.gpr 1 ≡ (c.gpr 1 + (2 ^ 64 - by)) % 2 ^ 64) × Tested d
      move_line by few code i end new c b does g kept bounded known =
          let still : (u : Core) → u.memory ≡ b.memory → u.gpr 4 ≡ b.gpr 4 → Calm u = λ u m s. record { stack = s ∙ g.calm.stack; quiet = λ x k s. ap (λ f. f x) m ∙ g.calm.quiet x k s } in
          let x = advance_line Q p.size by 0 p.dests b (λ u ins m s none. calm_none u ins (still u m s) none) in
          let apart : (r : ℕ) → ((k : ℕ) → r ≢ pointer k) → x.0.gpr r ≡ b.gpr r = λ r ne. x.2.others r (λ k l l2. ne k) in
          let y = advance_line Q p.size by 4 p.sources x.0 (λ u ins m s none. calm_none u ins (still u (m ∙ x.2.memory) (s ∙ apart 4 (λ k z. not_4 k (sym z)))) none) in
          let u = y.0 in
          let same : (r : ℕ) → ((k : ℕ) → r ≢ pointer k) → u.gpr r ≡ b.gpr r = λ r ne. y.2.others r (λ k l l2. ne k) ∙ apart r ne in
          let memory : u.memory ≡ b.memory = y.2.memory ∙ x.2.memory in
          let dest : (k : ℕ) → k < p.dests → u.gpr (pointer k) ≡ (b.gpr (pointer k) + by * p.size k) % 2 ^ 64 = λ k l.
          y.2.others (pointer k) (λ j l1 l2 z. omega (arith, pointer_one k j z, l1, l, set.few_dests)) ∙ x.2.moved k (omega arith) (omega (arith, l)) in
          let source : (k : ℕ) → 4 ≤ k → k < 4 + p.sources → u.gpr (pointer k) ≡ (b.gpr (pointer k) + by * p.size k) % 2 ^ 64 = λ k l1 l2.
          y.2.moved k l1 l2 ∙ ap (λ t. (t + by * p.size k) % 2 ^ 64) (x.2.others (pointer k) (λ j m1 m2 z. omega (arith, pointer_one k j z, l1, m2, set.few_dests))) in
          let moved : (k : ℕ) → IsSlot p.dests p.sources k → u.gpr (pointer k) ≡ (base k + (by + i) * p.size k) % 2 ^ 64 = λ k s.
          ⊎_elim (λ l. dest k l) (λ l. source k l.0 l.1) s ∙ ap (λ t. (t + by * p.size k) % 2 ^ 64) (g.pointers k s) ∙ further by (base k) i (p.size k) in
          let fewer = alu_result Sub (u.gpr 1) (wrap 64 (pos by)) in
          let d : Core = alu_core Sub u 1 (wrap 64 (pos by)) in
          let counts : u.gpr 1 ≡ c.gpr 1 = same 1 (λ k z. not_1 k (sym z)) ∙ kept in
          let fewer_is : fewer ≡ (c.gpr 1 + (2 ^ 64 - by)) % 2 ^ 64 = omega (arith, counts, few) in
          let calm = still u memory (same 4 (λ k z. not_4 k (sym z))) in
          let last : Line Q (AluImm Sub 1 (pos by) ∷ []) u d = (calm_none u _ calm refl, (d, refl, refl)) in
          let line : Line Q (code ++ (advance_code p.size by 0 p.dests ++ (advance_code p.size by 4 p.sources ++ AluImm Sub 1 (pos by) ∷ []))) c d =
          line_append Q code _ c b d does
          (line_append Q (advance_code p.size by 0 p.dests) _ b x.0 d x.1
          (line_append Q (advance_code p.size by 4 p.sources) (AluImm Sub 1 (pos by) ∷ []) x.0 u d y.1 last)) in (
            d,
            line,
            record {
              pointers = λ k s. change_other u.gpr 1 fewer (pointer k) (not_1 k) ∙ moved k s;
              block = same 7 (λ k z. not_7 k (sym z)) ∙ g.block;
              calm = record { stack = calm.stack; quiet = calm.quiet };
              agree = λ t nf. ap (λ f. f t) memory ∙ g.agree t nf;
              mapped = g.mapped;
              framed = framed_same numbers rsp set.ground.frame b d new (λ t l u. ap (λ f. f t) memory) (λ k l. ap (λ f. f (resident_register k)) (y.2.xmm ∙ x.2.xmm)) g.framed;
              bounded = line_bounded Q (code ++ (advance_code p.size by 0 p.dests ++ (advance_code p.size by 4 p.sources ++ AluImm Sub 1 (pos by) ∷ []))) c d known line bounded;
              row = g.row;
            },
            fewer_is,
            record { zero = refl; sign = refl },
          )

-- ---- turns of blocks, each of actions of its own

-- what is asked of the actions of a block of so many elements
pub record Able (n : ℕ) (base : ℕ → ℕ) (P : ℕ → Type 0) (numbers : Numbers) (rsp : ℕ) (p : Plan) (Emul : ℕ → Memory → (ℕ → ℕ) → Type 0) (F : ℕ → Type 0) (count : ℕ) (aligned : ℕ → Bool) (actions : List Action) : Type 0 where
  pub set : Setting n base P numbers rsp (record p { actions = actions }) Emul F
  pub fit : Each (IsFit count p.size) actions
  pub known : (first : ℕ) → first ≤ 64 → Each (λ a. Each IsIns (action_far_code count p.size (far_by first p.size) aligned a)) actions

module _ (n : ℕ) (base : ℕ → ℕ) (P : ℕ → Type 0) (numbers : Numbers) (rsp : ℕ) (p : Plan) (Emul : ℕ → Memory → (ℕ → ℕ) → Type 0) (F : ℕ → Type 0) (set : Setting n base P numbers rsp p Emul F) (rdi : ℕ) (mem : Memory)
    (Q : Core → Ins → Type 0) (Free : Type 0) (calmly : (u : Core) (i : Ins) → Calm n base P numbers rsp p Emul F set rdi mem u → TouchesTurn n base p.size P rsp Free base numbers 0 n u i → Q u i) where
  abbrev Here : ℕ → Memory → (ℕ → ℕ) → Core → Type 0
  Here = Inside n base P numbers rsp p Emul F set rdi mem

  module _ (actions : List Action) (other : Setting n base P numbers rsp (record p { actions = actions }) Emul F) where
    abbrev There : ℕ → Memory → (ℕ → ℕ) → Core → Type 0
    There = Inside n base P numbers rsp (record p { actions = actions }) Emul F other rdi mem

    to_there : (i : ℕ) (e : Memory) (totals : ℕ → ℕ) (c : Core) → Here i e totals c → There i e totals c
    to_there i e totals c h = record { pointers = h.pointers; block = h.block; calm = record { stack = h.calm.stack; quiet = h.calm.quiet }; agree = h.agree; mapped = h.mapped; framed = h.framed; bounded = h.bounded; row = h.row }

    to_here : (i : ℕ) (e : Memory) (totals : ℕ → ℕ) (c : Core) → There i e totals c → Here i e totals c
    to_here i e totals c h = record { pointers = h.pointers; block = h.block; calm = record { stack = h.calm.stack; quiet = h.calm.quiet }; agree = h.agree; mapped = h.mapped; framed = h.framed; bounded = h.bounded; row = h.row }

    there_calmly : (u : Core) (i : Ins) → Calm n base P numbers rsp (record p { actions = actions }) Emul F other rdi mem u → TouchesTurn n base p.size P rsp Free base numbers 0 n u i → Q u i
    there_calmly u i w = calmly u i (record { stack = w.stack; quiet = w.quiet })

  module _ (count : ℕ) (some : 0 < count) (aligned : ℕ → Bool) (free : aligned 0 ≡ false → count * p.size 0 ≡ 16 → Free) where
    abbrev AbleTo : List Action → Type 0
    AbleTo = Able n base P numbers rsp p Emul F count aligned

    -- so many blocks, one behind another
    blocks_line : (b : ℕ) (list : List Ins) → AreBlocks AbleTo count p.size aligned b list → b * count ≤ 64 → (i : ℕ) → Aligns n base P numbers rsp p Emul F set rdi mem count aligned i → (e : Memory) (totals : ℕ → ℕ) (c : Core) → i + b * count ≤ n → Here i e totals c → Emul i e totals
        → (end : Memory) × (new : ℕ → ℕ) × (d : Core) × Emul (b * count + i) end new × Line Q list c d × Here i end new d × (d.gpr 1 ≡ c.gpr 1)
    blocks_line zero list x near i aligns e totals c w h em = (let same : i ≡ 0 * count + i = omega arith in (e, totals, c, subst (λ k. Emul k e totals) same em, subst (λ l. Line Q l c c) (sym x) refl, h, refl))
    blocks_line (suc b) list x near i aligns e totals c w h em =
        let acts = x.1 in
        let able = x.3 in
        let code = actions_far_code count p.size (far_by (b * count) p.size) aligned acts in
        let y = blocks_line b x.0 x.2 (omega (arith, near, suc-mul b count)) i aligns e totals c (omega (arith, w, suc-mul b count)) h em in
        let z = block_far_line n base P numbers rsp (record p { actions = acts }) Emul F able.set rdi mem Q Free (there_calmly acts able.set) count some able.fit (far_by (b * count) p.size) aligned free (b * count) (λ k. refl) (able.known (b * count) (omega (arith, near, suc-mul b count))) i
        (aligns_on n base P numbers rsp p Emul F set rdi mem count aligned i b aligns) y.0 y.1 y.2 (omega (arith, w, suc-mul b count)) (to_there acts able.set i y.0 y.1 y.2 y.5) y.3 in
        let here : count + (b * count + i) ≡ suc b * count + i = omega (arith, suc-mul b count) in (
          z.0,
          z.1,
          z.2,
          subst (λ k. Emul k z.0 z.1) here z.3,
          subst (λ l. Line Q l c z.2) (sym x.4) (line_append Q x.0 code c y.2 z.2 y.4 z.4),
          to_here acts able.set i z.0 z.1 z.2 z.5,
          z.6 ∙ y.6,
        )

    -- a whole turn
    pub turn_line : (b : ℕ) (list : List Ins) → IsBlocksTurn AbleTo count p.size aligned p.dests p.sources b list → b * count ≤ 64 → Each IsIns list → (i : ℕ) → Aligns n base P numbers rsp p Emul F set rdi mem count aligned i → (e : Memory) (totals : ℕ → ℕ) (c : Core) → i + b * count ≤ n → Here i e totals c → Emul i e totals
        → (end : Memory) × (new : ℕ → ℕ) × (d : Core) × Emul (b * count + i) end new × Line Q list c d × Here (b * count + i) end new d × (d.gpr 1 ≡ (c.gpr 1 + (2 ^ 64 - b * count)) % 2 ^ 64) × Tested d
    turn_line b list x near known i aligns e totals c w h em =
        let a = blocks_line b x.0 x.1 near i aligns e totals c w h em in
        let m = move_line n base P numbers rsp p Emul F set rdi mem Q Free calmly (b * count) near x.0 i a.0 a.1 c a.2 a.4 a.5 a.6 h.bounded (subst (Each IsIns) x.2 known) in
        (a.0, a.1, m.0, a.3, subst (λ l. Line Q l c m.0) (sym x.2) m.1, m.2, m.3, m.4)
