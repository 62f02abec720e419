-- The lists around a row: what they leave in registers and in the frame.
use Rattle.std.proofs.Common.{◌≡◌, ◌≢◌, ℕ, zero, suc, ◌+◌, ◌%◌, ◌^◌, ◌<◌, ◌≤◌, ◌==◌, not, false, pos, List, Some, bit_and, Ok, refl, sym, ap, ◌∙◌, subst, arith, ◌⊎◌, inl, inr, ⊎_elim}
use Rattle.std.proofs.lemmas.Bool.{cases_eq}
use Rattle.std.proofs.lemmas.Grind.{common_steps}
use Rattle.orc_bits.specs.Lanes.{byte_of}
use Rattle.orc_bits.specs.Memory.{Memory, word, fill, IsMapped}
use Rattle.orc_bits.specs.Numbers.{wrap}
use Rattle.orc_bits.proofs.LaneLaws.{change_other, change_same}
use Rattle.orc_bits.proofs.Memories.{fill_out, fill_mapped}
use Rattle.x86_ins.specs.declared.ins.AluOp.TheVariants.{Add, Sub}
use Rattle.x86_ins.specs.declared.ins.Cond.TheVariants.{Ne}
use Rattle.x86_ins.specs.declared.ins.Ins.{Ins}
use Rattle.x86_ins.specs.declared.ins.Ins.TheVariants.{Load, Store}
use Rattle.x86_ins.specs.Machine.{Core, with_gpr, with_flags, with_memory, flags_of, alu_core, alu_result, test, work, address, span, Touches}
use Rattle.x86_flow.specs.Moves.{away}
use Rattle.x86_flow.specs.Does.{Line}
use Rattle.x86_flow.proofs.Moves.{line_append}
use Rattle.x86_flow.proofs.Words.{load_word, store_word}
use Rattle.x86_flow.proofs.Frame.{word_same, word_stored}
use Rattle.orc_frame.specs.Parts.{InBlock, elements_word, rows_word, base_word, stride_word, block_size}
use Rattle.orc_region.specs.Code.{pointer}
use Rattle.orc_frame.specs.Layout.{row_slot, block_slot, rows_slot, frame_size, left_slot}
use Rattle.orc_asm.specs.Rows.{slots_code, arrays_code, base_code, count_code, rows_code, pointer_code, counter_code, row_entry_code, start_code, one_row_code, stride_code, one_less_code, row_step_code}
use Rattle.orc_region.proofs.Block.Registers.{not_1, not_4, not_7, pointer_one}
use Rattle.orc_region.proofs.Turn.Advancing.{IsSlot}

both_is : (x : ℕ) → bit_and x x ≡ x
both_is x = grind (arith, common_steps)

-- rsp is the lowered RSP, and rdi the block's address
module _ (rsp rdi : ℕ) (stack_low : rsp + (frame_size + 8) ≤ 2 ^ 47) (block_low : rdi + block_size ≤ 2 ^ 47) where
  abbrev InSlot : ℕ → ℕ → Type 0
  InSlot k x = (rsp + row_slot k ≤ x) × (x < rsp + row_slot k + 8)

  -- the addresses of the words that change: those of the arrays' slots and, as the one of slot 13, that of the rows left; between them the word of the block's address stands
  abbrev pub InRows : ℕ → Type 0
  InRows x = (rsp + row_slot 0 ≤ x) × (x < rsp + left_slot) × ((rsp + block_slot ≤ x) × (x < rsp + block_slot + 8) → ⊥)

  -- the slots of those words
  abbrev pub Changes : ℕ → Type 0
  Changes k = (k < 14) × (k ≢ 12)

  pub array_changes : (k : ℕ) → k < 12 → Changes k
  array_changes k l = (omega (arith, l), λ e. omega (arith, l, e))

  pub rows_change : Changes 13
  rows_change = (omega arith, λ e. omega (arith, e))

  sides : (k j : ℕ) → k ≢ j → (suc j ≤ k) ⊎ (suc k ≤ j)
  sides k j ne = grind (arith)

  pub in_rows : (k x : ℕ) → Changes k → InSlot k x → InRows x
  in_rows k x l h = (omega (arith, h.0), omega (arith, h.1, l.0), λ b. ⊎_elim (λ w. omega (arith, w, h.0, b.1)) (λ w. omega (arith, w, h.1, b.0)) (sides k 12 l.1))

  slot_low : (k : ℕ) → k < 14 → rsp + row_slot k + 8 < 2 ^ 62
  slot_low k l = omega (arith, l, stack_low)

  -- what holds of each core after c
  pub record OnWay (c u : Core) : Type 0 where
    pub stack : u.gpr 4 ≡ rsp
    pub block : u.gpr 7 ≡ rdi
    pub outside : (x : ℕ) → (InRows x → ⊥) → u.memory x ≡ c.memory x
    pub mapped : (x : ℕ) → IsMapped c.memory x → IsMapped u.memory x
    pub xmm : u.xmm ≡ c.xmm

  way_on : (c d u : Core) → OnWay c d → OnWay d u → OnWay c u
  way_on c d u a b = record { stack = b.stack; block = b.block; outside = λ x out. b.outside x out ∙ a.outside x out; mapped = λ x h. b.mapped x (a.mapped x h); xmm = b.xmm ∙ a.xmm }

  -- with other general registers but RSP and RDI, and with one memory
  way_with : (c d u : Core) → OnWay c d → u.gpr 4 ≡ d.gpr 4 → u.gpr 7 ≡ d.gpr 7 → u.memory ≡ d.memory → u.xmm ≡ d.xmm → OnWay c u
  way_with c d u a s b m v = record { stack = s ∙ a.stack; block = b ∙ a.block; outside = λ x out. ap (λ f. f x) m ∙ a.outside x out; mapped = λ x h. subst (λ f. IsMapped f x) (sym m) (a.mapped x h); xmm = v ∙ a.xmm }

  -- ---- what instructions touch

  -- the instruction touches the words of slots and the block alone
  abbrev pub TouchesFew : Ins → Core → Type 0
  TouchesFew i u = (x : ℕ) → Touches i u x → InRows x ⊎ InBlock rdi x

  at_away : (u : Core) (r a d : ℕ) → u.gpr r ≡ a → a + d < 2 ^ 62 → address u (away r d) ≡ a + d
  at_away u r a d e w = omega (arith, e, w)

  byte_in : (a p j : ℕ) → p + 8 < 2 ^ 62 → a ≡ p → j < 8 → (p ≤ (a + j) % 2 ^ 64) × ((a + j) % 2 ^ 64 < p + 8)
  byte_in a p j w e l = (omega (arith, w, e, l), omega (arith, w, e, l))

  touch_slot : (k : ℕ) → Changes k → (i : Ins) (u : Core) → u.gpr 4 ≡ rsp → span i u ≡ (address u (away 4 (row_slot k)), 8) → TouchesFew i u
  touch_slot k l i u s e x t =
      let w = slot_low k l.0 in
      let size : (span i u).1 ≡ 8 = ap (λ p. p.1) e in
      let at : (span i u).0 ≡ rsp + row_slot k = ap (λ p. p.0) e ∙ at_away u 4 rsp (row_slot k) s (omega (arith, w)) in
      let here = byte_in (span i u).0 (rsp + row_slot k) t.0 w at (subst (λ n. t.0 < n) size t.1) in
      inl (in_rows k x l (subst (λ y. rsp + row_slot k ≤ y) (sym t.2) here.0, subst (λ y. y < rsp + row_slot k + 8) (sym t.2) here.1))

  touch_block : (d : ℕ) → d + 8 ≤ block_size → (i : Ins) (u : Core) → u.gpr 7 ≡ rdi → span i u ≡ (address u (away 7 d), 8) → TouchesFew i u
  touch_block d l i u s e x t =
      let size : (span i u).1 ≡ 8 = ap (λ p. p.1) e in
      let at : (span i u).0 ≡ rdi + d = ap (λ p. p.0) e ∙ at_away u 7 rdi d s (omega (arith, block_low, l)) in
      let here = byte_in (span i u).0 (rdi + d) t.0 (omega (arith, block_low, l)) at (subst (λ n. t.0 < n) size t.1) in
      let low : rdi + d ≤ x = subst (λ y. rdi + d ≤ y) (sym t.2) here.0 in
      let high : x < rdi + d + 8 = subst (λ y. y < rdi + d + 8) (sym t.2) here.1 in
      inr (omega (arith, low), omega (arith, high, l))

  touch_none : (i : Ins) (u : Core) → (span i u).1 ≡ 0 → TouchesFew i u
  touch_none i u e x t = absurd (nothing t.0 (span i u).1 t.1 e)
    where
      nothing : (j n : ℕ) → j < n → n ≡ 0 → ⊥
      nothing j n l e = omega (arith, l, e)

  -- ---- a register is stored to the word of a slot

  abbrev stored : ℕ → ℕ → Core → Core
  stored r k c = with_memory c (fill 8 c.memory (rsp + row_slot k) (byte_of 8 (c.gpr r)))

  -- what that leaves
  record SlotStored (r k : ℕ) (c : Core) : Type 0 where
    works : work (Store r (away 4 (row_slot k))) c ≡ Ok (stored r k c)
    holds : word (stored r k c).memory (rsp + row_slot k) ≡ Some (c.gpr r)
    outside : (x : ℕ) → (InSlot k x → ⊥) → (stored r k c).memory x ≡ c.memory x
    mapped : (x : ℕ) → IsMapped c.memory x → IsMapped (stored r k c).memory x

  store_slot : (r k : ℕ) → Changes k → (c : Core) → c.gpr 4 ≡ rsp → c.gpr r < 2 ^ 64 → ((x : ℕ) → InRows x → IsMapped c.memory x) → SlotStored r k c
  store_slot r k l c e small there =
      let a = rsp + row_slot k in
      let w = slot_low k l.0 in record {
        works = store_word c r 4 rsp (row_slot k) e w (λ x m u. there x (in_rows k x l (m, u)));
        holds = word_stored c.memory a (c.gpr r) (omega (arith, w)) small;
        outside = λ x out. fill_out 8 c.memory a (byte_of 8 (c.gpr r)) x (omega (arith, w)) (λ j s q. out (omega (arith, q), omega (arith, q, s)));
        mapped = λ x h. fill_mapped 8 c.memory a (byte_of 8 (c.gpr r)) x h;
      }

  -- the word of another slot stands
  slot_apart : (k j : ℕ) → k < 14 → j < 14 → k ≢ j → (m e : Memory) → ((x : ℕ) → (InSlot k x → ⊥) → m x ≡ e x) → word m (rsp + row_slot j) ≡ word e (rsp + row_slot j)
  slot_apart k j lk lj ne m e out = word_same m e (rsp + row_slot j) (omega (arith, slot_low j lj)) (λ x l u. out x (λ h. ⊎_elim (λ s. omega (arith, s, h.0, u)) (λ s. omega (arith, s, h.1, l)) (sides k j ne)))

  -- ---- so many slots

  -- what a list leaves that writes the word of one slot, by way of RAX and RCX
  record Slotted (k v : ℕ) (c d : Core) : Type 0 where
    gpr : (r : ℕ) → r ≢ 0 → r ≢ 1 → d.gpr r ≡ c.gpr r
    holds : word d.memory (rsp + row_slot k) ≡ Some v
    outside : (x : ℕ) → (InSlot k x → ⊥) → d.memory x ≡ c.memory x
    mapped : (x : ℕ) → IsMapped c.memory x → IsMapped d.memory x
    xmm : d.xmm ≡ c.xmm

  slot_way : (k v : ℕ) (c d : Core) → Changes k → c.gpr 4 ≡ rsp → c.gpr 7 ≡ rdi → Slotted k v c d → OnWay c d
  slot_way k v c d l s b h = record {
    stack = h.gpr 4 (λ e. omega (arith, e)) (λ e. omega (arith, e)) ∙ s;
    block = h.gpr 7 (λ e. omega (arith, e)) (λ e. omega (arith, e)) ∙ b;
    outside = λ x out. h.outside x (λ w. out (in_rows k x l w));
    mapped = h.mapped;
    xmm = h.xmm;
  }

  -- and what those of several slots leave
  record Went (new : ℕ → ℕ) (first n : ℕ) (c d : Core) : Type 0 where
    gpr : (r : ℕ) → r ≢ 0 → r ≢ 1 → d.gpr r ≡ c.gpr r
    holds : (k : ℕ) → first ≤ k → k < first + n → word d.memory (rsp + row_slot k) ≡ Some (new k)
    others : (k : ℕ) → k < 14 → (k < first) ⊎ (first + n ≤ k) → word d.memory (rsp + row_slot k) ≡ word c.memory (rsp + row_slot k)
    way : OnWay c d

  module _ (Q : Core → Ins → Type 0) (code : ℕ → List Ins) (new : ℕ → ℕ) where
    -- from each core after c at which the slot's word is still c's, its list writes it
    abbrev Writes : Core → ℕ → Type 0
    Writes c k = (u : Core) → OnWay c u → word u.memory (rsp + row_slot k) ≡ word c.memory (rsp + row_slot k) → (d : Core) × Line Q (code k) u d × Slotted k (new k) u d

    slots_line : (first n : ℕ) → first + n ≤ 12 → (c : Core) → c.gpr 4 ≡ rsp → c.gpr 7 ≡ rdi → ((k : ℕ) → first ≤ k → k < first + n → Writes c k) → (d : Core) × Line Q (slots_code code first n) c d × Went new first n c d
    slots_line first zero few c s b one = (c, refl, record { gpr = λ r x y. refl; holds = λ k l u. absurd (omega (arith, l, u)); others = λ k l o. refl; way = record { stack = s; block = b; outside = λ x out. refl; mapped = λ x h. h; xmm = refl } })
    slots_line first (suc n) few c s b one =
        let a = slots_line first n (omega (arith, few)) c s b (λ k l u. one k l (omega (arith, u))) in
        let k = first + n in
        let own = array_changes k (omega (arith, few)) in
        let low = own.0 in
        let x = one k (omega arith) (omega arith) a.0 a.2.way (a.2.others k low (inr (omega arith))) in
        let h = x.2 in (
          x.0,
          line_append Q (slots_code code first n) (code k) c a.0 x.0 a.1 x.1,
          record {
            gpr = λ r p q. h.gpr r p q ∙ a.2.gpr r p q;
            holds = λ j l u. ⊎_elim
                (λ e. subst (λ i. word x.0.memory (rsp + row_slot i) ≡ Some (new i)) (sym e) h.holds)
                (λ ne. slot_apart k j low (omega (arith, u, few)) (λ e. ne (sym e)) x.0.memory a.0.memory h.outside ∙ a.2.holds j l (omega (arith, u, ne)))
                (cases_eq j k);
            others = λ j l o. slot_apart k j low l (λ e. ⊎_elim (λ p. omega (arith, p, e)) (λ p. omega (arith, p, e)) o) x.0.memory a.0.memory h.outside ∙ a.2.others j l (⊎_elim (λ p. inl p) (λ p. inr (omega (arith, p))) o);
            way = way_on c a.0 x.0 a.2.way (slot_way k (new k) a.0 x.0 own a.2.way.stack a.2.way.block h);
          },
        )

    -- what the lists of all arrays leave
    pub record Renewed (dests sources : ℕ) (c d : Core) : Type 0 where
      pub gpr : (r : ℕ) → r ≢ 0 → r ≢ 1 → d.gpr r ≡ c.gpr r
      pub holds : (k : ℕ) → IsSlot dests sources k → word d.memory (rsp + row_slot k) ≡ Some (new k)
      pub rows : word d.memory (rsp + rows_slot) ≡ word c.memory (rsp + rows_slot)
      pub way : OnWay c d

    arrays_line : (dests sources : ℕ) → dests ≤ 4 → sources ≤ 8 → (c : Core) → c.gpr 4 ≡ rsp → c.gpr 7 ≡ rdi → ((k : ℕ) → k < 12 → IsSlot dests sources k → Writes c k) → (d : Core) × Line Q (arrays_code code dests sources) c d × Renewed dests sources c d
    arrays_line dests sources few_dests few_sources c s b one =
        let a = slots_line 0 dests (omega (arith, few_dests)) c s b (λ k l u. one k (omega (arith, u, few_dests)) (inl (omega (arith, u)))) in
        let w = a.2.way in
        let again : (k : ℕ) → 4 ≤ k → k < 4 + sources → Writes a.0 k = λ k l h u v e. one k (omega (arith, h, few_sources)) (inr (l, h)) u (way_on c a.0 u w v) (e ∙ a.2.others k (omega (arith, h, few_sources)) (inr (omega (arith, l, few_dests)))) in
        let z = slots_line 4 sources (omega (arith, few_sources)) a.0 w.stack w.block again in (
          z.0,
          line_append Q (slots_code code 0 dests) (slots_code code 4 sources) c a.0 z.0 a.1 z.1,
          record {
            gpr = λ r p q. z.2.gpr r p q ∙ a.2.gpr r p q;
            holds = λ k h. ⊎_elim
                (λ l. z.2.others k (omega (arith, l, few_dests)) (inl (omega (arith, l, few_dests))) ∙ a.2.holds k (omega arith) (omega (arith, l)))
                (λ l. z.2.holds k l.0 l.1)
                h;
            rows = z.2.others 13 (omega arith) (inr (omega (arith, few_sources))) ∙ a.2.others 13 (omega arith) (inr (omega (arith, few_dests)));
            way = way_on c a.0 z.0 w z.2.way;
          },
        )

  -- ---- what the lists around rows leave

  module _ (dests sources : ℕ) where
    -- what holds of a core before a row or after the last one: the words of slots, and the number of rows left
    pub record HasRows (base : ℕ → ℕ) (left : ℕ) (c : Core) : Type 0 where
      pub bases : (k : ℕ) → IsSlot dests sources k → word c.memory (rsp + row_slot k) ≡ Some (base k)
      pub rows : word c.memory (rsp + rows_slot) ≡ Some left
      pub tests : test Ne c.flags ≡ Some (not (left == 0))

    -- what the lists around rows leave
    pub record Passed (base : ℕ → ℕ) (left : ℕ) (c d : Core) : Type 0 where
      pub gpr : (r : ℕ) → r ≢ 0 → r ≢ 1 → d.gpr r ≡ c.gpr r
      pub has : HasRows base left d
      pub way : OnWay c d

    -- what the start of a row leaves
    pub record RowEntered (base : ℕ → ℕ) (n : ℕ) (c d : Core) : Type 0 where
      pub pointers : (k : ℕ) → IsSlot dests sources k → d.gpr (pointer k) ≡ base k
      pub counter : d.gpr 1 ≡ n
      pub others : (r : ℕ) → r ≢ 1 → ((k : ℕ) → r ≢ pointer k) → d.gpr r ≡ c.gpr r
      pub memory : d.memory ≡ c.memory
      pub xmm : d.xmm ≡ c.xmm
      pub tests : test Ne d.flags ≡ Some (not (d.gpr 1 == 0))

  -- loads of pointers
  record Pointed (base : ℕ → ℕ) (first n : ℕ) (c d : Core) : Type 0 where
    pointers : (k : ℕ) → first ≤ k → k < first + n → d.gpr (pointer k) ≡ base k
    others : (r : ℕ) → ((k : ℕ) → first ≤ k → k < first + n → r ≢ pointer k) → d.gpr r ≡ c.gpr r
    memory : d.memory ≡ c.memory
    xmm : d.xmm ≡ c.xmm

  -- ---- before the first row

  module _ (Q : Core → Ins → Type 0) (dests sources : ℕ) (few_dests : dests ≤ 4) (few_sources : sources ≤ 8) (apart : (x : ℕ) → InBlock rdi x → InRows x → ⊥) where
    -- what lets Q be known at each step from c on
    abbrev pub Calmly : Core → Type 0
    Calmly c = (u : Core) (i : Ins) → OnWay c u → TouchesFew i u → Q u i

    calmly_on : (c d : Core) → Calmly c → OnWay c d → Calmly d
    calmly_on c d calmly h u i w t = calmly u i (way_on c d u h w) t

    -- at an instruction that touches a word of a slot, one of the block, or none
    at_slot : (c : Core) → Calmly c → (k : ℕ) → Changes k → (i : Ins) (u : Core) → OnWay c u → span i u ≡ (address u (away 4 (row_slot k)), 8) → Q u i
    at_slot c calmly k l i u w e = calmly u i w (touch_slot k l i u w.stack e)

    at_block : (c : Core) → Calmly c → (d : ℕ) → d + 8 ≤ block_size → (i : Ins) (u : Core) → OnWay c u → span i u ≡ (address u (away 7 d), 8) → Q u i
    at_block c calmly d l i u w e = calmly u i w (touch_block d l i u w.block e)

    at_none : (c : Core) → Calmly c → (i : Ins) (u : Core) → OnWay c u → (span i u).1 ≡ 0 → Q u i
    at_none c calmly i u w e = calmly u i w (touch_none i u e)

    -- a word of the block is as before
    block_word : (c u : Core) → OnWay c u → (d v : ℕ) → d + 8 ≤ block_size → word c.memory (rdi + d) ≡ Some v → word u.memory (rdi + d) ≡ Some v
    block_word c u h d v w e = word_same u.memory c.memory (rdi + d) (omega (arith, block_low, w)) (λ x l m. h.outside x (λ r. apart x (omega (arith, l), omega (arith, m, w)) r)) ∙ e

    base_line : (c : Core) (base : ℕ → ℕ) (k : ℕ) → k < 12 → Calmly c → ((x : ℕ) → InRows x → IsMapped c.memory x) → word c.memory (rdi + base_word k) ≡ Some (base k) → base k < 2 ^ 64
        → (u : Core) → OnWay c u → (d : Core) × Line Q (base_code k) u d × Slotted k (base k) u d
    base_line c base k l calmly there e small u h =
        let v = base k in
        let u1 : Core = with_gpr u 0 v in
        let loads : work (Load 0 (away 7 (base_word k))) u ≡ Ok u1 = load_word u 0 7 rdi (base_word k) v h.block (omega (arith, block_low, l)) (block_word c u h (base_word k) v (omega (arith, l)) e) in
        let s = store_slot 0 k (array_changes k l) u1 h.stack small (λ x r. h.mapped x (there x r)) in (
          stored 0 k u1,
          (at_block c calmly (base_word k) (omega (arith, l)) _ u h refl, (u1, loads, (at_slot c calmly k (array_changes k l) _ u1 (way_with c u u1 h refl refl refl refl) refl, (stored 0 k u1, s.works, refl)))),
          record { gpr = λ r p q. change_other u.gpr 0 v r p; holds = s.holds; outside = s.outside; mapped = s.mapped; xmm = refl },
        )

    -- a dest is no source
    far_dest : (k j : ℕ) → k < dests → 4 ≤ j → k ≡ j → ⊥
    far_dest k j l m e = omega (arith, l, m, e, few_dests)

    slot_small : (k : ℕ) → IsSlot dests sources k → k < 14
    slot_small k t = ⊎_elim (λ l. omega (arith, l, few_dests)) (λ l. omega (arith, l.1, few_sources)) t

    not_thirteen : (k : ℕ) → IsSlot dests sources k → 13 ≡ k → ⊥
    not_thirteen k t e = ⊎_elim (λ l. omega (arith, l, few_dests, e)) (λ l. omega (arith, l.1, few_sources, e)) t

    -- all rows are left
    count_line : (m : ℕ) (base : ℕ → ℕ) (c : Core) → c.gpr 4 ≡ rsp → c.gpr 7 ≡ rdi → Calmly c → ((x : ℕ) → InRows x → IsMapped c.memory x) → word c.memory (rdi + rows_word) ≡ Some m → m < 2 ^ 64
        → ((k : ℕ) → IsSlot dests sources k → word c.memory (rsp + row_slot k) ≡ Some (base k)) → (d : Core) × Line Q count_code c d × Passed dests sources base m c d
    count_line m base c stack block calmly there word_m small bases =
        let h : OnWay c c = record { stack = stack; block = block; outside = λ x out. refl; mapped = λ x t. t; xmm = refl } in
        let u1 : Core = with_gpr c 0 m in
        let loads : work (Load 0 (away 7 rows_word)) c ≡ Ok u1 = load_word c 0 7 rdi rows_word m block (omega (arith, block_low)) word_m in
        let s = store_slot 0 13 rows_change u1 stack small there in
        let u2 = stored 0 13 u1 in
        let d : Core = with_flags u2 (Some (flags_of false false (bit_and m m))) in
        let w1 = way_with c c u1 h refl refl refl refl in
        let w2 : OnWay c u2 = record { stack = stack; block = block; outside = λ x out. s.outside x (λ r. out (in_rows 13 x rows_change r)); mapped = s.mapped; xmm = refl } in (
          d,
          (at_block c calmly rows_word (omega arith) _ c h refl, (u1, loads, (at_slot c calmly 13 rows_change _ u1 w1 refl, (u2, s.works, (at_none c calmly _ u2 w2 refl, (d, refl, refl)))))),
          record {
            gpr = λ r p q. change_other c.gpr 0 m r p;
            has = record {
              bases = λ k t. slot_apart 13 k (omega arith) (slot_small k t) (λ e. not_thirteen k t e) d.memory c.memory s.outside ∙ bases k t;
              rows = s.holds;
              tests = ap (λ x. Some (not (x == 0))) (both_is m);
            };
            way = record { stack = stack; block = block; outside = w2.outside; mapped = s.mapped; xmm = refl };
          },
        )

    -- the words of slots become the arrays' bases, and all rows are left
    pub rows_line : (m : ℕ) (base : ℕ → ℕ) (c : Core) → c.gpr 4 ≡ rsp → c.gpr 7 ≡ rdi → Calmly c → ((x : ℕ) → InRows x → IsMapped c.memory x)
        → ((k : ℕ) → IsSlot dests sources k → word c.memory (rdi + base_word k) ≡ Some (base k)) → ((k : ℕ) → IsSlot dests sources k → base k < 2 ^ 64) → word c.memory (rdi + rows_word) ≡ Some m → m < 2 ^ 64
        → (d : Core) × Line Q (rows_code dests sources) c d × Passed dests sources base m c d
    rows_line m base c s b calmly there words small word_m few =
        let a = arrays_line Q base_code base dests sources few_dests few_sources c s b (λ k l t u h e. base_line c base k l calmly there (words k t) (small k t) u h) in
        let w = a.2.way in
        let z = count_line m base a.0 w.stack w.block (calmly_on c a.0 calmly w) (λ x r. w.mapped x (there x r)) (block_word c a.0 w rows_word m (omega arith) word_m) few a.2.holds in (
          z.0,
          line_append Q (arrays_code base_code dests sources) count_code c a.0 z.0 a.1 z.1,
          record { gpr = λ r p q. z.2.gpr r p q ∙ a.2.gpr r p q; has = z.2.has; way = way_on c a.0 z.0 w z.2.way },
        )

    -- ---- the start of a row

    -- with the memory of c
    still : (c u : Core) → c.gpr 4 ≡ rsp → c.gpr 7 ≡ rdi → u.memory ≡ c.memory → u.xmm ≡ c.xmm → u.gpr 4 ≡ c.gpr 4 → u.gpr 7 ≡ c.gpr 7 → OnWay c u
    still c u s b m v e g = record { stack = e ∙ s; block = g ∙ b; outside = λ x out. ap (λ f. f x) m; mapped = λ x h. subst (λ f. IsMapped f x) (sym m) h; xmm = v }

    pointers_line : (base : ℕ → ℕ) (first n : ℕ) → first + n ≤ 12 → (c : Core) → c.gpr 4 ≡ rsp → c.gpr 7 ≡ rdi → Calmly c → ((k : ℕ) → first ≤ k → k < first + n → word c.memory (rsp + row_slot k) ≡ Some (base k))
        → (d : Core) × Line Q (slots_code pointer_code first n) c d × Pointed base first n c d
    pointers_line base first zero few c s b calmly words = (c, refl, record { pointers = λ k l u. absurd (omega (arith, l, u)); others = λ r h. refl; memory = refl; xmm = refl })
    pointers_line base first (suc n) few c s b calmly words =
        let a = pointers_line base first n (omega (arith, few)) c s b calmly (λ k l u. words k l (omega (arith, u))) in
        let u = a.0 in
        let k = first + n in
        let own = array_changes k (omega (arith, few)) in
        let stack : u.gpr 4 ≡ c.gpr 4 = a.2.others 4 (λ j l m e. not_4 j (sym e)) in
        let block : u.gpr 7 ≡ c.gpr 7 = a.2.others 7 (λ j l m e. not_7 j (sym e)) in
        let d : Core = with_gpr u (pointer k) (base k) in
        let loads : work (Load (pointer k) (away 4 (row_slot k))) u ≡ Ok d = load_word u (pointer k) 4 rsp (row_slot k) (base k) (stack ∙ s) (omega (arith, slot_low k own.0)) (ap (λ m. word m (rsp + row_slot k)) a.2.memory ∙ words k (omega arith) (omega arith)) in
        let calm : Q u (Load (pointer k) (away 4 (row_slot k))) = at_slot c calmly k own _ u (still c u s b a.2.memory a.2.xmm stack block) refl in (
          d,
          line_append Q (slots_code pointer_code first n) (pointer_code k) c u d a.1 (calm, (d, loads, refl)),
          record {
            pointers = λ j l m. ⊎_elim
                (λ e. subst (λ i. d.gpr (pointer i) ≡ base i) (sym e) (change_same u.gpr (pointer k) (base k)))
                (λ ne. change_other u.gpr (pointer k) (base k) (pointer j) (λ e. ne (pointer_one j k e)) ∙ a.2.pointers j l (omega (arith, m, ne)))
                (cases_eq j k);
            others = λ r h. change_other u.gpr (pointer k) (base k) r (h k (omega arith) (omega arith)) ∙ a.2.others r (λ j l m. h j l (omega (arith, m)));
            memory = a.2.memory;
            xmm = a.2.xmm;
          },
        )

    -- the pointers become the words of slots, and the counter the number of elements
    pub row_entry_line : (base : ℕ → ℕ) (n : ℕ) (c : Core) → c.gpr 4 ≡ rsp → c.gpr 7 ≡ rdi → Calmly c → ((k : ℕ) → IsSlot dests sources k → word c.memory (rsp + row_slot k) ≡ Some (base k)) → word c.memory rdi ≡ Some n
        → (d : Core) × Line Q (row_entry_code dests sources) c d × RowEntered dests sources base n c d
    row_entry_line base n c s b calmly words word_n =
        let a = pointers_line base 0 dests (omega (arith, few_dests)) c s b calmly (λ k l u. words k (inl (omega (arith, u)))) in
        let apart_a : (r : ℕ) → ((k : ℕ) → r ≢ pointer k) → a.0.gpr r ≡ c.gpr r = λ r ne. a.2.others r (λ k l u. ne k) in
        let stack_a : a.0.gpr 4 ≡ c.gpr 4 = apart_a 4 (λ k e. not_4 k (sym e)) in
        let block_a : a.0.gpr 7 ≡ c.gpr 7 = apart_a 7 (λ k e. not_7 k (sym e)) in
        let calmly_a = calmly_on c a.0 calmly (still c a.0 s b a.2.memory a.2.xmm stack_a block_a) in
        let z = pointers_line base 4 sources (omega (arith, few_sources)) a.0 (stack_a ∙ s) (block_a ∙ b) calmly_a (λ k l u. ap (λ m. word m (rsp + row_slot k)) a.2.memory ∙ words k (inr (l, u))) in
        let u = z.0 in
        let apart_z : (r : ℕ) → ((k : ℕ) → r ≢ pointer k) → u.gpr r ≡ c.gpr r = λ r ne. z.2.others r (λ k l m. ne k) ∙ apart_a r ne in
        let memory : u.memory ≡ c.memory = z.2.memory ∙ a.2.memory in
        let xmm : u.xmm ≡ c.xmm = z.2.xmm ∙ a.2.xmm in
        let stack : u.gpr 4 ≡ c.gpr 4 = apart_z 4 (λ k e. not_4 k (sym e)) in
        let block : u.gpr 7 ≡ c.gpr 7 = apart_z 7 (λ k e. not_7 k (sym e)) in
        let u1 : Core = with_gpr u 1 n in
        let counts : work (Load 1 (away 7 elements_word)) u ≡ Ok u1 = load_word u 1 7 rdi 0 n (block ∙ b) (omega (arith, block_low)) (ap (λ m. word m (rdi + 0)) memory ∙ ap (λ t. word c.memory t) (none rdi) ∙ word_n) in
        let d : Core = with_flags u1 (Some (flags_of false false (bit_and n n))) in
        let last : Line Q counter_code u d = (at_block c calmly 0 (omega arith) _ u (still c u s b memory xmm stack block) refl, (u1, counts, (at_none c calmly _ u1 (still c u1 s b memory xmm stack block) refl, (d, refl, refl)))) in (
          d,
          line_append Q (arrays_code pointer_code dests sources) counter_code c u d (line_append Q (slots_code pointer_code 0 dests) (slots_code pointer_code 4 sources) c a.0 u a.1 z.1) last,
          record {
            pointers = λ k t. change_other u.gpr 1 n (pointer k) (not_1 k) ∙ ⊎_elim
                (λ l. z.2.others (pointer k) (λ j m1 m2 e. far_dest k j l m1 (pointer_one k j e)) ∙ a.2.pointers k (omega arith) (omega (arith, l)))
                (λ l. z.2.pointers k l.0 l.1)
                t;
            counter = refl;
            others = λ r p ne. change_other u.gpr 1 n r p ∙ apart_z r ne;
            memory = memory;
            xmm = xmm;
            tests = ap (λ x. Some (not (x == 0))) (both_is n);
          },
        )
      where
        none : (a : ℕ) → a + 0 ≡ a
        none a = omega arith

    -- ---- the start of the only row

    start_line : (base : ℕ → ℕ) (c : Core) → Calmly c → ((x : ℕ) → InRows x → IsMapped c.memory x) → (k : ℕ) → k < 12 → word c.memory (rdi + base_word k) ≡ Some (base k) → base k < 2 ^ 64
        → (u : Core) → OnWay c u → (d : Core) × Line Q (start_code k) u d × OnWay c d × (d.gpr (pointer k) ≡ base k) × ((r : ℕ) → r ≢ pointer k → d.gpr r ≡ u.gpr r) × (word d.memory (rsp + row_slot k) ≡ Some (base k)) × ((x : ℕ) → (InSlot k x → ⊥) → d.memory x ≡ u.memory x)
    start_line base c calmly there k l e small u h =
        let v = base k in
        let q = pointer k in
        let own = array_changes k l in
        let u1 : Core = with_gpr u q v in
        let loads : work (Load q (away 7 (base_word k))) u ≡ Ok u1 = load_word u q 7 rdi (base_word k) v h.block (omega (arith, block_low, l)) (block_word c u h (base_word k) v (omega (arith, l)) e) in
        let stack : u1.gpr 4 ≡ u.gpr 4 = change_other u.gpr q v 4 (λ z. not_4 k (sym z)) in
        let block : u1.gpr 7 ≡ u.gpr 7 = change_other u.gpr q v 7 (λ z. not_7 k (sym z)) in
        let here : u1.gpr q ≡ v = change_same u.gpr q v in
        let w1 = way_with c u u1 h stack block refl refl in
        let s = store_slot q k own u1 w1.stack (subst (λ n. n < 2 ^ 64) (sym here) small) (λ x r. h.mapped x (there x r)) in
        let d = stored q k u1 in (
          d,
          (at_block c calmly (base_word k) (omega (arith, l)) _ u h refl, (u1, loads, (at_slot c calmly k own _ u1 w1 refl, (d, s.works, refl)))),
          way_on c u1 d w1 (record { stack = w1.stack; block = w1.block; outside = λ x out. s.outside x (λ r. out (in_rows k x own r)); mapped = s.mapped; xmm = refl }),
          here,
          λ r ne. change_other u.gpr q v r ne,
          s.holds ∙ ap Some here,
          s.outside,
        )

    -- so many slots have begun: their pointers and their words are the bases
    record Begun (base : ℕ → ℕ) (first n : ℕ) (c u d : Core) : Type 0 where
      pointers : (k : ℕ) → first ≤ k → k < first + n → d.gpr (pointer k) ≡ base k
      others : (r : ℕ) → ((k : ℕ) → first ≤ k → k < first + n → r ≢ pointer k) → d.gpr r ≡ u.gpr r
      bases : (k : ℕ) → first ≤ k → k < first + n → word d.memory (rsp + row_slot k) ≡ Some (base k)
      slots : (k : ℕ) → k < 14 → (k < first) ⊎ (first + n ≤ k) → word d.memory (rsp + row_slot k) ≡ word u.memory (rsp + row_slot k)
      way : OnWay c d

    begun_line : (base : ℕ → ℕ) (c : Core) → Calmly c → ((x : ℕ) → InRows x → IsMapped c.memory x) → (first n : ℕ) → first + n ≤ 12 → ((k : ℕ) → first ≤ k → k < first + n → word c.memory (rdi + base_word k) ≡ Some (base k)) → ((k : ℕ) → first ≤ k → k < first + n → base k < 2 ^ 64)
        → (u : Core) → OnWay c u → (d : Core) × Line Q (slots_code start_code first n) u d × Begun base first n c u d
    begun_line base c calmly there first zero few words small u h = (u, refl, record { pointers = λ k l m. absurd (omega (arith, l, m)); others = λ r h. refl; bases = λ k l m. absurd (omega (arith, l, m)); slots = λ k l o. refl; way = h })
    begun_line base c calmly there first (suc n) few words small u h =
        let a = begun_line base c calmly there first n (omega (arith, few)) (λ k l m. words k l (omega (arith, m))) (λ k l m. small k l (omega (arith, m))) u h in
        let k = first + n in
        let low : k < 14 = omega (arith, few) in
        let x = start_line base c calmly there k (omega (arith, few)) (words k (omega arith) (omega arith)) (small k (omega arith) (omega arith)) a.0 a.2.way in (
          x.0,
          line_append Q (slots_code start_code first n) (start_code k) u a.0 x.0 a.1 x.1,
          record {
            pointers = λ j l m. ⊎_elim
                (λ e. subst (λ i. x.0.gpr (pointer i) ≡ base i) (sym e) x.3)
                (λ ne. x.4 (pointer j) (λ e. ne (pointer_one j k e)) ∙ a.2.pointers j l (omega (arith, m, ne)))
                (cases_eq j k);
            others = λ r h. x.4 r (h k (omega arith) (omega arith)) ∙ a.2.others r (λ j l m. h j l (omega (arith, m)));
            bases = λ j l m. ⊎_elim
                (λ e. subst (λ i. word x.0.memory (rsp + row_slot i) ≡ Some (base i)) (sym e) x.5)
                (λ ne. slot_apart k j low (omega (arith, m, few)) (λ e. ne (sym e)) x.0.memory a.0.memory x.6 ∙ a.2.bases j l (omega (arith, m, ne)))
                (cases_eq j k);
            slots = λ j l o. slot_apart k j low l (λ e. ⊎_elim (λ p. omega (arith, p, e)) (λ p. omega (arith, p, e)) o) x.0.memory a.0.memory x.6 ∙ a.2.slots j l (⊎_elim (λ p. inl p) (λ p. inr (omega (arith, p))) o);
            way = x.2;
          },
        )

    -- what it leaves
    pub record OnlyEntered (base : ℕ → ℕ) (n : ℕ) (c d : Core) : Type 0 where
      pub pointers : (k : ℕ) → IsSlot dests sources k → d.gpr (pointer k) ≡ base k
      pub counter : d.gpr 1 ≡ n
      pub tests : test Ne d.flags ≡ Some (not (d.gpr 1 == 0))
      pub bases : (k : ℕ) → IsSlot dests sources k → word d.memory (rsp + row_slot k) ≡ Some (base k)
      pub way : OnWay c d

    -- the pointers and the words of slots become the block's bases, and the counter the number of elements
    pub one_row_line : (base : ℕ → ℕ) (n : ℕ) (c : Core) → c.gpr 4 ≡ rsp → c.gpr 7 ≡ rdi → Calmly c → ((x : ℕ) → InRows x → IsMapped c.memory x)
        → ((k : ℕ) → IsSlot dests sources k → word c.memory (rdi + base_word k) ≡ Some (base k)) → ((k : ℕ) → IsSlot dests sources k → base k < 2 ^ 64) → word c.memory (rdi + elements_word) ≡ Some n
        → (d : Core) × Line Q (one_row_code dests sources) c d × OnlyEntered base n c d
    one_row_line base n c s b calmly there words small word_n =
        let h : OnWay c c = record { stack = s; block = b; outside = λ x out. refl; mapped = λ x t. t; xmm = refl } in
        let a = begun_line base c calmly there 0 dests (omega (arith, few_dests)) (λ k l m. words k (inl (omega (arith, m)))) (λ k l m. small k (inl (omega (arith, m)))) c h in
        let z = begun_line base c calmly there 4 sources (omega (arith, few_sources)) (λ k l m. words k (inr (l, m))) (λ k l m. small k (inr (l, m))) a.0 a.2.way in
        let u = z.0 in
        let w = z.2.way in
        let u1 : Core = with_gpr u 1 n in
        let counts : work (Load 1 (away 7 elements_word)) u ≡ Ok u1 = load_word u 1 7 rdi elements_word n w.block (omega (arith, block_low)) (block_word c u w elements_word n (omega arith) word_n) in
        let d : Core = with_flags u1 (Some (flags_of false false (bit_and n n))) in
        let w1 = way_with c u u1 w refl refl refl refl in
        let last : Line Q counter_code u d = (at_block c calmly elements_word (omega arith) _ u w refl, (u1, counts, (at_none c calmly _ u1 w1 refl, (d, refl, refl)))) in (
          d,
          line_append Q (arrays_code start_code dests sources) counter_code c u d (line_append Q (slots_code start_code 0 dests) (slots_code start_code 4 sources) c a.0 u a.1 z.1) last,
          record {
            pointers = λ k t. change_other u.gpr 1 n (pointer k) (not_1 k) ∙ ⊎_elim
                (λ l. z.2.others (pointer k) (λ j m1 m2 e. far_dest k j l m1 (pointer_one k j e)) ∙ a.2.pointers k (omega arith) (omega (arith, l)))
                (λ l. z.2.pointers k l.0 l.1)
                t;
            counter = refl;
            tests = ap (λ x. Some (not (x == 0))) (both_is n);
            bases = λ k t. ⊎_elim
                (λ l. z.2.slots k (omega (arith, l, few_dests)) (inl (omega (arith, l, few_dests))) ∙ a.2.bases k (omega arith) (omega (arith, l)))
                (λ l. z.2.bases k l.0 l.1)
                t;
            way = way_with c u1 d w1 refl refl refl refl;
          },
        )

    -- ---- the end of a row

    stride_line : (c : Core) (base stride : ℕ → ℕ) (k : ℕ) → k < 12 → Calmly c → ((x : ℕ) → InRows x → IsMapped c.memory x) → word c.memory (rsp + row_slot k) ≡ Some (base k) → word c.memory (rdi + stride_word k) ≡ Some (stride k)
        → (u : Core) → OnWay c u → word u.memory (rsp + row_slot k) ≡ word c.memory (rsp + row_slot k) → (d : Core) × Line Q (stride_code k) u d × Slotted k ((base k + stride k) % 2 ^ 64) u d
    stride_line c base stride k l calmly there base_is stride_is u h same =
        let v = base k in
        let s = stride k in
        let u1 : Core = with_gpr u 0 v in
        let u2 : Core = with_gpr u1 1 s in
        let u3 : Core = alu_core Add u2 0 s in
        let w1 = way_with c u u1 h refl refl refl refl in
        let w2 = way_with c u u2 h refl refl refl refl in
        let w3 = way_with c u u3 h refl refl refl refl in
        let first : work (Load 0 (away 4 (row_slot k))) u ≡ Ok u1 = load_word u 0 4 rsp (row_slot k) v h.stack (omega (arith, slot_low k (omega (arith, l)))) (same ∙ base_is) in
        let second : work (Load 1 (away 7 (stride_word k))) u1 ≡ Ok u2 = load_word u1 1 7 rdi (stride_word k) s h.block (omega (arith, block_low, l)) (block_word c u h (stride_word k) s (omega (arith, l)) stride_is) in
        let fits : (v + s) % 2 ^ 64 < 2 ^ 64 = omega arith in
        let x = store_slot 0 k (array_changes k l) u3 h.stack fits (λ x r. h.mapped x (there x r)) in (
          stored 0 k u3,
          (at_slot c calmly k (array_changes k l) _ u h refl, (u1, first, (at_block c calmly (stride_word k) (omega (arith, l)) _ u1 w1 refl, (u2, second, (at_none c calmly _ u2 w2 refl, (u3, refl, (at_slot c calmly k (array_changes k l) _ u3 w3 refl, (stored 0 k u3, x.works, refl)))))))),
          record { gpr = λ r p q. change_other u2.gpr 0 ((v + s) % 2 ^ 64) r p ∙ change_other u1.gpr 1 s r q ∙ change_other u.gpr 0 v r p; holds = x.holds; outside = x.outside; mapped = x.mapped; xmm = refl },
        )

    one_less_line : (base : ℕ → ℕ) (left : ℕ) (c : Core) → Calmly c → ((x : ℕ) → InRows x → IsMapped c.memory x) → suc left < 2 ^ 64
        → (u : Core) → OnWay c u → word u.memory (rsp + rows_slot) ≡ Some (suc left) → ((k : ℕ) → IsSlot dests sources k → word u.memory (rsp + row_slot k) ≡ Some (base k)) → (d : Core) × Line Q one_less_code u d × Passed dests sources base left u d
    one_less_line base left c calmly there small u h rows bases =
        let u1 : Core = with_gpr u 0 (suc left) in
        let new = alu_result Sub (suc left) (wrap 64 (pos 1)) in
        let new_is : new ≡ left = omega (arith, small) in
        let u2 : Core = alu_core Sub u1 0 (wrap 64 (pos 1)) in
        let w1 = way_with c u u1 h refl refl refl refl in
        let w2 = way_with c u u2 h refl refl refl refl in
        let first : work (Load 0 (away 4 rows_slot)) u ≡ Ok u1 = load_word u 0 4 rsp rows_slot (suc left) h.stack (omega (arith, stack_low)) rows in
        let s = store_slot 0 13 rows_change u2 h.stack (omega (arith, new_is, small)) (λ x r. h.mapped x (there x r)) in
        let d = stored 0 13 u2 in (
          d,
          (at_slot c calmly 13 rows_change _ u h refl, (u1, first, (at_none c calmly _ u1 w1 refl, (u2, refl, (at_slot c calmly 13 rows_change _ u2 w2 refl, (d, s.works, refl)))))),
          record {
            gpr = λ r p q. change_other u1.gpr 0 new r p ∙ change_other u.gpr 0 (suc left) r p;
            has = record {
              bases = λ k t. slot_apart 13 k (omega arith) (slot_small k t) (λ e. not_thirteen k t e) d.memory u.memory s.outside ∙ bases k t;
              rows = s.holds ∙ ap Some new_is;
              tests = ap (λ x. Some (not (x == 0))) new_is;
            };
            way = record { stack = h.stack; block = h.block; outside = λ x out. s.outside x (λ r. out (in_rows 13 x rows_change r)); mapped = s.mapped; xmm = refl };
          },
        )

    -- the words of slots go on by the arrays' strides, and one row less is left
    pub row_step_line : (base stride : ℕ → ℕ) (left : ℕ) (c : Core) → c.gpr 4 ≡ rsp → c.gpr 7 ≡ rdi → Calmly c → ((x : ℕ) → InRows x → IsMapped c.memory x)
        → ((k : ℕ) → IsSlot dests sources k → word c.memory (rsp + row_slot k) ≡ Some (base k)) → ((k : ℕ) → IsSlot dests sources k → word c.memory (rdi + stride_word k) ≡ Some (stride k)) → word c.memory (rsp + rows_slot) ≡ Some (suc left) → suc left < 2 ^ 64
        → (d : Core) × Line Q (row_step_code dests sources) c d × Passed dests sources (λ k. (base k + stride k) % 2 ^ 64) left c d
    row_step_line base stride left c s b calmly there bases strides rows small =
        let a = arrays_line Q stride_code (λ k. (base k + stride k) % 2 ^ 64) dests sources few_dests few_sources c s b (λ k l t u h e. stride_line c base stride k l calmly there (bases k t) (strides k t) u h e) in
        let z = one_less_line (λ k. (base k + stride k) % 2 ^ 64) left c calmly there small a.0 a.2.way (a.2.rows ∙ rows) a.2.holds in (
          z.0,
          line_append Q (arrays_code stride_code dests sources) one_less_code c a.0 z.0 a.1 z.1,
          record { gpr = λ r p q. z.2.gpr r p q ∙ a.2.gpr r p q; has = z.2.has; way = way_on c a.0 z.0 a.2.way z.2.way },
        )
