-- The prologue leads from the entry to a core that is prepared.
use Rattle.std.proofs.Common.{◌≡◌, ◌≢◌, ℕ, zero, suc, ◌+◌, ◌-◌, ◌*◌, ◌/◌, ◌%◌, ◌^◌, ◌<◌, ◌≤◌, pos, List, [], ◌∷◌, ◌++◌, length, Some, refl, sym, ap, ◌∙◌, subst, arith, inl, inr}
use Rattle.orc_bits.specs.Numbers.{wrap}
use Rattle.orc_bits.specs.Memory.{Memory, word}
use Rattle.orc_bits.proofs.LaneLaws.{change_other, change_same}
use Rattle.x86_ins.specs.declared.ins.AluOp.TheVariants.{Sub}
use Rattle.x86_ins.specs.declared.ins.Ins.{Ins}
use Rattle.x86_ins.specs.declared.ins.Ins.TheVariants.{AluImm, Store}
use Rattle.x86_ins.specs.Machine.{Core, alu_core, alu_result}
use Rattle.x86_ins.specs.Way.{Each}
use Rattle.x86_ins.proofs.Bounds.{work_bounded}
use Rattle.x86_flow.specs.Does.{Line}
use Rattle.x86_flow.proofs.Moves.{line_append}
use Rattle.x86_flow.proofs.Frame.{word_value}
use Rattle.x86_flow.proofs.Spelled.{fits_up}
use Rattle.orc_frame.specs.declared.frame.Layout.{Layout}
use Rattle.orc_frame.specs.Layout.{frame_size, pattern_slot, sum_slot, saved_slot, block_slot}
use Rattle.orc_frame.specs.Parts.{InFrame}
use Rattle.orc_frame.specs.Frame.{IsLayout, saved, pattern_at, pattern_byte, number_of, Enters, AfterEntry, Prepared, Prepares}
use Rattle.orc_frame.specs.Code.{joined, slot, save_code, pattern_code, clear_code, constant_code, fill_code, prologue_code}
use Rattle.orc_frame.proofs.Facts.{Facts, facts}
use Rattle.orc_frame.proofs.Writes.{Wrote, joined_line}
use Rattle.orc_frame.proofs.Reach.{Reaches, touched, nothing, line_with, saved_small}
use Rattle.orc_frame.proofs.Counted.{prologue_of}
use Rattle.orc_frame.proofs.Fills.{rsp, Inside, Lowered, Q, store_line, constant_line, pattern_line}

-- at another address of the same number, and with the same bytes
again : (a b w : ℕ) (f g : ℕ → ℕ) (c d : Core) → a ≡ b → ((q : ℕ) → q < w → f q ≡ g q) → Wrote a w f c d → Wrote b w g c d
again a b w f g c d e same x = record {
  bytes = λ q l. ap (λ t. d.memory (t + q)) (sym e) ∙ x.bytes q l ∙ ap Some (same q l);
  outside = λ t out. x.outside t (λ i j. out (subst (λ k. k ≤ t) e i) (subst (λ k. t < k + w) e j));
}

pub saved_not : (j r : ℕ) → (r < 3) → saved j ≢ r
saved_not zero r h e = omega (arith, h, e)
saved_not (suc zero) r h e = omega (arith, h, e)
saved_not (suc (suc j)) r h e = omega (arith, h, e)

pub saved_not_4 : (j : ℕ) → saved j ≢ 4
saved_not_4 zero e = omega (arith, e)
saved_not_4 (suc zero) e = omega (arith, e)
saved_not_4 (suc (suc j)) e = omega (arith, e)

-- the bytes of a word are the word
word_of : (mem : Memory) (a v : ℕ) → a + 8 < 2 ^ 63 → v < 2 ^ 64 → ((q : ℕ) → q < 8 → mem (a + q) ≡ Some (v / 256 ^ q % 256)) → word mem a ≡ Some v
word_of mem a v w b h = word_value mem a v w b h

module _ (l : Layout) (is : IsLayout l) (param : ℕ → ℕ) (s : Core) (en : Enters l param s) where
  known : Facts l
  known = facts l is

  abbrev In : Core → Type 0
  In c = Inside s en.room en.low c

  abbrev Go : Core → Ins → Type 0
  Go = Q s en.room en.low

  abbrev Down : Core → Type 0
  Down = Lowered s en.room en.low

  abbrev base : ℕ
  base = rsp s en.room en.low

  lowered : (a : ℕ) → frame_size ≤ a → a + 8 ≤ 2 ^ 47 → alu_result Sub a (wrap 64 (pos frame_size)) ≡ a - frame_size
  lowered a h w = omega (arith, h, w)

  abbrev begin : Core
  begin = alu_core Sub s 4 (wrap 64 (pos frame_size))

  begin_in : In begin
  begin_in = record {
    stack = change_same s.gpr 4 (alu_result Sub (s.gpr 4) (wrap 64 (pos frame_size))) ∙ lowered (s.gpr 4) en.room en.low;
    others = λ r n k. change_other s.gpr 4 (alu_result Sub (s.gpr 4) (wrap 64 (pos frame_size))) r k;
    outside = λ x out. refl;
    frame = en.frame;
    bounded = work_bounded (AluImm Sub 4 (pos frame_size)) s begin ((let r : 4 < 16 = omega arith in r), fits_up frame_size (omega arith)) en.bounded refl;
  }

  -- a step behind the first
  step : (u : Core) (i : Ins) → Down u → Reaches i → AfterEntry s u i
  step u i h r =
      let e = h.stack in
      let room = en.room in
      let low = en.low in
      record {
        stack = inr (omega (arith, e, room));
        not_yet = λ same x. (let no : ⊥ = omega (arith, e, room, same) in absurd no);
        block = h.block;
        outside = h.outside;
        touches = λ x t. touched u base (s.gpr 7) h.stack h.block (omega (arith, room, low)) en.block_low i r x t;
      }

  first : AfterEntry s s (AluImm Sub 4 (pos frame_size))
  first = record { stack = inl refl; not_yet = λ e x. (refl, λ t. nothing x t); block = refl; outside = λ x out. refl; touches = λ x t. nothing x t }

  -- the registers
  save_piece : (j : ℕ) → j < 6 → (c : Core) → In c → (d : Core) × Line Go (save_code l j) c d × Wrote (base + saved_slot 0 + 8 * j) 8 (λ q. s.gpr (saved j) / 256 ^ q % 256) c d × In d
  save_piece j i c h =
      let x = store_line s en.room en.low (saved j) (saved_slot j) c (saved_small j i) (omega (arith, i)) h in (
        x.0,
        subst (λ z. Line Go (Store (saved j) (slot z) ∷ []) c x.0) (sym (known.saved_slots j i)) x.1,
        again (base + saved_slot j) (base + saved_slot 0 + 8 * j) 8 _ _ c x.0 (omega arith) (λ q m. ap (λ v. v / 256 ^ q % 256) (h.others (saved j) (saved_not j 0 (omega arith)) (saved_not_4 j))) x.3,
        x.4,
      )

  -- the patterns
  pattern_piece : (k : ℕ) → k < length l.patterns.items → (c : Core) → In c → (d : Core) × Line Go (pattern_code l k) c d × Wrote (base + 0 + 16 * k) 16 (λ q. pattern_byte (pattern_at l k).way (number_of l.params.items param (pattern_at l k).number) q) c d × In d
  pattern_piece k i c h =
      let few = known.few_patterns in
      let p = pattern_at l k in
      let x = pattern_line s en.room en.low param (length l.params.items) known.few_params en.block_low en.params en.apart l.params.items p.way (pattern_slot k) p.number c (known.known k i) (omega (arith, i, few)) h in (
        x.0,
        subst (λ z. Line Go (fill_code l.params.items p.way p.number z) c x.0) (sym (known.pattern_slots k i)) x.1,
        again (base + pattern_slot k) (base + 0 + 16 * k) 16 _ _ c x.0 (omega arith) (λ q m. refl) x.2,
        x.3,
      )

  none : (j : ℕ) → 0 / 256 ^ j % 256 ≡ 0
  none j = ap (λ x. x % 256) (zero_over (256 ^ j))
    where
      zero_over : (n : ℕ) → 0 / n ≡ 0
      zero_over n = grind (arith)

  -- the running sums
  clear_piece : (g : ℕ) → g < length l.acc_sizes.items → (c : Core) → In c → (d : Core) × Line Go (clear_code l g) c d × Wrote (base + sum_slot 0 + 16 * g) 16 (λ q. 0) c d × In d
  clear_piece g i c h =
      let few = known.few_sums in
      let x = constant_line s en.room en.low (sum_slot g) 0 c (omega (arith, i, few)) (omega arith) h in (
        x.0,
        subst (λ z. Line Go (constant_code 0 z) c x.0) (sym (known.sum_slots g i)) x.1,
        again (base + sum_slot g) (base + sum_slot 0 + 16 * g) 16 _ _ c x.0 (omega arith) (λ q m. none (q % 8)) x.2,
        x.3,
      )

  pub record Filled (d : Core) : Type 0 where
    pub inside : In d
    pub saved : (j : ℕ) → j < 6 → (q : ℕ) → q < 8 → d.memory (base + saved_slot j + q) ≡ Some (s.gpr (saved j) / 256 ^ q % 256)
    pub block : (q : ℕ) → q < 8 → d.memory (base + block_slot + q) ≡ Some (s.gpr 7 / 256 ^ q % 256)
    pub patterns : (k : ℕ) → k < length l.patterns.items → (q : ℕ) → q < 16 → d.memory (base + pattern_slot k + q) ≡ Some (pattern_byte (pattern_at l k).way (number_of l.params.items param (pattern_at l k).number) q)
    pub sums : (g : ℕ) → g < length l.acc_sizes.items → (q : ℕ) → q < 16 → d.memory (base + sum_slot g + q) ≡ Some 0

  abbrev all_saves : List Ins
  all_saves = joined (save_code l) 6

  abbrev all_patterns : List Ins
  all_patterns = joined (pattern_code l) (length l.patterns.items)

  abbrev all_clears : List Ins
  all_clears = joined (clear_code l) (length l.acc_sizes.items)

  -- the patterns and the sums, behind the registers and the block's address
  later : (c : Core) → In c → ((j : ℕ) → j < 6 → (q : ℕ) → q < 8 → c.memory (base + saved_slot j + q) ≡ Some (s.gpr (saved j) / 256 ^ q % 256)) → ((q : ℕ) → q < 8 → c.memory (base + block_slot + q) ≡ Some (s.gpr 7 / 256 ^ q % 256))
      → (d : Core) × Line Go (all_patterns ++ all_clears) c d × Filled d
  later c h saves block =
      let n = length l.patterns.items in
      let m = length l.acc_sizes.items in
      let n_few = known.few_patterns in
      let m_few = known.few_sums in
      let x = joined_line Go In (base + 0) 16 n (λ k q. pattern_byte (pattern_at l k).way (number_of l.params.items param (pattern_at l k).number) q) (pattern_code l) pattern_piece n (omega arith) c h in
      let u : Core = x.0 in
      let y = joined_line Go In (base + sum_slot 0) 16 m (λ g q. 0) (clear_code l) clear_piece m (omega arith) u x.3 in
      let d : Core = y.0 in
      let kept : (a : ℕ) → base + saved_slot 0 ≤ a → d.memory a ≡ c.memory a = λ a i. y.2.outside a (λ j k. omega (arith, i, k, m_few)) ∙ x.2.outside a (λ j k. omega (arith, i, k, n_few)) in (
        d,
        line_append Go all_patterns all_clears c u d x.1 y.1,
        record {
          inside = y.3;
          saved = λ j i q r. kept (base + saved_slot j + q) (omega arith) ∙ saves j i q r;
          block = λ q r. kept (base + block_slot + q) (omega arith) ∙ block q r;
          patterns = λ k i q r. y.2.outside (base + pattern_slot k + q) (λ j t. omega (arith, i, r, j, n_few)) ∙ ap u.memory (let e : base + pattern_slot k + q ≡ base + 0 + 16 * k + q = omega arith in e) ∙ x.2.bytes k i q r;
          sums = λ g i q r. ap d.memory (let e : base + sum_slot g + q ≡ base + sum_slot 0 + 16 * g + q = omega arith in e) ∙ y.2.bytes g i q r;
        },
      )

  block_line : (c : Core) → In c → (d : Core) × Line Go (Store 7 (slot l.block_at) ∷ []) c d × Wrote (base + block_slot) 8 (λ q. s.gpr 7 / 256 ^ q % 256) c d × In d
  block_line c h =
      let x = store_line s en.room en.low 7 block_slot c (omega arith) (omega arith) h in (
        x.0,
        subst (λ z. Line Go (Store 7 (slot z) ∷ []) c x.0) (sym known.block_word) x.1,
        again (base + block_slot) (base + block_slot) 8 _ _ c x.0 refl (λ q m. ap (λ v. v / 256 ^ q % 256) (h.others 7 (λ e. omega (arith, e)) (λ e. omega (arith, e)))) x.3,
        x.4,
      )

  abbrev rest : List Ins
  rest = all_saves ++ (Store 7 (slot l.block_at) ∷ (all_patterns ++ all_clears))

  rest_line : (d : Core) × Line Go rest begin d × Filled d
  rest_line =
      let x = joined_line Go In (base + saved_slot 0) 8 6 (λ j q. s.gpr (saved j) / 256 ^ q % 256) (save_code l) save_piece 6 (omega arith) begin begin_in in
      let u : Core = x.0 in
      let y = block_line u x.3 in
      let v : Core = y.0 in
      let z = later v y.3
      (λ j i q r. y.2.outside (base + saved_slot j + q) (λ a b. omega (arith, i, r, a)) ∙ ap u.memory (let e : base + saved_slot j + q ≡ base + saved_slot 0 + 8 * j + q = omega arith in e) ∙ x.2.bytes j i q r)
      (λ q r. y.2.bytes q r) in
      let d : Core = z.0 in (
        d,
        line_append Go all_saves (Store 7 (slot l.block_at) ∷ (all_patterns ++ all_clears)) begin u d x.1 (line_append Go (Store 7 (slot l.block_at) ∷ []) (all_patterns ++ all_clears) u v d y.1 z.1),
        z.2,
      )

  prepared : (d : Core) → Filled d → Prepared l param s d
  prepared d h =
      let e = h.inside.stack in
      let room = en.room in
      let low = en.low in
      record {
        stack = omega (arith, e, room);
        others = h.inside.others;
        outside = λ x out. h.inside.outside x (λ i. out (subst (λ r. InFrame r x) (sym e) i));
        frame = λ x i. h.inside.frame x (subst (λ r. InFrame r x) e i);
        bounded = h.inside.bounded;
        saved = λ j i. ap (λ r. word d.memory (r + saved_slot j)) e ∙ word_of d.memory (base + saved_slot j) (s.gpr (saved j)) (omega (arith, i, low)) (en.bounded.gpr (saved j)) (h.saved j i);
        block = ap (λ r. word d.memory (r + block_slot)) e ∙ word_of d.memory (base + block_slot) (s.gpr 7) (omega (arith, low)) (en.bounded.gpr 7) h.block;
        patterns = λ k i q r. ap (λ t. d.memory (t + pattern_slot k + q)) e ∙ h.patterns k i q r;
        sums = λ g i q r. ap (λ t. d.memory (t + sum_slot g + q)) e ∙ h.sums g i q r;
      }

  prologue_leads : (d : Core) × Line (AfterEntry s) (prologue_code l) s d × Prepared l param s d
  prologue_leads =
      let x = rest_line in
      let near : Each Reaches rest = (prologue_of l is).near.1 in
      (x.0, (first, (begin, refl, line_with Go (AfterEntry s) Reaches step rest near begin x.0 x.1)), prepared x.0 x.2)

pub prologue_prepares : (l : Layout) (list : List Ins) → IsLayout l → list ≡ prologue_code l → Prepares l list
prologue_prepares l list is e = subst (Prepares l) (sym e) (λ param s en. prologue_leads l is param s en)
