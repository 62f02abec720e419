-- Slots are filled: with a register, with a number, with a parameter.
use Rattle.std.proofs.Common.{◌≡◌, ◌≢◌, ℕ, ◌+◌, ◌-◌, ◌*◌, ◌/◌, ◌%◌, ◌^◌, ◌<◌, ◌≤◌, ◌==◌, if◌then◌else◌, nat_lt, true≢false, ◌||◌, pos, Bool, true, false, List, [], ◌∷◌, get_or, Some, Ok, refl, sym, ap, ◌∙◌, subst, arith, ⊎_elim}
use Rattle.std.proofs.lemmas.Bool.{cases_lt, lt-ltb}
use Rattle.orc_bits.specs.Lanes.{byte_of, from_bytes, AreBytes}
use Rattle.orc_bits.specs.Memory.{word, fill, IsMapped}
use Rattle.orc_bits.proofs.LaneLaws.{change_other, change_same, from_byte, AreBytes-from_bytes}
use Rattle.orc_bits.proofs.Memories.{all_there, store_there, fill_mapped, fill_out}
use Rattle.x86_ins.specs.declared.ins.MoveOp.TheVariants.{Movdqu}
use Rattle.x86_ins.specs.declared.ins.VecOp.TheVariants.{Punpcklbw}
use Rattle.x86_ins.specs.declared.ins.ShuffleOp.TheVariants.{Pshufd, Pshuflw}
use Rattle.x86_ins.specs.declared.ins.Ins.{Ins}
use Rattle.x86_ins.specs.declared.ins.Ins.TheVariants.{Vec, Shuffle, Store, VecStore, MovImm, Load, FromGpr}
use Rattle.x86_ins.specs.Vectors.{after, all_simd}
use Rattle.x86_ins.specs.Spelling.{IsIns}
use Rattle.x86_ins.specs.Way.{Each}
use Rattle.x86_ins.specs.Machine.{Core, Bounded, with_gpr, with_xmm, with_lanes, with_memory, address, access, save, work}
use Rattle.x86_ins.proofs.Bounds.{work_bounded}
use Rattle.x86_flow.specs.Moves.{away}
use Rattle.x86_flow.specs.Does.{Line}
use Rattle.x86_flow.proofs.Moves.{line_append}
use Rattle.x86_flow.proofs.Words.{store_word, load_word}
use Rattle.x86_flow.proofs.Frame.{word_same}
use Rattle.x86_flow.proofs.Plans.{rule_line}
use Rattle.x86_flow.proofs.Spelled.{fits_up}
use Rattle.orc_program.specs.declared.program.Operand.{Operand}
use Rattle.orc_program.specs.declared.program.Operand.TheVariants as operand
use Rattle.orc_frame.specs.Layout.{frame_size, index_in}
use Rattle.orc_frame.specs.Parts.{InFrame, InBlock, block_size, param_word}
use Rattle.orc_frame.specs.Frame.{pattern_byte, number_of, period}
use Rattle.orc_frame.specs.Code.{slot, twice_code, constant_code, repeated, spread_code, spread_to_code, is_narrow, param_code, fill_code}
use Rattle.orc_frame.proofs.Writes.{Wrote, filled, byte_in, line_bounded}
use Rattle.orc_frame.proofs.Bytes.{repeated_byte, spread_byte}

byte_4 : (v q : ℕ) → q < 4 → byte_of 4 v q ≡ v / 256 ^ q % 256
byte_4 v q h = let t : nat_lt q 4 ≡ true = lt-ltb q 4 h in ap (λ b. if b then v / 256 ^ q % 256 else 0) t

byte_small : (n v j : ℕ) → byte_of n v j < 256
byte_small n v j = go (nat_lt j n)
  where
    go : (t : Bool) → (if t then v / 256 ^ j % 256 else 0) < 256
    go true = omega arith
    go false = omega arith

-- an operand stands for a number of 64 bits: it is one, or one of so many parameters
abbrev pub IsKnown : List ℕ → ℕ → Operand → Type 0
IsKnown params count (operand.Number n) = n < 2 ^ 64
IsKnown params count (operand.Var p) = index_in params p < count

narrow_period : (way : ℕ) → is_narrow way ≡ true → (q : ℕ) → q % period way < 4
narrow_period way h q = go (way == 1) (way == 2) (way == 4) h
  where
    go : (one two four : Bool) → one || (two || four) ≡ true → q % (if one then 1 else if two then 2 else if four then 4 else 8) < 4
    go true two four e = omega arith
    go false true four e = omega arith
    go false false true e = omega arith
    go false false false e = absurd (true≢false (sym e))

wide_period : (way : ℕ) → is_narrow way ≡ false → period way ≡ 8
wide_period way h = go (way == 1) (way == 2) (way == 4) h
  where
    go : (one two four : Bool) → one || (two || four) ≡ false → (let k : ℕ = if one then 1 else if two then 2 else if four then 4 else 8 in k) ≡ 8
    go true two four e = absurd (true≢false e)
    go false true four e = absurd (true≢false e)
    go false false true e = absurd (true≢false e)
    go false false false e = refl

pub repeated_small : (way n : ℕ) → n < 2 ^ 64 → repeated way n < 2 ^ 64
repeated_small way n h = go (way == 1) (way == 2) (way == 4)
  where
    go : (one two four : Bool) → (if one then n % 2 ^ 8 * 0x0101010101010101 else if two then n % 2 ^ 16 * 0x0001000100010001 else if four then n % 2 ^ 32 * 0x0000000100000001 else n) < 2 ^ 64
    go true two four = omega arith
    go false true four = omega arith
    go false false true = omega arith
    go false false false = h

-- s is the core at the entry
module _ (s : Core) (room : frame_size ≤ s.gpr 4) (low : s.gpr 4 + 8 ≤ 2 ^ 47) where
  abbrev pub rsp : ℕ
  rsp = s.gpr 4 - frame_size

  -- RSP is lowered, and nothing changed outside the frame
  pub record Lowered (u : Core) : Type 0 where
    pub stack : u.gpr 4 ≡ rsp
    pub block : u.gpr 7 ≡ s.gpr 7
    pub outside : (x : ℕ) → (InFrame rsp x → ⊥) → u.memory x ≡ s.memory x

  abbrev pub Q : Core → Ins → Type 0
  Q u i = Lowered u

  -- a core whose RSP is lowered, with nothing changed outside the frame
  pub record Inside (c : Core) : Type 0 where
    pub stack : c.gpr 4 ≡ rsp
    pub others : (r : ℕ) → r ≢ 0 → r ≢ 4 → c.gpr r ≡ s.gpr r
    pub outside : (x : ℕ) → (InFrame rsp x → ⊥) → c.memory x ≡ s.memory x
    pub frame : (x : ℕ) → InFrame rsp x → IsMapped c.memory x
    pub bounded : Bounded c

  pub known : (c u : Core) → Inside c → u.gpr 4 ≡ c.gpr 4 → u.gpr 7 ≡ c.gpr 7 → u.memory ≡ c.memory → Lowered u
  known c u h e f m = record {
    stack = e ∙ h.stack;
    block = f ∙ h.others 7 (λ q. omega (arith, q)) (λ q. omega (arith, q));
    outside = λ x out. ap (λ g. g x) m ∙ h.outside x out;
  }

  pub here : (c : Core) → Inside c → Lowered c
  here c h = known c c h refl refl refl

  -- only registers changed
  pub calm : (c d : Core) → Inside c → d.memory ≡ c.memory → ((r : ℕ) → r ≢ 0 → d.gpr r ≡ c.gpr r) → Bounded d → Inside d
  calm c d h m g b = record {
    stack = g 4 (λ q. omega (arith, q)) ∙ h.stack;
    others = λ r n k. g r n ∙ h.others r n k;
    outside = λ x out. ap (λ f. f x) m ∙ h.outside x out;
    frame = λ x i. subst (λ f. IsMapped f x) (sym m) (h.frame x i);
    bounded = b;
  }

  -- bytes of the frame changed
  pub changed : (c d : Core) (n at : ℕ) (f : ℕ → ℕ) → Inside c → d.gpr ≡ c.gpr → d.memory ≡ fill n c.memory (rsp + at) f → at + n ≤ frame_size → Bounded d → Inside d
  changed c d n at f h g m l b = record {
    stack = ap (λ f. f 4) g ∙ h.stack;
    others = λ r n k. ap (λ f. f r) g ∙ h.others r n k;
    outside = λ x out. ap (λ f. f x) m ∙ fill_out n c.memory (rsp + at) f x (omega (arith, low, l)) (λ j i e. out (omega (arith, e), omega (arith, e, i, l))) ∙ h.outside x out;
    frame = λ x i. subst (λ f. IsMapped f x) (sym m) (fill_mapped n c.memory (rsp + at) f x (h.frame x i));
    bounded = b;
  }

  -- a list leads on, fills a slot, and stays inside
  abbrev pub Fills : List Ins → ℕ → ℕ → (ℕ → ℕ) → Core → Type 0
  Fills is at n f c = (d : Core) × Line Q is c d × Wrote (rsp + at) n f c d × Inside d

  -- a register goes to a word
  pub store_line : (q at : ℕ) (c : Core) → q < 16 → at + 8 ≤ frame_size → Inside c → (d : Core) × Line Q (Store q (slot (pos at)) ∷ []) c d × (d.gpr ≡ c.gpr) × Wrote (rsp + at) 8 (λ j. c.gpr q / 256 ^ j % 256) c d × Inside d
  store_line q at c reg l h =
      let f = byte_of 8 (c.gpr q) in
      let d : Core = with_memory c (fill 8 c.memory (rsp + at) f) in
      let i : Ins = Store q (slot (pos at)) in
      let does : work i c ≡ Ok d = store_word c q 4 rsp at h.stack (omega (arith, low, l)) (λ x a b. h.frame x (omega (arith, a), omega (arith, b, l))) in
      let b : Bounded d = work_bounded i c d (reg, ((let r : 4 < 16 = omega arith in r), fits_up at (omega (arith, l)))) h.bounded does in
      (d, (here c h, (d, does, refl)), refl, filled (rsp + at) 8 f (λ j. c.gpr q / 256 ^ j % 256) c d (omega (arith, low, l)) refl (λ j m. byte_in (c.gpr q) j m), changed c d 8 at f h refl refl l b)

  -- RAX to both words of a slot
  pub twice_line : (at v : ℕ) (c : Core) → at + 16 ≤ frame_size → c.gpr 0 ≡ v → Inside c → Fills (twice_code (pos at)) at 16 (λ q. v / 256 ^ (q % 8) % 256) c
  twice_line at v c l e h =
      let x = store_line 0 at c (omega arith) (omega (arith, l)) h in
      let u : Core = x.0 in
      let y = store_line 0 (at + 8) u (omega arith) (omega (arith, l)) x.4 in
      let d : Core = y.0 in
      let ue : u.gpr 0 ≡ v = ap (λ g. g 0) x.2 ∙ e in (
        d,
        line_append Q (Store 0 (slot (pos at)) ∷ []) (Store 0 (slot (pos (at + 8))) ∷ []) c u d x.1 y.1,
        record {
          bytes = λ q m. ⊎_elim
              (λ (b : q < 8). y.3.outside (rsp + at + q) (λ i j. omega (arith, i, b)) ∙ x.3.bytes q b ∙ ap (λ k. Some (k / 256 ^ q % 256)) e ∙ ap (λ k. Some (v / 256 ^ k % 256)) (let z : q ≡ q % 8 = omega (arith, b) in z))
              (λ (b : 8 ≤ q). ap d.memory (let z : rsp + at + q ≡ rsp + (at + 8) + (q - 8) = omega (arith, b) in z) ∙ y.3.bytes (q - 8) (omega (arith, b, m)) ∙ ap (λ k. Some (k / 256 ^ (q - 8) % 256)) ue ∙ ap (λ k. Some (v / 256 ^ k % 256)) (let z : q - 8 ≡ q % 8 = omega (arith, b, m) in z))
              (cases_lt q 8);
          outside = λ t out. y.3.outside t (λ i j. out (omega (arith, i)) (omega (arith, j))) ∙ x.3.outside t (λ i j. out i (omega (arith, j)));
        },
        y.4,
      )

  -- a word in both words of a slot
  pub constant_line : (at n : ℕ) (c : Core) → at + 16 ≤ frame_size → n < 2 ^ 64 → Inside c → Fills (constant_code n (pos at)) at 16 (λ q. n / 256 ^ (q % 8) % 256) c
  constant_line at n c l small h =
      let u : Core = with_gpr c 0 n in
      let b : Bounded u = work_bounded (MovImm 0 n) c u ((let r : 0 < 16 = omega arith in r), small) h.bounded refl in
      let x = twice_line at n u l refl (calm c u h refl (λ r ne. change_other c.gpr 0 n r ne) b) in
      (x.0, (here c h, (u, refl, x.1)), record { bytes = x.2.bytes; outside = x.2.outside }, x.3)

  store_16 : (at : ℕ) (c : Core) → at + 16 ≤ frame_size → Inside c → work (VecStore Movdqu 0 (slot (pos at))) c ≡ Ok (with_memory c (fill 16 c.memory (rsp + at) (λ j. get_or (c.xmm 0) j 0)))
  store_16 at c l h =
      let f : ℕ → ℕ = λ j. get_or (c.xmm 0) j 0 in
      let e = h.stack in
      let place : address c (slot (pos at)) ≡ rsp + at = omega (arith, e, low, l) in
      let there = all_there 16 c.memory (rsp + at) (omega (arith, low, l)) (λ j i. h.frame (rsp + at + j) (omega arith, omega (arith, i, l))) in
      ap (λ p. save 16 c p f (λ mem. with_memory c mem)) place
      ∙ ap (λ o. access 16 c.memory (rsp + at) o (λ mem. with_memory c mem)) (store_there 16 c.memory (rsp + at) f there)

  -- XMM0 to a slot
  vector_line : (at : ℕ) (c : Core) → at + 16 ≤ frame_size → Inside c → Fills (VecStore Movdqu 0 (slot (pos at)) ∷ []) at 16 (λ q. get_or (c.xmm 0) q 0) c
  vector_line at c l h =
      let f : ℕ → ℕ = λ j. get_or (c.xmm 0) j 0 in
      let i : Ins = VecStore Movdqu 0 (slot (pos at)) in
      let d : Core = with_memory c (fill 16 c.memory (rsp + at) f) in
      let does = store_16 at c l h in
      let b : Bounded d = work_bounded i c d ((let r : 0 < 16 = omega arith in r), ((let r : 4 < 16 = omega arith in r), fits_up at (omega (arith, l)))) h.bounded does in
      (d, (here c h, (d, does, refl)), filled (rsp + at) 16 f f c d (omega (arith, low, l)) refl (λ j m. refl), changed c d 16 at f h refl refl l b)

  spread_simd : (way : ℕ) → all_simd (spread_code way) ≡ true
  spread_simd way = go (way == 1) (way == 2)
    where
      go : (one two : Bool) → all_simd (if one then Vec Punpcklbw 0 0 ∷ Shuffle Pshuflw 0 0 0 ∷ Shuffle Pshufd 0 0 0 ∷ [] else if two then Shuffle Pshuflw 0 0 0 ∷ Shuffle Pshufd 0 0 0 ∷ [] else Shuffle Pshufd 0 0 0 ∷ []) ≡ true
      go true two = refl
      go false true = refl
      go false false = refl

  spread_ins : (way : ℕ) → Each IsIns (spread_code way)
  spread_ins way = go (way == 1) (way == 2)
    where
      zero_reg : 0 < 16
      zero_reg = omega arith

      zero_order : 0 < 2 ^ 8
      zero_order = omega arith

      go : (one two : Bool) → Each IsIns (if one then Vec Punpcklbw 0 0 ∷ Shuffle Pshuflw 0 0 0 ∷ Shuffle Pshufd 0 0 0 ∷ [] else if two then Shuffle Pshuflw 0 0 0 ∷ Shuffle Pshufd 0 0 0 ∷ [] else Shuffle Pshufd 0 0 0 ∷ [])
      go true two = ((zero_reg, zero_reg), ((zero_reg, zero_reg, zero_order), ((zero_reg, zero_reg, zero_order), tt)))
      go false true = ((zero_reg, zero_reg, zero_order), ((zero_reg, zero_reg, zero_order), tt))
      go false false = ((zero_reg, zero_reg, zero_order), tt)

  -- the low bytes of RAX, repeated
  spread_line : (way at v : ℕ) (c : Core) → is_narrow way ≡ true → at + 16 ≤ frame_size → c.gpr 0 ≡ v → Inside c → Fills (spread_to_code way (pos at)) at 16 (λ q. pattern_byte way v q) c
  spread_line way at v c narrow l e h =
      let y : List ℕ = from_bytes (byte_of 4 (c.gpr 0)) in
      let u : Core = with_xmm c 0 y in
      let reg : 0 < 16 = omega arith in
      let u_bounded : Bounded u = work_bounded (FromGpr false 0 0) c u (reg, reg) h.bounded refl in
      let ui : Inside u = calm c u h refl (λ r ne. refl) u_bounded in
      let w : Core = with_lanes u (after (spread_code way) u.xmm) in
      let line : Line Q (spread_code way) u w = rule_line Q (spread_code way) (spread_simd way) u (λ a i g fl m. known u a ui (ap (λ k. k 4) g) (ap (λ k. k 7) g) m) in
      let wi : Inside w = calm u w ui refl (λ r ne. refl) (line_bounded Q (spread_code way) u w (spread_ins way) u_bounded line) in
      let z = vector_line at w l wi in
      let is_new : u.xmm 0 ≡ y = change_same c.xmm 0 y in
      let small : AreBytes (u.xmm 0) = subst AreBytes (sym is_new) (AreBytes-from_bytes (byte_of 4 (c.gpr 0)) (λ k i. byte_small 4 (c.gpr 0) k)) in (
        z.0,
        (here c h, (u, refl, line_append Q (spread_code way) (VecStore Movdqu 0 (slot (pos at)) ∷ []) u w z.0 line z.1)),
        record {
          bytes = λ q i. z.2.bytes q i ∙ ap Some
              (spread_byte way narrow u.xmm small q i ∙ ap (λ b. get_or b (q % period way) 0) is_new ∙ from_byte (byte_of 4 (c.gpr 0)) (q % period way) (omega (arith, narrow_period way narrow q))
              ∙ byte_4 (c.gpr 0) (q % period way) (narrow_period way narrow q) ∙ ap (λ k. k / 256 ^ (q % period way) % 256) e);
          outside = z.2.outside;
        },
        z.3,
      )

  module _ (param : ℕ → ℕ) (count : ℕ) (count_few : count ≤ 8) (block_low : s.gpr 7 + block_size ≤ 2 ^ 47) (words : (j : ℕ) → j < count → word s.memory (s.gpr 7 + param_word j) ≡ Some (param j)) (apart : (x : ℕ) → InBlock (s.gpr 7) x → InFrame rsp x → ⊥) where
    load_param : (j : ℕ) (c : Core) → j < count → Inside c → work (Load 0 (away 7 (param_word j))) c ≡ Ok (with_gpr c 0 (param j))
    load_param j c l h =
        load_word c 0 7 (s.gpr 7) (param_word j) (param j) (h.others 7 (λ q. omega (arith, q)) (λ q. omega (arith, q))) (omega (arith, block_low, l, count_few))
        (word_same c.memory s.memory (s.gpr 7 + param_word j) (omega (arith, block_low, l, count_few)) (λ x a b. h.outside x (apart x (omega (arith, a), omega (arith, b, l, count_few)))) ∙ words j l)

    -- a parameter
    pub param_line : (way j at : ℕ) (c : Core) → j < count → at + 16 ≤ frame_size → Inside c → Fills (param_code way j (pos at)) at 16 (λ q. pattern_byte way (param j) q) c
    param_line way j at c jl l h = go (is_narrow way) refl
      where
        u : Core
        u = with_gpr c 0 (param j)

        does : work (Load 0 (away 7 (param_word j))) c ≡ Ok u
        does = load_param j c jl h

        u_in : Inside u
        u_in = calm c u h refl (λ r ne. change_other c.gpr 0 (param j) r ne) (work_bounded (Load 0 (away 7 (param_word j))) c u ((let r : 0 < 16 = omega arith in r), ((let r : 7 < 16 = omega arith in r), fits_up (param_word j) (omega (arith, jl, count_few)))) h.bounded does)

        then_ : (is : List Ins) → Fills is at 16 (λ q. pattern_byte way (param j) q) u → Fills (Load 0 (away 7 (param_word j)) ∷ is) at 16 (λ q. pattern_byte way (param j) q) c
        then_ is x = (x.0, (here c h, (u, does, x.1)), record { bytes = x.2.bytes; outside = x.2.outside }, x.3)

        go : (b : Bool) → is_narrow way ≡ b → Fills (Load 0 (away 7 (param_word j)) ∷ (if b then spread_to_code way (pos at) else twice_code (pos at))) at 16 (λ q. pattern_byte way (param j) q) c
        go true e = then_ (spread_to_code way (pos at)) (spread_line way at (param j) u e l refl u_in)
        go false e =
            let x = twice_line at (param j) u l refl u_in in
            then_ (twice_code (pos at)) (x.0, x.1, record { bytes = λ q i. x.2.bytes q i ∙ ap (λ k. Some (param j / 256 ^ (q % k) % 256)) (sym (wide_period way e)); outside = x.2.outside }, x.3)

    -- a pattern
    pub pattern_line : (params : List ℕ) (way at : ℕ) (number : Operand) (c : Core) → IsKnown params count number → at + 16 ≤ frame_size → Inside c → Fills (fill_code params way number (pos at)) at 16 (λ q. pattern_byte way (number_of params param number) q) c
    pattern_line params way at (operand.Number n) c k l h =
        let x = constant_line at (repeated way n) c l (repeated_small way n k) h in
        (x.0, x.1, record { bytes = λ q i. x.2.bytes q i ∙ ap Some (repeated_byte way n q i); outside = x.2.outside }, x.3)
    pattern_line params way at (operand.Var p) c k l h = param_line way (index_in params p) at c k l h
