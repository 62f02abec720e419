-- The epilogue leads from the end of the rows to a core that is finished.
use Rattle.std.proofs.Common.{◌≡◌, ◌≢◌, ℕ, zero, suc, ◌+◌, ◌-◌, ◌*◌, ◌/◌, ◌%◌, ◌^◌, ◌<◌, ◌≤◌, true, false, pos, List, [], ◌∷◌, ◌++◌, length, get_or, Some, Ok, bit_and, refl, sym, ap, ap₂, ◌∙◌, subst, arith, ◌⊎◌, inl, inr}
use Rattle.std.proofs.lemmas.Nat.{and_mask}
use Rattle.orc_bits.specs.Numbers.{wrap, cut}
use Rattle.orc_bits.specs.Lanes.{lane, from_bytes, byte_of, AreBytes}
use Rattle.orc_bits.specs.Memory.{word, read, fill, IsMapped}
use Rattle.orc_bits.proofs.LaneLaws.{change_other, change_same, from_byte, AreBytes-from_bytes, lane_low, lane-same}
use Rattle.orc_bits.proofs.Memories.{read_lanes, fill_mapped}
use Rattle.x86_ins.specs.declared.ins.VecOp.TheVariants.{Paddw, Paddd}
use Rattle.x86_ins.specs.declared.ins.MoveOp.TheVariants.{Movdqu}
use Rattle.x86_ins.specs.declared.ins.AluOp.TheVariants.{Add, And}
use Rattle.x86_ins.specs.declared.ins.Ins.{Ins}
use Rattle.x86_ins.specs.declared.ins.Ins.TheVariants.{VecLoad, ToGpr, AluImm, Store, Load}
use Rattle.x86_ins.specs.Vectors.{after, all_simd}
use Rattle.x86_ins.specs.Machine.{Core, with_gpr, with_xmm, with_lanes, with_memory, address, access, alu_core, alu_result, work}
use Rattle.x86_flow.specs.Moves.{away, loads_code}
use Rattle.x86_flow.specs.Does.{Line}
use Rattle.x86_flow.proofs.Moves.{line_append}
use Rattle.x86_flow.proofs.Words.{Loads, store_word, loads_line}
use Rattle.x86_flow.proofs.Frame.{word_value, word_same}
use Rattle.x86_flow.proofs.Plans.{rule_line}
use Rattle.sse_acc.specs.Sums.{sum_of}
use Rattle.sse_acc.proofs.Totals.{sum_below-same}
use Rattle.orc_frame.specs.declared.frame.Layout.{Layout}
use Rattle.orc_frame.specs.Layout.{frame_size, sum_slot, saved_slot}
use Rattle.orc_frame.specs.Parts.{InFrame, InBlock, InSums, sum_word}
use Rattle.orc_frame.specs.Frame.{IsLayout, saved, acc_size, Ends, AfterRows, Finished, Finishes}
use Rattle.orc_frame.specs.Code.{joined, slot, add_down_code, total_code, to_rax_code, sum_code, store_code, restore_code, epilogue_code}
use Rattle.orc_frame.proofs.Facts.{Facts, facts}
use Rattle.orc_frame.proofs.Writes.{Wrote, filled, byte_in, joined_line}
use Rattle.orc_frame.proofs.Reduced.{total_2, total_4, after_more, bytes_step, adds_2, adds_4}
use Rattle.orc_frame.proofs.Reach.{Reaches, touched, line_with}
use Rattle.orc_frame.proofs.Counted.{epilogue_of}
use Rattle.orc_frame.proofs.Entering.{saved_not_4}

saved_not_7 : (j : ℕ) → saved j ≢ 7
saved_not_7 zero e = omega (arith, e)
saved_not_7 (suc zero) e = omega (arith, e)
saved_not_7 (suc (suc j)) e = omega (arith, e)

saved_one : (i j : ℕ) → saved i ≡ saved j → i ≡ j
saved_one zero zero e = refl
saved_one zero (suc zero) e = omega (arith, e)
saved_one zero (suc (suc j)) e = omega (arith, e)
saved_one (suc zero) zero e = omega (arith, e)
saved_one (suc zero) (suc zero) e = refl
saved_one (suc zero) (suc (suc j)) e = omega (arith, e)
saved_one (suc (suc i)) zero e = omega (arith, e)
saved_one (suc (suc i)) (suc zero) e = omega (arith, e)
saved_one (suc (suc i)) (suc (suc j)) e = omega (arith, e)

-- a sum's size
abbrev IsSumSize : ℕ → Type 0
IsSumSize size = (size ≡ 2) ⊎ (size ≡ 4)

by_size : (P : ℕ → Type 0) → P 2 → P 4 → (size : ℕ) → IsSumSize size → P size
by_size P two four size (inl e) = subst P (sym e) two
by_size P two four size (inr e) = subst P (sym e) four

total : (size : ℕ) → IsSumSize size → (x : ℕ → List ℕ) → AreBytes (x 0) → lane size 0 (after (total_code size) x 0) ≡ cut (8 * size) (sum_of size (x 0))
total size is x small = by_size (λ n. lane n 0 (after (total_code n) x 0) ≡ cut (8 * n) (sum_of n (x 0))) (total_2 x small) (total_4 x small) size is

total_simd : (size : ℕ) → IsSumSize size → all_simd (total_code size) ≡ true
total_simd size is = by_size (λ n. all_simd (total_code n) ≡ true) refl refl size is

total_bytes : (size : ℕ) → IsSumSize size → (x : ℕ → List ℕ) → AreBytes (after (total_code size) x 0)
total_bytes size is x = by_size (λ n. AreBytes (after (total_code n) x 0)) two four size is
  where
    two : AreBytes (after (add_down_code Paddw 8 ++ (add_down_code Paddw 4 ++ add_down_code Paddw 2)) x 0)
    two =
        let y = after (add_down_code Paddw 8) x in
        let e = after_more (add_down_code Paddw 8) (add_down_code Paddw 4 ++ add_down_code Paddw 2) x ∙ after_more (add_down_code Paddw 4) (add_down_code Paddw 2) y in
        subst (λ (f : ℕ → List ℕ). AreBytes (f 0)) (sym e) (bytes_step Paddw 2 2 adds_2 (after (add_down_code Paddw 4) y))

    four : AreBytes (after (add_down_code Paddd 8 ++ add_down_code Paddd 4) x 0)
    four = subst (λ (f : ℕ → List ℕ). AreBytes (f 0)) (sym (after_more (add_down_code Paddd 8) (add_down_code Paddd 4) x)) (bytes_step Paddd 4 4 adds_4 (after (add_down_code Paddd 8) x))

cut_small : (size a : ℕ) → IsSumSize size → cut (8 * size) a < 2 ^ 64
cut_small size a is = by_size (λ n. cut (8 * n) a < 2 ^ 64) (omega arith) (omega arith) size is

-- sums of the same bytes
sum_same : (size : ℕ) → IsSumSize size → (b c : List ℕ) → ((j : ℕ) → j < 16 → get_or b j 0 ≡ get_or c j 0) → sum_of size b ≡ sum_of size c
sum_same size is b c same = by_size (λ n. sum_of n b ≡ sum_of n c)
    (sum_below-same 8 (λ q. lane 2 q b) (λ q. lane 2 q c) (λ q l. lane-same b c 2 q (λ k m. same (q * 2 + k) (omega (arith, l, m)))))
    (sum_below-same 4 (λ q. lane 4 q b) (λ q. lane 4 q c) (λ q l. lane-same b c 4 q (λ k m. same (q * 4 + k) (omega (arith, l, m)))))
    size is

module _ (l : Layout) (is : IsLayout l) (v : ℕ → ℕ) (running : ℕ → List ℕ) (s : Core) (en : Ends l v running s) where
  known : Facts l
  known = facts l is

  abbrev count : ℕ
  count = length l.acc_sizes.items

  -- RSP and RDI are as before, and nothing changed in memory but the accumulators' words
  record Kept (u : Core) : Type 0 where
    stack : u.gpr 4 ≡ s.gpr 4
    block : u.gpr 7 ≡ s.gpr 7
    outside : (x : ℕ) → (InSums (s.gpr 7) count x → ⊥) → u.memory x ≡ s.memory x

  abbrev Q : Core → Ins → Type 0
  Q u i = Kept u

  -- a core in which nothing changed but RAX and the accumulators' words
  record Out (c : Core) : Type 0 where
    gpr : (r : ℕ) → r ≢ 0 → c.gpr r ≡ s.gpr r
    outside : (x : ℕ) → (InSums (s.gpr 7) count x → ⊥) → c.memory x ≡ s.memory x
    block : (x : ℕ) → InBlock (s.gpr 7) x → IsMapped c.memory x

  not_0 : (r : ℕ) → 0 < r → r ≢ 0
  not_0 r l e = omega (arith, l, e)

  near : (c : Core) → Out c → Kept c
  near c h = record { stack = h.gpr 4 (not_0 4 (omega arith)); block = h.gpr 7 (not_0 7 (omega arith)); outside = h.outside }

  calm : (c d : Core) → Out c → d.memory ≡ c.memory → ((r : ℕ) → r ≢ 0 → d.gpr r ≡ c.gpr r) → Out d
  calm c d h m g = record {
    gpr = λ r n. g r n ∙ h.gpr r n;
    outside = λ x out. ap (λ f. f x) m ∙ h.outside x out;
    block = λ x i. subst (λ f. IsMapped f x) (sym m) (h.block x i);
  }

  abbrev value : ℕ → ℕ
  value g = cut (8 * acc_size l g) (sum_of (acc_size l g) (running g))

  frame_kept : (c : Core) → Out c → (x : ℕ) → InFrame (s.gpr 4) x → c.memory x ≡ s.memory x
  frame_kept c h x f = h.outside x (λ i. en.apart x (let few = known.few_sums in (omega (arith, i.0), omega (arith, i.1, few))) f)

  -- the running sum in XMM0
  record Loaded (g : ℕ) (c d : Core) : Type 0 where
    works : work (VecLoad Movdqu 0 (slot (pos (sum_slot g)))) c ≡ Ok d
    out : Out d
    memory : d.memory ≡ c.memory
    small : AreBytes (d.xmm 0)
    same : (j : ℕ) → j < 16 → get_or (d.xmm 0) j 0 ≡ get_or (running g) j 0

  load : (g : ℕ) → g < count → (c : Core) → Out c → (d : Core) × Loaded g c d
  load g l' c h =
      let few = known.few_sums in
      let low = en.low in
      let at = s.gpr 4 + sum_slot g in
      let e : c.gpr 4 ≡ s.gpr 4 = h.gpr 4 (not_0 4 (omega arith)) in
      let place : address c (slot (pos (sum_slot g))) ≡ at = omega (arith, e, low, l', few) in
      let r = read_lanes 16 c.memory at (λ j. get_or (running g) j 0) (omega (arith, low, l', few)) (λ j i. frame_kept c h (at + j) (omega arith, omega (arith, i, l', few)) ∙ en.sums g l' j i) in
      let bs : List ℕ = r.0 in
      let new : List ℕ = from_bytes (λ j. get_or bs j 0) in
      let d : Core = with_xmm c 0 new in
      let is_new : d.xmm 0 ≡ new = change_same c.xmm 0 new in (
        d,
        record {
          works = ap (λ a. access 16 c.memory a (read 16 c.memory a) (λ bs. with_xmm c 0 (from_bytes (λ j. get_or bs j 0)))) place
              ∙ ap (λ o. access 16 c.memory at o (λ bs. with_xmm c 0 (from_bytes (λ j. get_or bs j 0)))) r.1;
          out = calm c d h refl (λ r n. refl);
          memory = refl;
          small = subst AreBytes (sym is_new) (AreBytes-from_bytes (λ j. get_or bs j 0) (λ j i. subst (λ b. b < 256) (sym (r.2 j i)) (en.bytes g j)));
          same = λ j i. ap (λ b. get_or b j 0) is_new ∙ from_byte (λ j. get_or bs j 0) j i ∙ r.2 j i;
        },
      )

  -- RAX has the sum
  abbrev Counted : ℕ → List Ins → Core → Type 0
  Counted t code w = (d : Core) × Line Q code w d × (d.gpr 0 ≡ t) × (d.memory ≡ w.memory) × Out d

  masked : (a : ℕ) → bit_and a (wrap 64 (pos 65535)) ≡ a % 2 ^ 16
  masked a = ap (bit_and a) (let z : wrap 64 (pos 65535) ≡ 2 ^ 16 - 1 = omega arith in z) ∙ and_mask a 16

  abbrev moved : Core → Core
  moved w = with_gpr w 0 (lane 4 0 (w.xmm 0))

  moved_out : (w : Core) → Out w → Out (moved w)
  moved_out w h = calm w (moved w) h refl (λ r n. change_other w.gpr 0 (lane 4 0 (w.xmm 0)) r n)

  two_to_rax : (t : ℕ) (w : Core) → Out w → AreBytes (w.xmm 0) → lane 2 0 (w.xmm 0) ≡ t → Counted t (ToGpr false 0 0 ∷ AluImm And 0 (pos 65535) ∷ []) w
  two_to_rax t w h small e =
      let u : Core = moved w in
      let u_out = moved_out w h in
      let m = bit_and (lane 4 0 (w.xmm 0)) (wrap 64 (pos 65535)) in
      let d : Core = alu_core And u 0 (wrap 64 (pos 65535)) in (
        d,
        (near w h, (u, refl, (near u u_out, (d, refl, refl)))),
        change_same u.gpr 0 m ∙ masked (lane 4 0 (w.xmm 0)) ∙ lane_low (w.xmm 0) small 2 0 ∙ e,
        refl,
        calm u d u_out refl (λ r n. change_other u.gpr 0 m r n),
      )

  four_to_rax : (t : ℕ) (w : Core) → Out w → lane 4 0 (w.xmm 0) ≡ t → Counted t (ToGpr false 0 0 ∷ []) w
  four_to_rax t w h e = (moved w, (near w h, (moved w, refl, refl)), change_same w.gpr 0 (lane 4 0 (w.xmm 0)) ∙ e, refl, moved_out w h)

  to_rax : (size t : ℕ) → IsSumSize size → (w : Core) → Out w → AreBytes (w.xmm 0) → lane size 0 (w.xmm 0) ≡ t → Counted t (to_rax_code size) w
  to_rax size t is w h small = by_size (λ n. lane n 0 (w.xmm 0) ≡ t → Counted t (to_rax_code n) w) (two_to_rax t w h small) (four_to_rax t w h) size is

  -- RAX goes to the word
  store_sum : (g t : ℕ) → g < count → (c : Core) → Out c → c.gpr 0 ≡ t → (d : Core) × Line Q (Store 0 (away 7 (sum_word g)) ∷ []) c d × Wrote (s.gpr 7 + sum_word 0 + 8 * g) 8 (λ q. t / 256 ^ q % 256) c d × Out d
  store_sum g t l' c h e =
      let few = known.few_sums in
      let low = en.block_low in
      let at = s.gpr 7 + sum_word g in
      let at_is : at ≡ s.gpr 7 + sum_word 0 + 8 * g = omega arith in
      let f = byte_of 8 (c.gpr 0) in
      let d : Core = with_memory c (fill 8 c.memory at f) in
      let does : work (Store 0 (away 7 (sum_word g))) c ≡ Ok d = store_word c 0 7 (s.gpr 7) (sum_word g) (h.gpr 7 (not_0 7 (omega arith))) (omega (arith, low, l', few)) (λ x a b. h.block x (omega (arith, a), omega (arith, b, l', few))) in
      let w : Wrote (s.gpr 7 + sum_word 0 + 8 * g) 8 (λ q. t / 256 ^ q % 256) c d = filled (s.gpr 7 + sum_word 0 + 8 * g) 8 f (λ q. t / 256 ^ q % 256) c d (omega (arith, low, l', few)) (ap (λ a. fill 8 c.memory a f) at_is) (λ q m. byte_in (c.gpr 0) q m ∙ ap (λ k. k / 256 ^ q % 256) e) in (
        d,
        (near c h, (d, does, refl)),
        w,
        record {
          gpr = h.gpr;
          outside = λ x out. w.outside x (λ a b. out (omega (arith, a), omega (arith, b, l'))) ∙ h.outside x out;
          block = λ x i. fill_mapped 8 c.memory at f x (h.block x i);
        },
      )

  -- one sum
  sum_piece : (g : ℕ) → g < count → (c : Core) → Out c → (d : Core) × Line Q (store_code l g) c d × Wrote (s.gpr 7 + sum_word 0 + 8 * g) 8 (λ q. value g / 256 ^ q % 256) c d × Out d
  sum_piece g l' c h =
      let size = acc_size l g in
      let sized = known.sizes g l' in
      let a = load g l' c h in
      let u : Core = a.0 in
      let b = a.1 in
      let w : Core = with_lanes u (after (total_code size) u.xmm) in
      let line : Line Q (total_code size) u w = rule_line Q (total_code size) (total_simd size sized) u (λ x i gp fl m. near x (calm u x b.out m (λ r n. ap (λ k. k r) gp))) in
      let w_out : Out w = calm u w b.out refl (λ r n. refl) in
      let t_is : lane size 0 (w.xmm 0) ≡ value g = total size sized u.xmm b.small ∙ ap (cut (8 * size)) (sum_same size sized (u.xmm 0) (running g) b.same) in
      let y = to_rax size (value g) sized w w_out (total_bytes size sized u.xmm) t_is in
      let z = store_sum g (value g) l' y.0 y.4 y.2 in
      let d : Core = z.0 in
      let st = Store 0 (away 7 (sum_word g)) ∷ [] in
      let rest : Line Q (total_code size ++ (to_rax_code size ++ st)) u d = line_append Q (total_code size) (to_rax_code size ++ st) u w d line (line_append Q (to_rax_code size) st w y.0 d y.1 z.1) in
      let all : Line Q (sum_code size (pos (sum_slot g)) g) c d = (near c h, (u, b.works, rest)) in
      let same : (x : ℕ) → y.0.memory x ≡ c.memory x = λ x. ap (λ f. f x) (y.3 ∙ b.memory) in (
        d,
        subst (λ k. Line Q (sum_code size k g) c d) (sym (known.sum_slots g l')) all,
        record { bytes = z.2.bytes; outside = λ x out. z.2.outside x out ∙ same x },
        z.3,
      )

  -- ---- the registers

  restores_are : (n : ℕ) → n ≤ 6 → joined (restore_code l) n ≡ loads_code 4 saved_slot saved n
  restores_are zero h = refl
  restores_are (suc n) h = ap₂ (λ a z. a ++ Load (saved n) (slot z) ∷ []) (restores_are n (omega (arith, h))) (known.saved_slots n (omega (arith, h)))

  pub record Restored (c d : Core) : Type 0 where
    pub stack : d.gpr 4 ≡ s.gpr 4 + frame_size
    pub restored : (j : ℕ) → j < 6 → d.gpr (saved j) ≡ v j
    pub others : (r : ℕ) → r ≢ 0 → r ≢ 4 → ((j : ℕ) → j < 6 → r ≢ saved j) → d.gpr r ≡ s.gpr r
    pub memory : d.memory ≡ c.memory

  raised : (a : ℕ) → a + frame_size + 8 ≤ 2 ^ 47 → alu_result Add a (wrap 64 (pos frame_size)) ≡ a + frame_size
  raised a h = omega (arith, h)

  -- RSP is raised
  abbrev raise : Core → Core
  raise u = alu_core Add u 4 (wrap 64 (pos frame_size))

  raised_stack : (u : Core) → u.gpr 4 ≡ s.gpr 4 → (raise u).gpr 4 ≡ s.gpr 4 + frame_size
  raised_stack u e = change_same u.gpr 4 (alu_result Add (u.gpr 4) (wrap 64 (pos frame_size))) ∙ ap (λ a. alu_result Add a (wrap 64 (pos frame_size))) e ∙ raised (s.gpr 4) en.low

  raised_other : (u : Core) (r : ℕ) → r ≢ 4 → (raise u).gpr r ≡ u.gpr r
  raised_other u r ne = change_other u.gpr 4 (alu_result Add (u.gpr 4) (wrap 64 (pos frame_size))) r ne

  there : (c : Core) → Out c → (j : ℕ) → j < 6 → word c.memory (s.gpr 4 + saved_slot j) ≡ Some (v j)
  there c h j i = let low = en.low in word_same c.memory s.memory (s.gpr 4 + saved_slot j) (omega (arith, low, i)) (λ x a b. frame_kept c h x (omega (arith, a), omega (arith, b, i))) ∙ en.saved j i

  loading : (c u : Core) → Out c → u.memory ≡ c.memory → ((r : ℕ) → ((j : ℕ) → j < 6 → r ≢ saved j) → u.gpr r ≡ c.gpr r) → Kept u
  loading c u h m g = record {
    stack = g 4 (λ j a q. saved_not_4 j (sym q)) ∙ h.gpr 4 (not_0 4 (omega arith));
    block = g 7 (λ j a q. saved_not_7 j (sym q)) ∙ h.gpr 7 (not_0 7 (omega arith));
    outside = λ t out. ap (λ f. f t) m ∙ h.outside t out;
  }

  load_saved : (c : Core) → Out c → (d : Core) × Line Q (joined (restore_code l) 6) c d × Loads saved v 6 c d
  load_saved c h =
      let low = en.low in
      let x = loads_line Q 4 (s.gpr 4) saved saved_slot v 6 c (h.gpr 4 (not_0 4 (omega arith))) (λ j i. omega (arith, low, i)) (there c h) (λ j i q. saved_not_4 j (sym q)) (λ i j a b q. saved_one i j q) (λ u i m g. loading c u h m g) in
      (x.0, subst (λ list. Line Q list c x.0) (sym (restores_are 6 (omega arith))) x.1, x.2)

  restore_all : (c : Core) → Out c → (d : Core) × Line Q (joined (restore_code l) 6 ++ AluImm Add 4 (pos frame_size) ∷ []) c d × Restored c d
  restore_all c h =
      let x = load_saved c h in
      let u : Core = x.0 in
      let last : Kept u = loading c u h x.2.memory x.2.others in (
        raise u,
        line_append Q (joined (restore_code l) 6) (AluImm Add 4 (pos frame_size) ∷ []) c u (raise u) x.1 (last, (raise u, refl, refl)),
        record {
          stack = raised_stack u (x.2.others 4 (λ j a q. saved_not_4 j (sym q)) ∙ h.gpr 4 (not_0 4 (omega arith)));
          restored = λ j i. raised_other u (saved j) (saved_not_4 j) ∙ x.2.loaded j i;
          others = λ r n k o. raised_other u r k ∙ x.2.others r o ∙ h.gpr r n;
          memory = x.2.memory;
        },
      )

  begin : Out s
  begin = record { gpr = λ r n. refl; outside = λ x out. refl; block = en.block }

  step : (u : Core) (i : Ins) → Kept u → Reaches i → AfterRows l s u i
  step u i h r =
      let low = en.low in
      record {
        stack = h.stack;
        block = h.block;
        outside = h.outside;
        touches = λ x t. touched u (s.gpr 4) (s.gpr 7) h.stack h.block (omega (arith, low)) en.block_low i r x t;
      }

  epilogue_leads : (d : Core) × Line (AfterRows l s) (epilogue_code l) s d × Finished l v running s d
  epilogue_leads =
      let few = known.few_sums in
      let low = en.block_low in
      let x = joined_line Q Out (s.gpr 7 + sum_word 0) 8 count (λ g q. value g / 256 ^ q % 256) (store_code l) sum_piece count (omega arith) s begin in
      let u : Core = x.0 in
      let y = restore_all u x.3 in
      let d : Core = y.0 in (
        d,
        line_with Q (AfterRows l s) Reaches step (epilogue_code l) (epilogue_of l is).near s d (line_append Q (joined (store_code l) count) (joined (restore_code l) 6 ++ AluImm Add 4 (pos frame_size) ∷ []) s u d x.1 y.1),
        record {
          stack = y.2.stack;
          restored = y.2.restored;
          others = y.2.others;
          words = λ g i. word_value d.memory (s.gpr 7 + sum_word g) (value g) (omega (arith, low, i, few)) (cut_small (acc_size l g) (sum_of (acc_size l g) (running g)) (known.sizes g i))
              (λ q m. ap (λ f. f (s.gpr 7 + sum_word g + q)) y.2.memory ∙ ap u.memory (let e : s.gpr 7 + sum_word g + q ≡ s.gpr 7 + sum_word 0 + 8 * g + q = omega arith in e) ∙ x.2.bytes g i q m);
          outside = λ t out. ap (λ f. f t) y.2.memory ∙ x.3.outside t out;
        },
      )

pub epilogue_finishes : (l : Layout) (list : List Ins) → IsLayout l → list ≡ epilogue_code l → Finishes l list
epilogue_finishes l list is e = subst (Finishes l) (sym e) (λ v running s en. epilogue_leads l is v running s en)
