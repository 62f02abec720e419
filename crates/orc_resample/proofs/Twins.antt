-- A far load's code in any three scratch registers does what it does in the registers 0, 1 and 2: a state, and its twin under these names.
use Rattle.std.proofs.Common.{◌≡◌, ◌≢◌, ℕ, zero, suc, ◌+◌, ◌%◌, ◌^◌, ◌⊎◌, inl, inr, ⊎_elim, ◌<◌, ◌≤◌, ◌==◌, Bool, true, false, not, ◌&&◌, if◌then◌else◌, List, [], ◌∷◌, get_or, map, Some, Result, Ok, refl, sym, ap, ◌∙◌, subst, arith, true≢false}
use Rattle.std.specs.Prelude.{nat_lt}
use Rattle.std.proofs.lemmas.Bool.Decides.{nat_tests}
use Rattle.orc_bits.specs.Numbers.{wrap}
use Rattle.orc_bits.specs.Lanes.{lane, change, from_bytes, byte_of}
use Rattle.orc_bits.specs.Memory.{read, value}
use Rattle.orc_bits.proofs.LaneLaws.{eq_false, change_other, change_same}
use Rattle.x86_ins.specs.declared.ins.Addr.{Addr}
use Rattle.x86_ins.specs.declared.ins.MoveOp.{MoveOp}
use Rattle.x86_ins.specs.declared.ins.MoveOp.TheVariants as move
use Rattle.x86_ins.specs.declared.ins.AluOp.{AluOp}
use Rattle.x86_ins.specs.declared.ins.AluOp.TheVariants as alu
use Rattle.x86_ins.specs.declared.ins.Ins.{Ins}
use Rattle.x86_ins.specs.declared.ins.Ins.TheVariants.{Vec, VecImm, VecLoad, FromGpr, ToGpr, Move, Load, Load8, Load16, Alu, AluImm, Shift, Imul, Lea, Shuffle, VecStore, Store, Store8, Store16, MovImm, Test, Push, Pop, Jump, JumpIf, Ret}
use Rattle.x86_ins.specs.declared.state.Trap.{Trap}
use Rattle.x86_ins.specs.Vectors.{shape, result_of, imm_shape, imm_result, mul_low}
use Rattle.x86_ins.specs.Machine.{Core, with_gpr, with_xmm, moved, address, access, aligned, move_size, keeps_dst, alu_core, alu_result, shift_result, work, span, Touches}
use Rattle.x86_ins.proofs.Bounds.{ok_one, access_ok}
use Rattle.x86_flow.specs.Does.{Line}
use Rattle.x86_flow.specs.Touching.{touch_weight}
use Rattle.orc_resample.specs.Ready.{is_pointer}

-- ---- names

-- the register that a name stands for: the scratch registers are 0, 1 and 2, and others have their own
abbrev pub named : ℕ → ℕ → ℕ → ℕ → ℕ
named a b e j = if j == 0 then a else if j == 1 then b else if j == 2 then e else j

abbrev pub named_at : ℕ → ℕ → ℕ → Addr → Addr
named_at a b e at = record { base = named a b e at.base; disp = at.disp }

abbrev pub renamed : ℕ → ℕ → ℕ → Ins → Ins
renamed a b e (VecLoad op d at) = VecLoad op d (named_at a b e at)
renamed a b e (FromGpr wide d s) = FromGpr wide d (named a b e s)
renamed a b e (ToGpr wide d s) = ToGpr wide (named a b e d) s
renamed a b e (Move d s) = Move (named a b e d) (named a b e s)
renamed a b e (Load d at) = Load (named a b e d) (named_at a b e at)
renamed a b e (Load8 d at) = Load8 (named a b e d) (named_at a b e at)
renamed a b e (Load16 d at) = Load16 (named a b e d) (named_at a b e at)
renamed a b e (Alu op d s) = Alu op (named a b e d) (named a b e s)
renamed a b e (AluImm op d v) = AluImm op (named a b e d) v
renamed a b e (Shift op d n) = Shift op (named a b e d) n
renamed a b e (Imul d s) = Imul (named a b e d) (named a b e s)
renamed a b e (Lea d at) = Lea (named a b e d) (named_at a b e at)
renamed a b e i = i

abbrev is_scratch : ℕ → Bool
is_scratch zero = true
is_scratch (suc zero) = true
is_scratch (suc (suc zero)) = true
is_scratch (suc (suc (suc n))) = false

-- a scratch register or RSP
abbrev is_base : ℕ → Bool
is_base zero = true
is_base (suc zero) = true
is_base (suc (suc zero)) = true
is_base (suc (suc (suc zero))) = false
is_base (suc (suc (suc (suc zero)))) = true
is_base (suc (suc (suc (suc (suc n))))) = false

abbrev okay : Core → Result Core Trap
okay x = Ok x

-- a move that may stand at any address
abbrev is_free : MoveOp → Bool
is_free move.Movdqa = false
is_free move.Movdqu = true
is_free move.Movq = true
is_free move.Movd = true

free_is : (op : MoveOp) → is_free op ≡ true → (x : ℕ) (r : Result Core Trap) → aligned op x r ≡ r
free_is move.Movdqa h x r = absurd (true≢false (sym h))
free_is move.Movdqu h x r = refl
free_is move.Movq h x r = refl
free_is move.Movd h x r = refl

-- arithmetic that writes its register
alu_writes : (op : AluOp) → not (keeps_dst op) ≡ true → (c : Core) (r x : ℕ) → (alu_core op c r x).gpr ≡ change c.gpr r (alu_result op (c.gpr r) x)
alu_writes alu.Add h c r x = refl
alu_writes alu.Sub h c r x = refl
alu_writes alu.And h c r x = refl
alu_writes alu.Cmp h c r x = absurd (true≢false (sym h))

-- an instruction that writes no memory and no other register than a scratch register or XMM0 to XMM5
abbrev pub is_tame : Ins → Bool
is_tame (Vec op d s) = nat_lt d 6
is_tame (VecImm op d n) = nat_lt d 6
is_tame (VecLoad op d at) = is_free op && (nat_lt d 6 && is_base at.base)
is_tame (FromGpr wide d s) = nat_lt d 6 && is_scratch s
is_tame (ToGpr wide d s) = is_scratch d
is_tame (Move d s) = is_scratch d && is_scratch s
is_tame (Load d at) = is_scratch d && is_base at.base
is_tame (Load8 d at) = is_scratch d && is_base at.base
is_tame (Load16 d at) = is_scratch d && is_base at.base
is_tame (Alu op d s) = not (keeps_dst op) && (is_scratch d && is_scratch s)
is_tame (AluImm op d v) = not (keeps_dst op) && is_scratch d
is_tame (Shift op d n) = is_scratch d
is_tame (Imul d s) = is_scratch d && is_scratch s
is_tame (Lea d at) = is_scratch d && is_base at.base
is_tame _ = false

abbrev pub all_tame : List Ins → Bool
all_tame [] = true
all_tame (i ∷ is) = is_tame i && all_tame is

both : (s t : Bool) → (s && t) ≡ true → (s ≡ true) × (t ≡ true)
both true t h = (refl, h)
both false t h = absurd (true≢false (sym h))

-- what may be touched: by RSP what is near, and by another register what is far
abbrev pub Looks : (ℕ → Type 0) → (ℕ → Type 0) → Core → Ins → Type 0
Looks Near Far u i = (x : ℕ) → Touches i u x → ((touch_weight is_pointer i ≡ 0) × Near x) ⊎ ((touch_weight is_pointer i ≡ 1) × Far x)

-- ---- twins

-- three different registers, none of them RSP
pub record Names (a b e : ℕ) : Type 0 where
  pub ab : a ≢ b
  pub ae : a ≢ e
  pub be : b ≢ e
  pub a4 : a ≢ 4
  pub b4 : b ≢ 4
  pub e4 : e ≢ 4

-- the second state has under the names what the first has in the registers
pub record Twin (a b e : ℕ) (u v : Core) : Type 0 where
  pub first : u.gpr a ≡ v.gpr 0
  pub second : u.gpr b ≡ v.gpr 1
  pub third : u.gpr e ≡ v.gpr 2
  pub stack : u.gpr 4 ≡ v.gpr 4
  pub xmm : (r : ℕ) → u.xmm r ≡ v.xmm r
  pub memory : u.memory ≡ v.memory

-- what such an instruction leaves as it was
pub record Tamed (a b e : ℕ) (u w : Core) : Type 0 where
  pub memory : w.memory ≡ u.memory
  pub gpr : (r : ℕ) → r ≢ a → r ≢ b → r ≢ e → w.gpr r ≡ u.gpr r
  pub xmm : (r : ℕ) → 6 ≤ r → w.xmm r ≡ u.xmm r

module _ (a b e : ℕ) (n : Names a b e) where
  scratch_of : (u v : Core) → Twin a b e u v → (j : ℕ) → is_scratch j ≡ true → u.gpr (named a b e j) ≡ v.gpr j
  scratch_of u v t zero h = t.first
  scratch_of u v t (suc zero) h = t.second
  scratch_of u v t (suc (suc zero)) h = t.third
  scratch_of u v t (suc (suc (suc j))) h = absurd (true≢false (sym h))

  base_of : (u v : Core) → Twin a b e u v → (j : ℕ) → is_base j ≡ true → u.gpr (named a b e j) ≡ v.gpr j
  base_of u v t zero h = t.first
  base_of u v t (suc zero) h = t.second
  base_of u v t (suc (suc zero)) h = t.third
  base_of u v t (suc (suc (suc zero))) h = absurd (true≢false (sym h))
  base_of u v t (suc (suc (suc (suc zero)))) h = t.stack
  base_of u v t (suc (suc (suc (suc (suc j))))) h = absurd (true≢false (sym h))

  -- an address is the same under names
  at_of : (u v : Core) → Twin a b e u v → (at : Addr) → is_base at.base ≡ true → address u (named_at a b e at) ≡ address v at
  at_of u v t at h = ap (λ x. moved x at.disp) (base_of u v t at.base h)

  -- what a step leads to: the twins go on as twins
  abbrev Steps : Core → Core → Ins → Type 0
  Steps u d i = (w : Core) × (work (renamed a b e i) u ≡ Ok w) × Twin a b e w d × Tamed a b e u w

  -- a register is written; the rest of w is that of u
  set_gpr : (u v w : Core) → Twin a b e u v → (j x y : ℕ) → is_scratch j ≡ true → x ≡ y → w.gpr ≡ change u.gpr (named a b e j) x → w.xmm ≡ u.xmm → w.memory ≡ u.memory → (d : Core) → d.gpr ≡ change v.gpr j y → d.xmm ≡ v.xmm → d.memory ≡ v.memory → Twin a b e w d × Tamed a b e u w
  set_gpr u v w t zero x y h p wg wx wm d dg dx dm = (
    record {
      first = ap (λ f. f a) wg ∙ change_same u.gpr a x ∙ p ∙ ap (λ f. f 0) (sym dg);
      second = ap (λ f. f b) wg ∙ change_other u.gpr a x b (λ q. n.ab (sym q)) ∙ t.second ∙ ap (λ f. f 1) (sym dg);
      third = ap (λ f. f e) wg ∙ change_other u.gpr a x e (λ q. n.ae (sym q)) ∙ t.third ∙ ap (λ f. f 2) (sym dg);
      stack = ap (λ f. f 4) wg ∙ change_other u.gpr a x 4 (λ q. n.a4 (sym q)) ∙ t.stack ∙ ap (λ f. f 4) (sym dg);
      xmm = λ r. ap (λ f. f r) wx ∙ t.xmm r ∙ ap (λ f. f r) (sym dx);
      memory = wm ∙ t.memory ∙ sym dm;
    },
    record { memory = wm; gpr = λ r ra rb re. ap (λ f. f r) wg ∙ change_other u.gpr a x r ra; xmm = λ r l. ap (λ f. f r) wx },
  )
  set_gpr u v w t (suc zero) x y h p wg wx wm d dg dx dm = (
    record {
      first = ap (λ f. f a) wg ∙ change_other u.gpr b x a n.ab ∙ t.first ∙ ap (λ f. f 0) (sym dg);
      second = ap (λ f. f b) wg ∙ change_same u.gpr b x ∙ p ∙ ap (λ f. f 1) (sym dg);
      third = ap (λ f. f e) wg ∙ change_other u.gpr b x e (λ q. n.be (sym q)) ∙ t.third ∙ ap (λ f. f 2) (sym dg);
      stack = ap (λ f. f 4) wg ∙ change_other u.gpr b x 4 (λ q. n.b4 (sym q)) ∙ t.stack ∙ ap (λ f. f 4) (sym dg);
      xmm = λ r. ap (λ f. f r) wx ∙ t.xmm r ∙ ap (λ f. f r) (sym dx);
      memory = wm ∙ t.memory ∙ sym dm;
    },
    record { memory = wm; gpr = λ r ra rb re. ap (λ f. f r) wg ∙ change_other u.gpr b x r rb; xmm = λ r l. ap (λ f. f r) wx },
  )
  set_gpr u v w t (suc (suc zero)) x y h p wg wx wm d dg dx dm = (
    record {
      first = ap (λ f. f a) wg ∙ change_other u.gpr e x a n.ae ∙ t.first ∙ ap (λ f. f 0) (sym dg);
      second = ap (λ f. f b) wg ∙ change_other u.gpr e x b n.be ∙ t.second ∙ ap (λ f. f 1) (sym dg);
      third = ap (λ f. f e) wg ∙ change_same u.gpr e x ∙ p ∙ ap (λ f. f 2) (sym dg);
      stack = ap (λ f. f 4) wg ∙ change_other u.gpr e x 4 (λ q. n.e4 (sym q)) ∙ t.stack ∙ ap (λ f. f 4) (sym dg);
      xmm = λ r. ap (λ f. f r) wx ∙ t.xmm r ∙ ap (λ f. f r) (sym dx);
      memory = wm ∙ t.memory ∙ sym dm;
    },
    record { memory = wm; gpr = λ r ra rb re. ap (λ f. f r) wg ∙ change_other u.gpr e x r re; xmm = λ r l. ap (λ f. f r) wx },
  )
  set_gpr u v w t (suc (suc (suc j))) x y h p wg wx wm d dg dx dm = absurd (true≢false (sym h))

  change_like : (f g : ℕ → List ℕ) (r : ℕ) (x y : List ℕ) (q : ℕ) → x ≡ y → f q ≡ g q → change f r x q ≡ change g r y q
  change_like f g r x y q p h = ap (λ z. if q == r then z else f q) p ∙ ap (λ z. if q == r then y else z) h

  set_xmm : (u v : Core) → Twin a b e u v → (r : ℕ) (x y : List ℕ) → nat_lt r 6 ≡ true → x ≡ y → Twin a b e (with_xmm u r x) (with_xmm v r y) × Tamed a b e u (with_xmm u r x)
  set_xmm u v t r x y low p = (
    record { first = t.first; second = t.second; third = t.third; stack = t.stack; xmm = λ q. change_like u.xmm v.xmm r x y q p (t.xmm q); memory = t.memory },
    record { memory = refl; gpr = λ r ra rb re. refl; xmm = λ q l. change_other u.xmm r x q (λ z. let f : r < 6 = grind (arith, nat_tests) in omega (arith, z, l, f)) },
  )

  -- a load of a number into a register
  load_steps : (i j : Ins) (u v d : Core) → Twin a b e u v → (k r : ℕ) (at : Addr) → is_scratch r ≡ true → is_base at.base ≡ true
      → work i v ≡ access k v.memory (address v at) (value k v.memory (address v at)) (λ x. with_gpr v r x)
      → work j u ≡ access k u.memory (address u (named_at a b e at)) (value k u.memory (address u (named_at a b e at))) (λ x. with_gpr u (named a b e r) x)
      → work i v ≡ Ok d → (w : Core) × (work j u ≡ Ok w) × Twin a b e w d × Tamed a b e u w
  load_steps i j u v d t k r at hr hb wi wj h =
      let x = access_ok k v.memory (address v at) (value k v.memory (address v at)) (λ x. with_gpr v r x) d (sym wi ∙ h) in
      let same : value k u.memory (address u (named_at a b e at)) ≡ Some x.0 =
      ap (λ m. value k m (address u (named_at a b e at))) t.memory ∙ ap (value k v.memory) (at_of u v t at hb) ∙ x.1 in
      let w : Core = with_gpr u (named a b e r) x.0 in
      let s = set_gpr u v w t r x.0 x.0 hr refl refl refl refl (with_gpr v r x.0) refl refl refl in
      (w, wj ∙ ap (λ o. access k u.memory (address u (named_at a b e at)) o (λ x. with_gpr u (named a b e r) x)) same, subst (λ z. Twin a b e w z) x.2 s.0, s.1)

  -- a load of bytes into a vector register
  load_vector : (op : MoveOp) (r : ℕ) (at : Addr) (u v d : Core) → Twin a b e u v → is_free op ≡ true → nat_lt r 6 ≡ true → is_base at.base ≡ true → work (VecLoad op r at) v ≡ Ok d → Steps u d (VecLoad op r at)
  load_vector op r at u v d t free low hb h =
      let n = move_size op in
      let fill : List ℕ → List ℕ = λ bs. from_bytes (λ j. get_or bs j 0) in
      let q = address u (named_at a b e at) in
      let x = access_ok n v.memory (address v at) (read n v.memory (address v at)) (λ bs. with_xmm v r (fill bs)) d (sym (free_is op free (address v at) _) ∙ h) in
      let same : read n u.memory q ≡ Some x.0 = ap (λ m. read n m q) t.memory ∙ ap (read n v.memory) (at_of u v t at hb) ∙ x.1 in
      let s = set_xmm u v t r (fill x.0) (fill x.0) low refl in (
        with_xmm u r (fill x.0),
        free_is op free q _ ∙ ap (λ o. access n u.memory q o (λ bs. with_xmm u r (fill bs))) same,
        subst (λ z. Twin a b e (with_xmm u r (fill x.0)) z) x.2 s.0,
        s.1,
      )

  moves_on : (i : Ins) (u w x d : Core) → work (renamed a b e i) u ≡ Ok w → okay x ≡ Ok d → Twin a b e w x × Tamed a b e u w → Steps u d i
  moves_on i u w x d p k z = (w, p, subst (λ q. Twin a b e w q) (ok_one x d k) z.0, z.1)

  pub step : (i : Ins) (u v d : Core) → Twin a b e u v → is_tame i ≡ true → work i v ≡ Ok d → Steps u d i
  step (Vec op r s) u v d t h k =
      moves_on (Vec op r s) u _ _ d refl k (set_xmm u v t r (result_of (shape op) (u.xmm r) (u.xmm s)) (result_of (shape op) (v.xmm r) (v.xmm s)) h (ap (λ x. result_of (shape op) x (u.xmm s)) (t.xmm r) ∙ ap (result_of (shape op) (v.xmm r)) (t.xmm s)))
  step (VecImm op r c) u v d t h k =
      moves_on (VecImm op r c) u _ _ d refl k (set_xmm u v t r (imm_result (imm_shape op) c (u.xmm r)) (imm_result (imm_shape op) c (v.xmm r)) h (ap (imm_result (imm_shape op) c) (t.xmm r)))
  step (FromGpr wide r s) u v d t h k =
      let p = both (nat_lt r 6) (is_scratch s) h in
      let f : ℕ → List ℕ = λ x. from_bytes (byte_of (if wide then 8 else 4) x) in
      moves_on (FromGpr wide r s) u _ _ d refl k (set_xmm u v t r (f (u.gpr (named a b e s))) (f (v.gpr s)) p.0 (ap f (scratch_of u v t s p.1)))
  step (ToGpr wide r s) u v d t h k =
      moves_on (ToGpr wide r s) u _ _ d refl k (set_gpr u v _ t r (lane (if wide then 8 else 4) 0 (u.xmm s)) (lane (if wide then 8 else 4) 0 (v.xmm s)) h (ap (lane (if wide then 8 else 4) 0) (t.xmm s)) refl refl refl _ refl refl refl)
  step (Move r s) u v d t h k =
      let p = both (is_scratch r) (is_scratch s) h in
      moves_on (Move r s) u _ _ d refl k (set_gpr u v _ t r (u.gpr (named a b e s)) (v.gpr s) p.0 (scratch_of u v t s p.1) refl refl refl _ refl refl refl)
  step (Load r at) u v d t h k = let p = both (is_scratch r) (is_base at.base) h in load_steps (Load r at) (renamed a b e (Load r at)) u v d t 8 r at p.0 p.1 refl refl k
  step (Load8 r at) u v d t h k = let p = both (is_scratch r) (is_base at.base) h in load_steps (Load8 r at) (renamed a b e (Load8 r at)) u v d t 1 r at p.0 p.1 refl refl k
  step (Load16 r at) u v d t h k = let p = both (is_scratch r) (is_base at.base) h in load_steps (Load16 r at) (renamed a b e (Load16 r at)) u v d t 2 r at p.0 p.1 refl refl k
  step (Shift op r c) u v d t h k =
      moves_on (Shift op r c) u _ _ d refl k (set_gpr u v _ t r (shift_result op (u.gpr (named a b e r)) c) (shift_result op (v.gpr r) c) h (ap (λ x. shift_result op x c) (scratch_of u v t r h)) refl refl refl _ refl refl refl)
  step (Imul r s) u v d t h k =
      let p = both (is_scratch r) (is_scratch s) h in
      moves_on (Imul r s) u _ _ d refl k (set_gpr u v _ t r (mul_low 64 (u.gpr (named a b e r)) (u.gpr (named a b e s))) (mul_low 64 (v.gpr r) (v.gpr s)) p.0 (ap (λ x. mul_low 64 x (u.gpr (named a b e s))) (scratch_of u v t r p.0) ∙ ap (mul_low 64 (v.gpr r)) (scratch_of u v t s p.1)) refl refl refl _ refl refl refl)
  step (Lea r at) u v d t h k =
      let p = both (is_scratch r) (is_base at.base) h in
      moves_on (Lea r at) u _ _ d refl k (set_gpr u v _ t r (address u (named_at a b e at)) (address v at) p.0 (at_of u v t at p.1) refl refl refl _ refl refl refl)
  step (VecLoad op r at) u v d t h k =
      let p = both (is_free op) (nat_lt r 6 && is_base at.base) h in
      let q = both (nat_lt r 6) (is_base at.base) p.1 in
      load_vector op r at u v d t p.0 q.0 q.1 k
  step (Alu op r s) u v d t h k =
      let p = both (not (keeps_dst op)) (is_scratch r && is_scratch s) h in
      let q = both (is_scratch r) (is_scratch s) p.1 in
      let y = u.gpr (named a b e s) in
      moves_on (Alu op r s) u _ _ d refl k (set_gpr u v _ t r (alu_result op (u.gpr (named a b e r)) y) (alu_result op (v.gpr r) (v.gpr s)) q.0 (ap (λ x. alu_result op x y) (scratch_of u v t r q.0) ∙ ap (alu_result op (v.gpr r)) (scratch_of u v t s q.1)) (alu_writes op p.0 u (named a b e r) y) refl refl _ (alu_writes op p.0 v r (v.gpr s)) refl refl)
  step (AluImm op r c) u v d t h k =
      let p = both (not (keeps_dst op)) (is_scratch r) h in
      moves_on (AluImm op r c) u _ _ d refl k (set_gpr u v _ t r (alu_result op (u.gpr (named a b e r)) (wrap 64 c)) (alu_result op (v.gpr r) (wrap 64 c)) p.1 (ap (λ x. alu_result op x (wrap 64 c)) (scratch_of u v t r p.1)) (alu_writes op p.0 u (named a b e r) (wrap 64 c)) refl refl _ (alu_writes op p.0 v r (wrap 64 c)) refl refl)
  step (Shuffle op r s o) u v d t h k = absurd (true≢false (sym h))
  step (VecStore op s at) u v d t h k = absurd (true≢false (sym h))
  step (Store s at) u v d t h k = absurd (true≢false (sym h))
  step (Store8 s at) u v d t h k = absurd (true≢false (sym h))
  step (Store16 s at) u v d t h k = absurd (true≢false (sym h))
  step (MovImm r x) u v d t h k = absurd (true≢false (sym h))
  step (Test x y) u v d t h k = absurd (true≢false (sym h))
  step (Push s) u v d t h k = absurd (true≢false (sym h))
  step (Pop r) u v d t h k = absurd (true≢false (sym h))
  step (Jump rel) u v d t h k = absurd (true≢false (sym h))
  step (JumpIf q rel) u v d t h k = absurd (true≢false (sym h))
  step Ret u v d t h k = absurd (true≢false (sym h))

  -- both touch the same bytes
  spans : (i : Ins) (u v : Core) → Twin a b e u v → is_tame i ≡ true → span (renamed a b e i) u ≡ span i v
  spans (Vec op r s) u v t h = refl
  spans (VecImm op r c) u v t h = refl
  spans (FromGpr wide r s) u v t h = refl
  spans (ToGpr wide r s) u v t h = refl
  spans (Move r s) u v t h = refl
  spans (Load r at) u v t h = ap (λ x. (x, 8)) (at_of u v t at (both (is_scratch r) (is_base at.base) h).1)
  spans (Load8 r at) u v t h = ap (λ x. (x, 1)) (at_of u v t at (both (is_scratch r) (is_base at.base) h).1)
  spans (Load16 r at) u v t h = ap (λ x. (x, 2)) (at_of u v t at (both (is_scratch r) (is_base at.base) h).1)
  spans (VecLoad op r at) u v t h = ap (λ x. (x, move_size op)) (at_of u v t at (both (nat_lt r 6) (is_base at.base) (both (is_free op) (nat_lt r 6 && is_base at.base) h).1).1)
  spans (Shift op r c) u v t h = refl
  spans (Imul r s) u v t h = refl
  spans (Lea r at) u v t h = refl
  spans (Alu op r s) u v t h = refl
  spans (AluImm op r c) u v t h = refl
  spans (Shuffle op r s o) u v t h = absurd (true≢false (sym h))
  spans (VecStore op s at) u v t h = absurd (true≢false (sym h))
  spans (Store s at) u v t h = absurd (true≢false (sym h))
  spans (Store8 s at) u v t h = absurd (true≢false (sym h))
  spans (Store16 s at) u v t h = absurd (true≢false (sym h))
  spans (MovImm r x) u v t h = refl
  spans (Test x y) u v t h = refl
  spans (Push s) u v t h = absurd (true≢false (sym h))
  spans (Pop r) u v t h = absurd (true≢false (sym h))
  spans (Jump rel) u v t h = refl
  spans (JumpIf q rel) u v t h = refl
  spans Ret u v t h = absurd (true≢false (sym h))

  pointer_of : (j : ℕ) → is_base j ≡ true → is_pointer (named a b e j) ≡ is_pointer j
  pointer_of zero h = ap not (eq_false a 4 n.a4)
  pointer_of (suc zero) h = ap not (eq_false b 4 n.b4)
  pointer_of (suc (suc zero)) h = ap not (eq_false e 4 n.e4)
  pointer_of (suc (suc (suc zero))) h = absurd (true≢false (sym h))
  pointer_of (suc (suc (suc (suc zero)))) h = refl
  pointer_of (suc (suc (suc (suc (suc j))))) h = absurd (true≢false (sym h))

  -- by the same kind of register
  weights : (i : Ins) → is_tame i ≡ true → touch_weight is_pointer (renamed a b e i) ≡ touch_weight is_pointer i
  weights (Vec op r s) h = refl
  weights (VecImm op r c) h = refl
  weights (FromGpr wide r s) h = refl
  weights (ToGpr wide r s) h = refl
  weights (Move r s) h = refl
  weights (Load r at) h = ap (λ x. if x then 1 else 0) (pointer_of at.base (both (is_scratch r) (is_base at.base) h).1)
  weights (Load8 r at) h = ap (λ x. if x then 1 else 0) (pointer_of at.base (both (is_scratch r) (is_base at.base) h).1)
  weights (Load16 r at) h = ap (λ x. if x then 1 else 0) (pointer_of at.base (both (is_scratch r) (is_base at.base) h).1)
  weights (VecLoad op r at) h = ap (λ x. if x then 1 else 0) (pointer_of at.base (both (nat_lt r 6) (is_base at.base) (both (is_free op) (nat_lt r 6 && is_base at.base) h).1).1)
  weights (Shift op r c) h = refl
  weights (Imul r s) h = refl
  weights (Lea r at) h = refl
  weights (Alu op r s) h = refl
  weights (AluImm op r c) h = refl
  weights (Shuffle op r s o) h = absurd (true≢false (sym h))
  weights (VecStore op s at) h = absurd (true≢false (sym h))
  weights (Store s at) h = absurd (true≢false (sym h))
  weights (Store8 s at) h = absurd (true≢false (sym h))
  weights (Store16 s at) h = absurd (true≢false (sym h))
  weights (MovImm r x) h = refl
  weights (Test x y) h = refl
  weights (Push s) h = absurd (true≢false (sym h))
  weights (Pop r) h = absurd (true≢false (sym h))
  weights (Jump rel) h = refl
  weights (JumpIf q rel) h = refl
  weights Ret h = absurd (true≢false (sym h))

  tamed_on : (c u w : Core) → Tamed a b e c u → Tamed a b e u w → Tamed a b e c w
  tamed_on c u w h k = record {
    memory = k.memory ∙ h.memory;
    gpr = λ r ra rb re. k.gpr r ra rb re ∙ h.gpr r ra rb re;
    xmm = λ r l. k.xmm r l ∙ h.xmm r l;
  }

  module _ (Near Far : ℕ → Type 0) where
    looks : (i : Ins) (u v : Core) → Twin a b e u v → is_tame i ≡ true → Looks Near Far v i → Looks Near Far u (renamed a b e i)
    looks i u v t h see x (j, l, p) =
        let s = spans i u v t h in
        ⊎_elim (λ q. inl (weights i h ∙ q.0, q.1)) (λ q. inr (weights i h ∙ q.0, q.1)) (see x (j, subst (λ k. j < k) (ap (λ z. z.1) s) l, p ∙ ap (λ z. (z.0 + j) % 2 ^ 64) s))

    -- from what the names' list does to what the list itself does
    pub renamed_line : (is : List Ins) → all_tame is ≡ true → (c u v d : Core) → Tamed a b e c u → Twin a b e u v → Line (Looks Near Far) is v d
        → (w : Core) × Line (λ x i. Tamed a b e c x × Looks Near Far x i) (map (renamed a b e) is) u w × Twin a b e w d × Tamed a b e c w
    renamed_line [] h c u v d k t line = (u, refl, subst (λ z. Twin a b e u z) line t, k)
    renamed_line (i ∷ is) h c u v d k t line =
        let p = both (is_tame i) (all_tame is) h in
        let s = step i u v line.1.0 t p.0 line.1.1 in
        let rest = renamed_line is p.1 c s.0 line.1.0 d (tamed_on c u s.0 k s.3) s.2 line.1.2 in
        (rest.0, ((k, looks i u v t p.0 line.0), (s.0, s.1, rest.1)), rest.2, rest.3)
