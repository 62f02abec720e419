-- The list inside a turn leads from every state with all at hand to the values.
use Rattle.std.proofs.Common.{◌≡◌, ◌≢◌, ℕ, zero, suc, ◌+◌, ◌-◌, ◌*◌, ◌%◌, ◌^◌, ◌<◌, ◌≤◌, ◌/◌, ◌==◌, ℤ, pos, negsuc, Bool, true, false, if◌then◌else◌, List, [], ◌∷◌, ◌++◌, Option, Some, None, Ok, refl, sym, ap, ◌∙◌, subst, arith, inl, inr, ⊎_elim}
use Rattle.std.proofs.lemmas.Bool.{cases_eq}
use Rattle.orc_bits.specs.Lanes.{byte_of}
use Rattle.orc_bits.specs.Memory.{Memory, bind, read, number, value, word, fill, IsMapped}
use Rattle.orc_bits.proofs.LaneLaws.{change_other, change_same}
use Rattle.orc_bits.proofs.Memories.{fill_other, fill_mapped, store_mapped, value_small}
use Rattle.x86_ins.specs.declared.ins.AluOp.TheVariants.{Sub}
use Rattle.x86_ins.specs.declared.ins.ShiftOp.TheVariants.{Shr}
use Rattle.x86_ins.specs.declared.ins.Ins.{Ins}
use Rattle.x86_ins.specs.declared.ins.Ins.TheVariants.{Load, Store, Alu, Shift, Lea}
use Rattle.x86_ins.specs.Spelling.{IsIns}
use Rattle.x86_ins.specs.Way.{Each}
use Rattle.x86_ins.specs.Vectors.{shr, sub_wrap}
use Rattle.x86_ins.specs.Machine.{Core, with_gpr, with_flags, with_memory, alu_core, moved, access, load, save, work}
use Rattle.x86_flow.specs.Does.{Line}
use Rattle.x86_flow.specs.Moves.{IsWidth}
use Rattle.x86_flow.proofs.Frame.{word_stored}
use Rattle.x86_flow.proofs.Moves.{line_append}
use Rattle.x86_flow.proofs.Touching.{touches_none}
use Rattle.orc_ops.specs.declared.far.Far.{Far}
use Rattle.orc_ops.specs.declared.far.Far.TheVariants.{Loadoffb, Loadoffw, Loadoffl, Loadupdb, Loadupib, Ldresnearb, Ldresnearl, Ldreslinb, Ldreslinl}
use Rattle.orc_ops.specs.Far.{far_size, far_first, far_second, far_part, far_blend, other}
use Rattle.orc_resample.specs.declared.turn.FarSource.{FarSource}
use Rattle.orc_resample.specs.Code.{slot, scratch, bits_of, narrow_code, gather_with, plan_of, enter_code, leave_code, singly_code, bring_by, bring_code}
use Rattle.orc_resample.specs.Ready.{IsPlan, Source, Ready, IsScratch, Keeps, Gathered, OnTheWay, cell, element, some_or_zero, IsRead, value_at, InWord, InPlan}
use Rattle.orc_resample.specs.Bring.{pattern_at, IsKept, IsSpare, LiesIn, AreApart, IsFarSource, InWords, AtHand, Stays, Brought, InOwn, OnTurn, Brings}
use Rattle.orc_resample.proofs.Gathered.{line_bounded, gathers}
use Rattle.orc_resample.proofs.Touched.{Agrees, gather_agrees, agree_each}
use Rattle.orc_resample.proofs.Offsets.{IsOffset, offset_b, offset_w, offset_l, scaled_b, scaled_w, scaled_l, beside_brought}
use Rattle.orc_resample.proofs.Halves.{doubled_brought}
use Rattle.orc_resample.proofs.Averages.{between_brought}

-- ---- memories that agree on some bytes

read_alike : (n : ℕ) (m e : Memory) (a : ℕ) → ((j : ℕ) → j < n → m ((a + j) % 2 ^ 64) ≡ e ((a + j) % 2 ^ 64)) → read n m a ≡ read n e a
read_alike zero m e a h = refl
read_alike (suc n) m e a h =
    let here : m (a % 2 ^ 64) ≡ e (a % 2 ^ 64) = subst (λ x. m (x % 2 ^ 64) ≡ e (x % 2 ^ 64)) (let q : a + 0 ≡ a = omega arith in q) (h 0 (omega arith)) in
    let rest = read_alike n m e (a + 1) (λ j l. subst (λ x. m (x % 2 ^ 64) ≡ e (x % 2 ^ 64)) (let q : a + suc j ≡ a + 1 + j = omega arith in q) (h (suc j) (omega (arith, l)))) in
    ap (λ o. bind o (λ b. bind (read n m (a + 1)) (λ bs. Some (b ∷ bs)))) here
    ∙ ap (λ o. bind (e (a % 2 ^ 64)) (λ b. bind o (λ bs. Some (b ∷ bs)))) rest

pub value_alike : (n : ℕ) (m e : Memory) (a : ℕ) → ((j : ℕ) → j < n → m ((a + j) % 2 ^ 64) ≡ e ((a + j) % 2 ^ 64)) → value n m a ≡ value n e a
value_alike n m e a h = ap (λ o. bind o (λ bs. Some (number bs))) (read_alike n m e a h)

pub word_alike : (m e : Memory) (a : ℕ) → ((x : ℕ) → InWord a x → m x ≡ e x) → word m a ≡ word e a
word_alike m e a h = value_alike 8 m e a (λ j l. h ((a + j) % 2 ^ 64) (j, l, refl))

-- elements that are the same have the same value
pub value_same : (far : Far) (s : Source) (m e : Memory) (i : ℕ) → ((k : ℤ) → IsRead far s i k → element far m s.base k ≡ element far e s.base k) → value_at far s m i ≡ value_at far s e i
value_same far s m e i h =
    let first = far_first far i s.p s.q in
    let second = other first (far_second far i s.p s.q) in
    let part = far_part far i s.p s.q in
    ap (λ x. far_blend far x (element far m s.base second) part) (h first (inl refl))
    ∙ ap (λ y. far_blend far (element far e s.base first) y part) (behind (far_second far i s.p s.q) refl)
  where
    behind : (o : Option ℤ) → o ≡ far_second far i s.p s.q → element far m s.base (other (far_first far i s.p s.q) o) ≡ element far e s.base (other (far_first far i s.p s.q) o)
    behind None q = h (far_first far i s.p s.q) (inl refl)
    behind (Some k) q = h k (inr q)

-- ---- words of the frame

moved_in : (rsp : ℕ) (z : ℤ) → rsp + 2048 ≤ 2 ^ 47 → LiesIn z → moved rsp z + 8 < 2 ^ 63
moved_in rsp (pos d) low h = let l : d + 8 ≤ 2048 = h in omega (arith, low, l)
moved_in rsp (negsuc d) low h = absurd h

byte_there : (rsp d j x : ℕ) → rsp + 2048 ≤ 2 ^ 47 → d + 8 ≤ 2048 → j < 8 → x ≡ ((rsp + d) % 2 ^ 64 + j) % 2 ^ 64 → x ≡ rsp + d + j
byte_there rsp d j x low h l e = omega (arith, low, h, l, e)

words_apart : (rsp : ℕ) (y z : ℤ) → rsp + 2048 ≤ 2 ^ 47 → LiesIn y → LiesIn z → AreApart y z → (x : ℕ) → InWord (moved rsp y) x → InWord (moved rsp z) x → ⊥
words_apart rsp (pos a) (pos b) low ha hb h x v w =
    let p = byte_there rsp a v.0 x low ha v.1 v.2 in
    let q = byte_there rsp b w.0 x low hb w.1 w.2 in
    let lv : v.0 < 8 = v.1 in
    let lw : w.0 < 8 = w.1 in
    ⊎_elim (λ g. omega (arith, p, q, lv, lw, g)) (λ g. omega (arith, p, q, lv, lw, g)) h
words_apart rsp (pos a) (negsuc b) low ha hb h x v w = hb
words_apart rsp (negsuc a) z low ha hb h x v w = ha

-- ---- the first element's number

-- what a register becomes that is divided by 2 ^ bits, where the flag tells that this is 1
abbrev narrowed_number : Bool → ℕ → ℕ → ℕ
narrowed_number true bits v = v
narrowed_number false bits v = shr 64 v bits

bytes : (first base : ℕ) → first < 2 ^ 32 → base < 2 ^ 64 → narrowed_number true 0 (sub_wrap 64 ((base + first * 1) % 2 ^ 64) base) ≡ first
bytes first base f b = let q : ((base + first * 1) % 2 ^ 64 + (2 ^ 64 - base)) % 2 ^ 64 ≡ first = omega (arith, f, b) in q

longs : (first base : ℕ) → first < 2 ^ 32 → base < 2 ^ 64 → narrowed_number false 2 (sub_wrap 64 ((base + first * 4) % 2 ^ 64) base) ≡ first
longs first base f b = let q : ((base + first * 4) % 2 ^ 64 + (2 ^ 64 - base)) % 2 ^ 64 / 4 ≡ first = omega (arith, f, b) in q

-- the first element's number, as the code computes it of its address
number_of : (far : Far) (first base : ℕ) → first < 2 ^ 32 → base < 2 ^ 64 → narrowed_number (bits_of (far_size far) == 0) (bits_of (far_size far)) (sub_wrap 64 ((base + first * far_size far) % 2 ^ 64) base) ≡ first
number_of Loadoffb first base f b = bytes first base f b
number_of Loadoffw first base f b = let q : ((base + first * 2) % 2 ^ 64 + (2 ^ 64 - base)) % 2 ^ 64 / 2 ≡ first = omega (arith, f, b) in q
number_of Loadoffl first base f b = longs first base f b
number_of Loadupdb first base f b = bytes first base f b
number_of Loadupib first base f b = bytes first base f b
number_of Ldresnearb first base f b = bytes first base f b
number_of Ldresnearl first base f b = longs first base f b
number_of Ldreslinb first base f b = bytes first base f b
number_of Ldreslinl first base f b = longs first base f b

-- a state whose RAX is so divided
abbrev narrowed : Bool → ℕ → Core → Core
narrowed true bits u = u
narrowed false bits u = with_flags (with_gpr u 0 (shr 64 (u.gpr 0) bits)) None

narrowed_first : (t : Bool) (bits : ℕ) (u : Core) → (narrowed t bits u).gpr 0 ≡ narrowed_number t bits (u.gpr 0)
narrowed_first true bits u = refl
narrowed_first false bits u = refl

narrowed_others : (t : Bool) (bits : ℕ) (u : Core) (r : ℕ) → r ≢ 0 → (narrowed t bits u).gpr r ≡ u.gpr r
narrowed_others true bits u r h = refl
narrowed_others false bits u r h = change_other u.gpr 0 (shr 64 (u.gpr 0) bits) r h

narrowed_xmm : (t : Bool) (bits : ℕ) (u : Core) → (narrowed t bits u).xmm ≡ u.xmm
narrowed_xmm true bits u = refl
narrowed_xmm false bits u = refl

narrowed_memory : (t : Bool) (bits : ℕ) (u : Core) → (narrowed t bits u).memory ≡ u.memory
narrowed_memory true bits u = refl
narrowed_memory false bits u = refl

-- ---- lists in parts

each_front : (P : Ins → Type 0) (x y : List Ins) → Each P (x ++ y) → Each P x
each_front P [] y h = tt
each_front P (i ∷ x) y h = (h.0, each_front P x y h.1)

each_behind : (P : Ins → Type 0) (x y : List Ins) → Each P (x ++ y) → Each P y
each_behind P [] y h = h
each_behind P (i ∷ x) y h = each_behind P x y h.1

-- a line under another fact at each step, from what holds of each instruction
line_each : (P : Ins → Type 0) (A B : Core → Ins → Type 0) → ((u : Core) (i : Ins) → P i → A u i → B u i) → (is : List Ins) (c d : Core) → Each P is → Line A is c d → Line B is c d
line_each P A B f [] c d e h = h
line_each P A B f (i ∷ is) c d e h = (f c i e.0 h.0, (h.1.0, h.1.1, line_each P A B f is h.1.0 d e.1 h.1.2))

module _ (count : ℕ) (source : FarSource) (is : IsFarSource source) (s : Source) (c : Core) (at : AtHand count source s c) where
  abbrev Spare : ℕ → Type 0
  Spare = InWords (IsSpare source) (c.gpr 4)

  abbrev Q : Core → Ins → Type 0
  Q = OnTurn count source s c

  -- the addresses of both words that are written
  abbrev index_at : ℕ
  index_at = moved (c.gpr 4) source.index

  abbrev work_at : ℕ
  work_at = moved (c.gpr 4) source.work

  -- ---- what stays

  still : (u v : Core) → Stays source c u → v.gpr 4 ≡ u.gpr 4 → v.xmm ≡ u.xmm → v.memory ≡ u.memory → Stays source c v
  still u v t g x m = record {
    stack = g ∙ t.stack;
    xmm = λ r l. ap (λ f. f r) x ∙ t.xmm r l;
    memory = λ y out. ap (λ f. f y) m ∙ t.memory y out;
    mapped = λ y h. subst (λ f. IsMapped f y) (sym m) (t.mapped y h);
  }

  written : (u : Core) (z : ℤ) (f : ℕ → ℕ) → IsSpare source z → Stays source c u → Stays source c (with_memory u (fill 8 u.memory (moved (c.gpr 4) z) f))
  written u z f spare t = record {
    stack = t.stack;
    xmm = t.xmm;
    memory = λ x out. fill_other 8 u.memory (moved (c.gpr 4) z) f x (λ j l e. out (z, spare, (j, l, e))) ∙ t.memory x out;
    mapped = λ x h. fill_mapped 8 u.memory (moved (c.gpr 4) z) f x (t.mapped x h);
  }

  word_kept : (u : Core) → Stays source c u → (a : ℕ) → ((x : ℕ) → InWord a x → Spare x → ⊥) → word u.memory a ≡ word c.memory a
  word_kept u t a apart = word_alike u.memory c.memory a (λ x w. t.memory x (apart x w))

  kept_apart : (z : ℤ) → IsKept source z → (x : ℕ) → InWord (moved (c.gpr 4) z) x → Spare x → ⊥
  kept_apart z k x w h = words_apart (c.gpr 4) h.0 z at.frame (is.spare h.0 h.1) (is.kept z k) (is.apart h.0 z h.1 k) x h.2 w

  kept_word : (u : Core) → Stays source c u → (z : ℤ) → IsKept source z → word u.memory (moved (c.gpr 4) z) ≡ word c.memory (moved (c.gpr 4) z)
  kept_word u t z k = word_kept u t (moved (c.gpr 4) z) (kept_apart z k)

  element_kept : (u : Core) → Stays source c u → (i : ℕ) → i < count → (k : ℤ) → IsRead source.far s (s.first + i) k → element source.far u.memory s.base k ≡ element source.far c.memory s.base k
  element_kept u t i l k r =
      let a = cell source.far s.base k in
      ap some_or_zero (value_alike (far_size source.far) u.memory c.memory a (λ j m. t.memory ((a + j) % 2 ^ 64) (λ h. at.apart ((a + j) % 2 ^ 64) h (i, l, (k, r, (j, m, refl))))))

  -- ---- steps

  stores : (u : Core) (q : ℕ) (z : ℤ) → IsSpare source z → Stays source c u → work (Store q (slot z)) u ≡ Ok (with_memory u (fill 8 u.memory (moved (c.gpr 4) z) (byte_of 8 (u.gpr q))))
  stores u q z spare t =
      let a = moved (c.gpr 4) z in
      let f = byte_of 8 (u.gpr q) in
      ap (λ g. save 8 u (moved g z) f (λ mem. with_memory u mem)) t.stack
      ∙ ap (λ o. access 8 u.memory a o (λ mem. with_memory u mem)) (store_mapped 8 u.memory a f (λ j l. t.mapped ((a + j) % 2 ^ 64) (at.spare ((a + j) % 2 ^ 64) (z, spare, (j, l, refl)))))

  loads : (u : Core) (q : ℕ) (z : ℤ) (v : ℕ) → Stays source c u → word u.memory (moved (c.gpr 4) z) ≡ Some v → work (Load q (slot z)) u ≡ Ok (with_gpr u q v)
  loads u q z v t h =
      ap (λ g. load 8 u (moved g z) (λ w. with_gpr u q w)) t.stack
      ∙ ap (λ o. access 8 u.memory (moved (c.gpr 4) z) o (λ w. with_gpr u q w)) h

  -- at a store to a word that is written, and at loads of the frame's words
  at_store : (u : Core) (q : ℕ) (z : ℤ) → IsSpare source z → Stays source c u → Q u (Store q (slot z))
  at_store u q z spare t = (t, λ x w. inl (refl, inl (z, spare, subst (λ g. InWord (moved g z) x) t.stack w)), refl)

  at_spare : (u : Core) (q : ℕ) (z : ℤ) → IsSpare source z → Stays source c u → Q u (Load q (slot z))
  at_spare u q z spare t = (t, λ x w. inl (refl, inl (z, spare, subst (λ g. InWord (moved g z) x) t.stack w)), refl)

  at_kept : (u : Core) (q : ℕ) (z : ℤ) → IsKept source z → Stays source c u → Q u (Load q (slot z))
  at_kept u q z kept t = (t, λ x w. inl (refl, inr (z, kept, subst (λ g. InWord (moved g z) x) t.stack w)), refl)

  -- ---- before the values' part

  abbrev bits : ℕ
  bits = bits_of (far_size source.far)

  abbrev whole : Bool
  whole = bits == 0

  abbrev c1 : Core
  c1 = with_memory c (fill 8 c.memory work_at (byte_of 8 (c.gpr 1)))

  abbrev c2 : Core
  c2 = with_gpr c1 0 (moved (c.gpr source.pointer) source.ahead)

  abbrev c3 : Core
  c3 = with_gpr c2 1 s.base

  abbrev c4 : Core
  c4 = alu_core Sub c3 0 (c3.gpr 1)

  abbrev c5 : Core
  c5 = narrowed whole bits c4

  abbrev c6 : Core
  c6 = with_memory c5 (fill 8 c5.memory index_at (byte_of 8 (c5.gpr 0)))

  stays_0 : Stays source c c
  stays_0 = record { stack = refl; xmm = λ r l. refl; memory = λ x out. refl; mapped = λ x h. h }

  stays_1 : Stays source c c1
  stays_1 = written c source.work (byte_of 8 (c.gpr 1)) (inr refl) stays_0

  stays_2 : Stays source c c2
  stays_2 = still c1 c2 stays_1 refl refl refl

  stays_3 : Stays source c c3
  stays_3 = still c1 c3 stays_1 refl refl refl

  stays_4 : Stays source c c4
  stays_4 = still c1 c4 stays_1 refl refl refl

  stays_5 : Stays source c c5
  stays_5 = still c4 c5 stays_4 (narrowed_others whole bits c4 4 (λ e. omega (arith, e))) (narrowed_xmm whole bits c4) (narrowed_memory whole bits c4)

  stays_6 : Stays source c c6
  stays_6 = written c5 source.index (byte_of 8 (c5.gpr 0)) (inl refl) stays_5

  narrow_line : (t : Bool) (u : Core) → Stays source c u → Line Q (if t then [] else Shift Shr 0 bits ∷ []) u (narrowed t bits u)
  narrow_line true u t = refl
  narrow_line false u t = ((t, λ x w. absurd (touches_none (Shift Shr 0 bits) u refl x w), refl), (narrowed false bits u, refl, refl))

  entered : Line Q (enter_code source) c c6
  entered = (
    at_store c 1 source.work (inr refl) stays_0,
    (
      c1,
      stores c 1 source.work (inr refl) stays_0,
      (
        (stays_1, λ x w. absurd (touches_none (Lea 0 (record { base = source.pointer; disp = source.ahead })) c1 refl x w), refl),
        (
          c2,
          refl,
          (
            at_kept c2 1 source.array (inr (inl refl)) stays_2,
            (
              c3,
              loads c2 1 source.array s.base stays_2 (kept_word c2 stays_2 source.array (inr (inl refl)) ∙ at.array),
              (
                (stays_3, λ x w. absurd (touches_none (Alu Sub 0 1) c3 refl x w), refl),
                (
                  c4,
                  refl,
                  line_append Q (narrow_code bits 0) (Store 0 (slot source.index) ∷ []) c4 c5 c6 (narrow_line whole c4 stays_4) (at_store c5 0 source.index (inl refl) stays_5, (c6, stores c5 0 source.index (inl refl) stays_5, refl)),
                ),
              ),
            ),
          ),
        ),
      ),
    ),
  )

  first_is : c5.gpr 0 ≡ s.first
  first_is =
      narrowed_first whole bits c4 ∙ ap (λ x. narrowed_number whole bits (sub_wrap 64 x s.base)) at.pointer
      ∙ number_of source.far s.first s.base (let l : s.first + count ≤ 2 ^ 31 = at.last in omega (arith, l)) (value_small 8 c.memory (moved (c.gpr 4) source.array) s.base at.bounded.memory at.array)

  -- a word at a displacement from the same RSP
  at_stack : (z : ℤ) (v : ℕ) → word c6.memory (moved (c.gpr 4) z) ≡ Some v → word c6.memory (moved (c6.gpr 4) z) ≡ Some v
  at_stack z v h = subst (λ g. word c6.memory (moved g z) ≡ Some v) (sym stays_6.stack) h

  ready : Each IsIns (enter_code source) → Ready source.far count (plan_of source) s c6
  ready ranges = record {
    bounded = line_bounded Q (enter_code source) c c6 ranges at.bounded entered;
    index = at_stack source.index s.first (word_stored c5.memory index_at (c5.gpr 0) (moved_in (c.gpr 4) source.index at.frame (is.spare source.index (inl refl))) (let l : s.first + count ≤ 2 ^ 31 = at.last in omega (arith, l, first_is)) ∙ ap Some first_is);
    last = at.last;
    array = at_stack source.array s.base (kept_word c6 stays_6 source.array (inr (inl refl)) ∙ at.array);
    first_scalar = λ l. at_stack (pattern_at source 0) s.p (kept_word c6 stays_6 (pattern_at source 0) (inr (inr (0, l, refl))) ∙ at.first_scalar l);
    second_scalar = λ l. at_stack (pattern_at source 1) s.q (kept_word c6 stays_6 (pattern_at source 1) (inr (inr (1, l, refl))) ∙ at.second_scalar l);
    mapped = λ x h. stays_6.mapped x (at.mapped x h);
  }

  -- ---- the values' part

  is_plan : IsPlan source.far (plan_of source)
  is_plan = record { registers = registers; different = (λ e. omega (arith, e), (λ e. omega (arith, e), λ e. omega (arith, e))); scalars = is.scalars }
    where
      registers : (j : ℕ) → j < 3 → (scratch (plan_of source) j < 16) × (scratch (plan_of source) j ≢ 4)
      registers zero l = (omega arith, λ e. omega (arith, e))
      registers (suc zero) l = (omega arith, λ e. omega (arith, e))
      registers (suc (suc zero)) l = (omega arith, λ e. omega (arith, e))
      registers (suc (suc (suc j))) l = absurd (omega (arith, l))

  -- all registers but RAX and RCX are as at the beginning
  before : (r : ℕ) → r ≢ 0 → r ≢ 1 → c6.gpr r ≡ c.gpr r
  before r zero_not one_not = narrowed_others whole bits c4 r zero_not ∙ change_other c3.gpr 0 (c4.gpr 0) r zero_not ∙ change_other c2.gpr 1 s.base r one_not ∙ change_other c1.gpr 0 (moved (c.gpr source.pointer) source.ahead) r zero_not

  not_scratch : (r : ℕ) → r ≢ 0 → r ≢ 1 → r ≢ 7 → IsScratch (plan_of source) r → ⊥
  not_scratch r a b e (zero, l, q) = a q
  not_scratch r a b e (suc zero, l, q) = b q
  not_scratch r a b e (suc (suc zero), l, q) = e q
  not_scratch r a b e (suc (suc (suc j)), l, q) = omega (arith, l)

  stays_on : (u : Core) → Keeps (plan_of source) c6 u → Stays source c u
  stays_on u k = record {
    stack = k.gpr 4 (not_scratch 4 (λ e. omega (arith, e)) (λ e. omega (arith, e)) (λ e. omega (arith, e))) ∙ stays_6.stack;
    xmm = λ r l. k.xmm r l ∙ stays_6.xmm r l;
    memory = λ x out. ap (λ m. m x) k.memory ∙ stays_6.memory x out;
    mapped = λ x h. subst (λ m. IsMapped m x) (sym k.memory) (stays_6.mapped x h);
  }

  in_own : (x : ℕ) → InPlan source.far (plan_of source) (c.gpr 4) x → InOwn source c x
  in_own x (inl w) = inl (source.index, inl refl, w)
  in_own x (inr (inl w)) = inr (source.array, inr (inl refl), w)
  in_own x (inr (inr (j, l, w))) = inr (pattern_at source j, inr (inr (j, l, refl)), w)

  on_turn : (u : Core) (i : Ins) → Agrees i → OnTheWay source.far count (plan_of source) s c6 u i → Q u i
  on_turn u i agrees h = (stays_on u h.0, λ x t. ⊎_elim (λ n. inl (agrees.0 ∙ n.0, in_own x (subst (λ g. InPlan source.far (plan_of source) g x) stays_6.stack n.1))) (λ f. inr (agrees.0 ∙ f.0, f.1)) (h.1 x t), agrees.1)

  -- ---- behind it

  module _ (d : Core) (g : Gathered source.far count (plan_of source) s c6 d) where
    abbrev d1 : Core
    d1 = with_gpr d 7 (c.gpr 7)

    abbrev d2 : Core
    d2 = with_gpr d1 1 (c.gpr 1)

    stays_7 : Stays source c d
    stays_7 = stays_on d g.keeps

    stays_8 : Stays source c d1
    stays_8 = still d d1 stays_7 refl refl refl

    waits : word d1.memory work_at ≡ Some (c.gpr 1)
    waits =
        let f = byte_of 8 (c5.gpr 0) in
        ap (λ m. word m work_at) g.keeps.memory
        ∙ word_alike c6.memory c5.memory work_at
        (λ x w. fill_other 8 c5.memory index_at f x (λ j l e. words_apart (c.gpr 4) source.index source.work at.frame (is.spare source.index (inl refl)) (is.spare source.work (inr refl)) is.two x (j, l, e) w))
        ∙ ap (λ m. word m work_at) (narrowed_memory whole bits c4) ∙ word_stored c.memory work_at (c.gpr 1) (moved_in (c.gpr 4) source.work at.frame (is.spare source.work (inr refl))) (at.bounded.gpr 1)

    left : Line Q (leave_code source) d d2
    left = (
      at_kept d 7 source.block (inl refl) stays_7,
      (
        d1,
        loads d 7 source.block (c.gpr 7) stays_7 (kept_word d stays_7 source.block (inl refl) ∙ at.block),
        (at_spare d1 1 source.work (inr refl) stays_8, (d2, loads d1 1 source.work (c.gpr 1) stays_8 waits, refl)),
      ),
    )

    as_before : (r : ℕ) → r ≢ 0 → d2.gpr r ≡ c.gpr r
    as_before r zero_not = ⊎_elim
        (λ e. subst (λ i. d2.gpr i ≡ c.gpr i) (sym e) (change_same d1.gpr 1 (c.gpr 1)))
        (λ one_not. change_other d1.gpr 1 (c.gpr 1) r one_not
        ∙ ⊎_elim
        (λ e. subst (λ i. d1.gpr i ≡ c.gpr i) (sym e) (change_same d.gpr 7 (c.gpr 7)))
        (λ seven_not. change_other d.gpr 7 (c.gpr 7) r seven_not ∙ g.keeps.gpr r (not_scratch r zero_not one_not seven_not) ∙ before r zero_not one_not)
        (cases_eq r 7))
        (cases_eq r 1)

    stays_9 : Stays source c d2
    stays_9 = still d1 d2 stays_8 refl refl refl

  singly_brought : IsWidth (count * far_size source.far) → Each IsIns (singly_code source count) → (d : Core) × Line Q (singly_code source count) c d × Brought count source s c d
  singly_brought width ranges =
      let list = gather_with source.far (plan_of source) count 0 1 7 in
      let middles = each_front IsIns list (leave_code source) (each_behind IsIns (enter_code source) (list ++ leave_code source) ranges) in
      let start = ready (each_front IsIns (enter_code source) (list ++ leave_code source) ranges) in
      let r = gathers source.far count (plan_of source) is_plan width middles s c6 start in
      let d = r.0 in
      let e = d2 d r.2 in
      let middle : Line Q list c6 d = line_each Agrees (OnTheWay source.far count (plan_of source) s c6) Q on_turn list c6 d (agree_each list (gather_agrees source.far (plan_of source) count width)) r.1 in
      let line : Line Q (singly_code source count) c e = line_append Q (enter_code source) (list ++ leave_code source) c c6 e entered (line_append Q list (leave_code source) c6 d e middle (left d r.2)) in (
        e,
        line,
        record {
          values = λ j l. r.2.values j l ∙ value_same source.far s c6.memory c.memory (s.first + j) (λ k h. element_kept c6 stays_6 j l k h);
          gpr = as_before d r.2;
          stays = stays_9 d r.2;
          bounded = line_bounded Q (singly_code source count) c e ranges at.bounded line;
        },
      )

-- ---- by the far load

singly_brings : (count : ℕ) (source : FarSource) → IsFarSource source → IsWidth (count * far_size source.far) → Each IsIns (singly_code source count) → Brings count source (singly_code source count)
singly_brings count source is width ranges s c at = singly_brought count source is s c at width ranges

-- so many bytes are moved, and so many elements of a byte taken
width_by : (count : ℕ) (source : FarSource) (far : Far) → source.far ≡ far → IsWidth (count * far_size source.far) → IsWidth (count * far_size far)
width_by count source far e width = subst (λ f. IsWidth (count * far_size f)) e width

all_by : (count : ℕ) (source : FarSource) (far : Far) → source.far ≡ far → count * far_size far ≡ count * far_size source.far
all_by count source far e = ap (λ f. count * far_size f) (sym e)

count_by : (count : ℕ) (source : FarSource) (far : Far) → source.far ≡ far → far_size far ≡ 1 → IsWidth (count * far_size source.far) → IsWidth count
count_by count source far e one width = subst IsWidth (ap (λ n. count * n) one ∙ (let q : count * 1 ≡ count = omega arith in q)) (width_by count source far e width)

brings_by : (count : ℕ) (source : FarSource) → IsFarSource source → IsWidth (count * far_size source.far) → (far : Far) → source.far ≡ far → Each IsIns (bring_by far source count) → Brings count source (bring_by far source count)
brings_by count source is width Loadoffb e ranges s c at =
    beside_brought 0 (count * 1) count source is (subst (IsOffset 0) (sym e) offset_b) scaled_b (all_by count source Loadoffb e) (width_by count source Loadoffb e width) s c at ranges
brings_by count source is width Loadoffw e ranges s c at =
    beside_brought 1 (count * 2) count source is (subst (IsOffset 1) (sym e) offset_w) scaled_w (all_by count source Loadoffw e) (width_by count source Loadoffw e width) s c at ranges
brings_by count source is width Loadoffl e ranges s c at =
    beside_brought 2 (count * 4) count source is (subst (IsOffset 2) (sym e) offset_l) scaled_l (all_by count source Loadoffl e) (width_by count source Loadoffl e width) s c at ranges
brings_by count source is width Loadupdb e ranges s c at = doubled_brought count source is e (count_by count source Loadupdb e refl width) ranges s c at
brings_by count source is width Loadupib e ranges s c at = between_brought count source is e (count_by count source Loadupib e refl width) ranges s c at
brings_by count source is width Ldresnearb e ranges s c at = singly_brings count source is width ranges s c at
brings_by count source is width Ldresnearl e ranges s c at = singly_brings count source is width ranges s c at
brings_by count source is width Ldreslinb e ranges s c at = singly_brings count source is width ranges s c at
brings_by count source is width Ldreslinl e ranges s c at = singly_brings count source is width ranges s c at

pub brings : (count : ℕ) (source : FarSource) → IsFarSource source → IsWidth (count * far_size source.far) → Each IsIns (bring_code source count) → Brings count source (bring_code source count)
brings count source is width ranges = brings_by count source is width source.far refl ranges
