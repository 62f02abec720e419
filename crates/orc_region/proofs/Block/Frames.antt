-- Patterns, running sums and spill slots, in the frame and, of patterns and running sums, in registers.
use Rattle.std.proofs.Common.{◌≡◌, ◌≢◌, ℕ, zero, suc, ◌+◌, ◌-◌, ◌*◌, ◌/◌, ◌%◌, ◌^◌, ◌<◌, ◌≤◌, ◌==◌, Bool, true, false, if◌then◌else◌, List, get_or, Some, Ok, is_some, refl, sym, ap, ◌∙◌, subst, arith, ⊎_elim}
use Rattle.std.proofs.lemmas.Bool.{cases_eq, cases_lt}
use Rattle.std.proofs.lemmas.Nat.{mod-mul-add}
use Rattle.std.proofs.Math.Nat.{add-mod-mod}
use Rattle.orc_bits.specs.Numbers.{cut}
use Rattle.orc_bits.specs.Lanes.{lane, from_bytes, AreBytes, change}
use Rattle.orc_bits.specs.Memory.{IsMapped, read, fill}
use Rattle.orc_bits.proofs.LaneLaws.{lane_of_digits, lane-same, from_byte, byte_is, change_other, change_same, eq_false}
use Rattle.orc_bits.proofs.Memories.{read_lanes, all_there, store_there}
use Rattle.x86_ins.specs.declared.ins.Ins.TheVariants.{Vec, VecLoad, VecStore}
use Rattle.x86_ins.specs.declared.ins.VecOp.TheVariants.{Pxor}
use Rattle.x86_ins.specs.Vectors.{shape, result_of}
use Rattle.std.specs.Prelude.{bit_xor}
use Rattle.std.specs.Int.Bits.{xor_self}
use Rattle.x86_ins.specs.declared.ins.MoveOp.TheVariants.{Movdqu}
use Rattle.x86_ins.specs.Machine.{Core, with_xmm, with_memory, address, access, save, work}
use Rattle.x86_flow.specs.Moves.{away}
use Rattle.x86_flow.proofs.Moves.{IsFill, fill_is}
use Rattle.sse_acc.specs.Sums.{sum_below, sum_of}
use Rattle.sse_acc.proofs.Totals.{sum_below-zero, sum_below-suc, sum_below-same}
use Rattle.orc_frame.specs.Layout.{pattern_slot, sum_slot, saved_slot, frame_size, spill_slot}
use Rattle.orc_frame.specs.Parts.{InWorked}
use Rattle.orc_program.specs.Need.{places}
use Rattle.orc_region.specs.Code.{ToSum, resident_register}
use Rattle.orc_region.specs.Elements.{sum_byte}
use Rattle.orc_region.proofs.Arithmetic.Digits.{digit, byte_within}
use Rattle.orc_region.proofs.Block.Cells.{Numbers, adds_to, eq_yes}
use Rattle.orc_region.proofs.Block.Sums.{IsResident, SameSums, byte_same}

-- ---- moves of 16 bytes, so far from RSP

pub record Loaded (x : ℕ) (z : ℕ → ℕ) (c d : Core) : Type 0 where
  pub gpr : d.gpr ≡ c.gpr
  pub memory : d.memory ≡ c.memory
  pub others : (y : ℕ) → y ≢ x → d.xmm y ≡ c.xmm y
  pub bytes : (b : ℕ) → b < 16 → get_or (d.xmm x) b 0 ≡ z b

slot_at : (rsp far : ℕ) → rsp + far + 16 < 2 ^ 63 → (rsp + far) % 2 ^ 64 ≡ rsp + far
slot_at rsp far low = omega (arith, low)

pub load_slot : (c : Core) (x rsp far : ℕ) (z : ℕ → ℕ) → c.gpr 4 ≡ rsp → rsp + far + 16 < 2 ^ 63 → ((b : ℕ) → b < 16 → c.memory (rsp + far + b) ≡ Some (z b))
    → (d : Core) × (work (VecLoad Movdqu x (away 4 far)) c ≡ Ok d) × Loaded x z c d
load_slot c x rsp far z e low there =
    let p = rsp + far in
    let r = read_lanes 16 c.memory p z low there in
    let new : List ℕ = from_bytes (λ j. get_or r.0 j 0) in
    let at : address c (away 4 far) ≡ p = ap (λ a. (a + far) % 2 ^ 64) e ∙ slot_at rsp far low in (
      with_xmm c x new,
      ap (λ a. access 16 c.memory a (read 16 c.memory a) (λ bs. with_xmm c x (from_bytes (λ j. get_or bs j 0)))) at
          ∙ ap (λ o. access 16 c.memory p o (λ bs. with_xmm c x (from_bytes (λ j. get_or bs j 0)))) r.1,
      record {
        gpr = refl;
        memory = refl;
        others = λ y ne. change_other c.xmm x new y ne;
        bytes = λ b l. ap (λ v. get_or v b 0) (change_same c.xmm x new) ∙ from_byte (λ j. get_or r.0 j 0) b l ∙ r.2 b l;
      },
    )

-- a register becomes 0
pub clear_register : (c : Core) (x : ℕ) → (d : Core) × (work (Vec Pxor x x) c ≡ Ok d) × Loaded x (λ b. 0) c d
clear_register c x =
    let v = c.xmm x in
    let new : List ℕ = result_of (shape Pxor) v v in
    let zero_byte : (b : ℕ) → b < 16 → get_or new b 0 ≡ 0 = λ b l.
    byte_is 1 (λ q. bit_xor (lane 1 q v) (lane 1 q v)) b l ∙ ap (λ y. y / 256 ^ (b % 1) % 256) (xor_self (lane 1 (b / 1) v)) ∙ (let z : 0 / 256 ^ (b % 1) % 256 ≡ 0 = ap (λ k. 0 / 256 ^ k % 256) (let e : b % 1 ≡ 0 = omega arith in e) in z) in
    (with_xmm c x new, refl, record { gpr = refl; memory = refl; others = λ y ne. change_other c.xmm x new y ne; bytes = λ b l. ap (λ y. get_or y b 0) (change_same c.xmm x new) ∙ zero_byte b l })

pub store_slot : (c : Core) (x rsp far : ℕ) → c.gpr 4 ≡ rsp → rsp + far + 16 < 2 ^ 63 → ((b : ℕ) → b < 16 → IsMapped c.memory (rsp + far + b))
    → (d : Core) × (work (VecStore Movdqu x (away 4 far)) c ≡ Ok d) × (d.gpr ≡ c.gpr) × (d.xmm ≡ c.xmm) × IsFill 16 c.memory (rsp + far) (λ b. get_or (c.xmm x) b 0) d.memory
store_slot c x rsp far e low there =
    let p = rsp + far in
    let f : ℕ → ℕ = λ j. get_or (c.xmm x) j 0 in
    let at : address c (away 4 far) ≡ p = ap (λ a. (a + far) % 2 ^ 64) e ∙ slot_at rsp far low in (
      with_memory c (fill 16 c.memory p f),
      ap (λ a. save 16 c a f (λ mem. with_memory c mem)) at
          ∙ ap (λ o. access 16 c.memory p o (λ mem. with_memory c mem)) (store_there 16 c.memory p f (all_there 16 c.memory p low there)),
      refl,
      refl,
      fill_is 16 c.memory p f f low (λ j l. refl),
    )

-- ---- lanes of patterns

-- a lane of a pattern that repeats after so many bytes
pub pattern_lane : (x : List ℕ) (w n q : ℕ) → ((b : ℕ) → b < 16 → get_or x b 0 ≡ digit n (b % w)) → q * w + w ≤ 16 → lane w q x ≡ n % 2 ^ (8 * w)
pattern_lane x w n q h l = lane_of_digits x w q n (λ k lk. h (q * w + k) (omega (arith, lk, l)) ∙ ap (digit n) (mod-mul-add q w k lk))

-- ---- sums of lanes

whole_lanes : (w q k : ℕ) → q < 16 / w → k < w → q * w + k < 16
whole_lanes zero q k l lk = absurd (omega (arith, lk))
whole_lanes (suc w) q k l lk = let m = byte_within q (16 / suc w) (suc w) k l lk in omega (arith, m)

pub same_sum : (w : ℕ) (x y : List ℕ) → ((b : ℕ) → b < 16 → get_or x b 0 ≡ get_or y b 0) → sum_of w x ≡ sum_of w y
same_sum w x y h = sum_below-same (16 / w) (λ q. lane w q x) (λ q. lane w q y) (λ q l. lane-same x y w q (λ k lk. h (q * w + k) (whole_lanes w q k l lk)))

pub no_sum : (n : ℕ) → sum_below n (λ q. 0) ≡ 0
no_sum zero = sum_below-zero (λ q. 0)
no_sum (suc n) = let e = sum_below-suc n (λ q. 0) in omega (arith, e, no_sum n)

-- what several elements add to one sum
pub adds_all : (n g h : ℕ) (v : ℕ → ℕ) → adds_to (ToSum g) (sum_below n v) h ≡ sum_below n (λ q. adds_to (ToSum g) (v q) h)
adds_all n g h v = go (g == h)
  where
    go : (t : Bool) → (if t then sum_below n v else 0) ≡ sum_below n (λ q. if t then v q else 0)
    go true = refl
    go false = sym (no_sum n)

-- two sums of numbers are one
pub sum_both : (n : ℕ) (f g : ℕ → ℕ) → sum_below n f + sum_below n g ≡ sum_below n (λ q. f q + g q)
sum_both zero f g = let a = sum_below-zero f in let b = sum_below-zero g in let c = sum_below-zero (λ q. f q + g q) in omega (arith, a, b, c)
sum_both (suc n) f g =
    let a = sum_below-suc n f in
    let b = sum_below-suc n g in
    let c = sum_below-suc n (λ q. f q + g q) in
    let more = sum_both n f g in
    omega (arith, a, b, c, more)

-- ---- what the frame holds

-- RSP is `rsp`
module _ (numbers : Numbers) (rsp : ℕ) where
  pub record IsFrame : Type 0 where
    pub few_patterns : numbers.patterns ≤ 48
    pub few_sums : numbers.sums ≤ 4
    pub low : rsp + frame_size ≤ 2 ^ 47
    pub few_places : numbers.last < places

  -- the patterns' slots hold their bytes, and their registers, where they stand in some, the lanes of each running sum add up to its total, modulo what the sum's bytes hold, and the words in which far loads' code works and the spill slots are mapped
  pub record Framed (c : Core) (totals : ℕ → ℕ) : Type 0 where
    pub patterns : (j : ℕ) → j < numbers.patterns → (b : ℕ) → b < 16 → c.memory (rsp + pattern_slot j + b) ≡ Some (digit (numbers.number j) (b % numbers.period j))
    pub residents : (j : ℕ) → j < numbers.patterns → IsResident numbers.last (numbers.sums + j) → (b : ℕ) → b < 16 → get_or (c.xmm (resident_register (numbers.sums + j))) b 0 ≡ digit (numbers.number j) (b % numbers.period j)
    pub running : ℕ → List ℕ
    pub bytes : (g : ℕ) → AreBytes (running g)
    pub sums : (g : ℕ) → g < numbers.sums → (b : ℕ) → b < 16 → sum_byte numbers.last rsp c g b ≡ Some (get_or (running g) b 0)
    pub totals_are : (g : ℕ) → g < numbers.sums → cut (8 * numbers.width g) (sum_of (numbers.width g) (running g)) ≡ cut (8 * numbers.width g) (totals g)
    pub worked : (x : ℕ) → InWorked rsp x → IsMapped c.memory x

  -- the registers of residents are as before
  abbrev pub Resting : Core → Core → Type 0
  Resting = SameSums numbers.last rsp

  -- the patterns and sums stay where their bytes do, and those words and the spill slots where theirs stay mapped
  pub framed_below : IsFrame → (c d : Core) (totals : ℕ → ℕ) → ((x : ℕ) → rsp ≤ x → x < rsp + saved_slot 0 → d.memory x ≡ c.memory x) → ((x : ℕ) → InWorked rsp x → IsMapped c.memory x → IsMapped d.memory x) → Resting c d → Framed c totals → Framed d totals
  framed_below is c d totals same there rest h = record {
    patterns = λ j l b lb. same (rsp + pattern_slot j + b) (omega arith) (omega (arith, l, lb, is.few_patterns)) ∙ h.patterns j l b lb;
    residents = λ j l r b lb. ap (λ v. get_or v b 0) (rest (numbers.sums + j) r) ∙ h.residents j l r b lb;
    running = h.running;
    bytes = h.bytes;
    sums = λ g l b lb. byte_same numbers.last rsp c d g b (rest g) (λ f. same (rsp + sum_slot g + b) (omega arith) (omega (arith, l, lb, is.few_sums))) ∙ h.sums g l b lb;
    totals_are = h.totals_are;
    worked = λ x i. there x i (h.worked x i);
  }

  pub framed_same : IsFrame → (c d : Core) (totals : ℕ → ℕ) → ((x : ℕ) → rsp ≤ x → x < rsp + frame_size → d.memory x ≡ c.memory x) → Resting c d → Framed c totals → Framed d totals
  framed_same is c d totals same rest h =
      framed_below is c d totals (λ x l u. same x l (omega (arith, u))) (λ x i m. subst (λ o. is_some o ≡ true) (sym (same x (let l = i.0 in omega (arith, l)) i.1)) m) rest h

  pub framed_totals : (c : Core) (a b : ℕ → ℕ) → ((g : ℕ) → a g ≡ b g) → Framed c a → Framed c b
  framed_totals c a b e h = record {
    patterns = h.patterns;
    residents = h.residents;
    running = h.running;
    bytes = h.bytes;
    sums = h.sums;
    totals_are = λ g l. h.totals_are g l ∙ ap (cut (8 * numbers.width g)) (e g);
    worked = h.worked;
  }

  -- a spill slot was stored
  pub framed_spilled : IsFrame → (c d : Core) (totals : ℕ → ℕ) (k : ℕ) (z : ℕ → ℕ) → IsFill 16 c.memory (rsp + spill_slot k) z d.memory → Resting c d → Framed c totals → Framed d totals
  framed_spilled is c d totals k z f rest h =
      framed_below is c d totals (λ x l u. f.outside x (λ j lj q. omega (arith, q, u))) (λ x i m. ⊎_elim
      (λ l. beside x (λ j lj q. omega (arith, q, l)) m)
      (λ g. ⊎_elim (λ l. within x g l) (λ u. beside x (λ j lj q. omega (arith, q, lj, u)) m) (cases_lt x (rsp + spill_slot k + 16)))
      (cases_lt x (rsp + spill_slot k))) rest h
    where
      beside : (x : ℕ) → ((j : ℕ) → j < 16 → x ≢ rsp + spill_slot k + j) → IsMapped c.memory x → IsMapped d.memory x
      beside x out m = ap is_some (f.outside x out) ∙ m

      within : (x : ℕ) → rsp + spill_slot k ≤ x → x < rsp + spill_slot k + 16 → IsMapped d.memory x
      within x g l = ap is_some (ap d.memory (let e : x ≡ rsp + spill_slot k + (x - (rsp + spill_slot k)) = omega (arith, g) in e) ∙ f.inside (x - (rsp + spill_slot k)) (omega (arith, g, l)))

  added : (m s t v : ℕ) → s % m ≡ t % m → (s + v) % m ≡ (t + v) % m
  added m s t v e = sym (mod_add s v m) ∙ ap (λ x. (x + v) % m) e ∙ mod_add t v m
    where
      mod_add : (s v m : ℕ) → (s % m + v) % m ≡ (s + v) % m
      mod_add s v m = ap (λ x. x % m) (let z : s % m + v ≡ v + s % m = omega arith in z) ∙ add-mod-mod v s m ∙ ap (λ x. x % m) (let z : v + s ≡ s + v = omega arith in z)

  -- a running sum has grown, and nothing else in the frame
  module _ (is : IsFrame) (c d : Core) (totals : ℕ → ℕ) (h : Framed c totals) (g v : ℕ) (l : g < numbers.sums) (x : List ℕ) (small : AreBytes x)
      (there : (b : ℕ) → b < 16 → sum_byte numbers.last rsp d g b ≡ Some (get_or x b 0)) (beside : (k : ℕ) → k < numbers.sums → k ≢ g → (b : ℕ) → b < 16 → sum_byte numbers.last rsp d k b ≡ sum_byte numbers.last rsp c k b)
      (rest : (k : ℕ) → k ≢ g → IsResident numbers.last k → d.xmm (resident_register k) ≡ c.xmm (resident_register k)) (low : (y : ℕ) → rsp ≤ y → y < rsp + sum_slot 0 → d.memory y ≡ c.memory y) (high : (y : ℕ) → InWorked rsp y → d.memory y ≡ c.memory y)
      (grows : cut (8 * numbers.width g) (sum_of (numbers.width g) x) ≡ cut (8 * numbers.width g) (sum_of (numbers.width g) (h.running g) + v)) where
    abbrev new : ℕ → List ℕ
    new = change h.running g x

    grown_bytes : (k : ℕ) → AreBytes (new k)
    grown_bytes k = ⊎_elim
        (λ e. subst AreBytes (sym (ap new e ∙ change_same h.running g x)) small)
        (λ ne. subst AreBytes (sym (change_other h.running g x k ne)) (h.bytes k))
        (cases_eq k g)

    grown_there : (k : ℕ) → k < numbers.sums → (b : ℕ) → b < 16 → sum_byte numbers.last rsp d k b ≡ Some (get_or (new k) b 0)
    grown_there k lk b lb = ⊎_elim
        (λ e. ap (λ k. sum_byte numbers.last rsp d k b) e ∙ there b lb ∙ ap (λ y. Some (get_or y b 0)) (sym (ap new e ∙ change_same h.running g x)))
        (λ ne. beside k lk ne b lb ∙ h.sums k lk b lb ∙ ap (λ y. Some (get_or y b 0)) (sym (change_other h.running g x k ne)))
        (cases_eq k g)

    grown_total : (k : ℕ) → k < numbers.sums → cut (8 * numbers.width k) (sum_of (numbers.width k) (new k)) ≡ cut (8 * numbers.width k) (totals k + adds_to (ToSum g) v k)
    grown_total k lk = ⊎_elim
        (λ e. subst (λ k. cut (8 * numbers.width k) (sum_of (numbers.width k) (new k)) ≡ cut (8 * numbers.width k) (totals k + adds_to (ToSum g) v k)) (sym e)
        (ap (λ y. cut (8 * numbers.width g) (sum_of (numbers.width g) y)) (change_same h.running g x) ∙ grows
        ∙ added (2 ^ (8 * numbers.width g)) (sum_of (numbers.width g) (h.running g)) (totals g) v (h.totals_are g l)
        ∙ ap (λ b. cut (8 * numbers.width g) (totals g + (if b then v else 0))) (sym (eq_yes g g refl))))
        (λ ne. ap (λ y. cut (8 * numbers.width k) (sum_of (numbers.width k) y)) (change_other h.running g x k ne) ∙ h.totals_are k lk
        ∙ ap (cut (8 * numbers.width k)) (let z : totals k ≡ totals k + 0 = omega arith in z)
        ∙ ap (λ b. cut (8 * numbers.width k) (totals k + (if b then v else 0))) (sym (eq_false g k (λ e. ne (sym e)))))
        (cases_eq k g)

    pub framed_grown : Framed d (λ k. totals k + adds_to (ToSum g) v k)
    framed_grown = record {
      patterns = λ j lj b lb. low (rsp + pattern_slot j + b) (omega arith) (omega (arith, lj, lb, is.few_patterns)) ∙ h.patterns j lj b lb;
      residents = λ j lj r b lb. ap (λ v. get_or v b 0) (rest (numbers.sums + j) (λ e. omega (arith, e, l)) r) ∙ h.residents j lj r b lb;
      running = new;
      bytes = grown_bytes;
      sums = grown_there;
      totals_are = grown_total;
      worked = λ y i. ap is_some (high y i) ∙ h.worked y i;
    }
