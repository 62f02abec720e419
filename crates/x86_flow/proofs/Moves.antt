-- Bytes between memory and a vector register, and lists one after another.
use Rattle.std.proofs.Common.{◌≡◌, ◌≢◌, ℕ, zero, suc, ◌+◌, ◌*◌, ◌%◌, ◌/◌, ◌^◌, ◌<◌, ◌≤◌, ◌==◌, nat_lt, Bool, true, false, if◌then◌else◌, List, [], ◌∷◌, ◌++◌, get_or, Some, Result, Ok, Err, refl, sym, ap, ◌∙◌, subst, arith, lit<, inl, inr}
use Rattle.std.proofs.lemmas.Bool.Decides.{nat_tests}
use Rattle.orc_bits.specs.Lanes.{lane, from_bytes, byte_of, AreBytes}
use Rattle.orc_bits.proofs.LaneLaws.{lane_law, lane_one, from_byte, AreBytes-from_bytes, change_other, change_same}
use Rattle.x86_ins.specs.declared.ins.MoveOp.{MoveOp}
use Rattle.x86_ins.specs.declared.ins.MoveOp.TheVariants as move
use Rattle.x86_ins.specs.declared.ins.Ins.{Ins}
use Rattle.x86_ins.specs.declared.ins.Ins.TheVariants.{VecLoad, VecStore, FromGpr, ToGpr, Load8, Load16, Store8, Store16}
use Rattle.orc_bits.specs.Memory.{Memory, bind, read, number, fill, IsMapped}
use Rattle.x86_ins.specs.declared.state.Trap.{Trap}
use Rattle.x86_ins.specs.Machine.{Core, with_gpr, with_xmm, with_memory, address, access, aligned, move_size, load, save, work, span}
use Rattle.orc_bits.proofs.Memories.{fill_in, fill_out, all_there, store_there}
use Rattle.x86_ins.specs.declared.state.Why.TheVariants as why
use Rattle.x86_flow.specs.Moves.{away, IsWidth, load_far_code, store_far_code, aligned_store_far_code, store_either_code, load_code, store_code}
use Rattle.x86_flow.specs.Does.{Line}
use Rattle.x86_flow.specs.Touching.{base_of, touch_weight}
use Rattle.x86_flow.proofs.Plans.{weigh}
use Rattle.x86_flow.proofs.Touching.{Touching}

pub line_append : (Q : Core → Ins → Type 0) (a b : List Ins) (c u d : Core) → Line Q a c u → Line Q b u d → Line Q (a ++ b) c d
line_append Q [] b c u d x y = subst (λ v. Line Q b v d) (sym x) y
line_append Q (i ∷ a) b c u d x y = (x.0, (x.1.0, x.1.1, line_append Q a b x.1.0 u d x.1.2 y))

-- `end` is `mem` but for so many bytes from an address on
pub record IsFill (count : ℕ) (mem : Memory) (a : ℕ) (f : ℕ → ℕ) (end : Memory) : Type 0 where
  pub inside : (j : ℕ) → j < count → end (a + j) ≡ Some (f j)
  pub outside : (x : ℕ) → ((j : ℕ) → j < count → x ≢ a + j) → end x ≡ mem x

pub fill_is : (count : ℕ) (mem : Memory) (a : ℕ) (f g : ℕ → ℕ) → a + count < 2 ^ 63 → ((j : ℕ) → j < count → f j ≡ g j) → IsFill count mem a g (fill count mem a f)
fill_is count mem a f g w e = record { inside = λ j l. fill_in count mem a f j w l ∙ ap Some (e j l); outside = λ x h. fill_out count mem a f x w h }

-- what holds of each width
pub each_width : (P : ℕ → Type 0) → P 1 → P 2 → P 4 → P 8 → P 16 → (width : ℕ) → IsWidth width → P width
each_width P one two four eight all width (inl e) = subst P (sym e) one
each_width P one two four eight all width (inr (inl e)) = subst P (sym e) two
each_width P one two four eight all width (inr (inr (inl e))) = subst P (sym e) four
each_width P one two four eight all width (inr (inr (inr (inl e)))) = subst P (sym e) eight
each_width P one two four eight all width (inr (inr (inr (inr e)))) = subst P (sym e) all

below_1 : (P : ℕ → Type 0) → P 0 → (j : ℕ) → j < 1 → P j
below_1 P a zero l = a
below_1 P a (suc j) l = absurd (omega (arith, l))

below_2 : (P : ℕ → Type 0) → P 0 → P 1 → (j : ℕ) → j < 2 → P j
below_2 P a b zero l = a
below_2 P a b (suc zero) l = b
below_2 P a b (suc (suc j)) l = absurd (omega (arith, l))

-- ---- bytes that are read

-- z 0, z 1 and so on, so many
abbrev front : ℕ → (ℕ → ℕ) → List ℕ
front zero z = []
front (suc n) z = z 0 ∷ front n (λ j. z (suc j))

front_at : (n : ℕ) (z : ℕ → ℕ) (j : ℕ) → j < n → get_or (front n z) j 0 ≡ z j
front_at zero z j l = absurd (omega (arith, l))
front_at (suc n) z zero l = refl
front_at (suc n) z (suc j) l = front_at n (λ j. z (suc j)) j (omega (arith, l))

front_small : (n : ℕ) (z : ℕ → ℕ) → ((j : ℕ) → j < n → z j < 256) → AreBytes (front n z)
front_small zero z h j = lit< tt
front_small (suc n) z h zero = h 0 (omega arith)
front_small (suc n) z h (suc j) = front_small n (λ j. z (suc j)) (λ j l. h (suc j) (omega (arith, l))) j

read_front : (n : ℕ) (mem : Memory) (a : ℕ) (z : ℕ → ℕ) → a + n < 2 ^ 63 → ((j : ℕ) → j < n → mem (a + j) ≡ Some (z j)) → read n mem a ≡ Some (front n z)
read_front zero mem a z w h = refl
read_front (suc n) mem a z w h =
    let e : a % 2 ^ 64 ≡ a + 0 = omega (arith, w) in
    let first : mem (a % 2 ^ 64) ≡ Some (z 0) = ap mem e ∙ h 0 (omega arith) in
    let rest = read_front n mem (a + 1) (λ j. z (suc j)) (omega (arith, w)) (λ j l. ap mem (let q : a + 1 + j ≡ a + suc j = omega arith in q) ∙ h (suc j) (omega (arith, l))) in
    ap (λ o. bind o (λ b. bind (read n mem (a + 1)) (λ bs. Some (b ∷ bs)))) first ∙ ap (λ o. bind o (λ bs. Some (z 0 ∷ bs))) rest

one_byte : (z : ℕ → ℕ) (j : ℕ) → j < 1 → number (front 1 z) / 256 ^ j % 256 ≡ z j % 256
one_byte z = below_1 (λ j. number (front 1 z) / 256 ^ j % 256 ≡ z j % 256) (omega arith)

two_bytes : (z : ℕ → ℕ) → z 0 < 256 → (j : ℕ) → j < 2 → number (front 2 z) / 256 ^ j % 256 ≡ z j % 256
two_bytes z low = below_2 (λ j. number (front 2 z) / 256 ^ j % 256 ≡ z j % 256) (omega (arith, low)) (omega (arith, low))

-- ---- the low bytes of a register

low_byte : (b : List ℕ) → AreBytes b → (j : ℕ) → j < 1 → byte_of 1 (lane 4 0 b) j ≡ get_or b j 0
low_byte b small =
    let e : lane 4 0 b ≡ lane 2 0 b + 256 ^ 2 * lane 2 1 b = lane_law b 2 0 in
    let f : lane 2 0 b ≡ lane 1 0 b + 256 ^ 1 * lane 1 1 b = lane_law b 1 0 in
    let first : lane 4 0 b / 256 ^ 0 % 256 ≡ get_or b 0 0 = omega (arith, e, f, lane_one 0 b, small 0) in
    below_1 (λ j. byte_of 1 (lane 4 0 b) j ≡ get_or b j 0) first

low_bytes : (b : List ℕ) → AreBytes b → (j : ℕ) → j < 2 → byte_of 2 (lane 4 0 b) j ≡ get_or b j 0
low_bytes b small =
    let e : lane 4 0 b ≡ lane 2 0 b + 256 ^ 2 * lane 2 1 b = lane_law b 2 0 in
    let f : lane 2 0 b ≡ lane 1 0 b + 256 ^ 1 * lane 1 1 b = lane_law b 1 0 in
    let first : lane 4 0 b / 256 ^ 0 % 256 ≡ get_or b 0 0 = omega (arith, e, f, lane_one 0 b, small 0) in
    let second : lane 4 0 b / 256 ^ 1 % 256 ≡ get_or b 1 0 = omega (arith, e, f, lane_one 0 b, lane_one 1 b, small 0, small 1) in
    below_2 (λ j. byte_of 2 (lane 4 0 b) j ≡ get_or b j 0) first second

-- ---- moves

-- what a load of bytes leaves
pub record Loaded (width x : ℕ) (z : ℕ → ℕ) (c d : Core) : Type 0 where
  pub memory : d.memory ≡ c.memory
  pub gpr : (r : ℕ) → r ≢ 0 → d.gpr r ≡ c.gpr r
  pub others : (y : ℕ) → y ≢ x → d.xmm y ≡ c.xmm y
  pub bytes : (j : ℕ) → j < width → get_or (d.xmm x) j 0 % 256 ≡ z j % 256
  -- if they are bytes, the register holds bytes alone
  pub small : ((j : ℕ) → j < width → z j < 256) → AreBytes (d.xmm x)

-- what a store of bytes leaves
pub record Stored (width x p : ℕ) (c d : Core) : Type 0 where
  pub memory : IsFill width c.memory p (λ j. get_or (c.xmm x) j 0) d.memory
  pub gpr : (r : ℕ) → r ≢ 0 → d.gpr r ≡ c.gpr r
  pub xmm : d.xmm ≡ c.xmm

at_base : (c : Core) (r d p : ℕ) → c.gpr r + d ≡ p → p + 16 < 2 ^ 63 → address c (away r d) ≡ p
at_base c r d p e low = omega (arith, e, low)

move_fits : (op : MoveOp) → move_size op ≤ 16
move_fits move.Movdqa = omega arith
move_fits move.Movdqu = omega arith
move_fits move.Movq = omega arith
move_fits move.Movd = omega arith

-- the operation may be done at this address
abbrev IsFree : MoveOp → ℕ → Type 0
IsFree op a = (o : Result Core Trap) → aligned op a o ≡ o

-- as each is at a multiple of 16
at_sixteen : (a p : ℕ) → a ≡ p → p % 16 ≡ 0 → IsFree move.Movdqa a
at_sixteen a p e m o = ap (λ q. if q % 16 == 0 then o else Err (record { at = q; why = why.Misaligned })) e ∙ ap (λ z. if z == 0 then o else Err (record { at = p; why = why.Misaligned })) m ∙ ap (λ q. aligned move.Movdqu q o) (sym e)

byte_below : (n v j : ℕ) → j < n → byte_of n v j ≡ v / 256 ^ j % 256
byte_below n v j l = let t : nat_lt j n ≡ true = grind (arith, nat_tests) in ap (λ b. if b then v / 256 ^ j % 256 else 0) t

byte_small : (n v j : ℕ) → byte_of n v j < 256
byte_small n v j = go (nat_lt j n)
  where
    go : (t : Bool) → (if t then v / 256 ^ j % 256 else 0) < 256
    go true = omega arith
    go false = lit< tt

module _ (Q : Core → Ins → Type 0) (c : Core) where
  -- what lets Q be known at each step: the memory and all registers but RAX are as before, and the instruction touches at most these bytes, by this register
  abbrev pub Keeps : ℕ → ℕ → ℕ → Type 0
  Keeps r p width = (u : Core) (i : Ins) → u.memory ≡ c.memory → ((q : ℕ) → q ≢ 0 → u.gpr q ≡ c.gpr q) → Touching r p width i u → Q u i

  abbrev Loads : ℕ → List Ins → ℕ → (ℕ → ℕ) → Type 0
  Loads width code x z = (d : Core) × Line Q code c d × Loaded width x z c d

  -- by way of RAX
  load_narrow : (n x r far p : ℕ) (z : ℕ → ℕ) (i : Ins) → Keeps r p n → base_of i ≡ Some r → ((u : Core) → span i u ≡ (address u (away r far), n)) → ((u : Core) → work i u ≡ load n u (address u (away r far)) (λ v. with_gpr u 0 v)) → n ≤ 4 → c.gpr r + far ≡ p → p + 16 < 2 ^ 63 → ((j : ℕ) → j < n → c.memory (p + j) ≡ Some (z j)) → ((j : ℕ) → j < n → number (front n z) / 256 ^ j % 256 ≡ z j % 256)
      → Loads n (i ∷ FromGpr false x 0 ∷ []) x z
  load_narrow n x r far p z i keeps by bytes is_load few e low h digits =
      let v = number (front n z) in
      let c1 : Core = with_gpr c 0 v in
      let new : List ℕ = from_bytes (byte_of 4 v) in
      let d : Core = with_xmm c1 x new in
      let loads : work i c ≡ Ok c1 =
      is_load c ∙ ap (λ a. load n c a (λ v. with_gpr c 0 v)) (at_base c r far p e low)
      ∙ ap (λ o. access n c.memory p (bind o (λ bs. Some (number bs))) (λ v. with_gpr c 0 v)) (read_front n c.memory p z (omega (arith, low, few)) h) in
      let other : (y : ℕ) → y ≢ 0 → c1.gpr y ≡ c.gpr y = λ y ne. change_other c.gpr 0 v y ne in
      let is_new : d.xmm x ≡ new = change_same c.xmm x new in (
        d,
        (keeps c _ refl (λ y ne. refl) (inr (by, bytes c ∙ ap (λ a. (a, n)) (at_base c r far p e low))), (c1, loads, (keeps c1 _ refl other (inl refl), (d, refl, refl)))),
        record {
          memory = refl;
          gpr = other;
          others = λ y ne. change_other c.xmm x new y ne;
          bytes = λ j l.
              ap (λ b. get_or b j 0 % 256) is_new ∙ ap (λ b. b % 256) (from_byte (byte_of 4 v) j (omega (arith, l, few)) ∙ byte_below 4 v j (omega (arith, l, few)) ∙ digits j l)
              ∙ (let q : z j % 256 % 256 ≡ z j % 256 = omega arith in q);
          small = λ s. subst AreBytes (sym is_new) (AreBytes-from_bytes (byte_of 4 v) (λ k l. byte_small 4 v k));
        },
      )

  -- at once
  load_vector : (op : MoveOp) (x r far p : ℕ) (z : ℕ → ℕ) → Keeps r p (move_size op) → IsFree op (address c (away r far)) → c.gpr r + far ≡ p → p + 16 < 2 ^ 63 → ((j : ℕ) → j < move_size op → c.memory (p + j) ≡ Some (z j)) → Loads (move_size op) (VecLoad op x (away r far) ∷ []) x z
  load_vector op x r far p z keeps free e low h =
      let n = move_size op in
      let few = move_fits op in
      let new : List ℕ = from_bytes (λ j. get_or (front n z) j 0) in
      let d : Core = with_xmm c x new in
      let loads : work (VecLoad op x (away r far)) c ≡ Ok d =
      free _
      ∙ ap (λ a. access n c.memory a (read n c.memory a) (λ bs. with_xmm c x (from_bytes (λ j. get_or bs j 0)))) (at_base c r far p e low)
      ∙ ap (λ o. access n c.memory p o (λ bs. with_xmm c x (from_bytes (λ j. get_or bs j 0)))) (read_front n c.memory p z (omega (arith, low, few)) h) in
      let is_new : d.xmm x ≡ new = change_same c.xmm x new in (
        d,
        (keeps c _ refl (λ y ne. refl) (inr (refl, ap (λ a. (a, n)) (at_base c r far p e low))), (d, loads, refl)),
        record {
          memory = refl;
          gpr = λ y ne. refl;
          others = λ y ne. change_other c.xmm x new y ne;
          bytes = λ j l. ap (λ b. get_or b j 0 % 256) is_new ∙ ap (λ b. b % 256) (from_byte (λ j. get_or (front n z) j 0) j (omega (arith, l, few)) ∙ front_at n z j l);
          small = λ s. subst AreBytes (sym is_new) (AreBytes-from_bytes (λ j. get_or (front n z) j 0) (λ k l. front_small n z s k));
        },
      )

  -- bytes are loaded; two of them make a number, whose low byte is the first where that is a byte
  pub load_line_at : (width x r far p : ℕ) (z : ℕ → ℕ) → Keeps r p width → IsWidth width → c.gpr r + far ≡ p → p + 16 < 2 ^ 63 → ((j : ℕ) → j < width → c.memory (p + j) ≡ Some (z j)) → (width ≡ 2 → z 0 < 256) → (d : Core) × Line Q (load_far_code width x r far) c d × Loaded width x z c d
  load_line_at width x r far p z keeps is e low =
      each_width (λ n. Keeps r p n → ((j : ℕ) → j < n → c.memory (p + j) ≡ Some (z j)) → (n ≡ 2 → z 0 < 256) → Loads n (load_far_code n x r far) x z)
      (λ k h s. load_narrow 1 x r far p z (Load8 0 (away r far)) k refl (λ u. refl) (λ u. refl) (omega arith) e low h (one_byte z))
      (λ k h s. load_narrow 2 x r far p z (Load16 0 (away r far)) k refl (λ u. refl) (λ u. refl) (omega arith) e low h (two_bytes z (s refl)))
      (λ k h s. load_vector move.Movd x r far p z k (λ o. refl) e low h)
      (λ k h s. load_vector move.Movq x r far p z k (λ o. refl) e low h)
      (λ k h s. load_vector move.Movdqu x r far p z k (λ o. refl) e low h)
      width is keeps

  abbrev Stores : ℕ → List Ins → ℕ → ℕ → Type 0
  Stores width code x p = (d : Core) × Line Q code c d × Stored width x p c d

  -- by way of RAX
  store_narrow : (n x r far p : ℕ) (i : Ins) → Keeps r p n → base_of i ≡ Some r → ((u : Core) → span i u ≡ (address u (away r far), n)) → ((u : Core) → work i u ≡ save n u (address u (away r far)) (byte_of n (u.gpr 0)) (λ mem. with_memory u mem)) → n ≤ 4 → r ≢ 0 → c.gpr r + far ≡ p → p + 16 < 2 ^ 63 → ((j : ℕ) → j < n → IsMapped c.memory (p + j)) → ((j : ℕ) → j < n → byte_of n (lane 4 0 (c.xmm x)) j ≡ get_or (c.xmm x) j 0)
      → Stores n (ToGpr false 0 x ∷ i ∷ []) x p
  store_narrow n x r far p i keeps by bytes is_store few ne e low h digits =
      let v = lane 4 0 (c.xmm x) in
      let c1 : Core = with_gpr c 0 v in
      let f = byte_of n v in
      let there = all_there n c.memory p (omega (arith, low, few)) h in
      let d : Core = with_memory c1 (fill n c.memory p f) in
      let other : (y : ℕ) → y ≢ 0 → c1.gpr y ≡ c.gpr y = λ y ne. change_other c.gpr 0 v y ne in
      let stores : work i c1 ≡ Ok d =
      is_store c1 ∙ ap (λ a. save n c1 a f (λ mem. with_memory c1 mem)) (at_base c1 r far p (ap (λ t. t + far) (other r ne) ∙ e) low)
      ∙ ap (λ o. access n c.memory p o (λ mem. with_memory c1 mem)) (store_there n c.memory p f there) in
      (d, (keeps c _ refl (λ y n. refl) (inl refl), (c1, refl, (keeps c1 _ refl other (inr (by, bytes c1 ∙ ap (λ a. (a, n)) (at_base c1 r far p (ap (λ t. t + far) (other r ne) ∙ e) low))), (d, stores, refl)))), record { memory = fill_is n c.memory p f (λ j. get_or (c.xmm x) j 0) (omega (arith, low, few)) digits; gpr = other; xmm = refl })

  -- at once
  store_vector : (op : MoveOp) (x r far p : ℕ) → Keeps r p (move_size op) → IsFree op (address c (away r far)) → c.gpr r + far ≡ p → p + 16 < 2 ^ 63 → ((j : ℕ) → j < move_size op → IsMapped c.memory (p + j)) → Stores (move_size op) (VecStore op x (away r far) ∷ []) x p
  store_vector op x r far p keeps free e low h =
      let n = move_size op in
      let few = move_fits op in
      let f : ℕ → ℕ = λ j. get_or (c.xmm x) j 0 in
      let there = all_there n c.memory p (omega (arith, low, few)) h in
      let d : Core = with_memory c (fill n c.memory p f) in
      let stores : work (VecStore op x (away r far)) c ≡ Ok d =
      free _
      ∙ ap (λ a. save n c a f (λ mem. with_memory c mem)) (at_base c r far p e low)
      ∙ ap (λ o. access n c.memory p o (λ mem. with_memory c mem)) (store_there n c.memory p f there) in
      (d, (keeps c _ refl (λ y n. refl) (inr (refl, ap (λ a. (a, n)) (at_base c r far p e low))), (d, stores, refl)), record { memory = fill_is n c.memory p f f (omega (arith, low, few)) (λ j l. refl); gpr = λ y n. refl; xmm = refl })

  -- bytes are stored
  pub store_line_at : (width x r far p : ℕ) → Keeps r p width → IsWidth width → r ≢ 0 → c.gpr r + far ≡ p → p + 16 < 2 ^ 63 → ((j : ℕ) → j < width → IsMapped c.memory (p + j)) → ((j : ℕ) → get_or (c.xmm x) j 0 < 256) → (d : Core) × Line Q (store_far_code width x r far) c d × Stored width x p c d
  store_line_at width x r far p keeps is ne e low h small =
      each_width (λ n. Keeps r p n → ((j : ℕ) → j < n → IsMapped c.memory (p + j)) → Stores n (store_far_code n x r far) x p)
      (λ k h. store_narrow 1 x r far p (Store8 0 (away r far)) k refl (λ u. refl) (λ u. refl) (omega arith) ne e low h (low_byte (c.xmm x) small))
      (λ k h. store_narrow 2 x r far p (Store16 0 (away r far)) k refl (λ u. refl) (λ u. refl) (omega arith) ne e low h (low_bytes (c.xmm x) small))
      (λ k h. store_vector move.Movd x r far p k (λ o. refl) e low h)
      (λ k h. store_vector move.Movq x r far p k (λ o. refl) e low h)
      (λ k h. store_vector move.Movdqu x r far p k (λ o. refl) e low h)
      width is keeps h

  -- a whole register is stored at a multiple of 16
  pub aligned_store_line : (x r far p : ℕ) → Keeps r p 16 → c.gpr r + far ≡ p → p + 16 < 2 ^ 63 → p % 16 ≡ 0 → ((j : ℕ) → j < 16 → IsMapped c.memory (p + j)) → (d : Core) × Line Q (aligned_store_far_code x r far) c d × Stored 16 x p c d
  aligned_store_line x r far p keeps e low m h = store_vector move.Movdqa x r far p keeps (at_sixteen (address c (away r far)) p (at_base c r far p e low) m) e low h

  -- in the one way or the other, the aligned one for whole registers at multiples of 16
  pub store_either_line : (aligned : Bool) (width x r far p : ℕ) → (aligned ≡ true → (width ≡ 16) × (p % 16 ≡ 0)) → Keeps r p width → IsWidth width → r ≢ 0 → c.gpr r + far ≡ p → p + 16 < 2 ^ 63 → ((j : ℕ) → j < width → IsMapped c.memory (p + j)) → ((j : ℕ) → get_or (c.xmm x) j 0 < 256)
      → (d : Core) × Line Q (store_either_code aligned width x r far) c d × Stored width x p c d
  store_either_line false width x r far p at_16 keeps is ne e low h small = store_line_at width x r far p keeps is ne e low h small
  store_either_line true width x r far p at_16 keeps is ne e low h small =
      let whole : width ≡ 16 = (at_16 refl).0 in
      let s = aligned_store_line x r far p (subst (λ n. Keeps r p n) whole keeps) e low (at_16 refl).1 (subst (λ n. (j : ℕ) → j < n → IsMapped c.memory (p + j)) whole h) in
      (s.0, s.1, subst (λ n. Stored n x p c s.0) (sym whole) s.2)

-- the same where Q asks nothing of what is touched
module _ (Q : Core → Ins → Type 0) (c : Core) (keeps : (u : Core) (i : Ins) → u.memory ≡ c.memory → ((r : ℕ) → r ≢ 0 → u.gpr r ≡ c.gpr r) → Q u i) where
  pub load_line : (width x r p : ℕ) (z : ℕ → ℕ) → IsWidth width → c.gpr r ≡ p → p + 16 < 2 ^ 63 → ((j : ℕ) → j < width → c.memory (p + j) ≡ Some (z j)) → (width ≡ 2 → z 0 < 256) → (d : Core) × Line Q (load_code width x r) c d × Loaded width x z c d
  load_line width x r p z is e = load_line_at Q c width x r 0 p z (λ u i m g t. keeps u i m g) is (omega (arith, e))

  pub store_line : (width x r p : ℕ) → IsWidth width → r ≢ 0 → c.gpr r ≡ p → p + 16 < 2 ^ 63 → ((j : ℕ) → j < width → IsMapped c.memory (p + j)) → ((j : ℕ) → get_or (c.xmm x) j 0 < 256) → (d : Core) × Line Q (store_code width x r) c d × Stored width x p c d
  store_line width x r p is ne e = store_line_at Q c width x r 0 p (λ u i m g t. keeps u i m g) is ne (omega (arith, e))

-- ---- a move of cells touches memory once

pub load_weight : (by : ℕ → Bool) (width x r d : ℕ) → IsWidth width → weigh (touch_weight by) (load_far_code width x r d) ≤ 1
load_weight by width x r d is = each_width (λ w. weigh (touch_weight by) (load_far_code w x r d) ≤ 1) (once (by r)) (once (by r)) (once (by r)) (once (by r)) (once (by r)) width is
  where
    once : (b : Bool) → (if b then 1 else 0) + 0 ≤ 1
    once true = omega arith
    once false = omega arith

pub store_weight : (by : ℕ → Bool) (width x r d : ℕ) → IsWidth width → weigh (touch_weight by) (store_far_code width x r d) ≤ 1
store_weight by width x r d is = each_width (λ w. weigh (touch_weight by) (store_far_code w x r d) ≤ 1) (narrow (by r)) (narrow (by r)) (wide (by r)) (wide (by r)) (wide (by r)) width is
  where
    narrow : (b : Bool) → 0 + ((if b then 1 else 0) + 0) ≤ 1
    narrow true = omega arith
    narrow false = omega arith

    wide : (b : Bool) → (if b then 1 else 0) + 0 ≤ 1
    wide true = omega arith
    wide false = omega arith

pub aligned_store_weight : (by : ℕ → Bool) (x r d : ℕ) → weigh (touch_weight by) (aligned_store_far_code x r d) ≤ 1
aligned_store_weight by x r d = once (by r)
  where
    once : (b : Bool) → (if b then 1 else 0) + 0 ≤ 1
    once true = omega arith
    once false = omega arith
