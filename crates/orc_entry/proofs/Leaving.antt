-- The list behind a function's code stores each sum through its pointer, and raises RSP.
use Rattle.std.proofs.Common.{◌≡◌, ◌≢◌, ℕ, zero, suc, ◌+◌, ◌*◌, ◌/◌, ◌%◌, ◌^◌, ◌<◌, ◌≤◌, ◌⊎◌, true, nat_lt, if◌then◌else◌, pos, List, [], ◌∷◌, ◌++◌, get_or, Some, Ok, refl, sym, ap, ◌∙◌, subst, arith, inl, inr, ⊎_elim}
use Rattle.std.proofs.lemmas.Bool.{cases_eq}
use Rattle.std.proofs.lemmas.Bool.Decides.{nat_tests}
use Rattle.orc_bits.specs.Numbers.{wrap}
use Rattle.orc_bits.specs.Lanes.{byte_of, from_bytes}
use Rattle.orc_bits.specs.Memory.{Memory, bind, read, number, value, word, fill, all_mapped, IsMapped}
use Rattle.orc_bits.proofs.LaneLaws.{change_other, change_same, from_byte}
use Rattle.orc_bits.proofs.Memories.{Bytewide, bind_some, some_one, fill_in, fill_out, fill_mapped, all_there, store_there}
use Rattle.x86_ins.specs.declared.ins.AluOp.TheVariants.{Add}
use Rattle.x86_ins.specs.declared.ins.MoveOp.TheVariants.{Movd}
use Rattle.x86_ins.specs.declared.ins.Ins.{Ins}
use Rattle.x86_ins.specs.declared.ins.Ins.TheVariants.{VecLoad, VecStore, Load, Load16, Store16, AluImm}
use Rattle.x86_ins.specs.Machine.{Core, with_gpr, with_xmm, with_memory, address, access, load, save, work, alu_core, alu_result, span, Touches}
use Rattle.x86_flow.specs.Moves.{away, here}
use Rattle.x86_flow.specs.Does.{Line}
use Rattle.x86_flow.specs.Touching.{base_of}
use Rattle.x86_flow.proofs.Moves.{line_append}
use Rattle.x86_flow.proofs.Touching.{touches_none, touches_in}
use Rattle.x86_flow.proofs.Words.{at_away, load_word}
use Rattle.x86_flow.proofs.Frame.{read_same, word_same, value_read}
use Rattle.orc_frame.specs.Parts.{sum_word}
use Rattle.orc_frame.specs.Code.{joined}
use Rattle.orc_region.specs.Stores.{IsMovdquStore}
use Rattle.orc_entry.specs.Code.{block_at, pointer_at, stack_size, sum_code}

-- ---- bytes of numbers in memory

below_2 : (P : ℕ → Type 0) → P 0 → P 1 → (j : ℕ) → j < 2 → P j
below_2 P a b zero l = a
below_2 P a b (suc zero) l = b
below_2 P a b (suc (suc j)) l = absurd (omega (arith, l))

below_4 : (P : ℕ → Type 0) → P 0 → P 1 → P 2 → P 3 → (j : ℕ) → j < 4 → P j
below_4 P a b c d zero l = a
below_4 P a b c d (suc zero) l = b
below_4 P a b c d (suc (suc zero)) l = c
below_4 P a b c d (suc (suc (suc zero))) l = d
below_4 P a b c d (suc (suc (suc (suc j)))) l = absurd (omega (arith, l))

-- a number's lowest byte, and what is above it
record Parted (n : ℕ) (mem : Memory) (a v : ℕ) : Type 0 where
  byte : ℕ
  above : ℕ
  here : mem (a % 2 ^ 64) ≡ Some byte
  rest : value n mem (a + 1) ≡ Some above
  is : v ≡ byte + 256 * above

parted : (n : ℕ) (mem : Memory) (a v : ℕ) → value (suc n) mem a ≡ Some v → Parted n mem a v
parted n mem a v e =
    let x = bind_some (read (suc n) mem a) _ v e in
    let one = bind_some (mem (a % 2 ^ 64)) _ x.0 x.1 in
    let two = bind_some (read n mem (a + 1)) _ x.0 one.2 in
    record {
      byte = one.0;
      above = number two.0;
      here = one.1;
      rest = ap (λ o. bind o (λ bs. Some (number bs))) two.1;
      is = sym (some_one (number x.0) v x.2) ∙ ap number (sym (some_one (one.0 ∷ two.0) x.0 two.2));
    }

-- a word's low four bytes
record LowBytes (mem : Memory) (a v : ℕ) : Type 0 where
  bytes : ℕ → ℕ
  above : ℕ
  at : (j : ℕ) → j < 4 → mem (a + j) ≡ Some (bytes j)
  is : v ≡ bytes 0 + 256 * (bytes 1 + 256 * (bytes 2 + 256 * (bytes 3 + 256 * above)))

low_bytes : (mem : Memory) (a v : ℕ) → a + 8 < 2 ^ 63 → word mem a ≡ Some v → LowBytes mem a v
low_bytes mem a v low e =
    let p = parted 7 mem a v e in
    let q = parted 6 mem (a + 1) p.above p.rest in
    let r = parted 5 mem (a + 1 + 1) q.above q.rest in
    let s = parted 4 mem (a + 1 + 1 + 1) r.above r.rest in
    let z : ℕ → ℕ = λ j. get_or (p.byte ∷ q.byte ∷ r.byte ∷ s.byte ∷ []) j 0 in
    record {
      bytes = z;
      above = s.above;
      at = below_4 (λ j. mem (a + j) ≡ Some (z j))
          (ap mem (let w : a + 0 ≡ a % 2 ^ 64 = omega (arith, low) in w) ∙ p.here)
          (ap mem (let w : a + 1 ≡ (a + 1) % 2 ^ 64 = omega (arith, low) in w) ∙ q.here)
          (ap mem (let w : a + 2 ≡ (a + 1 + 1) % 2 ^ 64 = omega (arith, low) in w) ∙ r.here)
          (ap mem (let w : a + 3 ≡ (a + 1 + 1 + 1) % 2 ^ 64 = omega (arith, low) in w) ∙ s.here);
      is = omega (arith, p.is, q.is, r.is, s.is);
    }

-- z 0, z 1 and so on, so many
abbrev front : ℕ → (ℕ → ℕ) → List ℕ
front zero z = []
front (suc n) z = z 0 ∷ front n (λ j. z (suc j))

front_at : (n : ℕ) (z : ℕ → ℕ) (j : ℕ) → j < n → get_or (front n z) j 0 ≡ z j
front_at zero z j l = absurd (omega (arith, l))
front_at (suc n) z zero l = refl
front_at (suc n) z (suc j) l = front_at n (λ j. z (suc j)) j (omega (arith, l))

read_front : (n : ℕ) (mem : Memory) (a : ℕ) (z : ℕ → ℕ) → a + n < 2 ^ 63 → ((j : ℕ) → j < n → mem (a + j) ≡ Some (z j)) → read n mem a ≡ Some (front n z)
read_front zero mem a z w h = refl
read_front (suc n) mem a z w h =
    let first : mem (a % 2 ^ 64) ≡ Some (z 0) = ap mem (let e : a % 2 ^ 64 ≡ a + 0 = omega (arith, w) in e) ∙ h 0 (omega arith) in
    let rest = read_front n mem (a + 1) (λ j. z (suc j)) (omega (arith, w)) (λ j l. ap mem (let q : a + 1 + j ≡ a + suc j = omega arith in q) ∙ h (suc j) (omega (arith, l))) in
    ap (λ o. bind o (λ b. bind (read n mem (a + 1)) (λ bs. Some (b ∷ bs)))) first ∙ ap (λ o. bind o (λ bs. Some (z 0 ∷ bs))) rest

byte_below : (n v j : ℕ) → j < n → byte_of n v j ≡ v / 256 ^ j % 256
byte_below n v j l = let t : nat_lt j n ≡ true = grind (arith, nat_tests) in ap (λ b. if b then v / 256 ^ j % 256 else 0) t

-- the low bytes of a number that were stored are read as its low part
stored_value : (n : ℕ) (mem : Memory) (p : ℕ) (f : ℕ → ℕ) (v : ℕ) → p + n < 2 ^ 63 → ((j : ℕ) → j < n → f j ≡ v / 256 ^ j % 256) → value n (fill n mem p f) p ≡ Some (v % 256 ^ n)
stored_value n mem p f v w h =
    let r = value_read n (fill n mem p f) p v w (λ j l. fill_in n mem p f j w l ∙ ap Some (h j l)) in
    ap (λ o. bind o (λ bs. Some (number bs))) r.1 ∙ ap Some r.2

value_same : (n : ℕ) (m e : Memory) (a : ℕ) → a + n < 2 ^ 63 → ((x : ℕ) → a ≤ x → x < a + n → m x ≡ e x) → value n m a ≡ value n e a
value_same n m e a w h = ap (λ o. bind o (λ bs. Some (number bs))) (read_same n m e a w h)

-- ---- single instructions

at_here : (c : Core) (r a : ℕ) → c.gpr r ≡ a → a < 2 ^ 62 → address c (here r) ≡ a
at_here c r a e w = omega (arith, e, w)

load_half : (c : Core) (a k : ℕ) (z : ℕ → ℕ) → c.gpr 4 ≡ a → a + k + 8 < 2 ^ 62 → ((j : ℕ) → j < 2 → c.memory (a + k + j) ≡ Some (z j)) → work (Load16 0 (away 4 k)) c ≡ Ok (with_gpr c 0 (number (front 2 z)))
load_half c a k z e w h =
    ap (λ p. load 2 c p (λ v. with_gpr c 0 v)) (at_away c 4 a k e (omega (arith, w)))
    ∙ ap (λ o. access 2 c.memory (a + k) (bind o (λ bs. Some (number bs))) (λ v. with_gpr c 0 v)) (read_front 2 c.memory (a + k) z (omega (arith, w)) h)

load_low : (c : Core) (a k : ℕ) (z : ℕ → ℕ) → c.gpr 4 ≡ a → a + k + 8 < 2 ^ 62 → ((j : ℕ) → j < 4 → c.memory (a + k + j) ≡ Some (z j)) → work (VecLoad Movd 0 (away 4 k)) c ≡ Ok (with_xmm c 0 (from_bytes (λ j. get_or (front 4 z) j 0)))
load_low c a k z e w h =
    ap (λ p. access 4 c.memory p (read 4 c.memory p) (λ bs. with_xmm c 0 (from_bytes (λ j. get_or bs j 0)))) (at_away c 4 a k e (omega (arith, w)))
    ∙ ap (λ o. access 4 c.memory (a + k) o (λ bs. with_xmm c 0 (from_bytes (λ j. get_or bs j 0)))) (read_front 4 c.memory (a + k) z (omega (arith, w)) h)

-- so many bytes are stored where RCX points
save_here : (n : ℕ) (c : Core) (p : ℕ) (f : ℕ → ℕ) → c.gpr 1 ≡ p → p < 2 ^ 62 → all_mapped n c.memory p ≡ true → save n c (address c (here 1)) f (λ mem. with_memory c mem) ≡ Ok (with_memory c (fill n c.memory p f))
save_here n c p f e w there =
    ap (λ q. save n c q f (λ mem. with_memory c mem)) (at_here c 1 p e w)
    ∙ ap (λ o. access n c.memory p o (λ mem. with_memory c mem)) (store_there n c.memory p f there)

-- ---- the list

-- e is the core behind the function's code, and the sum of accumulator g is v g, of which so many bytes go to p g; Q is to hold of each step's core and instruction
module _ (Q : Core → Ins → Type 0) (e : Core) (count : ℕ) (size p v : ℕ → ℕ) where
  abbrev pub InWords : ℕ → Type 0
  InWords x = (e.gpr 4 ≤ x) × (x < e.gpr 4 + stack_size)

  abbrev pub InOne : ℕ → ℕ → Type 0
  InOne g x = (p g ≤ x) × (x < p g + size g)

  abbrev pub InAny : ℕ → Type 0
  InAny x = (g : ℕ) × (g < count) × InOne g x

  -- what the list finds
  pub record Found : Type 0 where
    pub few : count ≤ 4
    pub low : e.gpr 4 + 1024 < 2 ^ 61
    pub sizes : (g : ℕ) → g < count → (size g ≡ 2) ⊎ (size g ≡ 4)
    pub pointers : (g : ℕ) → g < count → word e.memory (e.gpr 4 + pointer_at g) ≡ Some (p g)
    pub sums : (g : ℕ) → g < count → word e.memory (e.gpr 4 + (block_at + sum_word g)) ≡ Some (v g)
    pub mapped : (x : ℕ) → InAny x → IsMapped e.memory x
    pub pointers_low : (g : ℕ) → g < count → p g + size g ≤ 2 ^ 47
    pub own : (x : ℕ) → InAny x → InWords x → ⊥
    pub apart : (g h : ℕ) → g < count → h < count → g ≢ h → (x : ℕ) → InOne g x → InOne h x → ⊥
    pub bytes : Bytewide e.memory

  -- a core on the way: no register changed but RAX and RCX, and no byte but the integers'
  pub record Beside (c : Core) : Type 0 where
    pub others : (r : ℕ) → r ≢ 0 → r ≢ 1 → c.gpr r ≡ e.gpr r
    pub outside : (x : ℕ) → (InAny x → ⊥) → c.memory x ≡ e.memory x
    pub mapped : (x : ℕ) → IsMapped e.memory x → IsMapped c.memory x

  beside_on : (c u : Core) → Beside c → ((r : ℕ) → r ≢ 0 → r ≢ 1 → u.gpr r ≡ c.gpr r) → u.memory ≡ c.memory → Beside u
  beside_on c u h g m = record {
    others = λ r n k. g r n k ∙ h.others r n k;
    outside = λ x out. ap (λ f. f x) m ∙ h.outside x out;
    mapped = λ x i. subst (λ f. IsMapped f x) (sym m) (h.mapped x i);
  }

  -- so many bytes of the sum g stand where its pointer points
  record Put (n g : ℕ) (c d : Core) : Type 0 where
    beside : Beside d
    value : value n d.memory (p g) ≡ Some (v g % 256 ^ n)
    elsewhere : (x : ℕ) → ((p g ≤ x) × (x < p g + n) → ⊥) → d.memory x ≡ c.memory x

  -- the sums so far
  record Sums (n : ℕ) (d : Core) : Type 0 where
    beside : Beside d
    values : (g : ℕ) → g < n → value (size g) d.memory (p g) ≡ Some (v g % 256 ^ size g)

  -- what the list leaves
  pub record Left (d : Core) : Type 0 where
    pub stack : d.gpr 4 ≡ e.gpr 4 + stack_size
    pub others : (r : ℕ) → r ≢ 0 → r ≢ 1 → r ≢ 4 → d.gpr r ≡ e.gpr r
    pub outside : (x : ℕ) → (InAny x → ⊥) → d.memory x ≡ e.memory x
    pub values : (g : ℕ) → g < count → value (size g) d.memory (p g) ≡ Some (v g % 256 ^ size g)

  module _ (found : Found) (calm : (u : Core) (i : Ins) → Beside u → ((a : ℕ) → Touches i u a → InWords a ⊎ InAny a) → (IsMovdquStore i → ⊥) → Q u i) where
    abbrev low_stack : e.gpr 4 + 1024 < 2 ^ 61
    low_stack = found.low

    stack_of : (c : Core) → Beside c → c.gpr 4 ≡ e.gpr 4
    stack_of c h = h.others 4 (λ q. omega (arith, q)) (λ q. omega (arith, q))

    -- an instruction touches words above RSP, or an integer
    words_touched : (i : Ins) (u : Core) (k n : ℕ) → Beside u → k + n ≤ stack_size → base_of i ≡ Some 4 → span i u ≡ (address u (away 4 k), n) → (a : ℕ) → Touches i u a → InWords a ⊎ InAny a
    words_touched i u k n h fits by is a t =
        let w = touches_in 4 (e.gpr 4 + k) n i u (omega (arith, low_stack, fits)) (inr (by, is ∙ ap (λ q. (q, n)) (at_away u 4 (e.gpr 4) k (stack_of u h) (omega (arith, low_stack, fits))))) a t in
        inl (omega (arith, w.0), omega (arith, w.1, fits))

    integer_touched : (i : Ins) (u : Core) (g n : ℕ) → g < count → size g ≡ n → u.gpr 1 ≡ p g → base_of i ≡ Some 1 → span i u ≡ (address u (here 1), n) → (a : ℕ) → Touches i u a → InWords a ⊎ InAny a
    integer_touched i u g n l q at by is a t =
        let low = found.pointers_low g l in
        let w = touches_in 1 (p g) n i u (omega (arith, low, q)) (inr (by, is ∙ ap (λ y. (y, n)) (at_here u 1 (p g) at (omega (arith, low))))) a t in
        inr (g, l, (w.0, omega (arith, w.1, q)))

    -- the pointer comes to RCX
    abbrev pointed : ℕ → Core → Core
    pointed g c = with_gpr c 1 (p g)

    points : (g : ℕ) → g < count → (c : Core) → Beside c → work (Load 1 (away 4 (pointer_at g))) c ≡ Ok (pointed g c)
    points g l c h =
        let there : word c.memory (e.gpr 4 + pointer_at g) ≡ Some (p g) =
        word_same c.memory e.memory (e.gpr 4 + pointer_at g) (omega (arith, low_stack, l, found.few)) (λ x a b. h.outside x (λ w. found.own x w (omega (arith, a), omega (arith, b, l, found.few)))) ∙ found.pointers g l in
        load_word c 1 4 (e.gpr 4) (pointer_at g) (p g) (stack_of c h) (omega (arith, low_stack, l, found.few)) there

    pointed_beside : (g : ℕ) (c : Core) → Beside c → Beside (pointed g c)
    pointed_beside g c h = beside_on c (pointed g c) h (λ r n k. change_other c.gpr 1 (p g) r k) refl

    -- the sum's low bytes
    bytes_of : (g : ℕ) → g < count → LowBytes e.memory (e.gpr 4 + (block_at + sum_word g)) (v g)
    bytes_of g l = low_bytes e.memory (e.gpr 4 + (block_at + sum_word g)) (v g) (omega (arith, low_stack, l, found.few)) (found.sums g l)

    bytes_stand : (g : ℕ) (l : g < count) (c : Core) → Beside c → (j : ℕ) → j < 4 → c.memory (e.gpr 4 + (block_at + sum_word g) + j) ≡ Some ((bytes_of g l).bytes j)
    bytes_stand g l c h j k = h.outside (e.gpr 4 + (block_at + sum_word g) + j) (λ w. found.own _ w (omega arith, omega (arith, k, l, found.few))) ∙ (bytes_of g l).at j k

    bytes_small : (g : ℕ) (l : g < count) (j : ℕ) → j < 4 → (bytes_of g l).bytes j < 256
    bytes_small g l j k = found.bytes _ ((bytes_of g l).bytes j) ((bytes_of g l).at j k)

    there : (n g : ℕ) → g < count → size g ≡ n → (u : Core) → Beside u → all_mapped n u.memory (p g) ≡ true
    there n g l q u h =
        let low = found.pointers_low g l in
        all_there n u.memory (p g) (omega (arith, low, q)) (λ j k. h.mapped (p g + j) (found.mapped (p g + j) (g, l, (omega arith, omega (arith, k, q)))))

    put : (n g : ℕ) → g < count → size g ≡ n → (c u : Core) → u.memory ≡ c.memory → Beside u → (f : ℕ → ℕ) → ((j : ℕ) → j < n → f j ≡ v g / 256 ^ j % 256) → Put n g c (with_memory u (fill n u.memory (p g) f))
    put n g l q c u m h f is =
        let low : p g + n < 2 ^ 63 = let y = found.pointers_low g l in omega (arith, y, q) in
        record {
          beside = record {
            others = h.others;
            outside = λ x out. fill_out n u.memory (p g) f x low (λ j k w. out (g, l, (omega (arith, w), omega (arith, w, k, q)))) ∙ h.outside x out;
            mapped = λ x i. fill_mapped n u.memory (p g) f x (h.mapped x i);
          };
          value = stored_value n u.memory (p g) f (v g) low is;
          elsewhere = λ x out. fill_out n u.memory (p g) f x low (λ j k w. out (omega (arith, w), omega (arith, w, k))) ∙ ap (λ y. y x) m;
        }

    two_line : (g : ℕ) → g < count → size g ≡ 2 → (c : Core) → Beside c → (d : Core) × Line Q (sum_code 2 g) c d × Put 2 g c d
    two_line g l q c h =
        let b = bytes_of g l in
        let x = number (front 2 b.bytes) in
        let u : Core = pointed g c in
        let w : Core = with_gpr u 0 x in
        let f = byte_of 2 (w.gpr 0) in
        let hu = pointed_beside g c h in
        let hw : Beside w = beside_on u w hu (λ r n k. change_other u.gpr 0 x r n) refl in
        let d : Core = with_memory w (fill 2 w.memory (p g) f) in
        let loads : work (Load16 0 (away 4 (block_at + sum_word g))) u ≡ Ok w = load_half u (e.gpr 4) (block_at + sum_word g) b.bytes (stack_of u hu) (omega (arith, low_stack, l, found.few)) (λ j k. bytes_stand g l u hu j (omega (arith, k))) in
        let at : w.gpr 1 ≡ p g = change_other u.gpr 0 x 1 (λ z. omega (arith, z)) ∙ change_same c.gpr 1 (p g) in
        let low = found.pointers_low g l in
        let saves : work (Store16 0 (here 1)) w ≡ Ok d = save_here 2 w (p g) f at (omega (arith, low)) (there 2 g l q w hw) in
        let digits : (j : ℕ) → j < 2 → x / 256 ^ j % 256 ≡ v g / 256 ^ j % 256 = below_2 (λ j. x / 256 ^ j % 256 ≡ v g / 256 ^ j % 256) (omega (arith, b.is)) (omega (arith, b.is)) in
        let is : (j : ℕ) → j < 2 → f j ≡ v g / 256 ^ j % 256 = λ j k. ap (λ y. byte_of 2 y j) (change_same u.gpr 0 x) ∙ byte_below 2 x j k ∙ digits j k in (
          d,
          (
            calm c (Load 1 (away 4 (pointer_at g))) h (words_touched (Load 1 (away 4 (pointer_at g))) c (pointer_at g) 8 h (omega (arith, l, found.few)) refl refl) (λ z. z),
            (
              u,
              points g l c h,
              (
                calm u (Load16 0 (away 4 (block_at + sum_word g))) hu (words_touched (Load16 0 (away 4 (block_at + sum_word g))) u (block_at + sum_word g) 2 hu (omega (arith, l, found.few)) refl refl) (λ z. z),
                (
                  w,
                  loads,
                  (calm w (Store16 0 (here 1)) hw (integer_touched (Store16 0 (here 1)) w g 2 l q at refl refl) (λ z. z), (d, saves, refl)),
                ),
              ),
            ),
          ),
          put 2 g l q c w refl hw f is,
        )

    four_line : (g : ℕ) → g < count → size g ≡ 4 → (c : Core) → Beside c → (d : Core) × Line Q (sum_code 4 g) c d × Put 4 g c d
    four_line g l q c h =
        let b = bytes_of g l in
        let new : List ℕ = from_bytes (λ j. get_or (front 4 b.bytes) j 0) in
        let u : Core = pointed g c in
        let w : Core = with_xmm u 0 new in
        let f : ℕ → ℕ = λ j. get_or (w.xmm 0) j 0 in
        let hu = pointed_beside g c h in
        let hw : Beside w = beside_on u w hu (λ r n k. refl) refl in
        let d : Core = with_memory w (fill 4 w.memory (p g) f) in
        let loads : work (VecLoad Movd 0 (away 4 (block_at + sum_word g))) u ≡ Ok w = load_low u (e.gpr 4) (block_at + sum_word g) b.bytes (stack_of u hu) (omega (arith, low_stack, l, found.few)) (λ j k. bytes_stand g l u hu j k) in
        let at : w.gpr 1 ≡ p g = change_same c.gpr 1 (p g) in
        let low = found.pointers_low g l in
        let saves : work (VecStore Movd 0 (here 1)) w ≡ Ok d = save_here 4 w (p g) f at (omega (arith, low)) (there 4 g l q w hw) in
        let s = bytes_small g l in
        let s0 = s 0 (omega arith) in
        let s1 = s 1 (omega arith) in
        let s2 = s 2 (omega arith) in
        let s3 = s 3 (omega arith) in
        let digits : (j : ℕ) → j < 4 → b.bytes j ≡ v g / 256 ^ j % 256 =
        below_4 (λ j. b.bytes j ≡ v g / 256 ^ j % 256) (omega (arith, b.is, s0)) (omega (arith, b.is, s0, s1)) (omega (arith, b.is, s0, s1, s2)) (omega (arith, b.is, s0, s1, s2, s3)) in
        let is : (j : ℕ) → j < 4 → f j ≡ v g / 256 ^ j % 256 = λ j k.
        ap (λ y. get_or y j 0) (change_same u.xmm 0 new) ∙ from_byte (λ j. get_or (front 4 b.bytes) j 0) j (omega (arith, k)) ∙ front_at 4 b.bytes j k ∙ digits j k in (
          d,
          (
            calm c (Load 1 (away 4 (pointer_at g))) h (words_touched (Load 1 (away 4 (pointer_at g))) c (pointer_at g) 8 h (omega (arith, l, found.few)) refl refl) (λ z. z),
            (
              u,
              points g l c h,
              (
                calm u (VecLoad Movd 0 (away 4 (block_at + sum_word g))) hu (words_touched (VecLoad Movd 0 (away 4 (block_at + sum_word g))) u (block_at + sum_word g) 4 hu (omega (arith, l, found.few)) refl refl) (λ z. z),
                (
                  w,
                  loads,
                  (calm w (VecStore Movd 0 (here 1)) hw (integer_touched (VecStore Movd 0 (here 1)) w g 4 l q at refl refl) (λ z. z), (d, saves, refl)),
                ),
              ),
            ),
          ),
          put 4 g l q c w refl hw f is,
        )

    sum_line : (g : ℕ) → g < count → (c : Core) → Beside c → (d : Core) × Line Q (sum_code (size g) g) c d × Put (size g) g c d
    sum_line g l c h = ⊎_elim
        (λ q. subst (λ n. (d : Core) × Line Q (sum_code n g) c d × Put n g c d) (sym q) (two_line g l q c h))
        (λ q. subst (λ n. (d : Core) × Line Q (sum_code n g) c d × Put n g c d) (sym q) (four_line g l q c h))
        (found.sizes g l)

    sums_line : (n : ℕ) → n ≤ count → (d : Core) × Line Q (joined (λ g. sum_code (size g) g) n) e d × Sums n d
    sums_line zero l = (e, refl, record { beside = record { others = λ r n k. refl; outside = λ x out. refl; mapped = λ x i. i }; values = λ g k. absurd (omega (arith, k)) })
    sums_line (suc n) l =
        let a = sums_line n (omega (arith, l)) in
        let c : Core = a.0 in
        let last : n < count = omega (arith, l) in
        let b = sum_line n last c a.2.beside in
        let d : Core = b.0 in
        let before : (g : ℕ) → g < n → value (size g) d.memory (p g) ≡ value (size g) c.memory (p g) = λ g k.
        let g_few : g < count = omega (arith, k, l) in
        let low = found.pointers_low g g_few in
        value_same (size g) d.memory c.memory (p g) (omega (arith, low)) (λ x lo hi. b.2.elsewhere x (λ w. found.apart g n g_few last (λ z. omega (arith, z, k)) x (lo, hi) w)) in (
          d,
          line_append Q (joined (λ g. sum_code (size g) g) n) (sum_code (size n) n) e c d a.1 b.1,
          record {
            beside = b.2.beside;
            values = λ g k. ⊎_elim
                (λ z. subst (λ y. value (size y) d.memory (p y) ≡ Some (v y % 256 ^ size y)) (sym z) b.2.value)
                (λ z. before g (omega (arith, k, z)) ∙ a.2.values g (omega (arith, k, z)))
                (cases_eq g n);
          },
        )

    pub exit_line : (d : Core) × Line Q (joined (λ g. sum_code (size g) g) count ++ AluImm Add 4 (pos stack_size) ∷ []) e d × Left d
    exit_line =
        let a = sums_line count (omega arith) in
        let u : Core = a.0 in
        let d : Core = alu_core Add u 4 (wrap 64 (pos stack_size)) in
        let h = a.2.beside in (
          d,
          line_append Q (joined (λ g. sum_code (size g) g) count) (AluImm Add 4 (pos stack_size) ∷ []) e u d a.1 (calm u (AluImm Add 4 (pos stack_size)) h (λ x t. absurd (touches_none (AluImm Add 4 (pos stack_size)) u refl x t)) (λ z. z), (d, refl, refl)),
          record {
            stack = change_same u.gpr 4 (alu_result Add (u.gpr 4) (wrap 64 (pos stack_size))) ∙ up (u.gpr 4) (stack_of u h);
            others = λ r n k m. change_other u.gpr 4 (alu_result Add (u.gpr 4) (wrap 64 (pos stack_size))) r m ∙ h.others r n k;
            outside = h.outside;
            values = a.2.values;
          },
        )
      where
        up : (x : ℕ) → x ≡ e.gpr 4 → alu_result Add x (wrap 64 (pos stack_size)) ≡ e.gpr 4 + stack_size
        up x q = omega (arith, q, low_stack)
