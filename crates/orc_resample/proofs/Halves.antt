-- A load that doubles its elements takes them at once inside a turn: those that go to even places, and those that go to odd places.
use Rattle.std.proofs.Common.{◌≡◌, ℕ, suc, ◌+◌, ◌-◌, ◌*◌, ◌/◌, ◌%◌, ◌^◌, ◌<◌, ◌≤◌, pos, ◌*ℤ◌, true, List, [], ◌∷◌, ◌++◌, get_or, Option, Some, None, refl, sym, ap, ◌∙◌, subst, arith, inl, inr, ⊎_elim}
use Rattle.std.specs.Prelude.{cond, nat_eq}
use Rattle.std.proofs.lemmas.Bool.{cases_eq}
use Rattle.std.proofs.Math.IntN.{pos-*ℤ-pos}
use Rattle.orc_bits.specs.Lanes.{lane}
use Rattle.orc_bits.specs.Memory.{Memory, bind, number, word, value}
use Rattle.orc_bits.proofs.Memories.{value_small}
use Rattle.orc_bits.proofs.LaneLaws.{lane_one, change_other, change_same}
use Rattle.x86_ins.specs.declared.ins.AluOp.TheVariants.{Sub}
use Rattle.x86_ins.specs.declared.ins.ShiftOp.TheVariants.{Shr}
use Rattle.x86_ins.specs.declared.ins.VecOp.TheVariants.{Punpcklbw}
use Rattle.x86_ins.specs.declared.ins.Ins.{Ins}
use Rattle.x86_ins.specs.declared.ins.Ins.TheVariants.{Vec, Load, Alu, Shift, Lea}
use Rattle.x86_ins.specs.Spelling.{IsIns}
use Rattle.x86_ins.specs.Way.{Each}
use Rattle.x86_ins.specs.Vectors.{shape, lane_of, result_of, shr, sub_wrap}
use Rattle.x86_ins.specs.Machine.{Core, with_gpr, moved}
use Rattle.x86_flow.specs.Does.{Line}
use Rattle.x86_flow.specs.Moves.{IsWidth}
use Rattle.x86_flow.proofs.Moves.{each_width}
use Rattle.orc_ops.specs.declared.far.Far.{Far}
use Rattle.orc_ops.specs.declared.far.Far.TheVariants.{Loadupdb}
use Rattle.orc_ops.specs.Far.{far_size}
use Rattle.orc_resample.specs.declared.turn.FarSource.{FarSource}
use Rattle.orc_resample.specs.Code.{slot, front, bytes_code, halve_code, lower_code, upper_code, doubled_code}
use Rattle.orc_resample.specs.Ready.{Source, InWord, IsRead, cell, element, some_or_zero, value_at}
use Rattle.orc_resample.specs.Bring.{IsFarSource, AtHand, Brought, OnTurn}
use Rattle.orc_resample.proofs.Bytes.{byte, byte_small, byte_at}
use Rattle.orc_resample.proofs.Pushes.{by_bytes}
use Rattle.orc_resample.proofs.Rows.{IsRow}
use Rattle.orc_resample.proofs.Runs.{after, run_then, calm_then, calm_run, slot_then}
use Rattle.orc_resample.proofs.Touched.{all_agree}
use Rattle.orc_resample.proofs.Quiet.{all_quiet, Own, Cells, Leads, Ends, ended, Readable, Took, bytes_run}

-- ---- bytes of two registers, interleaved and averaged

-- those at even places are the destination's
pub even_byte : (x y : List ℕ) (k : ℕ) → k < 8 → get_or (result_of (shape Punpcklbw) x y) (k * 2) 0 ≡ get_or x k 0 % 256
even_byte x y k l =
    by_bytes (lane_of (shape Punpcklbw) x y) (k * 2) (omega (arith, l))
    ∙ ap (λ n. cond (nat_eq n 0) (lane 1 (k * 2 / 2 + 0 * (8 / 1)) x) (lane 1 (k * 2 / 2 + 0 * (8 / 1)) y) % 256) (let e : k * 2 % 2 ≡ 0 = omega arith in e)
    ∙ ap (λ i. lane 1 i x % 256) (let e : k * 2 / 2 + 0 * (8 / 1) ≡ k = omega arith in e) ∙ ap (λ v. v % 256) (lane_one k x)

-- and those at odd places the source's
pub odd_byte : (x y : List ℕ) (k : ℕ) → k < 8 → get_or (result_of (shape Punpcklbw) x y) (suc (k * 2)) 0 ≡ get_or y k 0 % 256
odd_byte x y k l =
    by_bytes (lane_of (shape Punpcklbw) x y) (suc (k * 2)) (omega (arith, l))
    ∙ ap (λ n. cond (nat_eq n 0) (lane 1 (suc (k * 2) / 2 + 0 * (8 / 1)) x) (lane 1 (suc (k * 2) / 2 + 0 * (8 / 1)) y) % 256) (let e : suc (k * 2) % 2 ≡ 1 = omega arith in e)
    ∙ ap (λ i. lane 1 i y % 256) (let e : suc (k * 2) / 2 + 0 * (8 / 1) ≡ k = omega arith in e) ∙ ap (λ v. v % 256) (lane_one k y)

-- a place is even or odd
pub by_parity : (P : ℕ → Type 0) (h : ℕ) → ((k : ℕ) → k < h → P (k * 2)) → ((k : ℕ) → k < h → P (suc (k * 2))) → (j : ℕ) → j < h * 2 → P j
by_parity P h even odd j l = ⊎_elim
    (λ e. subst P (let q : j / 2 * 2 ≡ j = omega (arith, e) in q) (even (j / 2) (omega (arith, l))))
    (λ ne. subst P (let q : suc (j / 2 * 2) ≡ j = omega (arith, ne) in q) (odd (j / 2) (omega (arith, l))))
    (cases_eq (j % 2) 0)

-- ---- which far loads double their elements

-- element i is that at half of i, rounded down
record IsDoubled (far : Far) : Type 0 where
  pub size : far_size far ≡ 1
  pub lower : (s : Source) (i : ℕ) → IsRead far s i (pos (i / 2))
  pub value : (s : Source) (mem : Memory) (i : ℕ) → value_at far s mem i ≡ element far mem s.base (pos (i / 2))

doubles : IsDoubled Loadupdb
doubles = record { size = refl; lower = λ s i. inl refl; value = λ s mem i. refl }

-- ---- numbers

front_of : (base first : ℕ) → (base + first * 1) % 2 ^ 64 ≡ (base + first) % 2 ^ 64
front_of base first = omega arith

halved : (base first : ℕ) → first < 2 ^ 32 → base < 2 ^ 64 → shr 64 (sub_wrap 64 ((base + first) % 2 ^ 64) base) 1 ≡ first / 2
halved base first f b = let q : ((base + first) % 2 ^ 64 + (2 ^ 64 - base)) % 2 ^ 64 / 2 ≡ first / 2 = omega (arith, f, b) in q

rounded_up : (base first : ℕ) → first < 2 ^ 32 → base < 2 ^ 64 → sub_wrap 64 ((base + first) % 2 ^ 64) (first / 2) ≡ (base + (first + 1) / 2) % 2 ^ 64
rounded_up base first f b = let q : ((base + first) % 2 ^ 64 + (2 ^ 64 - first / 2)) % 2 ^ 64 ≡ (base + (first + 1) / 2) % 2 ^ 64 = omega (arith, f, b) in q

at_zero : (a : ℕ) → (a % 2 ^ 64 + 0) % 2 ^ 64 ≡ a % 2 ^ 64
at_zero a = omega arith

-- ---- the address of element 0 and half of the first element's number

module _ (count : ℕ) (source : FarSource) (is : IsFarSource source) (one : far_size source.far ≡ 1) (s : Source) (c : Core) (at : AtHand count source s c) where
  abbrev pub Words : ℕ → Type 0
  Words = Own count source s c

  abbrev pub Elements : ℕ → Type 0
  Elements = Cells count source s c

  abbrev To : List Ins → Core → (Core → Type 0) → Type 0
  To = Leads count source s c

  abbrev pub el : ℕ → ℕ
  el m = element source.far c.memory s.base (pos m)

  abbrev pub address : ℕ → ℕ
  address m = (s.base + m) % 2 ^ 64

  small_first : s.first < 2 ^ 32
  small_first = let l : s.first + count ≤ 2 ^ 31 = at.last in omega (arith, l)

  small_base : s.base < 2 ^ 64
  small_base = value_small 8 c.memory (moved (c.gpr 4) source.array) s.base at.bounded.memory at.array

  cell_at : (m : ℕ) → cell source.far s.base (pos m) ≡ address m
  cell_at m = ap (λ n. moved s.base (pos m *ℤ pos n)) one ∙ ap (moved s.base) (pos-*ℤ-pos m 1 ∙ ap pos (let q : m * 1 ≡ m = omega arith in q))

  element_is : (m : ℕ) → el m ≡ byte c.memory (s.base + m)
  element_is m =
      ap (λ n. some_or_zero (value n c.memory (cell source.far s.base (pos m)))) one ∙ ap (λ a. some_or_zero (value 1 c.memory a)) (cell_at m)
      ∙ go (c.memory (address m % 2 ^ 64)) ∙ ap (λ a. some_or_zero (c.memory a)) (let q : address m % 2 ^ 64 ≡ address m = omega arith in q)
    where
      go : (o : Option ℕ) → some_or_zero (bind (bind o (λ b. bind (Some []) (λ bs. Some (b ∷ bs)))) (λ bs. Some (number bs))) ≡ some_or_zero o
      go None = refl
      go (Some v) = let q : v + 256 * 0 ≡ v = omega arith in q

  pub element_small : (m : ℕ) → el m < 256
  element_small m = subst (λ v. v < 256) (sym (element_is m)) (byte_small c.memory at.bounded.memory (s.base + m))

  -- so many elements are read from the m-th on
  abbrev pub AreRead : ℕ → ℕ → Type 0
  AreRead h m = (k : ℕ) → k < h → (j : ℕ) × (j < count) × IsRead source.far s (s.first + j) (pos (m + k))

  readable : (h m : ℕ) → AreRead h m → Readable Words Elements c.memory at.bounded.memory h (address m)
  readable h m read = (λ k l. at.mapped ((address m + k) % 2 ^ 64) (among k l), among)
    where
      among : (k : ℕ) → k < h → Elements ((address m + k) % 2 ^ 64)
      among k l =
          let r = read k l in
          (r.0, r.1, (pos (m + k), r.2, (0, subst (λ n. 0 < n) (sym one) (omega arith), (let q : (address m + k) % 2 ^ 64 ≡ (address (m + k) + 0) % 2 ^ 64 = omega arith in q) ∙ ap (λ a. (a + 0) % 2 ^ 64) (sym (cell_at (m + k))))))

  -- the low bytes of x are so many elements from the m-th on
  abbrev pub Holds : ℕ → ℕ → List ℕ → Type 0
  Holds h m x = (k : ℕ) → k < h → get_or x k 0 ≡ el (m + k)

  holds : (h m : ℕ) (x : List ℕ) → IsRow h c.memory (address m) x → Holds h m x
  holds h m x row k l = row.bytes k l ∙ byte_at c.memory (s.base + m) k ∙ ap (byte c.memory) (let q : s.base + m + k ≡ s.base + (m + k) = omega arith in q) ∙ sym (element_is (m + k))

  -- elements from the address in RAX on
  pub takes : (h x t z m : ℕ) (v : Core) (js : List Ins) (P : Core → Type 0) → IsWidth h → v.memory ≡ c.memory → (v.gpr 0 + z) % 2 ^ 64 ≡ address m → AreRead h m → ((d : Core) → Took x t v d → Holds h m (d.xmm x) → To js d P) → To (bytes_code h x t (pos z) ++ js) v P
  takes h x t z m v js P width same here read go =
      run_then Words Elements (bytes_code h x t (pos z)) js v (λ d. Took x t v d × IsRow h c.memory (address m) (d.xmm x)) P (bytes_run Words Elements c.memory at.bounded.memory x t (pos z) v (address m) same here h width (readable h m read)) (λ d g. go d g.0 (holds h m (d.xmm x) g.1))

  -- ---- the front

  abbrev halves : List Ins
  halves = Lea 7 (front source) ∷ Alu Sub 7 0 ∷ Shift Shr 7 1 ∷ []

  abbrev c1 : Core
  c1 = with_gpr c 0 s.base

  abbrev c2 : Core
  c2 = after (Lea 7 (front source) ∷ []) c1

  abbrev c3 : Core
  c3 = after (Lea 7 (front source) ∷ Alu Sub 7 0 ∷ []) c1

  abbrev pub c4 : Core
  c4 = after halves c1

  pub halve_then : (js : List Ins) (P : Core → Type 0) → To js c4 P → To (halve_code source ++ js) c P
  halve_then js P r = slot_then Words Elements 0 source.array (halves ++ js) c s.base P at.array (λ y w. inr (source.array, inr (inl refl), w)) (calm_then Words Elements halves js refl c1 P r)

  front_is : moved (c.gpr source.pointer) source.ahead ≡ address s.first
  front_is = at.pointer ∙ ap (λ n. (s.base + s.first * n) % 2 ^ 64) one ∙ front_of s.base s.first

  pub half_is : c4.gpr 7 ≡ s.first / 2
  half_is =
      ap (λ g. shr 64 (sub_wrap 64 (moved g source.ahead) s.base) 1) (change_other c.gpr 0 s.base source.pointer is.pointer.0) ∙ ap (λ x. shr 64 (sub_wrap 64 x s.base) 1) front_is
      ∙ halved s.base s.first small_first small_base

  pub pointer_is : c4.gpr source.pointer ≡ c.gpr source.pointer
  pointer_is =
      let ne = is.pointer.1 in
      change_other c3.gpr 7 (c4.gpr 7) source.pointer ne ∙ change_other c2.gpr 7 (c3.gpr 7) source.pointer ne ∙ change_other c1.gpr 7 (c2.gpr 7) source.pointer ne ∙ change_other c.gpr 0 s.base source.pointer is.pointer.0

  -- ---- addresses in RAX

  pub lower_at : (v : Core) → v.gpr 0 ≡ s.base → v.gpr 7 ≡ s.first / 2 → ((after lower_code v).gpr 0 + 0) % 2 ^ 64 ≡ address (s.first / 2)
  lower_at v base half = ap (λ b. ((b + v.gpr 7) % 2 ^ 64 + 0) % 2 ^ 64) base ∙ ap (λ b. ((s.base + b) % 2 ^ 64 + 0) % 2 ^ 64) half ∙ at_zero (s.base + s.first / 2)

  pub upper_at : (v : Core) → v.gpr source.pointer ≡ c.gpr source.pointer → v.gpr 7 ≡ s.first / 2 → ((after (upper_code source) v).gpr 0 + 0) % 2 ^ 64 ≡ address ((s.first + 1) / 2)
  upper_at v pointer half =
      ap (λ g. (sub_wrap 64 (moved g source.ahead) (v.gpr 7) + 0) % 2 ^ 64) pointer ∙ ap (λ b. (sub_wrap 64 (moved (c.gpr source.pointer) source.ahead) b + 0) % 2 ^ 64) half
      ∙ ap (λ x. (sub_wrap 64 x (s.first / 2) + 0) % 2 ^ 64) front_is ∙ ap (λ x. (x + 0) % 2 ^ 64) (rounded_up s.base s.first small_first small_base) ∙ at_zero (s.base + (s.first + 1) / 2)

  -- ---- the end

  abbrev Ended : Core → Type 0
  Ended = Ends count source s c

  -- the j-th value
  abbrev val : ℕ → ℕ
  val j = value_at source.far s c.memory (s.first + j)

  abbrev pub AreValues : List ℕ → Type 0
  AreValues x = (j : ℕ) → j < count → get_or x j 0 ≡ val j

  -- RDI is loaded again
  pub back_run : (v : Core) → v.memory ≡ c.memory → v.gpr 4 ≡ c.gpr 4 → AreValues (v.xmm 0) → To (Load 7 (slot source.block) ∷ []) v Ended
  back_run v memory stack values =
      slot_then Words Elements 7 source.block [] v (c.gpr 7) Ended (ap (λ m. word m (moved (v.gpr 4) source.block)) memory ∙ ap (λ g. word c.memory (moved g source.block)) stack ∙ at.block)
      (λ y w. inr (source.block, inl refl, subst (λ g. InWord (moved g source.block) y) stack w))
      (calm_run Words Elements [] refl (with_gpr v 7 (c.gpr 7)) Ended (record { values = λ j l. ap (λ n. lane n j (v.xmm 0)) one ∙ lane_one j (v.xmm 0) ∙ values j l; block = change_same v.gpr 7 (c.gpr 7) }))

cut_byte : (n : ℕ) → n < 256 → n % 256 ≡ n
cut_byte n l = omega (arith, l)

-- ---- numbers of elements

pub even_lower : (first k : ℕ) → (first + k * 2) / 2 ≡ first / 2 + k
even_lower first k = omega arith

pub odd_lower : (first k : ℕ) → (first + suc (k * 2)) / 2 ≡ (first + 1) / 2 + k
odd_lower first k = omega arith

pub even_place : (k h : ℕ) → k < h → k * 2 < h * 2
even_place k h l = omega (arith, l)

pub odd_place : (k h : ℕ) → k < h → suc (k * 2) < h * 2
odd_place k h l = omega (arith, l)

-- ---- loadupdb

module _ (source : FarSource) (is : IsFarSource source) (doubled : IsDoubled source.far) (s : Source) (c : Core) where
  doubled_one : AtHand 1 source s c → Leads 1 source s c (doubled_code source 1) c (Ends 1 source s c)
  doubled_one at =
      let one = doubled.size in
      let m = s.first / 2 in
      let v = after lower_code (c4 1 source is one s c at) in
      let read : AreRead 1 source is one s c at 1 m = λ k l. (0, omega arith, subst (λ n. IsRead source.far s (s.first + 0) (pos n)) (let q : (s.first + 0) / 2 ≡ m + k = omega (arith, l) in q) (doubled.lower s (s.first + 0))) in
      let tail = Load 7 (slot source.block) ∷ [] in
      halve_then 1 source is one s c at (lower_code ++ (bytes_code 1 0 0 (pos 0) ++ tail)) _
      (calm_then (Words 1 source is one s c at) (Elements 1 source is one s c at) lower_code (bytes_code 1 0 0 (pos 0) ++ tail) refl (c4 1 source is one s c at) _
      (takes 1 source is one s c at 1 0 0 0 m v tail _ (inl refl) refl (lower_at 1 source is one s c at (c4 1 source is one s c at) refl (half_is 1 source is one s c at)) read
      (λ d took holds. back_run 1 source is one s c at d took.memory (took.gpr 4 (λ e. omega (arith, e)))
      (λ j l. ap (λ i. get_or (d.xmm 0) i 0) (let q : j ≡ 0 = omega (arith, l) in q) ∙ holds 0 (omega arith) ∙ ap (el 1 source is one s c at) (let q : m + 0 ≡ (s.first + j) / 2 = omega (arith, l) in q) ∙ sym (doubled.value s c.memory (s.first + j))))))

  module _ (h : ℕ) (width : IsWidth h) (few : h ≤ 8) (at : AtHand (h * 2) source s c) where
    abbrev down : ℕ
    down = s.first / 2

    abbrev up : ℕ
    up = (s.first + 1) / 2

    -- the value of an element
    abbrev elem : ℕ → ℕ
    elem = el (h * 2) source is doubled.size s c at

    down_read : AreRead (h * 2) source is doubled.size s c at h down
    down_read k l = (k * 2, even_place k h l, subst (λ n. IsRead source.far s (s.first + k * 2) (pos n)) (even_lower s.first k) (doubled.lower s (s.first + k * 2)))

    up_read : AreRead (h * 2) source is doubled.size s c at h up
    up_read k l = (suc (k * 2), odd_place k h l, subst (λ n. IsRead source.far s (s.first + suc (k * 2)) (pos n)) (odd_lower s.first k) (doubled.lower s (s.first + suc (k * 2))))

    interleaves : (x y : List ℕ) → Holds (h * 2) source is doubled.size s c at h down x → Holds (h * 2) source is doubled.size s c at h up y → AreValues (h * 2) source is doubled.size s c at (result_of (shape Punpcklbw) x y)
    interleaves x y a b = by_parity (λ j. get_or (result_of (shape Punpcklbw) x y) j 0 ≡ value_at source.far s c.memory (s.first + j)) h
        (λ k l. even_byte x y k (omega (arith, l, few)) ∙ ap (λ v. v % 256) (a k l) ∙ cut_byte (elem (down + k)) (element_small (h * 2) source is doubled.size s c at (down + k)) ∙ ap elem (sym (even_lower s.first k)) ∙ sym (doubled.value s c.memory (s.first + k * 2)))
        (λ k l. odd_byte x y k (omega (arith, l, few)) ∙ ap (λ v. v % 256) (b k l) ∙ cut_byte (elem (up + k)) (element_small (h * 2) source is doubled.size s c at (up + k)) ∙ ap elem (sym (odd_lower s.first k)) ∙ sym (doubled.value s c.memory (s.first + suc (k * 2))))

    abbrev last : List Ins
    last = Load 7 (slot source.block) ∷ []

    -- both registers hold their elements, and memory and RSP are as before
    record Interleaved (v : Core) : Type 0 where
      pub memory : v.memory ≡ c.memory
      pub stack : v.gpr 4 ≡ c.gpr 4
      pub values : AreValues (h * 2) source is doubled.size s c at (v.xmm 0)

    odd_run : (v : Core) → v.memory ≡ c.memory → v.gpr 4 ≡ c.gpr 4 → v.gpr source.pointer ≡ c.gpr source.pointer → v.gpr 7 ≡ down → Holds (h * 2) source is doubled.size s c at h down (v.xmm 0)
        → Leads (h * 2) source s c (upper_code source ++ (bytes_code h 1 0 (pos 0) ++ Vec Punpcklbw 0 1 ∷ [])) v Interleaved
    odd_run v memory stack pointer half x =
        let w = after (upper_code source) v in
        let weave = Vec Punpcklbw 0 1 ∷ [] in
        calm_then (Words (h * 2) source is doubled.size s c at) (Elements (h * 2) source is doubled.size s c at) (upper_code source) (bytes_code h 1 0 (pos 0) ++ weave) refl v Interleaved
        (takes (h * 2) source is doubled.size s c at h 1 0 0 up w weave Interleaved width memory (upper_at (h * 2) source is doubled.size s c at v pointer half) up_read
        (λ d took y. calm_run (Words (h * 2) source is doubled.size s c at) (Elements (h * 2) source is doubled.size s c at) weave refl d Interleaved (record {
          memory = took.memory ∙ memory;
          stack = took.gpr 4 (λ e. omega (arith, e)) ∙ stack;
          values = interleaves (d.xmm 0) (d.xmm 1) (subst (Holds (h * 2) source is doubled.size s c at h down) (sym (took.xmm 0 (λ e. omega (arith, e)))) x) y;
        })))

    doubled_even : Leads (h * 2) source s c (halve_code source ++ (lower_code ++ (bytes_code h 0 0 (pos 0) ++ ((upper_code source ++ (bytes_code h 1 0 (pos 0) ++ Vec Punpcklbw 0 1 ∷ [])) ++ Load 7 (slot source.block) ∷ [])))) c (Ends (h * 2) source s c)
    doubled_even =
        let one = doubled.size in
        let n = h * 2 in
        let c4 = c4 n source is one s c at in
        let v = after lower_code c4 in
        let odd = upper_code source ++ (bytes_code h 1 0 (pos 0) ++ Vec Punpcklbw 0 1 ∷ []) in
        halve_then n source is one s c at (lower_code ++ (bytes_code h 0 0 (pos 0) ++ (odd ++ last))) _
        (calm_then (Words n source is one s c at) (Elements n source is one s c at) lower_code (bytes_code h 0 0 (pos 0) ++ (odd ++ last)) refl c4 _
        (takes n source is one s c at h 0 0 0 down v (odd ++ last) _ width refl (lower_at n source is one s c at c4 refl (half_is n source is one s c at)) down_read
        (λ d took x. run_then (Words n source is one s c at) (Elements n source is one s c at) odd last d Interleaved _
        (odd_run d took.memory (took.gpr 4 (λ e. omega (arith, e))) (took.gpr source.pointer is.pointer.0 ∙ change_other c4.gpr 0 (v.gpr 0) source.pointer is.pointer.0 ∙ pointer_is n source is one s c at) (took.gpr 7 (λ e. omega (arith, e)) ∙ half_is n source is one s c at) x)
        (λ e i. back_run n source is one s c at e i.memory i.stack i.values))))

  doubled_run : (count : ℕ) → IsWidth count → AtHand count source s c → Leads count source s c (doubled_code source count) c (Ends count source s c)
  doubled_run count width = each_width (λ n. AtHand n source s c → Leads n source s c (doubled_code source n) c (Ends n source s c)) doubled_one
      (doubled_even 1 (inl refl) (omega arith)) (doubled_even 2 (inr (inl refl)) (omega arith)) (doubled_even 4 (inr (inr (inl refl))) (omega arith)) (doubled_even 8 (inr (inr (inr (inl refl)))) (omega arith)) count width

doubled_quiet : (source : FarSource) (count : ℕ) → IsWidth count → all_quiet (doubled_code source count) ≡ true
doubled_quiet source count is = each_width (λ n. all_quiet (doubled_code source n) ≡ true) refl refl refl refl refl count is

doubled_agrees : (source : FarSource) (count : ℕ) → IsWidth count → all_agree (doubled_code source count) ≡ true
doubled_agrees source count is = each_width (λ n. all_agree (doubled_code source n) ≡ true) refl refl refl refl refl count is

pub doubled_brought : (count : ℕ) (source : FarSource) → IsFarSource source → source.far ≡ Loadupdb → IsWidth count → Each IsIns (doubled_code source count) → (s : Source) (c : Core) → AtHand count source s c
    → (d : Core) × Line (OnTurn count source s c) (doubled_code source count) c d × Brought count source s c d
doubled_brought count source is e width ranges s c at =
    ended count source s c at.bounded (doubled_code source count) (doubled_quiet source count width) (doubled_agrees source count width) ranges (doubled_run source is (subst IsDoubled (sym e) doubles) s c count width at)
