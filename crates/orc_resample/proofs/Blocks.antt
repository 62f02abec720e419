-- The code of one element of each far load, from a state that is ready on.
use Rattle.std.proofs.Common.{◌≡◌, ℕ, zero, suc, ◌+◌, ◌*◌, ◌/◌, ◌%◌, ◌^◌, ◌<◌, ◌≤◌, ℤ, pos, negsuc, ◌*ℤ◌, true, List, [], ◌∷◌, ◌++◌, get_or, Some, refl, sym, ap, ◌∙◌, subst, arith, inl, inr, lit<, false, if◌then◌else◌}
use Rattle.std.specs.Prelude.{nat_lt}
use Rattle.std.proofs.lemmas.Bool.Decides.{nat_tests}
use Rattle.std.specs.Int.{int_shr}
use Rattle.orc_bits.specs.Numbers.{wrap}
use Rattle.orc_bits.specs.Lanes.{lane, from_bytes, byte_of, AreBytes}
use Rattle.orc_bits.specs.Memory.{read, value, word}
use Rattle.orc_bits.proofs.Memories.{AreMapped, read_there, read_bytes, value_small}
use Rattle.orc_bits.proofs.LaneLaws.{lane_one, from_byte, AreBytes-from_bytes}
use Rattle.x86_ins.specs.declared.ins.MoveOp.TheVariants as move
use Rattle.x86_ins.specs.declared.ins.AluOp.TheVariants.{Add}
use Rattle.x86_ins.specs.declared.ins.ShiftOp.TheVariants.{Shl, Shr, Sar}
use Rattle.x86_ins.specs.declared.ins.Ins.{Ins}
use Rattle.x86_ins.specs.declared.ins.Ins.TheVariants.{VecLoad, Load, Load8, Alu, Shift, Imul, Lea}
use Rattle.x86_ins.specs.Vectors.{shl, sar, add_wrap, mul_low}
use Rattle.x86_ins.specs.Machine.{Core, with_gpr, with_xmm, moved, address}
use Rattle.x86_flow.specs.Moves.{away}
use Rattle.orc_ops.specs.declared.far.Far.{Far}
use Rattle.orc_ops.specs.Far.{far_size, far_scalars, place}
use Rattle.orc_resample.specs.declared.plan.FarPlan.{FarPlan}
use Rattle.orc_resample.specs.Code.{slot, scalar_at, half_code, scale_code, element_code, place_code, push_code, push_gpr_code}
use Rattle.orc_resample.specs.Ready.{Source, Ready, InPlan, InWord, AmongCells, InElement, cell, element, some_or_zero, is_pointer}
use Rattle.orc_resample.proofs.Numbers.{moved_small, scaled_of, half_of, place_of, Fits, shifted_of}
use Rattle.orc_resample.proofs.Bytes.{byte, digits, digits_same, value_is, read_byte, read_beyond, lane_is}
use Rattle.orc_resample.proofs.Pushes.{pushed, pushed_first, pushed_next, pushed_small}
use Rattle.orc_resample.proofs.Runs.{Run, after, all_calm, run_map, calm_then, calm_run, slot_then, byte_then, vector_then}

-- memory and RSP are as they were
pub record At (c v : Core) : Type 0 where
  pub memory : v.memory ≡ c.memory
  pub stack : v.gpr 4 ≡ c.gpr 4

-- and the third scratch register and the vector registers too
pub record Kept (v d : Core) : Type 0 where
  pub memory : d.memory ≡ v.memory
  pub stack : d.gpr 4 ≡ v.gpr 4
  pub third : d.gpr 2 ≡ v.gpr 2
  pub xmm : d.xmm ≡ v.xmm

-- the register d holds a value below what the register x held
pub record Pushed (size value : ℕ) (x d : List ℕ) : Type 0 where
  pub lowest : lane size 0 d ≡ value
  pub others : (q : ℕ) → suc q * size + size ≤ 16 → lane size (suc q) d ≡ lane size q x
  pub small : AreBytes d

pub pushed_on : (size value : ℕ) (x y : List ℕ) → size ≤ 16 → AreBytes x → AreBytes y → lane size 0 y ≡ value → ((i : ℕ) → size ≤ i → i < 16 → get_or y i 0 ≡ 0) → Pushed size value x (pushed size x y)
pushed_on size value x y few small_x small_y lowest above = record {
  lowest = pushed_first size x y small_y few ∙ lowest;
  others = λ q room. pushed_next size x y small_x above q room;
  small = pushed_small size x y;
}

-- a byte from a general register
byte_above : (value i : ℕ) → value < 256 → 1 ≤ i → byte_of 4 value i ≡ 0
byte_above value zero l m = absurd (omega (arith, m))
byte_above value (suc zero) l m = let q : value / 256 ^ 1 % 256 ≡ 0 = omega (arith, l) in q
byte_above value (suc (suc zero)) l m = let q : value / 256 ^ 2 % 256 ≡ 0 = omega (arith, l) in q
byte_above value (suc (suc (suc zero))) l m = let q : value / 256 ^ 3 % 256 ≡ 0 = omega (arith, l) in q
byte_above value (suc (suc (suc (suc i)))) l m = let t : nat_lt (suc (suc (suc (suc i)))) 4 ≡ false = grind (arith, nat_tests) in ap (λ b. if b then value / 256 ^ suc (suc (suc (suc i))) % 256 else 0) t

byte_first : (value : ℕ) → value < 256 → byte_of 4 value 0 ≡ value
byte_first value l = let q : value / 256 ^ 0 % 256 ≡ value = omega (arith, l) in q

byte_below : (value i : ℕ) → value < 256 → byte_of 4 value i < 256
byte_below value zero l = subst (λ n. n < 256) (sym (byte_first value l)) l
byte_below value (suc i) l = subst (λ n. n < 256) (sym (byte_above value (suc i) l (omega arith))) (lit< tt)

pub pushed_byte : (value : ℕ) (x : List ℕ) → value < 256 → AreBytes x → Pushed 1 value x (pushed 1 x (from_bytes (byte_of 4 value)))
pushed_byte value x l small =
    let y : List ℕ = from_bytes (byte_of 4 value) in
    pushed_on 1 value x y (omega arith) small (AreBytes-from_bytes (byte_of 4 value) (λ i m. byte_below value i l)) (lane_one 0 y ∙ from_byte (byte_of 4 value) 0 (omega arith) ∙ byte_first value l)
    (λ i m h. from_byte (byte_of 4 value) i h ∙ byte_above value i l m)

-- ---- numbers of elements in a register, scaled

unscaled_at : (x base : ℕ) → (x + base) % 2 ^ 64 ≡ (x * 1 % 2 ^ 64 + base) % 2 ^ 64
unscaled_at x base = omega arith

wrap_small : (z : ℤ) → wrap 64 z < 2 ^ 64
wrap_small (pos n) = omega arith
wrap_small (negsuc n) = omega arith

-- the code multiplies the first scratch register by 2 ^ bits, and does nothing else
pub record Scales (bits : ℕ) : Type 0 where
  pub calm : all_calm (scale_code bits 0) ≡ true
  pub number : (v : Core) → v.gpr 0 < 2 ^ 64 → (after (scale_code bits 0) v).gpr 0 ≡ v.gpr 0 * 2 ^ bits % 2 ^ 64
  pub kept : (v : Core) → Kept v (after (scale_code bits 0) v)

pub scales_0 : Scales 0
scales_0 = record { calm = refl; number = λ v l. let q : v.gpr 0 ≡ v.gpr 0 * 1 % 2 ^ 64 = omega (arith, l) in q; kept = λ v. record { memory = refl; stack = refl; third = refl; xmm = refl } }

pub scales_1 : Scales 1
scales_1 = record { calm = refl; number = λ v l. refl; kept = λ v. record { memory = refl; stack = refl; third = refl; xmm = refl } }

pub scales_2 : Scales 2
scales_2 = record { calm = refl; number = λ v l. refl; kept = λ v. record { memory = refl; stack = refl; third = refl; xmm = refl } }

module _ (far : Far) (count : ℕ) (plan : FarPlan) (s : Source) (c : Core) (ready : Ready far count plan s c) where
  abbrev pub Near : ℕ → Type 0
  Near = InPlan far plan (c.gpr 4)

  abbrev pub Cells : ℕ → Type 0
  Cells = AmongCells far count s

  -- the list leads from v to a state of which P holds
  abbrev pub Leads : List Ins → Core → (Core → Type 0) → Type 0
  Leads = Run Near Cells

  -- ---- loads

  load_word : (r : ℕ) (z : ℤ) (js : List Ins) (v : Core) (x : ℕ) (P : Core → Type 0) → At c v → word c.memory (moved (c.gpr 4) z) ≡ Some x → ((y : ℕ) → InWord (moved (c.gpr 4) z) y → Near y) → Leads js (with_gpr v r x) P → Leads (Load r (slot z) ∷ js) v P
  load_word r z js v x P t e near =
      slot_then Near Cells r z js v x P (ap (λ m. word m (moved (v.gpr 4) z)) t.memory ∙ ap (λ g. word c.memory (moved g z)) t.stack ∙ e)
      (λ y w. near y (subst (λ g. InWord (moved g z) y) t.stack w))

  pub load_index : (r : ℕ) (js : List Ins) (v : Core) (P : Core → Type 0) → At c v → Leads js (with_gpr v r s.first) P → Leads (Load r (slot plan.index) ∷ js) v P
  load_index r js v P t = load_word r plan.index js v s.first P t ready.index (λ y w. inl w)

  pub load_array : (r : ℕ) (js : List Ins) (v : Core) (P : Core → Type 0) → At c v → Leads js (with_gpr v r s.base) P → Leads (Load r (slot plan.array) ∷ js) v P
  load_array r js v P t = load_word r plan.array js v s.base P t ready.array (λ y w. inr (inl w))

  pub load_p : (r : ℕ) (js : List Ins) (v : Core) (P : Core → Type 0) → 0 < far_scalars far → At c v → Leads js (with_gpr v r s.p) P → Leads (Load r (slot (scalar_at plan 0)) ∷ js) v P
  load_p r js v P l t = load_word r (scalar_at plan 0) js v s.p P t (ready.first_scalar l) (λ y w. inr (inr (0, l, w)))

  pub load_q : (r : ℕ) (js : List Ins) (v : Core) (P : Core → Type 0) → 1 < far_scalars far → At c v → Leads js (with_gpr v r s.q) P → Leads (Load r (slot (scalar_at plan 1)) ∷ js) v P
  load_q r js v P l t = load_word r (scalar_at plan 1) js v s.q P t (ready.second_scalar l) (λ y w. inr (inr (1, l, w)))

  -- element k is one of those that are read
  abbrev pub IsCell : ℤ → Type 0
  IsCell k = (x : ℕ) → InElement far s.base k x → Cells x

  pub cell_mapped : (k : ℤ) → IsCell k → AreMapped (far_size far) c.memory (cell far s.base k)
  cell_mapped k is j l = ready.mapped ((cell far s.base k + j) % 2 ^ 64) (is ((cell far s.base k + j) % 2 ^ 64) (j, l, refl))

  pub element_value : (k : ℤ) → IsCell k → value (far_size far) c.memory (cell far s.base k) ≡ Some (element far c.memory s.base k)
  element_value k is =
      let e = value_is (far_size far) c.memory (cell far s.base k) (cell_mapped k is) in
      e ∙ ap Some (sym (ap some_or_zero e))

  pub element_digits : (k : ℤ) → IsCell k → element far c.memory s.base k ≡ digits (far_size far) (λ j. byte c.memory (cell far s.base k + j))
  element_digits k is = ap some_or_zero (value_is (far_size far) c.memory (cell far s.base k) (cell_mapped k is))

  pub load_byte : (r b d : ℕ) (js : List Ins) (v : Core) (P : Core → Type 0) (k : ℤ) → far_size far ≡ 1 → At c v → is_pointer b ≡ true → address v (away b d) ≡ cell far s.base k → IsCell k
      → Leads js (with_gpr v r (element far c.memory s.base k)) P → Leads (Load8 r (away b d) ∷ js) v P
  load_byte r b d js v P k one t by at is =
      byte_then Near Cells r b d js v (element far c.memory s.base k) P by
      (ap (value 1 v.memory) at ∙ ap (λ m. value 1 m (cell far s.base k)) t.memory ∙ ap (λ n. value n c.memory (cell far s.base k)) (sym one) ∙ element_value k is)
      (λ j l. is ((address v (away b d) + j) % 2 ^ 64) (j, subst (λ n. j < n) (sym one) l, ap (λ a. (a + j) % 2 ^ 64) at))

  -- a register that holds an element of four bytes, and zeros above it
  pub record IsLong (k : ℤ) (x : List ℕ) : Type 0 where
    pub lowest : lane 4 0 x ≡ element far c.memory s.base k
    pub above : (i : ℕ) → 4 ≤ i → i < 16 → get_or x i 0 ≡ 0
    pub small : AreBytes x

  pub load_long : (r b d : ℕ) (js : List Ins) (v : Core) (P : Core → Type 0) (k : ℤ) → far_size far ≡ 4 → At c v → is_pointer b ≡ true → address v (away b d) ≡ cell far s.base k → IsCell k
      → ((x : List ℕ) → IsLong k x → Leads js (with_xmm v r x) P) → Leads (VecLoad move.Movd r (away b d) ∷ js) v P
  load_long r b d js v P k four t by at is go =
      let a = cell far s.base k in
      let there : AreMapped 4 c.memory a = subst (λ n. AreMapped n c.memory a) four (cell_mapped k is) in
      let bytes = read_there 4 c.memory a there in
      let bs = bytes.0 in
      let x : List ℕ = from_bytes (λ j. get_or bs j 0) in
      let is_long : IsLong k x = record {
        lowest = lane_is 4 0 x ∙ digits_same 4 (λ j. get_or x (0 * 4 + j) 0) (λ j. byte c.memory (a + j)) (λ j l. from_byte (λ j. get_or bs j 0) (0 * 4 + j) (omega (arith, l)) ∙ ap (λ i. get_or bs i 0) (let e : 0 * 4 + j ≡ j = omega arith in e) ∙ read_byte 4 c.memory a bs bytes.1 j l) ∙ ap (λ n. digits n (λ j. byte c.memory (a + j))) (sym four) ∙ sym (element_digits k is);
        above = λ i l m. from_byte (λ j. get_or bs j 0) i m ∙ read_beyond 4 c.memory a bs bytes.1 i l;
        small = AreBytes-from_bytes (λ j. get_or bs j 0) (λ i m. read_bytes 4 c.memory a bs ready.bounded.memory bytes.1 i);
      } in
      vector_then Near Cells move.Movd (λ x o. refl) r b d js v bs P by (ap (read 4 v.memory) at ∙ ap (λ m. read 4 m a) t.memory ∙ bytes.1)
      (λ j l. is ((address v (away b d) + j) % 2 ^ 64) (j, subst (λ n. j < n) (sym four) l, ap (λ a. (a + j) % 2 ^ 64) at))
      (go x is_long)

  element_small : (k : ℤ) → IsCell k → element far c.memory s.base k < 256 ^ far_size far
  element_small k is = value_small (far_size far) c.memory (cell far s.base k) (element far c.memory s.base k) ready.bounded.memory (element_value k is)

  pub byte_element : (k : ℤ) → far_size far ≡ 1 → IsCell k → element far c.memory s.base k < 256
  byte_element k one is = let h : element far c.memory s.base k < 256 ^ 1 = subst (λ n. element far c.memory s.base k < 256 ^ n) one (element_small k is) in omega (arith, h)

  -- ---- what puts an element below the values

  pub push_byte : (v : Core) → At c v → AreBytes (v.xmm 0) → v.gpr 0 < 256 → Leads (push_gpr_code 1 0) v (λ d. At c d × Pushed 1 (v.gpr 0) (v.xmm 0) (d.xmm 0))
  push_byte v t small l =
      calm_run Near Cells (push_gpr_code 1 0) refl v (λ d. At c d × Pushed 1 (v.gpr 0) (v.xmm 0) (d.xmm 0))
      (record { memory = t.memory; stack = t.stack }, pushed_byte (v.gpr 0) (v.xmm 0) l small)

  pub push_long : (v : Core) (value : ℕ) → At c v → AreBytes (v.xmm 0) → lane 4 0 (v.xmm 1) ≡ value → ((i : ℕ) → 4 ≤ i → i < 16 → get_or (v.xmm 1) i 0 ≡ 0) → AreBytes (v.xmm 1) → Leads (push_code 4) v (λ d. At c d × Pushed 4 value (v.xmm 0) (d.xmm 0))
  push_long v value t small lowest above small_1 =
      calm_run Near Cells (push_code 4) refl v (λ d. At c d × Pushed 4 value (v.xmm 0) (d.xmm 0))
      (record { memory = t.memory; stack = t.stack }, pushed_on 4 value (v.xmm 0) (v.xmm 1) (omega arith) small small_1 lowest above)

  -- ---- places

  -- the address that a register holds, with no displacement
  pub plain : (x : ℕ) (z : ℤ) (size : ℕ) → far_size far ≡ size → x ≡ moved s.base (z *ℤ pos size) → (x + 0) % 2 ^ 64 ≡ cell far s.base z
  plain x z size e h =
      let l : x < 2 ^ 64 = subst (λ n. n < 2 ^ 64) (sym h) (moved_small s.base (z *ℤ pos size)) in
      (let q : (x + 0) % 2 ^ 64 ≡ x = omega (arith, l) in q) ∙ h ∙ ap (λ n. moved s.base (z *ℤ pos n)) (sym e)

  -- the byte at half of an element's number
  pub half_run : (k : ℕ) (v : Core) → s.first + k < 2 ^ 63 → far_size far ≡ 1 → At c v → IsCell (pos ((s.first + k) / 2)) → Leads (half_code plan k 0 1) v (λ d. Kept v d × (d.gpr 0 ≡ element far c.memory s.base (pos ((s.first + k) / 2))))
  half_run k v low one t is =
      let z : ℤ = pos ((s.first + k) / 2) in
      let P : Core → Type 0 = λ d. Kept v d × (d.gpr 0 ≡ element far c.memory s.base z) in
      let v1 : Core = with_gpr v 0 s.first in
      let halve : List Ins = Lea 0 (away 0 k) ∷ Shift Shr 0 1 ∷ [] in
      let v2 = after halve v1 in
      let v3 : Core = with_gpr v2 1 s.base in
      let v4 = after (Alu Add 0 1 ∷ []) v3 in
      let v5 : Core = with_gpr v4 0 (element far c.memory s.base z) in
      let at : v4.gpr 0 ≡ moved s.base (z *ℤ pos 1) = ap (λ x. add_wrap 64 x s.base) (half_of (s.first + k) low) ∙ unscaled_at (wrap 64 z) s.base ∙ scaled_of z s.base 1 in
      load_index 0 (halve ++ (Load 1 (slot plan.array) ∷ Alu Add 0 1 ∷ Load8 0 (away 0 0) ∷ [])) v P t
      (calm_then Near Cells halve (Load 1 (slot plan.array) ∷ Alu Add 0 1 ∷ Load8 0 (away 0 0) ∷ []) refl v1 P
      (load_array 1 (Alu Add 0 1 ∷ Load8 0 (away 0 0) ∷ []) v2 P (record { memory = t.memory; stack = t.stack })
      (calm_then Near Cells (Alu Add 0 1 ∷ []) (Load8 0 (away 0 0) ∷ []) refl v3 P
      (load_byte 0 0 0 [] v4 P z one (record { memory = t.memory; stack = t.stack }) refl (plain (v4.gpr 0) z 1 one at) is
      (calm_run Near Cells [] refl v5 P (record { memory = refl; stack = refl; third = refl; xmm = refl }, refl))))))

  -- P
  pub place_run : (k : ℕ) (v : Core) → 1 < far_scalars far → s.first + k < 2 ^ 31 → At c v → Leads (place_code plan k 0 1) v (λ d. Kept v d × (d.gpr 0 ≡ wrap 64 (place (s.first + k) s.p s.q)))
  place_run k v two low t =
      let P : Core → Type 0 = λ d. Kept v d × (d.gpr 0 ≡ wrap 64 (place (s.first + k) s.p s.q)) in
      let v1 : Core = with_gpr v 0 s.first in
      let v2 = after (Lea 0 (away 0 k) ∷ []) v1 in
      let v3 : Core = with_gpr v2 1 s.q in
      let times : List Ins = Shift Shl 1 32 ∷ Shift Sar 1 32 ∷ Imul 0 1 ∷ [] in
      let v4 = after times v3 in
      let v5 : Core = with_gpr v4 1 s.p in
      let plus : List Ins = Shift Shl 1 32 ∷ Shift Sar 1 32 ∷ Alu Add 0 1 ∷ [] in
      let i : (s.first + k) % 2 ^ 64 ≡ s.first + k = omega (arith, low) in
      let is : (after plus v5).gpr 0 ≡ wrap 64 (place (s.first + k) s.p s.q) = ap (λ x. add_wrap 64 (mul_low 64 x (sar 64 (shl 64 s.q 32) 32)) (sar 64 (shl 64 s.p 32) 32)) i ∙ place_of (s.first + k) s.p s.q in
      load_index 0 (Lea 0 (away 0 k) ∷ Load 1 (slot (scalar_at plan 1)) ∷ (times ++ (Load 1 (slot (scalar_at plan 0)) ∷ plus))) v P t
      (calm_then Near Cells (Lea 0 (away 0 k) ∷ []) (Load 1 (slot (scalar_at plan 1)) ∷ (times ++ (Load 1 (slot (scalar_at plan 0)) ∷ plus))) refl v1 P
      (load_q 1 (times ++ (Load 1 (slot (scalar_at plan 0)) ∷ plus)) v2 P two (record { memory = t.memory; stack = t.stack })
      (calm_then Near Cells times (Load 1 (slot (scalar_at plan 0)) ∷ plus) refl v3 P
      (load_p 1 plus v4 P (omega (arith, two)) (record { memory = t.memory; stack = t.stack })
      (calm_run Near Cells plus refl v5 P (record { memory = refl; stack = refl; third = refl; xmm = refl }, is))))))

  -- the address of the element whose number a register holds
  pub element_run : (bits : ℕ) (z : ℤ) (v : Core) → Scales bits → At c v → v.gpr 0 ≡ wrap 64 z → Leads (element_code plan bits 0 1) v (λ d. Kept v d × (d.gpr 0 ≡ moved s.base (z *ℤ pos (2 ^ bits))))
  element_run bits z v scales t h =
      let P : Core → Type 0 = λ d. Kept v d × (d.gpr 0 ≡ moved s.base (z *ℤ pos (2 ^ bits))) in
      let v1 = after (scale_code bits 0) v in
      let k = scales.kept v in
      let v2 : Core = with_gpr v1 1 s.base in
      let low : v.gpr 0 < 2 ^ 64 = subst (λ x. x < 2 ^ 64) (sym h) (wrap_small z) in
      let is : (after (Alu Add 0 1 ∷ []) v2).gpr 0 ≡ moved s.base (z *ℤ pos (2 ^ bits)) =
      ap (λ x. add_wrap 64 x s.base) (scales.number v low) ∙ ap (λ x. add_wrap 64 (x * 2 ^ bits % 2 ^ 64) s.base) h ∙ scaled_of z s.base (2 ^ bits) in
      calm_then Near Cells (scale_code bits 0) (Load 1 (slot plan.array) ∷ Alu Add 0 1 ∷ []) scales.calm v P
      (load_array 1 (Alu Add 0 1 ∷ []) v1 P (record { memory = k.memory ∙ t.memory; stack = k.stack ∙ t.stack })
      (calm_run Near Cells (Alu Add 0 1 ∷ []) refl v2 P (record { memory = k.memory; stack = k.stack; third = k.third; xmm = k.xmm }, is)))

  -- the address of the element at P >> 16
  pub locate_run : (bits : ℕ) (z : ℤ) (v : Core) → Scales bits → Fits (2 ^ 63) z → At c v → v.gpr 0 ≡ wrap 64 z → Leads (Shift Sar 0 16 ∷ element_code plan bits 0 1) v (λ d. Kept v d × (d.gpr 0 ≡ moved s.base (int_shr z 16 *ℤ pos (2 ^ bits))))
  locate_run bits z v scales fits t h =
      let P : Core → Type 0 = λ d. Kept v d × (d.gpr 0 ≡ moved s.base (int_shr z 16 *ℤ pos (2 ^ bits))) in
      let v1 = after (Shift Sar 0 16 ∷ []) v in
      let floor : v1.gpr 0 ≡ wrap 64 (int_shr z 16) = ap (λ x. sar 64 x 16) h ∙ shifted_of z 16 (omega arith) fits in
      calm_then Near Cells (Shift Sar 0 16 ∷ []) (element_code plan bits 0 1) refl v P
      (run_map Near Cells (element_code plan bits 0 1) v1 (λ d. Kept v1 d × (d.gpr 0 ≡ moved s.base (int_shr z 16 *ℤ pos (2 ^ bits)))) P
      (element_run bits (int_shr z 16) v1 scales (record { memory = t.memory; stack = t.stack }) floor)
      (λ d k. (record { memory = k.0.memory; stack = k.0.stack; third = k.0.third; xmm = k.0.xmm }, k.1)))

  pub kept_at : (v d : Core) → At c v → Kept v d → At c d
  kept_at v d t k = record { memory = k.memory ∙ t.memory; stack = k.stack ∙ t.stack }
