-- The code of an offset load takes all its elements at once.
use Rattle.std.proofs.Common.{◌≡◌, ℕ, zero, suc, ◌+◌, ◌*◌, ◌/◌, ◌%◌, ◌^◌, ◌<◌, ◌≤◌, ℤ, pos, ◌+ℤ◌, ◌*ℤ◌, false, List, [], ◌∷◌, ◌++◌, get_or, Result, refl, sym, ap, ◌∙◌, subst, arith, inl, ⊎_elim}
use Rattle.std.proofs.lemmas.Bool.{cases_lt}
use Rattle.std.proofs.lemmas.Nat.{pow_pos}
use Rattle.std.proofs.Math.Nat.{mod-add-div, mod-lt, mul-le-mul_right}
use Rattle.orc_bits.specs.Numbers.{wrap}
use Rattle.orc_bits.specs.Lanes.{lane, from_bytes, byte_of}
use Rattle.orc_bits.specs.Memory.{Memory, read, value}
use Rattle.orc_bits.proofs.Memories.{AreMapped, read_there}
use Rattle.orc_bits.proofs.LaneLaws.{from_byte}
use Rattle.x86_ins.specs.declared.ins.MoveOp.{MoveOp}
use Rattle.x86_ins.specs.declared.ins.MoveOp.TheVariants as move
use Rattle.x86_ins.specs.declared.ins.AluOp.TheVariants.{Add}
use Rattle.x86_ins.specs.declared.ins.ShiftOp.TheVariants.{Shl, Sar}
use Rattle.x86_ins.specs.declared.ins.Ins.{Ins}
use Rattle.x86_ins.specs.declared.ins.Ins.TheVariants.{VecLoad, FromGpr, Load, Alu, Shift}
use Rattle.x86_ins.specs.declared.state.Trap.{Trap}
use Rattle.x86_ins.specs.Vectors.{add_wrap}
use Rattle.x86_ins.specs.Machine.{Core, with_gpr, with_xmm, moved, address, aligned, move_size}
use Rattle.x86_flow.specs.Moves.{away, IsWidth}
use Rattle.x86_flow.proofs.Moves.{each_width}
use Rattle.orc_ops.specs.declared.far.Far.{Far}
use Rattle.orc_ops.specs.Far.{far_size, far_scalars, far_first, scalar}
use Rattle.orc_resample.specs.declared.plan.FarPlan.{FarPlan}
use Rattle.orc_resample.specs.Code.{slot, scalar_at, element_code, start_code, row_code}
use Rattle.orc_resample.specs.Ready.{Source, Ready, AmongCells, cell, element}
use Rattle.orc_resample.proofs.Numbers.{moved_small, scalar_of, sum_of, element_on}
use Rattle.orc_resample.proofs.Bytes.{byte, byte_small, byte_at, digits, digits_same, value_is, read_byte, lane_is}
use Rattle.orc_resample.proofs.Runs.{run_then, run_map, after, calm_then, calm_run, byte_then, pair_then, vector_then}
use Rattle.orc_resample.proofs.Blocks.{Scales, Kept, kept_at, element_run, At, Near, Cells, Leads, load_index, load_p, element_digits}

-- the low bytes of x are those of memory from an address on
pub record IsRow (width : ℕ) (mem : Memory) (a : ℕ) (x : List ℕ) : Type 0 where
  pub bytes : (i : ℕ) → i < width → get_or x i 0 ≡ byte mem (a + i)

pub one_digit : (f : ℕ → ℕ) → ((j : ℕ) → f j < 256) → (i : ℕ) → i < 1 → byte_of 4 (digits 1 f) i ≡ f i
one_digit f h zero l = let q : (f 0 + 256 * 0) / 256 ^ 0 % 256 ≡ f 0 = omega (arith, h 0) in q
one_digit f h (suc i) l = absurd (omega (arith, l))

pub two_digits : (f : ℕ → ℕ) → ((j : ℕ) → f j < 256) → (i : ℕ) → i < 2 → byte_of 4 (digits 2 f) i ≡ f i
two_digits f h zero l = let q : (f 0 + 256 * (f 1 + 256 * 0)) / 256 ^ 0 % 256 ≡ f 0 = omega (arith, h 0) in q
two_digits f h (suc zero) l = let q : (f 0 + 256 * (f 1 + 256 * 0)) / 256 ^ 1 % 256 ≡ f 1 = omega (arith, h 0, h 1) in q
two_digits f h (suc (suc i)) l = absurd (omega (arith, l))

-- ---- bytes of elements that stand side by side

pub positive : (n bits : ℕ) → n ≡ 2 ^ bits → 0 < n
positive n bits e = subst (λ m. 0 < m) (sym e) (pow_pos bits)

pub split : (i n count : ℕ) → 0 < n → i < count * n → (i / n < count) × (i % n < n) × (i / n * n + i % n ≡ i)
split i n count p l =
    let d = mod-add-div i n in
    let m = mod-lt i p in
    let e : i / n * n + i % n ≡ i = omega (arith, d) in
    (⊎_elim (λ h. h) (λ h. let q : count * n ≤ i / n * n = mul-le-mul_right n h in absurd (omega (arith, q, e, l))) (cases_lt (i / n) count), m, e)

pub inside : (j o n count : ℕ) → j < count → o < n → j * n + o < count * n
inside j o n count l m = let p : suc j * n ≤ count * n = mul-le-mul_right n (omega (arith, l)) in omega (arith, p, m)

-- the element so many behind the first
nth : (first j : ℕ) (z : ℤ) → pos (first + j) +ℤ z ≡ (pos first +ℤ z) +ℤ pos j
nth first j z = grind arith

pub cell_on : (far : Far) (s : Source) (j : ℕ) → cell far s.base (pos (s.first + j) +ℤ scalar s.p) ≡ (cell far s.base (pos s.first +ℤ scalar s.p) + j * far_size far) % 2 ^ 64
cell_on far s j = ap (cell far s.base) (nth s.first j (scalar s.p)) ∙ element_on s.base (pos s.first +ℤ scalar s.p) j (far_size far)

module _ (far : Far) (count : ℕ) (plan : FarPlan) (s : Source) (c : Core) (ready : Ready far count plan s c) where
  -- so many bytes from the address in the first scratch register on
  abbrev Rows : ℕ → ℕ → Core → Type 0
  Rows width a v = Leads far count plan s c ready (row_code width 0) v (λ d. At c d × IsRow width c.memory a (d.xmm 0))

  -- what makes them readable
  abbrev Readable : ℕ → ℕ → Type 0
  Readable width a = AreMapped width c.memory a × ((j : ℕ) → j < width → AmongCells far count s ((a + j) % 2 ^ 64))

  row_vector : (op : MoveOp) → ((x : ℕ) (o : Result Core Trap) → aligned op x o ≡ o) → move_size op ≤ 16 → (v : Core) (a : ℕ) → At c v → address v (away 0 0) ≡ a → Readable (move_size op) a
      → Leads far count plan s c ready (VecLoad op 0 (away 0 0) ∷ []) v (λ d. At c d × IsRow (move_size op) c.memory a (d.xmm 0))
  row_vector op free few v a t at ok =
      let bytes = read_there (move_size op) c.memory a ok.0 in
      let bs = bytes.0 in
      let w : Core = with_xmm v 0 (from_bytes (λ j. get_or bs j 0)) in
      let P : Core → Type 0 = λ d. At c d × IsRow (move_size op) c.memory a (d.xmm 0) in
      vector_then (Near far count plan s c ready) (Cells far count plan s c ready) op free 0 0 0 [] v bs P refl (ap (read (move_size op) v.memory) at ∙ ap (λ m. read (move_size op) m a) t.memory ∙ bytes.1)
      (λ j l. subst (λ b. AmongCells far count s ((b + j) % 2 ^ 64)) (sym at) (ok.1 j l))
      (calm_run (Near far count plan s c ready) (Cells far count plan s c ready) [] refl w P
      (record { memory = t.memory; stack = t.stack }, record { bytes = λ i l. from_byte (λ j. get_or bs j 0) i (omega (arith, l, few)) ∙ read_byte (move_size op) c.memory a bs bytes.1 i l }))

  row_one : (v : Core) (a : ℕ) → At c v → address v (away 0 0) ≡ a → Readable 1 a → Rows 1 a v
  row_one v a t at ok =
      let f : ℕ → ℕ = λ j. byte c.memory (a + j) in
      let x = digits 1 f in
      let w : Core = with_gpr v 0 x in
      let P : Core → Type 0 = λ d. At c d × IsRow 1 c.memory a (d.xmm 0) in
      byte_then (Near far count plan s c ready) (Cells far count plan s c ready) 0 0 0 (FromGpr false 0 0 ∷ []) v x P refl (ap (value 1 v.memory) at ∙ ap (λ m. value 1 m a) t.memory ∙ value_is 1 c.memory a ok.0)
      (λ j l. subst (λ b. AmongCells far count s ((b + j) % 2 ^ 64)) (sym at) (ok.1 j l))
      (calm_run (Near far count plan s c ready) (Cells far count plan s c ready) (FromGpr false 0 0 ∷ []) refl w P
      (record { memory = t.memory; stack = t.stack }, record { bytes = λ i l. from_byte (byte_of 4 x) i (omega (arith, l)) ∙ one_digit f (λ j. byte_small c.memory ready.bounded.memory (a + j)) i l }))

  row_two : (v : Core) (a : ℕ) → At c v → address v (away 0 0) ≡ a → Readable 2 a → Rows 2 a v
  row_two v a t at ok =
      let f : ℕ → ℕ = λ j. byte c.memory (a + j) in
      let x = digits 2 f in
      let w : Core = with_gpr v 0 x in
      let P : Core → Type 0 = λ d. At c d × IsRow 2 c.memory a (d.xmm 0) in
      pair_then (Near far count plan s c ready) (Cells far count plan s c ready) 0 0 0 (FromGpr false 0 0 ∷ []) v x P refl (ap (value 2 v.memory) at ∙ ap (λ m. value 2 m a) t.memory ∙ value_is 2 c.memory a ok.0)
      (λ j l. subst (λ b. AmongCells far count s ((b + j) % 2 ^ 64)) (sym at) (ok.1 j l))
      (calm_run (Near far count plan s c ready) (Cells far count plan s c ready) (FromGpr false 0 0 ∷ []) refl w P
      (record { memory = t.memory; stack = t.stack }, record { bytes = λ i l. from_byte (byte_of 4 x) i (omega (arith, l)) ∙ two_digits f (λ j. byte_small c.memory ready.bounded.memory (a + j)) i l }))

  row_run : (width : ℕ) → IsWidth width → (v : Core) (a : ℕ) → At c v → address v (away 0 0) ≡ a → Readable width a → Rows width a v
  row_run width is v a t at =
      each_width (λ n. Readable n a → Rows n a v) (row_one v a t at) (row_two v a t at) (row_vector move.Movd (λ x o. refl) (omega arith) v a t at) (row_vector move.Movq (λ x o. refl) (omega arith) v a t at) (row_vector move.Movdqu (λ x o. refl) (omega arith) v a t at) width is

  -- the address of the first element
  start_run : (bits : ℕ) (v : Core) → Scales bits → 0 < far_scalars far → At c v → Leads far count plan s c ready (start_code plan bits 0 1) v (λ d. At c d × (d.gpr 0 ≡ moved s.base ((pos s.first +ℤ scalar s.p) *ℤ pos (2 ^ bits))))
  start_run bits v scales one t =
      let z : ℤ = pos s.first +ℤ scalar s.p in
      let P : Core → Type 0 = λ d. At c d × (d.gpr 0 ≡ moved s.base (z *ℤ pos (2 ^ bits))) in
      let sums : List Ins = Shift Shl 1 32 ∷ Shift Sar 1 32 ∷ Alu Add 0 1 ∷ [] in
      let v1 : Core = with_gpr v 0 s.first in
      let v2 : Core = with_gpr v1 1 s.p in
      let v3 = after sums v2 in
      let t3 : At c v3 = record { memory = t.memory; stack = t.stack } in
      let is : v3.gpr 0 ≡ wrap 64 z = ap (add_wrap 64 s.first) (scalar_of s.p) ∙ sum_of s.first (scalar s.p) in
      load_index far count plan s c ready 0 (Load 1 (slot (scalar_at plan 0)) ∷ (sums ++ element_code plan bits 0 1)) v P t
      (load_p far count plan s c ready 1 (sums ++ element_code plan bits 0 1) v1 P one (record { memory = t.memory; stack = t.stack })
      (calm_then (Near far count plan s c ready) (Cells far count plan s c ready) sums (element_code plan bits 0 1) refl v2 P
      (run_map (Near far count plan s c ready) (Cells far count plan s c ready) (element_code plan bits 0 1) v3 (λ d. Kept v3 d × (d.gpr 0 ≡ moved s.base (z *ℤ pos (2 ^ bits)))) P (element_run far count plan s c ready bits z v3 scales t3 is)
      (λ d k. (kept_at far count plan s c ready v3 d t3 k.0, k.1)))))

  pub offset_run : (bits : ℕ) (v : Core) → Scales bits → far_size far ≡ 2 ^ bits → 0 < far_scalars far → ((i : ℕ) → far_first far i s.p s.q ≡ pos i +ℤ scalar s.p) → IsWidth (count * far_size far) → At c v
      → Leads far count plan s c ready (start_code plan bits 0 1 ++ row_code (count * far_size far) 0) v
      (λ d. At c d × ((j : ℕ) → j < count → lane (far_size far) j (d.xmm 0) ≡ element far c.memory s.base (far_first far (s.first + j) s.p s.q)))
  offset_run bits v scales size one firsts is t =
      let n = far_size far in
      let z : ℤ = pos s.first +ℤ scalar s.p in
      let a = cell far s.base z in
      let is_read : (j o : ℕ) → j < count → o < n → AmongCells far count s ((cell far s.base (pos (s.first + j) +ℤ scalar s.p) + o) % 2 ^ 64) =
      λ j o l m. (j, l, (pos (s.first + j) +ℤ scalar s.p, inl (sym (firsts (s.first + j))), (o, m, refl))) in
      let among : (i : ℕ) → i < count * n → AmongCells far count s ((a + i) % 2 ^ 64) =
      λ i l.
      let d = split i n count (positive n bits size) l in
      subst (AmongCells far count s) (ap (λ b. (b + i % n) % 2 ^ 64) (cell_on far s (i / n)) ∙ (let q : ((a + i / n * n) % 2 ^ 64 + i % n) % 2 ^ 64 ≡ (a + i) % 2 ^ 64 = omega (arith, d.2) in q)) (is_read (i / n) (i % n) d.0 d.1) in
      let ok : Readable (count * n) a = (λ j l. ready.mapped ((a + j) % 2 ^ 64) (among j l), among) in
      run_then (Near far count plan s c ready) (Cells far count plan s c ready) (start_code plan bits 0 1) (row_code (count * n) 0) v (λ d. At c d × (d.gpr 0 ≡ moved s.base (z *ℤ pos (2 ^ bits)))) _ (start_run bits v scales one t)
      (λ d h.
      let here : d.gpr 0 ≡ a = h.1 ∙ ap (λ m. moved s.base (z *ℤ pos m)) (sym size) in
      let l : d.gpr 0 < 2 ^ 64 = subst (λ m. m < 2 ^ 64) (sym here) (moved_small s.base (z *ℤ pos n)) in
      let at : address d (away 0 0) ≡ a = (let q : (d.gpr 0 + 0) % 2 ^ 64 ≡ d.gpr 0 = omega (arith, l) in q) ∙ here in
      run_map (Near far count plan s c ready) (Cells far count plan s c ready) (row_code (count * n) 0) d (λ e. At c e × IsRow (count * n) c.memory a (e.xmm 0)) _ (row_run (count * n) is d a h.0 at ok)
      (λ e g. (
        g.0,
        λ j l.
            lane_is n j (e.xmm 0)
            ∙ digits_same n (λ o. get_or (e.xmm 0) (j * n + o) 0) (λ o. byte c.memory (cell far s.base (pos (s.first + j) +ℤ scalar s.p) + o))
            (λ o m. g.1.bytes (j * n + o) (inside j o n count l m) ∙ ap (byte c.memory) (let q : a + (j * n + o) ≡ a + j * n + o = omega arith in q) ∙ sym (byte_at c.memory (a + j * n) o) ∙ ap (λ b. byte c.memory (b + o)) (sym (cell_on far s j)))
            ∙ sym (element_digits far count plan s c ready (pos (s.first + j) +ℤ scalar s.p) (λ x i. (j, l, (pos (s.first + j) +ℤ scalar s.p, inl (sym (firsts (s.first + j))), i))))
            ∙ ap (element far c.memory s.base) (sym (firsts (s.first + j))),
      )))
