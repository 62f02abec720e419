-- An offset load inside a turn takes all its elements at once.
use Rattle.std.proofs.Common.{◌≡◌, ℕ, ◌+◌, ◌-◌, ◌*◌, ◌/◌, ◌%◌, ◌^◌, ◌<◌, ℤ, pos, negsuc, ◌+ℤ◌, ◌*ℤ◌, true, List, [], ◌∷◌, ◌++◌, get_or, refl, sym, ap, ◌∙◌, subst, arith, inl, inr}
use Rattle.orc_bits.specs.Numbers.{wrap}
use Rattle.orc_bits.specs.Lanes.{lane}
use Rattle.orc_bits.specs.Memory.{Memory}
use Rattle.orc_bits.proofs.LaneLaws.{change_other}
use Rattle.x86_ins.specs.declared.ins.AluOp.TheVariants.{Add}
use Rattle.x86_ins.specs.declared.ins.ShiftOp.TheVariants.{Shl, Sar}
use Rattle.x86_ins.specs.declared.ins.Ins.{Ins}
use Rattle.x86_ins.specs.declared.ins.Ins.TheVariants.{Alu, Shift}
use Rattle.x86_ins.specs.Spelling.{IsIns}
use Rattle.x86_ins.specs.Way.{Each}
use Rattle.x86_ins.specs.Vectors.{shl, sar, add_wrap}
use Rattle.x86_ins.specs.Machine.{Core, with_gpr, moved}
use Rattle.x86_flow.specs.Does.{Line}
use Rattle.x86_flow.specs.Moves.{IsWidth}
use Rattle.x86_flow.proofs.Moves.{each_width}
use Rattle.orc_ops.specs.declared.far.Far.{Far}
use Rattle.orc_ops.specs.declared.far.Far.TheVariants.{Loadoffb, Loadoffw, Loadoffl}
use Rattle.orc_ops.specs.Far.{far_size, far_scalars, far_first, scalar}
use Rattle.orc_resample.specs.declared.turn.FarSource.{FarSource}
use Rattle.orc_resample.specs.Code.{bytes_code, shifted_code, beside_code}
use Rattle.orc_resample.specs.Ready.{Source, cell, element, some_or_zero, value_at}
use Rattle.orc_resample.specs.Bring.{pattern_at, IsFarSource, AtHand, Brought, OnTurn}
use Rattle.orc_resample.proofs.Numbers.{moved_is, sum_of, scaled_of, scalar_of, twice_of, four_times_of}
use Rattle.orc_resample.proofs.Bytes.{byte, byte_at, digits, digits_same, value_is, lane_is}
use Rattle.orc_resample.proofs.Rows.{IsRow, positive, split, inside, cell_on}
use Rattle.orc_resample.proofs.Touched.{agree_append, bytes_agree}
use Rattle.orc_resample.proofs.Runs.{after, run_map, calm_then, slot_then}
use Rattle.orc_resample.proofs.Quiet.{all_quiet, quiet_append, Own, Cells, Leads, Ends, ended, Readable, Took, bytes_run}

module _ (count bits : ℕ) (source : FarSource) (is : IsFarSource source) (s : Source) (c : Core) (at : AtHand count source s c) where
  -- the first element that is read
  abbrev pub start : ℤ
  start = pos s.first +ℤ scalar s.p

  -- what stands behind the load of the scalar
  abbrev pub shifts : List Ins
  shifts = Shift Shl 0 32 ∷ Shift Sar 0 (32 - bits) ∷ Alu Add 0 source.pointer ∷ []

  abbrev loaded : Core
  loaded = with_gpr c 0 s.p

  pointed : (after shifts loaded).gpr 0 ≡ add_wrap 64 (sar 64 (shl 64 s.p 32) (32 - bits)) (c.gpr source.pointer)
  pointed =
      let ne = is.pointer.0 in
      let u = after (Shift Shl 0 32 ∷ []) loaded in
      ap (add_wrap 64 (sar 64 (shl 64 s.p 32) (32 - bits)))
      (change_other u.gpr 0 (sar 64 (shl 64 s.p 32) (32 - bits)) source.pointer ne ∙ change_other loaded.gpr 0 (shl 64 s.p 32) source.pointer ne ∙ change_other c.gpr 0 s.p source.pointer ne)

  three : (t x z : ℕ) → ((t + x) % 2 ^ 64 + z) % 2 ^ 64 ≡ (t + (x + z) % 2 ^ 64) % 2 ^ 64
  three t x z = omega arith

  pub reads_at : sar 64 (shl 64 s.p 32) (32 - bits) ≡ wrap 64 (scalar s.p) * 2 ^ bits % 2 ^ 64 → far_size source.far ≡ 2 ^ bits
      → ((w first base : ℕ) → (w * 2 ^ bits % 2 ^ 64 + (base + first * 2 ^ bits) % 2 ^ 64) % 2 ^ 64 ≡ ((first + w) % 2 ^ 64 * 2 ^ bits % 2 ^ 64 + base) % 2 ^ 64)
      → moved ((after shifts loaded).gpr 0) source.ahead ≡ cell source.far s.base start
  reads_at scaled size sums =
      let w = wrap 64 (scalar s.p) in
      let t = w * 2 ^ bits % 2 ^ 64 in
      let x = c.gpr source.pointer in
      let front : (x + wrap 64 source.ahead) % 2 ^ 64 ≡ (s.base + s.first * 2 ^ bits) % 2 ^ 64 = sym (moved_is x source.ahead) ∙ at.pointer ∙ ap (λ n. (s.base + s.first * n) % 2 ^ 64) size in
      ap (λ g. moved g source.ahead) pointed ∙ moved_is (add_wrap 64 (sar 64 (shl 64 s.p 32) (32 - bits)) x) source.ahead
      ∙ ap (λ g. ((g + x) % 2 ^ 64 + wrap 64 source.ahead) % 2 ^ 64) scaled ∙ three t x (wrap 64 source.ahead) ∙ ap (λ a. (t + a) % 2 ^ 64) front ∙ sums w s.first s.base
      ∙ ap (λ k. (k * 2 ^ bits % 2 ^ 64 + s.base) % 2 ^ 64) (sum_of s.first (scalar s.p)) ∙ scaled_of start s.base (2 ^ bits) ∙ ap (λ n. moved s.base (start *ℤ pos n)) (sym size)

-- ---- which far loads are offset loads

-- the far load reads element i plus the offset, of 2 ^ bits bytes, and that is its value
pub record IsOffset (bits : ℕ) (far : Far) : Type 0 where
  pub size : far_size far ≡ 2 ^ bits
  pub scalars : 0 < far_scalars far
  pub first : (i p q : ℕ) → far_first far i p q ≡ pos i +ℤ scalar p
  pub value : (s : Source) (mem : Memory) (i : ℕ) → value_at far s mem i ≡ element far mem s.base (pos i +ℤ scalar s.p)

pub offset_b : IsOffset 0 Loadoffb
offset_b = record { size = refl; scalars = omega arith; first = λ i p q. refl; value = λ s mem i. refl }

pub offset_w : IsOffset 1 Loadoffw
offset_w = record { size = refl; scalars = omega arith; first = λ i p q. refl; value = λ s mem i. refl }

pub offset_l : IsOffset 2 Loadoffl
offset_l = record { size = refl; scalars = omega arith; first = λ i p q. refl; value = λ s mem i. refl }

-- what the shift by 32 - bits gives, and how numbers are scaled
pub record IsScaled (bits : ℕ) : Type 0 where
  pub scaled : (v : ℕ) → sar 64 (shl 64 v 32) (32 - bits) ≡ wrap 64 (scalar v) * 2 ^ bits % 2 ^ 64
  pub sums : (w first base : ℕ) → (w * 2 ^ bits % 2 ^ 64 + (base + first * 2 ^ bits) % 2 ^ 64) % 2 ^ 64 ≡ ((first + w) % 2 ^ 64 * 2 ^ bits % 2 ^ 64 + base) % 2 ^ 64

once_of : (v : ℕ) → sar 64 (shl 64 v 32) 32 ≡ wrap 64 (scalar v) * 2 ^ 0 % 2 ^ 64
once_of v = scalar_of v ∙ go (scalar v)
  where
    go : (z : ℤ) → wrap 64 z ≡ wrap 64 z * 2 ^ 0 % 2 ^ 64
    go (pos n) = omega arith
    go (negsuc n) = omega arith

sums_0 : (w first base : ℕ) → (w * 2 ^ 0 % 2 ^ 64 + (base + first * 2 ^ 0) % 2 ^ 64) % 2 ^ 64 ≡ ((first + w) % 2 ^ 64 * 2 ^ 0 % 2 ^ 64 + base) % 2 ^ 64
sums_0 w first base = omega arith

sums_1 : (w first base : ℕ) → (w * 2 ^ 1 % 2 ^ 64 + (base + first * 2 ^ 1) % 2 ^ 64) % 2 ^ 64 ≡ ((first + w) % 2 ^ 64 * 2 ^ 1 % 2 ^ 64 + base) % 2 ^ 64
sums_1 w first base = omega arith

sums_2 : (w first base : ℕ) → (w * 2 ^ 2 % 2 ^ 64 + (base + first * 2 ^ 2) % 2 ^ 64) % 2 ^ 64 ≡ ((first + w) % 2 ^ 64 * 2 ^ 2 % 2 ^ 64 + base) % 2 ^ 64
sums_2 w first base = omega arith

pub scaled_b : IsScaled 0
scaled_b = record { scaled = once_of; sums = sums_0 }

pub scaled_w : IsScaled 1
scaled_w = record { scaled = twice_of; sums = sums_1 }

pub scaled_l : IsScaled 2
scaled_l = record { scaled = four_times_of; sums = sums_2 }

-- ---- from a state with all at hand to the values

bytes_quiet : (width : ℕ) (z : ℤ) → IsWidth width → all_quiet (bytes_code width 0 0 z) ≡ true
bytes_quiet width z is = each_width (λ w. all_quiet (bytes_code w 0 0 z) ≡ true) refl refl refl refl refl width is

module _ (bits width count : ℕ) (source : FarSource) (is : IsFarSource source) (offset : IsOffset bits source.far) (scaled : IsScaled bits) (all : width ≡ count * far_size source.far) (can : IsWidth width) (s : Source) (c : Core) (at : AtHand count source s c) where
  abbrev Ended : Core → Type 0
  Ended = Ends count source s c

  abbrev n : ℕ
  n = far_size source.far

  -- the address of the first element that is read
  abbrev first_at : ℕ
  first_at = cell source.far s.base (pos s.first +ℤ scalar s.p)

  is_read : (j o : ℕ) → j < count → o < n → Cells count source s c ((cell source.far s.base (pos (s.first + j) +ℤ scalar s.p) + o) % 2 ^ 64)
  is_read j o l m = (j, l, (pos (s.first + j) +ℤ scalar s.p, inl (sym (offset.first (s.first + j) s.p s.q)), (o, m, refl)))

  among : (i : ℕ) → i < width → Cells count source s c ((first_at + i) % 2 ^ 64)
  among i l =
      let d = split i n count (positive n bits offset.size) (subst (λ w. i < w) all l) in
      subst (Cells count source s c) (ap (λ b. (b + i % n) % 2 ^ 64) (cell_on source.far s (i / n)) ∙ (let q : ((first_at + i / n * n) % 2 ^ 64 + i % n) % 2 ^ 64 ≡ (first_at + i) % 2 ^ 64 = omega (arith, d.2) in q)) (is_read (i / n) (i % n) d.0 d.1)

  readable : Readable (Own count source s c) (Cells count source s c) c.memory at.bounded.memory width first_at
  readable = (λ j l. at.mapped ((first_at + j) % 2 ^ 64) (among j l), among)

  element_is : (j : ℕ) → j < count → element source.far c.memory s.base (pos (s.first + j) +ℤ scalar s.p) ≡ digits n (λ o. byte c.memory (cell source.far s.base (pos (s.first + j) +ℤ scalar s.p) + o))
  element_is j l =
      let a = cell source.far s.base (pos (s.first + j) +ℤ scalar s.p) in
      ap some_or_zero (value_is n c.memory a (λ o m. at.mapped ((a + o) % 2 ^ 64) (is_read j o l m)))

  valued : (x : List ℕ) → IsRow width c.memory first_at x → (j : ℕ) → j < count → lane n j x ≡ value_at source.far s c.memory (s.first + j)
  valued x row j l =
      lane_is n j x
      ∙ digits_same n (λ o. get_or x (j * n + o) 0) (λ o. byte c.memory (cell source.far s.base (pos (s.first + j) +ℤ scalar s.p) + o))
      (λ o m. row.bytes (j * n + o) (subst (λ w. j * n + o < w) (sym all) (inside j o n count l m)) ∙ ap (byte c.memory) (let q : first_at + (j * n + o) ≡ first_at + j * n + o = omega arith in q) ∙ sym (byte_at c.memory (first_at + j * n) o)
      ∙ ap (λ b. byte c.memory (b + o)) (sym (cell_on source.far s j)))
      ∙ sym (element_is j l) ∙ sym (offset.value s c.memory (s.first + j))

  run : Leads count source s c (beside_code source bits width) c Ended
  run =
      let near = Own count source s c in
      let cells = Cells count source s c in
      let list = bytes_code width 0 0 source.ahead in
      let v = after (shifts count bits source is s c at) (with_gpr c 0 s.p) in
      slot_then near cells 0 (pattern_at source 0) (shifts count bits source is s c at ++ list) c s.p Ended (at.first_scalar offset.scalars) (λ y w. inr (pattern_at source 0, inr (inr (0, offset.scalars, refl)), w))
      (calm_then near cells (shifts count bits source is s c at) list refl (with_gpr c 0 s.p) Ended
      (run_map near cells list v (λ d. Took 0 0 v d × IsRow width c.memory first_at (d.xmm 0)) Ended
      (bytes_run near cells c.memory at.bounded.memory 0 0 source.ahead v first_at refl (reads_at count bits source is s c at (scaled.scaled s.p) offset.size scaled.sums) width can readable)
      (λ d h. record { values = valued (d.xmm 0) h.1; block = h.0.gpr 7 (λ e. omega (arith, e)) })))

  pub beside_brought : Each IsIns (beside_code source bits width) → (d : Core) × Line (OnTurn count source s c) (beside_code source bits width) c d × Brought count source s c d
  beside_brought ranges =
      let list = bytes_code width 0 0 source.ahead in
      ended count source s c at.bounded (beside_code source bits width) (quiet_append (shifted_code source bits) list refl (bytes_quiet width source.ahead can)) (agree_append (shifted_code source bits) list refl (bytes_agree width 0 0 source.ahead can)) ranges run
