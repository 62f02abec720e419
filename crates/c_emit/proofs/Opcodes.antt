-- Opcodes on sub-lanes: the expressions of sources and results mean what emulation reads and computes.
use Rattle.std.proofs.Common.{◌≡◌, ℕ, zero, suc, ◌*◌, ◌/◌, ◌%◌, ◌^◌, ◌<◌, ◌≤◌, ◌||◌, ◌==◌, ⊎_elim, ◌+◌, if◌then◌else◌, Bool, true, false, List, [], ◌∷◌, Option, Some, None, Result, Ok, refl, sym, ap, ap₂, ◌∙◌, subst, arith, true≢false}
use Rattle.std.specs.Prelude.{slice_get, is_none}
use Rattle.std.proofs.lemmas.Bool.Decides.{nat_tests}
use Rattle.std.proofs.lemmas.Nat.{pow_pos, mod_below, mod-pow-add}
use Rattle.std.proofs.Math.Nat.{mod-eq_of_lt}
use Rattle.orc_ops.specs.declared.opcode.Op.{Op}
use Rattle.orc_ops.specs.declared.opcode.Op.TheVariants as op
use Rattle.orc_ops.specs.declared.stem.Stem.{Stem}
use Rattle.orc_ops.specs.declared.stem.Stem.TheVariants as stem
use Rattle.orc_ops.specs.Stems.{apply}
use Rattle.orc_ops.specs.declared.far.Far.{Far}
use Rattle.orc_ops.specs.Far.{far_of}
use Rattle.orc_ops.specs.Table.{row, wide, to, size_of_result, size_of_source}
use Rattle.orc_ops.specs.Widths.{IsSize}
use Rattle.orc_ops.specs.Formula.{formula, source_of}
use Rattle.orc_ops.proofs.Rows.{row_fits, either}
use Rattle.orc_ops.proofs.Bounds.{formula_below}
use Rattle.orc_program.specs.declared.call.Call.{Call}
use Rattle.orc_program.specs.declared.program.VarKind.{VarKind}
use Rattle.orc_program.specs.declared.program.VarKind.TheVariants as kind
use Rattle.orc_program.specs.Program.{FunctionValue, var_at, count_before, is_array_kind}
use Rattle.orc_program.specs.declared.program.Operand.{Operand}
use Rattle.orc_program.specs.declared.program.Operand.TheVariants as operand
use Rattle.orc_program.specs.declared.program.Insn.{Insn}
use Rattle.orc_program.specs.Meaning.{State, Gap, go_on, sub_lane, read_cell, read_var, read_source, read_sources, param_at, pack, lanewise}
use Rattle.orc_program.proofs.Sizes.{both}
use Rattle.orc_program.proofs.Steps.{go_on_ok, ok_same}
use Rattle.c_run.specs.declared.tree.CExpr.{CExpr}
use Rattle.c_run.specs.declared.tree.CExpr.TheVariants.{Number, V, P}
use Rattle.c_run.specs.Meaning.{CState, Turn}
use Rattle.c_run.proofs.Trees.{value_p}
use Rattle.c_emit.specs.Expressions.{has_sum, is_copy, is_low, sum, from_sum, first, second, fits}
use Rattle.c_emit.specs.Body.{temp_of, first_free, cells, sums_from, sum_at, bits_of_var, bits_of, lane_first, lane_second, lane_low, first_at, second_at, packed, is_whole}
use Rattle.c_emit.proofs.Values.{Scene, Gives, same, number, low_gives, cut_low, part_gives}
use Rattle.c_emit.proofs.StemLaws.{top_64}
use Rattle.c_emit.proofs.StemLaws as law
use Rattle.c_emit.proofs.All.{range_of, sum_value, sum_law, from_sum_law, first_law}
use Rattle.c_emit.proofs.Rows.{widths_fit}
use Rattle.c_emit.proofs.Doing.{scene, v_gives, packed_gives}

size_low : (n : ℕ) → IsSize n → 8 * n ≤ 64
size_low n h = grind (arith, h)

-- ---- an opcode is no far load, or it copies

near_or_copies : (o : Op) → is_copy (row o).stem || is_none (far_of o) ≡ true
near_or_copies op.Absb = refl
near_or_copies o = refl

no_far : (f : Option Far) → is_none f ≡ true → f ≡ None
no_far None h = refl
no_far (Some far) h = absurd (true≢false (sym h))

near_of : (o : Op) → is_copy (row o).stem ≡ false → far_of o ≡ None
near_of o h = no_far (far_of o) (sym (ap (λ c. c || is_none (far_of o)) h) ∙ near_or_copies o)

-- what has a sum copies nothing
sum_near : (s : Stem) → has_sum s ≡ true → is_copy s ≡ false
sum_near stem.Copy h = absurd (true≢false (sym h))
sum_near s h = refl

-- ---- the first result of an opcode, from its sources cut to their sizes

first_copy : {z : Scene} {x : CExpr} {a : ℕ} (y : CExpr) (s : Stem) (w t b : ℕ) → is_copy s ≡ true → Gives z x a → Gives z (first s w t x y) (apply s w t a b).0
first_copy y stem.Copy w t b e p = p
first_copy y s w t b e p = absurd (true≢false (sym e))

first_near : {z : Scene} {x y : CExpr} (o : Op) (a b : ℕ) → far_of o ≡ None → Gives z x (source_of o 0 a) → Gives z y (source_of o 1 b) → Gives z (first (row o).stem (wide o) (to o) x y) (apply (row o).stem (wide o) (to o) (source_of o 0 a) (source_of o 1 b)).0
first_near o a b near p q =
    let r = row_fits o in
    let c = mod_below a (2 ^ wide o) (pow_pos (wide o)) in
    let d = mod_below b (2 ^ (8 * size_of_source o 1)) (pow_pos (8 * size_of_source o 1)) in
    let t = top_64 (8 * size_of_source o 1) (size_low (size_of_source o 1) r.size) in
    first_law (row o).stem (wide o) (to o) (range_of (wide o) r.first) (range_of (to o) r.result) (widths_fit o) p q c (r.second near b) (omega (arith, d, t))

pub formula_first : {z : Scene} {x y : CExpr} (o : Op) (a b : ℕ) → Gives z x (source_of o 0 a) → Gives z y (source_of o 1 b) → Gives z (first (row o).stem (wide o) (to o) x y) (formula o a b).0
unfolding formula
formula_first {z} {x} {y} o a b p q = by (is_copy (row o).stem) refl
  where
    by : (t : Bool) → is_copy (row o).stem ≡ t → Gives z (first (row o).stem (wide o) (to o) x y) (apply (row o).stem (wide o) (to o) (source_of o 0 a) (source_of o 1 b)).0
    by true e = first_copy y (row o).stem (wide o) (to o) (source_of o 1 b) e p
    by false e = first_near o a b (near_of o e) p q

-- the sum of an opcode that has one
abbrev pub sum_of : Op → ℕ → ℕ → ℕ
sum_of o a b = sum_value (row o).stem (wide o) (to o) (source_of o 0 a) (source_of o 1 b)

formula_sum : {z : Scene} {x y : CExpr} (o : Op) (a b : ℕ) → has_sum (row o).stem ≡ true → Gives z x (source_of o 0 a) → Gives z y (source_of o 1 b) → Gives z (sum (row o).stem (wide o) (to o) x y) (sum_of o a b)
formula_sum o a b h p q =
    let r = row_fits o in
    let near = near_of o (sum_near (row o).stem h) in
    let d = mod_below b (2 ^ (8 * size_of_source o 1)) (pow_pos (8 * size_of_source o 1)) in
    let t = top_64 (8 * size_of_source o 1) (size_low (size_of_source o 1) r.size) in
    sum_law (row o).stem (wide o) (to o) (range_of (wide o) r.first) (widths_fit o) h p q (mod_below a (2 ^ wide o) (pow_pos (wide o))) (r.second near b) (omega (arith, d, t))

formula_from : {z : Scene} {e : CExpr} (o : Op) (a b : ℕ) → has_sum (row o).stem ≡ true → Gives z e (sum_of o a b) → Gives z (from_sum (row o).stem (wide o) (to o) e) (formula o a b).0
unfolding formula
formula_from o a b h g =
    let r = row_fits o in
    let near = near_of o (sum_near (row o).stem h) in
    from_sum_law (source_of o 0 a) (source_of o 1 b) (row o).stem (wide o) (to o) (range_of (wide o) r.first) (range_of (to o) r.result) (widths_fit o) h g (mod_below a (2 ^ wide o) (pow_pos (wide o))) (r.second near b)

abbrev is_split : Stem → Bool
is_split stem.Split = true
is_split s = false

splits : (o : Op) → size_of_result o 1 == 0 || is_split (row o).stem ≡ true
splits op.Absb = refl
splits o = refl

has_split : (o : Op) → 0 < size_of_result o 1 → is_split (row o).stem ≡ true
has_split o h = ⊎_elim (λ n. absurd (let i : size_of_result o 1 ≡ 0 = grind (arith, nat_tests, n) in omega (arith, i, h))) (λ s. s) (either (size_of_result o 1 == 0) _ (splits o))

second_of : {z : Scene} {x : CExpr} {a : ℕ} (y : CExpr) (s : Stem) (w t b : ℕ) → is_split s ≡ true → w ≤ 64 → t ≤ 64 → a < 2 ^ w → Gives z x a → Gives z (second s w t x y) (apply s w t a b).1
second_of y stem.Split w t b e l k m p = law.split_second_law y b w t l k p m
second_of y s w t b e l k m p = absurd (let f : ⊥ = cc in f)

-- the second one, of an opcode that has one
pub formula_second : {z : Scene} {x : CExpr} (y : CExpr) (o : Op) (a b : ℕ) → 0 < size_of_result o 1 → Gives z x (source_of o 0 a) → Gives z (second (row o).stem (wide o) (to o) x y) (formula o a b).1
unfolding formula
formula_second {z} {x} y o a b h p =
    let r = row_fits o in
    let u = range_of (wide o) r.first in
    let v = range_of (to o) r.result in
    second_of y (row o).stem (wide o) (to o) (source_of o 1 b) (has_split o h) u.high v.high (mod_below a (2 ^ wide o) (pow_pos (wide o))) p

-- results that are the lowest bits of the source
low_apply : (s : Stem) (w t a b : ℕ) → is_low s ≡ true → fits s w t ≡ true → (t ≤ w) × ((apply s w t (a % 2 ^ w) b).0 ≡ a % 2 ^ t)
low_apply stem.Low w t a b e h = let l : t ≤ w = (let i : t + t ≡ w = grind (arith, nat_tests, h) in omega (arith, i)) in (l, cut_low a t w l)
low_apply s w t a b e h = absurd (let f : ⊥ = cc in f)

split_apply : (s : Stem) (w t a b : ℕ) → is_split s ≡ true → fits s w t ≡ true → (t ≤ w) × ((apply s w t (a % 2 ^ w) b).1 ≡ a % 2 ^ t)
split_apply stem.Split w t a b e h = let l : t ≤ w = (let i : t + t ≡ w = grind (arith, nat_tests, h) in omega (arith, i)) in (l, cut_low a t w l)
split_apply s w t a b e h = absurd (let f : ⊥ = cc in f)

pub first_low : (o : Op) (a b : ℕ) → is_low (row o).stem ≡ true → (to o ≤ wide o) × ((formula o a b).0 ≡ a % 2 ^ to o)
unfolding formula
first_low o a b e = low_apply (row o).stem (wide o) (to o) a (source_of o 1 b) e (widths_fit o)

pub second_low : (o : Op) (a b : ℕ) → 0 < size_of_result o 1 → (to o ≤ wide o) × ((formula o a b).1 ≡ a % 2 ^ to o)
unfolding formula
second_low o a b h = split_apply (row o).stem (wide o) (to o) a (source_of o 1 b) (has_split o h) (widths_fit o)

-- ---- copies

copy_apply : (s : Stem) (w t a b : ℕ) → is_copy s ≡ true → (apply s w t a b).0 ≡ a
copy_apply stem.Copy w t a b e = refl
copy_apply s w t a b e = absurd (true≢false (sym e))

copy_formula : (o : Op) (a b : ℕ) → is_copy (row o).stem ≡ true → (formula o a b).0 ≡ a % 2 ^ wide o
unfolding formula
copy_formula o a b e = copy_apply (row o).stem (wide o) (to o) (source_of o 0 a) (source_of o 1 b) e

-- a copy has one result
copies_one : (o : Op) → is_copy (row o).stem ≡ true → 0 < size_of_result o 1 → ⊥
copies_one o e h = apart (row o).stem e (has_split o h)
  where
    apart : (s : Stem) → is_copy s ≡ true → is_split s ≡ true → ⊥
    apart stem.Copy e h = true≢false (sym h)
    apart s e h = true≢false (sym e)

-- what is copied as a whole
whole_copies : (insn : Insn) → is_whole insn ≡ true → (is_copy (row insn.op).stem ≡ true) × (wide insn.op == to insn.op || insn.prefix == 1 ≡ true)
whole_copies insn h = both (is_copy (row insn.op).stem) (wide insn.op == to insn.op || insn.prefix == 1) h

pub whole_one : (insn : Insn) → is_whole insn ≡ true → 0 < size_of_result insn.op 1 → ⊥
whole_one insn h = copies_one insn.op (whole_copies insn h).0

-- the sub-lanes of a number are the number
pack_whole : (w k v : ℕ) (g : ℕ → ℕ) → ((q : ℕ) → g q ≡ v / 2 ^ (w * q) % 2 ^ w) → pack w k g ≡ v % 2 ^ (w * k)
pack_whole w zero v g h = sym (ap (λ n. v % 2 ^ n) (let e : w * 0 ≡ 0 = omega arith in e) ∙ (omega arith))
pack_whole w (suc k) v g h =
    let r = pack_whole w k v g h in
    let e : w + w * k ≡ w * suc k = grind arith in
    let m = mod-pow-add v w (w * k) in
    ap₂ (λ i j. i + j * 2 ^ (w * k)) r (h k) ∙ (omega (arith, m)) ∙ ap (λ n. v % 2 ^ n) e

-- one sub-lane alone has no place
pack_one : (s t : ℕ) (g : ℕ → ℕ) → pack s 1 g ≡ pack t 1 g
pack_one s t g =
    let a : 2 ^ (s * 0) ≡ 1 = ap (λ n. 2 ^ n) (let q : s * 0 ≡ 0 = omega arith in q) in
    let b : 2 ^ (t * 0) ≡ 1 = ap (λ n. 2 ^ n) (let q : t * 0 ≡ 0 = omega arith in q) in
    ap (λ n. 0 + g 0 * n) (a ∙ sym b)

copy_lanes : (o : Op) (k v : ℕ) (b : ℕ → ℕ) → is_copy (row o).stem ≡ true → wide o == to o || k == 1 ≡ true → v < 2 ^ (8 * (size_of_source o 0 * k)) → (lanewise o k (sub_lane (wide o) v) b).0 ≡ v
copy_lanes o k v b e one h =
    let g : ℕ → ℕ = λ q. (formula o (sub_lane (wide o) v q) (b q)).0 in
    let n : 8 * (size_of_source o 0 * k) ≡ wide o * k = grind arith in
    let places : pack (to o) k g ≡ pack (wide o) k g = ⊎_elim
    (λ c. ap (λ w. pack w k g) (sym (equal (wide o) (to o) c)))
    (λ c. subst (λ k. pack (to o) k g ≡ pack (wide o) k g) (sym (equal k 1 c)) (pack_one (to o) (wide o) g))
    (either (wide o == to o) (k == 1) one) in
    places
    ∙ pack_whole (wide o) k v g (λ q. copy_formula o (sub_lane (wide o) v q) (b q) e ∙ cut_low (v / 2 ^ (wide o * q)) (wide o) (wide o) (omega arith))
    ∙ mod-eq_of_lt (subst (λ i. v < 2 ^ i) n h)
  where
    equal : (m n : ℕ) → (m == n) ≡ true → m ≡ n
    equal m n h = grind (arith, nat_tests, h)

-- all sub-lanes of what is copied as a whole
pub whole_lanes : (insn : Insn) (v : ℕ) (b : ℕ → ℕ) → is_whole insn ≡ true → v < 2 ^ (8 * (size_of_source insn.op 0 * insn.prefix)) → (lanewise insn.op insn.prefix (sub_lane (wide insn.op) v) b).0 ≡ v
whole_lanes insn v b h small = let c = whole_copies insn h in copy_lanes insn.op insn.prefix v b c.0 c.1 small

-- ---- what a source gives to a sub-lane

-- what the state of C has for the variable at place p, whose cell is in variable d
pub record Ready (f : FunctionValue) (call : Call) (r i : ℕ) (s : CState) (e : State) (d p : ℕ) : Type 0 where
  pub cell : is_array_kind (var_at f.vars p).kind ≡ true → (v : ℕ) → read_cell f call r i p e ≡ Ok v → (s.v d ≡ Some v) × (v < 2 ^ (8 * (var_at f.vars p).size))
  pub temp : (var_at f.vars p).kind ≡ kind.Temp → (s.v (temp_of f.vars p) ≡ Some (e.temps p)) × (e.temps p < 2 ^ (8 * (var_at f.vars p).size))
  pub few : (var_at f.vars p).size ≤ 8
  pub param : (var_at f.vars p).kind ≡ kind.Param → (slice_get call.params.items (count_before kind.Param f.vars p) ≡ Some (param_at f call p)) × (param_at f call p < 2 ^ 64)

abbrev okay : (ℕ → ℕ) → Result (ℕ → ℕ) Gap
okay g = Ok g

-- an array's cell, which is in variable d
cell_bits : (f : FunctionValue) (call : Call) (r i : ℕ) (s : CState) (e : State) (w q t d p : ℕ) (g : ℕ → ℕ) → is_array_kind (var_at f.vars p).kind ≡ true → Ready f call r i s e d p → w ≤ 64 → t ≤ w → w * q < 64 → go_on (read_cell f call r i p e) (λ v. okay (sub_lane w v)) ≡ okay g → Gives (scene call (record { row = r; element = i }) s) (bits_of_var f.vars (w * q) t d p kind.Source) (g q % 2 ^ t)
cell_bits f call r i s e w q t d p g n h l b m k =
    let a = go_on_ok (read_cell f call r i p e) (λ v. okay (sub_lane w v)) g k in
    let c = h.cell n a.0 a.1 in
    let is : g q ≡ a.0 / 2 ^ (w * q) % 2 ^ w = sym (ap (λ (g : ℕ → ℕ). g q) (ok_same (sub_lane w a.0) g a.2)) in
    same (g q % 2 ^ t) (part_gives (var_at f.vars p).size (w * q) t h.few (omega (arith, l, b)) m c.1 (v_gives call (record { row = r; element = i }) s d a.0 c.0)) (sym (ap (λ n. n % 2 ^ t) is ∙ cut_low (a.0 / 2 ^ (w * q)) t w b))

-- a variable whose number is cut into sub-lanes
abbrev pub has_lanes : VarKind → Bool
has_lanes kind.Source = true
has_lanes kind.Dest = true
has_lanes kind.Temp = true
has_lanes k = false

-- the lowest t bits of sub-lane q of w bits
pub var_bits : (f : FunctionValue) (call : Call) (r i : ℕ) (s : CState) (e : State) (w q t d p : ℕ) (g : ℕ → ℕ) (k : VarKind) → k ≡ (var_at f.vars p).kind → Ready f call r i s e d p → w ≤ 64 → t ≤ w → (has_lanes k ≡ true → w * q < 64) → read_var f call r i w e p k ≡ okay g → Gives (scene call (record { row = r; element = i }) s) (bits_of_var f.vars (w * q) t d p k) (g q % 2 ^ t)
var_bits f call r i s e w q t d p g kind.Source n h l b m k = cell_bits f call r i s e w q t d p g (sym (ap is_array_kind n)) h l b (m refl) k
var_bits f call r i s e w q t d p g kind.Dest n h l b m k = cell_bits f call r i s e w q t d p g (sym (ap is_array_kind n)) h l b (m refl) k
var_bits f call r i s e w q t d p g kind.Temp n h l b m k =
    let c = h.temp (sym n) in
    let is : g q ≡ e.temps p / 2 ^ (w * q) % 2 ^ w = sym (ap (λ (g : ℕ → ℕ). g q) (ok_same (sub_lane w (e.temps p)) g k)) in
    same (g q % 2 ^ t) (part_gives (var_at f.vars p).size (w * q) t h.few (omega (arith, l, b)) (m refl) c.1 (v_gives call (record { row = r; element = i }) s (temp_of f.vars p) (e.temps p) c.0)) (sym (ap (λ n. n % 2 ^ t) is ∙ cut_low (e.temps p / 2 ^ (w * q)) t w b))
var_bits f call r i s e w q t d p g kind.Param n h l b m k =
    let c = h.param (sym n) in
    let is : g q ≡ param_at f call p = sym (ap (λ (g : ℕ → ℕ). g q) (ok_same (λ q. param_at f call p) g k)) in
    let z : Scene = scene call (record { row = r; element = i }) s in
    let a : Gives z (P (count_before kind.Param f.vars p)) (param_at f call p) = record { is = value_p call (record { row = r; element = i }) s (count_before kind.Param f.vars p) ∙ c.0 } in
    same (g q % 2 ^ t) (low_gives t a c.1 (omega (arith, l, b))) (sym (ap (λ n. n % 2 ^ t) is))
var_bits f call r i s e w q t d p g kind.Const n h l b m k =
    let is : g q ≡ (var_at f.vars p).number = sym (ap (λ (g : ℕ → ℕ). g q) (ok_same (λ q. (var_at f.vars p).number) g k)) in
    same (g q % 2 ^ t) (number (scene call (record { row = r; element = i }) s) ((var_at f.vars p).number % 2 ^ t)) (sym (ap (λ n. n % 2 ^ t) is))
var_bits f call r i s e w q t d p g kind.Accumulator n h l b m k =
    let is : g q ≡ 0 = sym (ap (λ (g : ℕ → ℕ). g q) (ok_same (λ q. 0) g k)) in
    same (g q % 2 ^ t) (number (scene call (record { row = r; element = i }) s) 0) (sym (ap (λ n. n % 2 ^ t) is ∙ mod-eq_of_lt (pow_pos t)))

-- ---- operands

-- what is asked of a source operand of w bits, for sub-lane q
abbrev pub IsReady : FunctionValue → Call → ℕ → ℕ → CState → State → ℕ → ℕ → ℕ → Operand → Type 0
IsReady f call r i s e w q d (operand.Var p) = Ready f call r i s e d p × (has_lanes (var_at f.vars p).kind ≡ true → w * q < 64)
IsReady f call r i s e w q d (operand.Number n) = Unit {0}

pub operand_bits : (f : FunctionValue) (call : Call) (r i : ℕ) (s : CState) (e : State) (w q t d : ℕ) (x : Operand) (g : ℕ → ℕ) → IsReady f call r i s e w q d x → w ≤ 64 → t ≤ w → read_source f call r i w e x ≡ okay g → Gives (scene call (record { row = r; element = i }) s) (bits_of f.vars (w * q) t d x) (g q % 2 ^ t)
operand_bits f call r i s e w q t d (operand.Var p) g h l b k = var_bits f call r i s e w q t d p g (var_at f.vars p).kind refl h.0 l b h.1 k
operand_bits f call r i s e w q t d (operand.Number n) g h l b k =
    let is : g q ≡ n = sym (ap (λ (g : ℕ → ℕ). g q) (ok_same (λ q. n) g k)) in
    same (g q % 2 ^ t) (number (scene call (record { row = r; element = i }) s) (n % 2 ^ t)) (sym (ap (λ n. n % 2 ^ t) is))

abbrev pub both_okay : (ℕ → ℕ) → (ℕ → ℕ) → Result ((ℕ → ℕ) × (ℕ → ℕ)) Gap
both_okay a b = Ok (a, b)

-- what is asked of the sources of an opcode
abbrev pub AreReady : FunctionValue → Call → ℕ → ℕ → CState → State → Op → ℕ → ℕ → List Operand → Type 0
AreReady f call r i s e o q d [] = Unit {0}
AreReady f call r i s e o q d (x ∷ []) = IsReady f call r i s e (8 * size_of_source o 0) q d x
AreReady f call r i s e o q d (x ∷ y ∷ more) = IsReady f call r i s e (8 * size_of_source o 0) q d x × IsReady f call r i s e (8 * size_of_source o 1) q (d + cells f.vars x) y

none_lane : (call : Call) (t : Turn) (s : CState) (w : ℕ) (g : ℕ → ℕ) (q : ℕ) → (λ q. 0) ≡ g → Gives (scene call t s) (Number 0) (g q % 2 ^ w)
none_lane call t s w g q h = same (g q % 2 ^ w) (number (scene call t s) 0) (sym (ap (λ (g : ℕ → ℕ). g q % 2 ^ w) (sym h) ∙ mod-eq_of_lt (pow_pos w)))

-- the two sources of a sub-lane
pub source_lanes : (f : FunctionValue) (call : Call) (r i : ℕ) (s : CState) (e : State) (o : Op) (q d : ℕ) (xs : List Operand) (a b : ℕ → ℕ) → AreReady f call r i s e o q d xs → read_sources f call r i o e xs ≡ both_okay a b
    → Gives (scene call (record { row = r; element = i }) s) (lane_first f.vars o q d xs) (source_of o 0 (a q)) × Gives (scene call (record { row = r; element = i }) s) (lane_second f.vars o q d xs) (source_of o 1 (b q))
source_lanes f call r i s e o q d [] a b h k =
    let p = ok_same ((λ q. 0), (λ q. 0)) (a, b) k in
    let t : Turn = record { row = r; element = i } in
    (none_lane call t s (8 * size_of_source o 0) a q (ap (λ (v : (ℕ → ℕ) × (ℕ → ℕ)). v.0) p), none_lane call t s (8 * size_of_source o 1) b q (ap (λ (v : (ℕ → ℕ) × (ℕ → ℕ)). v.1) p))
source_lanes f call r i s e o q d (x ∷ []) a b h k =
    let c = go_on_ok (read_source f call r i (8 * size_of_source o 0) e x) (λ g. both_okay g (λ q. 0)) (a, b) k in
    let p = ok_same (c.0, (λ q. 0)) (a, b) c.2 in
    let z = range_of (wide o) (row_fits o).first in
    let u = operand_bits f call r i s e (8 * size_of_source o 0) q (8 * size_of_source o 0) d x c.0 h z.high (omega arith) c.1 in
    (same (a q % 2 ^ (8 * size_of_source o 0)) u (ap (λ (v : (ℕ → ℕ) × (ℕ → ℕ)). v.0 q % 2 ^ (8 * size_of_source o 0)) p), none_lane call (record { row = r; element = i }) s (8 * size_of_source o 1) b q (ap (λ (v : (ℕ → ℕ) × (ℕ → ℕ)). v.1) p))
source_lanes f call r i s e o q d (x ∷ y ∷ more) a b h k =
    let c = go_on_ok (read_source f call r i (8 * size_of_source o 0) e x) (λ g. go_on (read_source f call r i (8 * size_of_source o 1) e y) (λ m. both_okay g m)) (a, b) k in
    let n = go_on_ok (read_source f call r i (8 * size_of_source o 1) e y) (λ m. both_okay c.0 m) (a, b) c.2 in
    let p = ok_same (c.0, n.0) (a, b) n.2 in
    let z = range_of (wide o) (row_fits o).first in
    let u = operand_bits f call r i s e (8 * size_of_source o 0) q (8 * size_of_source o 0) d x c.0 h.0 z.high (omega arith) c.1 in
    let v = operand_bits f call r i s e (8 * size_of_source o 1) q (8 * size_of_source o 1) (d + cells f.vars x) y n.0 h.1 (size_low (size_of_source o 1) (row_fits o).size) (omega arith) n.1 in
    (same (a q % 2 ^ (8 * size_of_source o 0)) u (ap (λ (v : (ℕ → ℕ) × (ℕ → ℕ)). v.0 q % 2 ^ (8 * size_of_source o 0)) p), same (b q % 2 ^ (8 * size_of_source o 1)) v (ap (λ (v : (ℕ → ℕ) × (ℕ → ℕ)). v.1 q % 2 ^ (8 * size_of_source o 1)) p))

-- the lowest bits of the first one
pub low_lane : (f : FunctionValue) (call : Call) (r i : ℕ) (s : CState) (e : State) (o : Op) (q d : ℕ) (xs : List Operand) (a b : ℕ → ℕ) → to o ≤ wide o → AreReady f call r i s e o q d xs → read_sources f call r i o e xs ≡ both_okay a b
    → Gives (scene call (record { row = r; element = i }) s) (lane_low f.vars o q d xs) (a q % 2 ^ to o)
low_lane f call r i s e o q d [] a b l h k = none_lane call (record { row = r; element = i }) s (to o) a q (ap (λ (v : (ℕ → ℕ) × (ℕ → ℕ)). v.0) (ok_same ((λ q. 0), (λ q. 0)) (a, b) k))
low_lane f call r i s e o q d (x ∷ []) a b l h k =
    let c = go_on_ok (read_source f call r i (8 * size_of_source o 0) e x) (λ g. both_okay g (λ q. 0)) (a, b) k in
    let p = ok_same (c.0, (λ q. 0)) (a, b) c.2 in
    let z = range_of (wide o) (row_fits o).first in
    same (a q % 2 ^ to o) (operand_bits f call r i s e (8 * size_of_source o 0) q (to o) d x c.0 h z.high l c.1) (ap (λ (v : (ℕ → ℕ) × (ℕ → ℕ)). v.0 q % 2 ^ to o) p)
low_lane f call r i s e o q d (x ∷ y ∷ more) a b l h k =
    let c = go_on_ok (read_source f call r i (8 * size_of_source o 0) e x) (λ g. go_on (read_source f call r i (8 * size_of_source o 1) e y) (λ m. both_okay g m)) (a, b) k in
    let n = go_on_ok (read_source f call r i (8 * size_of_source o 1) e y) (λ m. both_okay c.0 m) (a, b) c.2 in
    let p = ok_same (c.0, n.0) (a, b) n.2 in
    let z = range_of (wide o) (row_fits o).first in
    same (a q % 2 ^ to o) (operand_bits f call r i s e (8 * size_of_source o 0) q (to o) d x c.0 h.0 z.high l c.1) (ap (λ (v : (ℕ → ℕ) × (ℕ → ℕ)). v.0 q % 2 ^ to o) p)

-- ---- results

-- the sum of a sub-lane
pub sum_lane : (f : FunctionValue) (call : Call) (r i : ℕ) (s : CState) (e : State) (insn : Insn) (q : ℕ) (a b : ℕ → ℕ) → has_sum (row insn.op).stem ≡ true → AreReady f call r i s e insn.op q (first_free f.vars) insn.sources.items → read_sources f call r i insn.op e insn.sources.items ≡ both_okay a b
    → Gives (scene call (record { row = r; element = i }) s) (sum_at f.vars insn q) (sum_of insn.op (a q) (b q))
sum_lane f call r i s e insn q a b t h m = let u = source_lanes f call r i s e insn.op q (first_free f.vars) insn.sources.items a b h m in formula_sum insn.op (a q) (b q) t u.0 u.1

-- the variables of the sums have them
abbrev pub AreSummed : FunctionValue → CState → Insn → (ℕ → ℕ) → (ℕ → ℕ) → Type 0
AreSummed f s insn a b = (q : ℕ) → q < insn.prefix → has_sum (row insn.op).stem ≡ true → s.v (sums_from f.vars insn + q) ≡ Some (sum_of insn.op (a q) (b q))

first_lane : (f : FunctionValue) (call : Call) (r i : ℕ) (s : CState) (e : State) (insn : Insn) (q : ℕ) (a b : ℕ → ℕ) → q < insn.prefix → AreSummed f s insn a b → AreReady f call r i s e insn.op q (first_free f.vars) insn.sources.items → read_sources f call r i insn.op e insn.sources.items ≡ both_okay a b
    → Gives (scene call (record { row = r; element = i }) s) (first_at f.vars insn q) (formula insn.op (a q) (b q)).0
first_lane f call r i s e insn q a b l sums h m = by (has_sum (row insn.op).stem) refl
  where
    z : Scene
    z = scene call (record { row = r; element = i }) s

    by_low : (t : Bool) → is_low (row insn.op).stem ≡ t
        → Gives z (if t then lane_low f.vars insn.op q (first_free f.vars) insn.sources.items else first (row insn.op).stem (wide insn.op) (to insn.op) (lane_first f.vars insn.op q (first_free f.vars) insn.sources.items) (lane_second f.vars insn.op q (first_free f.vars) insn.sources.items)) (formula insn.op (a q) (b q)).0
    by_low true t = let c = first_low insn.op (a q) (b q) t in same (formula insn.op (a q) (b q)).0 (low_lane f call r i s e insn.op q (first_free f.vars) insn.sources.items a b c.0 h m) (sym c.1)
    by_low false t = let u = source_lanes f call r i s e insn.op q (first_free f.vars) insn.sources.items a b h m in formula_first insn.op (a q) (b q) u.0 u.1

    by : (t : Bool) → has_sum (row insn.op).stem ≡ t
        → Gives z (if t then from_sum (row insn.op).stem (wide insn.op) (to insn.op) (V (sums_from f.vars insn + q)) else if is_low (row insn.op).stem then lane_low f.vars insn.op q (first_free f.vars) insn.sources.items else first (row insn.op).stem (wide insn.op) (to insn.op) (lane_first f.vars insn.op q (first_free f.vars) insn.sources.items) (lane_second f.vars insn.op q (first_free f.vars) insn.sources.items)) (formula insn.op (a q) (b q)).0
    by true t = formula_from insn.op (a q) (b q) t (v_gives call (record { row = r; element = i }) s (sums_from f.vars insn + q) (sum_of insn.op (a q) (b q)) (sums q l t))
    by false t = by_low (is_low (row insn.op).stem) refl

-- the expression of the first result means the first result of the opcode under its prefix, which is k and one
pub first_result : (f : FunctionValue) (call : Call) (r i : ℕ) (s : CState) (e : State) (insn : Insn) (k : ℕ) (a b : ℕ → ℕ) → insn.prefix ≡ suc k → 0 < size_of_result insn.op 0 → 8 * size_of_result insn.op 0 * suc k ≤ 64 → AreSummed f s insn a b
    → ((q : ℕ) → q ≤ k → AreReady f call r i s e insn.op q (first_free f.vars) insn.sources.items) → read_sources f call r i insn.op e insn.sources.items ≡ both_okay a b
    → Gives (scene call (record { row = r; element = i }) s) (packed (8 * size_of_result insn.op 0) k (first_at f.vars insn)) (lanewise insn.op (suc k) a b).0
first_result f call r i s e insn k a b p z l sums h m =
    packed_gives (8 * size_of_result insn.op 0) k (first_at f.vars insn) (λ q. (formula insn.op (a q) (b q)).0) (omega (arith, z)) l
    (λ q n. first_lane f call r i s e insn q a b (omega (arith, n, p)) sums (h q n) m)
    (λ q. (formula_below insn.op (a q) (b q)).0)

-- and so does that of the second, of an opcode that has one
pub second_result : (f : FunctionValue) (call : Call) (r i : ℕ) (s : CState) (e : State) (insn : Insn) (k : ℕ) (a b : ℕ → ℕ) → insn.prefix ≡ suc k → 0 < size_of_result insn.op 1 → 8 * size_of_result insn.op 1 * suc k ≤ 64
    → ((q : ℕ) → q ≤ k → AreReady f call r i s e insn.op q (first_free f.vars) insn.sources.items) → read_sources f call r i insn.op e insn.sources.items ≡ both_okay a b
    → Gives (scene call (record { row = r; element = i }) s) (packed (8 * size_of_result insn.op 1) k (second_at f.vars insn)) (lanewise insn.op (suc k) a b).1
second_result f call r i s e insn k a b p z l h m =
    packed_gives (8 * size_of_result insn.op 1) k (second_at f.vars insn) (λ q. (formula insn.op (a q) (b q)).1) (omega (arith, z)) l
    (λ q n. let c = second_low insn.op (a q) (b q) z in same (formula insn.op (a q) (b q)).1 (low_lane f call r i s e insn.op q (first_free f.vars) insn.sources.items a b c.0 (h q n) m) (sym c.1))
    (λ q. (formula_below insn.op (a q) (b q)).1)
