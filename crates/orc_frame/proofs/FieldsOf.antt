-- What a function's layout says of patterns and running sums.
use Rattle.std.proofs.Common.{◌≡◌, ℕ, ◌*◌, ◌<◌, List, length, get_or, slice_index_or, pos, ℤ, ◌^◌, sym, ap, ◌∙◌, subst, arith}
use Rattle.std.specs.Prelude.{◌+ℤ◌, ◌*ℤ◌}
use Rattle.std.specs.List.{range_with_len}
use Rattle.std.proofs.lemmas.List.FromFn.{length-range_with_len, get_or-map-range_with_len}
use Rattle.std.proofs.lemmas.List.{length-map}
use Rattle.orc_frame.specs.declared.frame.Layout.{Layout}
use Rattle.orc_frame.specs.Layout.{displacements, frame_size, pattern_slot, sum_slot, row_slot, block_slot, rows_slot, left_slot, index_slot, work_slot, spill_slots, spill_slot, layout_of}
use Rattle.orc_frame.specs.Frame.{IsLayout}
use Rattle.orc_frame.proofs.Facts.{facts}
use Rattle.std.proofs.Math.Facts.{to_z_pos, Fits-of_lt}
use Rattle.std.proofs.Common.{to_z, of_z, w32, w64, Fits}

long : (slot : ℕ → ℕ) (n : ℕ) → length (displacements slot n) ≡ n
long slot n = length-map (range_with_len 0 n) (λ k. pos (slot k)) ∙ length-range_with_len 0 n

there : (slot : ℕ → ℕ) (n k : ℕ) (d : ℤ) → k < n → get_or (displacements slot n) k d ≡ pos (slot k)
there slot n k d l = get_or-map-range_with_len (λ j. pos (slot j)) 0 n k k d l (omega arith)

-- a number that a layout holds is read as it is
read : (n : ℕ) (z : ℤ) → n < frame_size → z ≡ pos n → to_z w32 (of_z w32 z) ≡ pos n
read n z l e = ap (λ x. to_z w32 (of_z w32 x)) e ∙ to_z_pos w32 (let h : n < 2 ^ 31 = omega (arith, l) in h)

pub pattern_there : (l : Layout) (xs : List ℤ) (k : ℕ) → xs ≡ l.pattern_at.items → IsLayout l → k < length l.patterns.items → k < length xs
unfolding layout_of
pattern_there l xs k e h lk = subst (λ (ys : List ℤ). k < length ys) (sym e) (subst (λ (y : Layout). k < length y.patterns.items → k < length y.pattern_at.items) (sym h.2) (λ lk. omega (arith, lk, long pattern_slot (length (layout_of h.0).patterns.items))) lk)

pub pattern_is : (l : Layout) (xs : List ℤ) (k : ℕ) → xs ≡ l.pattern_at.items → IsLayout l → k < length l.patterns.items → to_z w32 (of_z w32 (slice_index_or xs k (pos 0))) ≡ pos (pattern_slot k)
unfolding layout_of
pattern_is l xs k e h lk =
    let few = (facts l h).few_patterns in
    read (pattern_slot k) (slice_index_or xs k (pos 0)) (omega (arith, lk, few))
    (ap (λ (ys : List ℤ). slice_index_or ys k (pos 0)) e
    ∙ subst (λ (y : Layout). k < length y.patterns.items → slice_index_or y.pattern_at.items k (pos 0) ≡ pos (pattern_slot k)) (sym h.2) (λ lk. there pattern_slot (length (layout_of h.0).patterns.items) k (pos 0) lk) lk)

pub sum_there : (l : Layout) (xs : List ℤ) (k : ℕ) → xs ≡ l.sum_at.items → IsLayout l → k < length l.acc_sizes.items → k < length xs
unfolding layout_of
sum_there l xs k e h lk = subst (λ (ys : List ℤ). k < length ys) (sym e) (subst (λ (y : Layout). k < length y.acc_sizes.items → k < length y.sum_at.items) (sym h.2) (λ lk. omega (arith, lk, long sum_slot (length (layout_of h.0).acc_sizes.items))) lk)

pub sum_is : (l : Layout) (xs : List ℤ) (k : ℕ) → xs ≡ l.sum_at.items → IsLayout l → k < length l.acc_sizes.items → to_z w32 (of_z w32 (slice_index_or xs k (pos 0))) ≡ pos (sum_slot k)
unfolding layout_of
sum_is l xs k e h lk =
    let few = (facts l h).few_sums in
    read (sum_slot k) (slice_index_or xs k (pos 0)) (omega (arith, lk, few))
    (ap (λ (ys : List ℤ). slice_index_or ys k (pos 0)) e
    ∙ subst (λ (y : Layout). k < length y.acc_sizes.items → slice_index_or y.sum_at.items k (pos 0) ≡ pos (sum_slot k)) (sym h.2) (λ lk. there sum_slot (length (layout_of h.0).acc_sizes.items) k (pos 0) lk) lk)

pub pattern_near : (l : Layout) (k : ℕ) → IsLayout l → k < length l.patterns.items → Fits w64 (k * 4)
pattern_near l k h lk = let few = (facts l h).few_patterns in Fits-of_lt {w = w64} (let n : k * 4 < 2 ^ 64 = omega (arith, lk, few) in n)

pub sum_near : (l : Layout) (k : ℕ) → IsLayout l → k < length l.acc_sizes.items → Fits w64 (k * 4)
sum_near l k h lk = let few = (facts l h).few_sums in Fits-of_lt {w = w64} (let n : k * 4 < 2 ^ 64 = omega (arith, lk, few) in n)

pub row_is : (l : Layout) (k : ℕ) → IsLayout l → k < 12 → to_z w32 (of_z w32 (slice_index_or l.row_at k (pos 0))) ≡ pos (row_slot k)
unfolding layout_of
row_is l k h lk =
    read (row_slot k) (slice_index_or l.row_at k (pos 0)) (omega (arith, lk))
    (subst (λ (y : Layout). slice_index_or y.row_at k (pos 0) ≡ pos (row_slot k)) (sym h.2) (there row_slot 12 k (pos 0) lk))

pub block_is : (l : Layout) → IsLayout l → to_z w32 (of_z w32 l.block_at) ≡ pos block_slot
unfolding layout_of
block_is l h = read block_slot l.block_at (omega arith) (ap (λ (y : Layout). y.block_at) h.2)

pub rows_is : (l : Layout) → IsLayout l → to_z w32 (of_z w32 l.rows_at) ≡ pos rows_slot
unfolding layout_of
rows_is l h = read rows_slot l.rows_at (omega arith) (ap (λ (y : Layout). y.rows_at) h.2)

pub left_is : (l : Layout) → IsLayout l → to_z w32 (of_z w32 l.left_at) ≡ pos left_slot
unfolding layout_of
left_is l h = read left_slot l.left_at (omega arith) (ap (λ (y : Layout). y.left_at) h.2)

pub index_is : (l : Layout) → IsLayout l → to_z w32 (of_z w32 l.index_at) ≡ pos index_slot
unfolding layout_of
index_is l h = read index_slot l.index_at (omega arith) (ap (λ (y : Layout). y.index_at) h.2)

pub work_is : (l : Layout) → IsLayout l → to_z w32 (of_z w32 l.work_at) ≡ pos work_slot
unfolding layout_of
work_is l h = read work_slot l.work_at (omega arith) (ap (λ (y : Layout). y.work_at) h.2)

pub spill_is : (l : Layout) → IsLayout l → to_z w32 (of_z w32 l.spill_at) ≡ pos (spill_slot 0)
unfolding layout_of
spill_is l h = read (spill_slot 0) l.spill_at (omega arith) (ap (λ (y : Layout). y.spill_at) h.2)

pub spill_total : (l : Layout) (k : ℕ) → IsLayout l → k < spill_slots → to_z w32 (of_z w32 l.spill_at) +ℤ to_z w32 (of_z w32 (pos 16 *ℤ to_z w32 k)) ≡ pos (spill_slot k)
spill_total l k h lk =
    let far : to_z w32 (of_z w32 (pos 16 *ℤ to_z w32 k)) ≡ pos (16 * k) =
    ap (λ z. to_z w32 (of_z w32 (pos 16 *ℤ z))) (to_z_pos w32 (let n : k < 2 ^ 31 = omega (arith, lk) in n)) ∙ to_z_pos w32 (let n : 16 * k < 2 ^ 31 = omega (arith, lk) in n) in
    ap (λ z. z +ℤ to_z w32 (of_z w32 (pos 16 *ℤ to_z w32 k))) (spill_is l h) ∙ ap (λ z. pos (spill_slot 0) +ℤ z) far
