-- Where a function's numbers lie in the frame, the 2,048 bytes above RSP while its code runs.
use Rattle.std.specs.Prelude.{ℕ, ◌+◌, ◌-◌, ◌*◌, ◌==◌, ℤ, pos, ◌+ℤ◌, ◌≤ℤ◌, List, [], ◌∷◌, ◌++◌, length, map, if◌then◌else◌}
use Rattle.std.specs.List.{range_with_len}
use Rattle.orc_program.specs.declared.program.Var.{Var}
use Rattle.orc_program.specs.declared.program.VarKind.TheVariants as kind
use Rattle.orc_program.specs.Program.{FunctionValue, var_at, places_of}
use Rattle.orc_program.specs.Checks.{patterns_of}
use Rattle.orc_program.specs.Facts.{facts_of}
use Rattle.orc_program.specs.Need.{places, registers}
use Rattle.orc_frame.specs.declared.frame.Layout.{Layout}

-- ---- displacements from RSP

-- the bytes of the frame
abbrev pub frame_size : ℕ
frame_size = 2048

-- of pattern k, which has 16 bytes
abbrev pub pattern_slot : ℕ → ℕ
pattern_slot k = 16 * k

-- of running sum g, which has 16 bytes
abbrev pub sum_slot : ℕ → ℕ
sum_slot g = 768 + 16 * g

-- of the word of saved register j
abbrev pub saved_slot : ℕ → ℕ
saved_slot j = 832 + 8 * j

-- of the word of the row base of array slot k
abbrev pub row_slot : ℕ → ℕ
row_slot k = 880 + 8 * k

-- of the word of the block's address
abbrev pub block_slot : ℕ
block_slot = 976

-- of the word of the rows left
abbrev pub rows_slot : ℕ
rows_slot = 984

-- of the word in which the elements that are left in a row's body wait while its head is done
abbrev pub left_slot : ℕ
left_slot = 992

-- of the word in which a far load's code puts the number of its first element
abbrev pub index_slot : ℕ
index_slot = 1000

-- of the 16 bytes in the first word of which RCX waits while it gathers
abbrev pub work_slot : ℕ
work_slot = 1008

-- the spill slots: one for each place that is no register
abbrev pub spill_slots : ℕ
spill_slots = places - registers

-- of spill slot k, which has 16 bytes: the place of number registers + k
abbrev pub spill_slot : ℕ → ℕ
spill_slot k = 1024 + 16 * k

-- ---- the layout of a function

-- the first n of such displacements
abbrev pub displacements : (ℕ → ℕ) → ℕ → List ℤ
displacements slot n = map (λ k. pos (slot k)) (range_with_len 0 n)

-- the sizes of the accumulators, in order of declaration
abbrev pub acc_sizes_of : List Var → List ℕ
acc_sizes_of vars = map (λ p. (var_at vars p).size) (places_of kind.Accumulator vars)

unfoldable pub layout_of : FunctionValue → Layout
layout_of f = record {
  two_d = f.two_d;
  patterns = record { items = patterns_of f.vars f.insns };
  acc_sizes = record { items = acc_sizes_of f.vars };
  params = record { items = places_of kind.Param f.vars };
  pattern_at = record { items = displacements pattern_slot (length (patterns_of f.vars f.insns)) };
  sum_at = record { items = displacements sum_slot (length (acc_sizes_of f.vars)) };
  saved_at = displacements saved_slot 6;
  row_at = displacements row_slot 12;
  block_at = pos block_slot;
  rows_at = pos rows_slot;
  left_at = pos left_slot;
  index_at = pos index_slot;
  work_at = pos work_slot;
  spill_at = pos (spill_slot 0);
  facts = facts_of f;
}

-- the place in a list of the first that is p, or the list's length
abbrev pub index_in : List ℕ → ℕ → ℕ
index_in [] p = 0
index_in (q ∷ qs) p = if q == p then 0 else 1 + index_in qs p

-- ---- slots lie apart

-- the displacements and the bytes of slots
abbrev pub with_size : ℕ → List ℤ → List (ℤ × ℕ)
with_size n at = map (λ z. (z, n)) at

abbrev pub spilled_of : Layout → List (ℤ × ℕ)
spilled_of l = with_size 16 (map (λ k. l.spill_at +ℤ pos (16 * k)) (range_with_len 0 spill_slots))

abbrev pub slots_of : Layout → List (ℤ × ℕ)
slots_of l = with_size 16 l.pattern_at.items ++ (with_size 16 l.sum_at.items ++ (with_size 8 l.saved_at ++ (with_size 8 l.row_at ++ (l.block_at, 8) ∷ (l.rows_at, 8) ∷ (l.left_at, 8) ∷ (l.index_at, 8) ∷ (l.work_at, 16) ∷ spilled_of l)))

-- from a displacement on, each slot ends where or before the next begins, and the last within the frame
abbrev pub LieApart : ℤ → List (ℤ × ℕ) → Type 0
LieApart from [] = from ≤ℤ pos frame_size
LieApart from (s ∷ rest) = (from ≤ℤ s.0) × LieApart (s.0 +ℤ pos s.1) rest
