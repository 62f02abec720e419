-- The loops of a row have instructions of their target alone.
use Rattle.std.proofs.Common.{◌≡◌, ℕ, zero, suc, ◌*◌, ◌<◌, Bool, true, false, ◌&&◌, if◌then◌else◌, nat_lt, List, [], ◌∷◌, pos, length, refl, sym, subst}
use Rattle.std.specs.List.{list_all}
use Rattle.std.proofs.lemmas.Bool.{ltb-true, and_parts, and_from}
use Rattle.x86_ins.specs.declared.ins.Ins.{Ins}
use Rattle.x86_ins.specs.declared.ins.Ins.TheVariants.{Jump}
use Rattle.x86_flow.specs.declared.tree.Flow.{Flow as Tree}
use Rattle.x86_flow.specs.Flow.{Flow, Plain, Chain, Choice, Repeat, flat, size, again_jump}
use Rattle.x86_flow.specs.Tree.{flat_of}
use Rattle.orc_ops.specs.declared.target.Target.{Target as CodeTarget}
use Rattle.orc_program.specs.Need.{lanes, has_whole_turns, begins_aligned}
use Rattle.orc_program.specs.Program.{FunctionValue}
use Rattle.orc_program.specs.Slots.{size_of_slot}
use Rattle.sse_laws.specs.Targets.{is_of, IsCodeFor}
use Rattle.sse_laws.proofs.Targeted.{behind_for}
use Rattle.orc_region.specs.Code.{IsElements, IsPart, AreParts, fills, blocks_of, shift_of, turns_flow, from_first, from_boundary, elements_flow}
use Rattle.orc_region.specs.Regions.{TurnParts, parts_flow, gap_flow, aligned_row, plain_row, whole_row, tested_row, wide_loop, wide_loops}
use Rattle.orc_region.proofs.Targeted.Blocks.{turn_is_for}

module _ (t : CodeTarget) where
  -- ---- trees: jumps are the target's

  abbrev are_for : Flow → Bool
  are_for (Plain is) = list_all (is_of t) is
  are_for (Chain x y) = are_for x && are_for y
  are_for (Choice q x y) = are_for x && are_for y
  are_for (Repeat q body) = are_for body

  flat_for : (x : Flow) → are_for x ≡ true → IsCodeFor t (flat x)
  flat_for (Plain is) h = h
  flat_for (Chain x y) h = let both = and_parts (are_for x) (are_for y) h in behind_for t (flat x) (flat y) (flat_for x both.0) (flat_for y both.1)
  flat_for (Choice q x y) h = let both = and_parts (are_for x) (are_for y) h in behind_for t (flat y) (Jump (pos (size (flat x))) ∷ flat x) (flat_for y both.1) (flat_for x both.0)
  flat_for (Repeat q body) h = behind_for t (flat body) (again_jump q (size (flat body)) ∷ []) (flat_for body h) refl

  -- ---- the loops of a row

  gap_for : (k : ℕ) → are_for (gap_flow k) ≡ true
  gap_for zero = refl
  gap_for (suc k) = refl

  whole_for : (n : ℕ) (wide : Flow) → are_for wide ≡ true → are_for (whole_row n wide) ≡ true
  whole_for n wide h = h

  -- by what each part of a turn is
  parts_for : (Is : ℕ → List Ins → Type 0) → ((count : ℕ) (turn : List Ins) → Is count turn → IsCodeFor t turn) → (from : ℕ) (parts : TurnParts) → AreParts Is from parts → are_for (parts_flow from parts) ≡ true
  parts_for Is h from [] are = refl
  parts_for Is h from (part ∷ parts) are = and_from (list_all (is_of t) part.1) (are_for (parts_flow part.0 parts)) (h part.0 part.1 are.2) (parts_for Is h part.0 parts are.0)

  plain_for : (n : ℕ) (parts : TurnParts) (wide : Flow) → are_for (parts_flow n parts) ≡ true → are_for wide ≡ true → are_for (plain_row n parts wide) ≡ true
  plain_for n parts wide h k = and_from (are_for wide) (are_for (parts_flow n parts)) k h

  tested_for : (n : ℕ) (wide aligned : Flow) → are_for wide ≡ true → are_for aligned ≡ true → are_for (tested_row n wide aligned) ≡ true
  tested_for n wide aligned h k = and_from (are_for aligned) (are_for wide) k h

  aligned_for : (k n : ℕ) (parts : TurnParts) (wide aligned : Flow) → are_for (parts_flow n parts) ≡ true → are_for wide ≡ true → are_for aligned ≡ true → are_for (aligned_row k n parts wide aligned) ≡ true
  aligned_for k n parts wide aligned p w a =
      let ends = are_for (parts_flow n parts) in
      and_from (are_for (gap_flow k)) (((ends && are_for aligned) && are_for wide) && ends) (gap_for k)
      (and_from ((ends && are_for aligned) && are_for wide) ends (and_from (ends && are_for aligned) (are_for wide) (and_from ends (are_for aligned) p a) w) p)

  turns_for : (n b : ℕ) (large turn : List Ins) → IsCodeFor t turn → (1 < b → IsCodeFor t large) → are_for (turns_flow n b large turn) ≡ true
  turns_for n b large turn h many = go (nat_lt 1 b) (λ e. many (ltb-true 1 b e))
    where
      go : (several : Bool) → (several ≡ true → IsCodeFor t large) → are_for (if several then wide_loops n (b * n) (Plain large) (Plain turn) else wide_loop (Plain turn)) ≡ true
      go true l = and_from (list_all (is_of t) large) (list_all (is_of t) turn) (l refl) h
      go false l = h

  first_for : (whole : Bool) (n : ℕ) (parts : TurnParts) (turns : Flow) → (whole ≡ false → are_for (parts_flow n parts) ≡ true) → are_for turns ≡ true → are_for (from_first whole n parts turns) ≡ true
  first_for true n parts turns p h = whole_for n turns h
  first_for false n parts turns p h = plain_for n parts turns (p refl) h

  boundary_for : (whole : Bool) (k n : ℕ) (parts : TurnParts) (wide : List Ins) (turns : Flow) → (whole ≡ false → are_for (parts_flow n parts) ≡ true) → IsCodeFor t wide → are_for turns ≡ true → are_for (from_boundary whole k n parts wide turns) ≡ true
  boundary_for true k n parts wide turns p w h = tested_for n (wide_loop (Plain wide)) turns w h
  boundary_for false k n parts wide turns p w h = aligned_for k n parts (wide_loop (Plain wide)) turns (p refl) w h

  elements_for : (filled begins whole : Bool) (k n b : ℕ) (parts : TurnParts) (wide aligned large : List Ins) → (whole ≡ false → are_for (parts_flow n parts) ≡ true) → IsCodeFor t wide → (filled ≡ true → IsCodeFor t aligned) → (1 < b → IsCodeFor t large) → are_for (elements_flow filled begins whole k n b parts wide aligned large) ≡ true
  elements_for true true whole k n b parts wide aligned large p w a l = first_for whole n parts (turns_flow n b large aligned) p (turns_for n b large aligned (a refl) l)
  elements_for true false whole k n b parts wide aligned large p w a l = boundary_for whole k n parts wide (turns_flow n b large aligned) p w (turns_for n b large aligned (a refl) l)
  elements_for false begins whole k n b parts wide aligned large p w a l = first_for whole n parts (turns_flow n b large wide) p (turns_for n b large wide w l)

-- ---- of a function

pub elements_are_for : (t : CodeTarget) (f : FunctionValue) (at : List ℕ) (tree : Tree) → IsElements f t at tree → IsCodeFor t (flat_of tree)
elements_are_for t f at tree (parts, wide, aligned, large, turns, e) =
    subst (IsCodeFor t) (sym e)
    (flat_for t (elements_flow (fills f) (begins_aligned f) (has_whole_turns f) (shift_of (size_of_slot f.vars 0)) (lanes f) (blocks_of (length wide)) parts wide aligned large)
    (elements_for t (fills f) (begins_aligned f) (has_whole_turns f) (shift_of (size_of_slot f.vars 0)) (lanes f) (blocks_of (length wide)) parts wide aligned large
    (λ w. parts_for t (IsPart f t at) (λ count turn is. turn_is_for f t at count false 1 turn is.is) (lanes f) parts (turns.fewer w))
    (turn_is_for f t at (lanes f) false 1 wide turns.more)
    (λ y. turn_is_for f t at (lanes f) true 1 aligned (turns.stored y))
    (λ l. turn_is_for f t at (lanes f) (fills f) (blocks_of (length wide)) large (turns.many l))))
