-- What a good call says of the cells of a row.
use Rattle.std.proofs.Common.{◌≡◌, ℕ, suc, ◌+◌, ◌*◌, ◌%◌, ◌^◌, ◌<◌, ◌≤◌, Bool, true, false, true≢false, if◌then◌else◌, length, refl, sym, ap, ap₂, ◌∙◌, subst, arith, suc-mul, mul-le-mul_left, ◌⊎◌, inl, inr, ⊎_elim}
use Rattle.std.proofs.lemmas.Bool.{cases_lt}
use Rattle.orc_bits.specs.Memory.{IsMapped}
use Rattle.orc_bits.proofs.Memories.{value_small}
use Rattle.orc_program.specs.declared.program.VarKind.TheVariants as kind
use Rattle.orc_program.specs.declared.call.Call.{Call}
use Rattle.orc_program.specs.Program.{FunctionValue, var_at, count_of}
use Rattle.orc_program.specs.Slots.{slot_of, size_of_slot, call_of}
use Rattle.orc_program.specs.Meaning.{cell}
use Rattle.orc_program.specs.Good.{IsArray, is_near}
use Rattle.x86_ins.specs.Machine.{Point}
use Rattle.x86_ins.specs.Way.{Placed}
use Rattle.orc_frame.specs.Subject.{Call as Arguments, InArray, InDests, VerySame, rows}
use Rattle.orc_frame.specs.Subject.{cell as slot_cell}
use Rattle.orc_frame.specs.Layout.{frame_size}
use Rattle.orc_frame.specs.Parts.{InBlock, InFrame, base_word, stride_word}
use Rattle.orc_frame.specs.GoodCall.{GoodCall, lowered}
use Rattle.orc_frame.specs.Function.{IsCellByte, subject_of}
use Rattle.orc_region.proofs.Block.Cells.{OfDests, Separate, Low, Decided, elements_or_not}
use Rattle.orc_region.proofs.Calls.Agree.{GoodSlots, IsNear, variable_of, near_dest, near_slot, good_by_slots, cells_by_slots, byte_is}
use Rattle.orc_region.proofs.Checked.Slots.{Limits, SlotIs, slot_is}
use Rattle.orc_region.proofs.Turn.Advancing.{IsSlot}

-- the address of a byte, from the base of its row
from_base : (b x j : ℕ) → (b % 2 ^ 64 + x + j) % 2 ^ 64 ≡ (b + x + j) % 2 ^ 64
from_base b x j = omega arith

next_row : (b r s : ℕ) → ((b + r * s) % 2 ^ 64 + s) % 2 ^ 64 ≡ (b + suc r * s) % 2 ^ 64
next_row b r s = omega (arith, suc-mul r s)

row_none : (b s : ℕ) → b < 2 ^ 64 → (b + 0 * s) % 2 ^ 64 ≡ b
row_none b s h = omega (arith, h)

no_byte : (c : ℕ) → c % 2 ^ 64 ≡ (c % 2 ^ 64 + 0) % 2 ^ 64
no_byte c = omega arith

first_row : (r : ℕ) → r < 1 → r ≡ 0
first_row r l = omega (arith, l)

zero_row : (r s : ℕ) → r ≡ 0 → r * s ≡ 0
zero_row r s e = ap (λ x. x * s) e ∙ (let q : 0 * s ≡ 0 = omega arith in q)

first_of : (r b c s t : ℕ) → r ≡ 0 → b ≡ c → (b + r * s) % 2 ^ 64 ≡ (c + r * t) % 2 ^ 64
first_of r b c s t e q = ap₂ (λ x y. (x + y) % 2 ^ 64) q (zero_row r s e ∙ sym (zero_row r t e))

-- slots are decided
pub slot_or_not : (dests sources k : ℕ) → IsSlot dests sources k ⊎ (IsSlot dests sources k → ⊥)
slot_or_not dests sources k = ⊎_elim (λ l. inl (inl l)) (λ g. source g (cases_lt k 4) (cases_lt k (4 + sources))) (cases_lt k dests)
  where
    source : dests ≤ k → (k < 4) ⊎ (4 ≤ k) → (k < 4 + sources) ⊎ (4 + sources ≤ k) → IsSlot dests sources k ⊎ (IsSlot dests sources k → ⊥)
    source g (inl a) b = inr (λ s. ⊎_elim (λ l. omega (arith, l, g)) (λ l. omega (arith, l.0, a)) s)
    source g (inr a) (inl b) = inl (inr (a, b))
    source g (inr a) (inr b) = inr (λ s. ⊎_elim (λ l. omega (arith, l, g)) (λ l. omega (arith, l.1, b)) s)

-- and so are those with a cell for each element
pub near_or_not : (f : FunctionValue) (k : ℕ) → IsNear f k ⊎ (IsNear f k → ⊥)
near_or_not f k = ⊎_elim (λ s. go s (is_near f (variable_of f k)) refl) (λ m. inr (λ n. m n.0)) (slot_or_not (count_of kind.Dest f.vars) (count_of kind.Source f.vars) k)
  where
    go : IsSlot (count_of kind.Dest f.vars) (count_of kind.Source f.vars) k → (b : Bool) → is_near f (variable_of f k) ≡ b → IsNear f k ⊎ (IsNear f k → ⊥)
    go s true e = inl (s, e)
    go s false e = inr (λ n. true≢false (sym n.1 ∙ e))

-- what is known of a function's arrays
pub record Arrays (f : FunctionValue) : Type 0 where
  pub few : Limits f
  pub small : (k : ℕ) → size_of_slot f.vars k ≤ 8
  pub some : (p : ℕ) → p < length f.vars → 0 < (var_at f.vars p).size

module _ (f : FunctionValue) (known : Arrays f) (code : Placed) (s : Point) (args : Arguments) (back : ℕ) (good : GoodCall (subject_of f) code s args back) where
  abbrev pub call : Call
  call = call_of f args.n args.m args.base args.stride args.param

  abbrev pub size : ℕ → ℕ
  size = size_of_slot f.vars

  -- the slots of all arrays, and those with a cell for each element
  abbrev pub InUse : ℕ → Type 0
  InUse = IsSlot (count_of kind.Dest f.vars) (count_of kind.Source f.vars)

  abbrev pub P : ℕ → Type 0
  P = IsNear f

  -- where the row r of an array begins
  abbrev pub row_base : ℕ → ℕ → ℕ
  row_base r k = (args.base k + r * args.stride k) % 2 ^ 64

  pub base_small : (k : ℕ) → InUse k → args.base k < 2 ^ 64
  base_small k h = value_small 8 s.core.memory (s.core.gpr 7 + base_word k) (args.base k) good.bounded.memory (good.reads.bases k h)

  pub stride_small : (k : ℕ) → InUse k → args.stride k < 2 ^ 64
  stride_small k h = value_small 8 s.core.memory (s.core.gpr 7 + stride_word k) (args.stride k) good.bounded.memory (good.reads.strides k h)

  -- the bases of the first row, and those of one row more
  pub first_base : (k : ℕ) → InUse k → row_base 0 k ≡ args.base k
  first_base k h = row_none (args.base k) (args.stride k) (base_small k h)

  pub next_base : (r k : ℕ) → (row_base r k + args.stride k) % 2 ^ 64 ≡ row_base (suc r) k
  next_base r k = next_row (args.base k) r (args.stride k)

  -- its arrays by slots
  pub arrays : GoodSlots f args s.core.memory
  arrays = good_by_slots f known.few args stride_small s.core.memory good.arrays

  pub mapped : (a : ℕ) → IsCellByte f call a → IsMapped s.core.memory a
  mapped a w = subst (IsMapped s.core.memory) (sym w.here) (good.arrays.mapped w.place w.row w.element w.byte w.cell)

  -- the number of rows is a word
  pub rows_small : rows (subject_of f) args < 2 ^ 31
  rows_small = go f.two_d (λ e. arrays.few_rows e)
    where
      go : (t : Bool) → (t ≡ true → args.m < 2 ^ 31) → (if t then args.m else 1) < 2 ^ 31
      go true h = h refl
      go false h = omega arith

  -- ---- the cells of row r

  module _ (r : ℕ) (row : r < rows (subject_of f) args) where
    in_array : (k : ℕ) → P k → (i : ℕ) → i < args.n → (j : ℕ) → j < size k → InArray (subject_of f) args k ((row_base r k + i * size k + j) % 2 ^ 64)
    in_array k h i l j lj = (r, row, i, l, j, lj, from_base (args.base k + r * args.stride k) (i * size k) j)

    pub low : Low args.n (row_base r) size P
    low k h i l j lj =
        let at : (i : ℕ) → i < args.n → (j : ℕ) → j < size k → (row_base r k + i * size k + j) % 2 ^ 64 < 2 ^ 47 = λ i l j lj. arrays.low ((row_base r k + i * size k + j) % 2 ^ 64) (k, h, in_array k h i l j lj) in
        let most : i * size k ≤ i * 8 = mul-le-mul_left i (known.small k) in
        let first : (row_base r k + 0) % 2 ^ 64 < 2 ^ 47 = at_none (row_base r k) (0 * size k) (omega arith) (at 0 (omega (arith, l)) 0 (omega (arith, lj))) in
        let whole : row_base r k < 2 ^ 64 = omega arith in
        inside (row_base r k) (i * size k) j whole first (at i l j lj) (omega (arith, most, l, lj, arrays.few, known.small k))
      where
        at_none : (b z : ℕ) → z ≡ 0 → (b + z + 0) % 2 ^ 64 < 2 ^ 47 → (b + 0) % 2 ^ 64 < 2 ^ 47
        at_none b z e h = subst (λ t. (b + t) % 2 ^ 64 < 2 ^ 47) e (let q : b + z ≡ b + z + 0 = omega arith in subst (λ t. t % 2 ^ 64 < 2 ^ 47) (sym q) h)

        inside : (b y j : ℕ) → b < 2 ^ 64 → (b + 0) % 2 ^ 64 < 2 ^ 47 → (b + y + j) % 2 ^ 64 < 2 ^ 47 → y + j < 2 ^ 62 → b + y + j < 2 ^ 47
        inside b y j small first this few = omega (arith, small, first, this, few)

    pub at_cell : (k : ℕ) → P k → (i : ℕ) → i < args.n → (j : ℕ) → j < size k → (row_base r k + i * size k + j) % 2 ^ 64 ≡ row_base r k + i * size k + j
    at_cell k h i l j lj = less (row_base r k + i * size k + j) (low k h i l j lj)
      where
        less : (a : ℕ) → a < 2 ^ 47 → a % 2 ^ 64 ≡ a
        less a w = omega (arith, w)

    pub cell_in : (k : ℕ) → P k → (i : ℕ) → i < args.n → (j : ℕ) → j < size k → InArray (subject_of f) args k (row_base r k + i * size k + j)
    cell_in k h i l j lj = subst (λ a. InArray (subject_of f) args k a) (at_cell k h i l j lj) (in_array k h i l j lj)

    -- by the words of the call
    pub cell_at : (k : ℕ) → P k → (i : ℕ) → i < args.n → (j : ℕ) → j < size k → row_base r k + i * size k + j ≡ slot_cell (subject_of f) args k r i j
    cell_at k h i l j lj = sym (at_cell k h i l j lj) ∙ from_base (args.base k + r * args.stride k) (i * size k) j

    -- one array has one base in each row
    same_base : (k l : ℕ) → VerySame (subject_of f) args k l → row_base r k ≡ row_base r l
    same_base k l v = go f.two_d v.stride row
      where
        go : (t : Bool) → (t ≡ true → args.stride k ≡ args.stride l) → r < (if t then args.m else 1) → row_base r k ≡ row_base r l
        go true h w = ap₂ (λ b s. (b + r * s) % 2 ^ 64) v.base (h refl)
        go false h w = first_of r (args.base k) (args.base l) (args.stride k) (args.stride l) (first_row r w) v.base

    pub separate : Separate args.n (row_base r) size P
    separate k l hk hl = ⊎_elim
        (λ a. inr (λ i j x y li lj lx ly e. a (row_base r k + i * size k + x) (cell_in k hk i li x lx) (subst (λ t. InArray (subject_of f) args l t) (sym e) (cell_in l hl j lj y ly))))
        (λ v. inl (same_base k l v, v.size))
        (arrays.separate k l hk hl)

    pub decided : Decided args.n (row_base r) size P
    decided k = near_or_not f k

    pub slot_at : (p : ℕ) → IsArray f p → SlotIs f args p
    slot_at p h = slot_is f args known.few p h.0 h.1

    -- a variable's cells are those of its slot
    pub cell_is : (p : ℕ) → IsArray f p → is_near f p ≡ true → (i : ℕ) → i < args.n → cell f call p r i ≡ row_base r (slot_of f.vars p) + i * size (slot_of f.vars p)
    cell_is p h near i l =
        let k = slot_of f.vars p in
        let s = slot_at p h in
        no_byte _
        ∙ byte_is f known.few args stride_small p r i 0 h
        ∙ sym (from_base (args.base k + r * args.stride k) (i * size k) 0)
        ∙ at_cell k (near_slot f known.few args p h near) i l 0 (subst (λ n. 0 < n) (sym s.size) (known.some p h.0))
        ∙ (let q : row_base r k + i * size k + 0 ≡ row_base r k + i * size k = omega arith in q)

    -- each is a cell of the call, apart from its other parts
    pub cell_cells : (k : ℕ) → P k → (i : ℕ) → i < args.n → (j : ℕ) → j < size k → IsCellByte f call (row_base r k + i * size k + j)
    cell_cells k h i l j lj = cells_by_slots f known.few args stride_small (row_base r k + i * size k + j) (k, h, cell_in k h i l j lj)

    -- the addresses of the row's cells, and of those of dests
    abbrev pub InRowOf : (ℕ → Type 0) → ℕ → Type 0
    InRowOf D a = (k : ℕ) × D k × (i : ℕ) × (i < args.n) × (j : ℕ) × (j < size k) × (a ≡ row_base r k + i * size k + j)

    abbrev pub InRow : ℕ → Type 0
    InRow = InRowOf P

    abbrev pub InRowDests : ℕ → Type 0
    InRowDests = InRowOf (OfDests P)

    pub row_of_dest : (a : ℕ) → InRowDests a → InRow a
    row_of_dest a w = (w.0, w.1.0, w.2, w.3, w.4, w.5, w.6)

    dest_few : (k : ℕ) → OfDests P k → k < count_of kind.Dest f.vars
    dest_few k h = ⊎_elim (λ l. l) (λ s. absurd (omega (arith, s.0, h.1))) h.0.0

    -- they are cells of the call's dests
    pub row_dests : (a : ℕ) → InRowDests a → InDests (subject_of f) args a
    row_dests a w = (w.0, dest_few w.0 w.1, subst (λ a. InArray (subject_of f) args w.0 a) (sym w.6) (cell_in w.0 w.1.0 w.2 w.3 w.4 w.5))

    pub slot_few : (k : ℕ) → P k → k < 12
    slot_few k h = ⊎_elim (λ l. (let a = known.few.dests in omega (arith, l, a))) (λ l. (let a = known.few.sources in omega (arith, l.1, a))) h.0

    pub row_or_not : (a : ℕ) → InRow a ⊎ (InRow a → ⊥)
    row_or_not a = ⊎_elim
        (λ w. inl (w.0, w.1, w.2, w.3, w.4, w.5, w.6 ∙ ap (λ i. row_base r w.0 + i * size w.0 + w.4) (from_none w.2)))
        (λ n. inr (λ w. n (w.0, w.1, w.2, w.3, w.4, w.5, w.6 ∙ ap (λ i. row_base r w.0 + i * size w.0 + w.4) (sym (from_none w.2)))))
        (elements_or_not args.n (row_base r) size P separate low decided slot_few 0 args.n a)
      where
        from_none : (i : ℕ) → 0 + i ≡ i
        from_none i = omega arith

  -- a dest's cell is one of the call
  pub dest_cell : (a : ℕ) → InDests (subject_of f) args a → IsCellByte f call a
  dest_cell a w = cells_by_slots f known.few args stride_small a (w.0, near_dest f known.few w.0 w.1, w.2)

  -- the frame lies low
  pub stack_room : lowered s.core + (frame_size + 8) ≤ 2 ^ 47
  stack_room = (let a = good.frame_room in let b = good.return_low in omega (arith, a, b))

  pub cell_block : (a : ℕ) → IsCellByte f call a → InBlock (s.core.gpr 7) a → ⊥
  cell_block a w h = (good.disjoint.cells a w).0 h

  pub cell_frame : (a : ℕ) → IsCellByte f call a → InFrame (lowered s.core) a → ⊥
  cell_frame a w h = (good.disjoint.cells a w).2 h
