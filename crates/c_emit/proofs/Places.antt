-- Where the cells of a good call lie: each byte of each cell has its address in C.
use Rattle.std.proofs.Common.{◌≡◌, ℕ, suc, ◌+◌, ◌-◌, ◌*◌, ◌%◌, ◌^◌, ◌<◌, ◌≤◌, if◌then◌else◌, Bool, true, false, List, length, Option, Some, refl, sym, ap, ◌∙◌, subst, arith, true≢false, inl, inr}
use Rattle.std.specs.Prelude.{ℤ, pos, negsuc, ◌+ℤ◌, slice_get, FitsSigned}
use Rattle.std.specs.Int.{cast_unsigned, w64}
use Rattle.std.proofs.Math.IntN.{pos-*ℤ-pos, pos-*ℤ-negsuc}
use Rattle.std.proofs.lemmas.Int.{ints}
use Rattle.std.proofs.lemmas.Option.{slice_get-get_or}
use Rattle.orc_bits.specs.Memory.{Memory, bind}
use Rattle.orc_program.specs.declared.program.Var.{Var}
use Rattle.orc_program.specs.declared.program.VarKind.{VarKind}
use Rattle.orc_program.specs.declared.program.VarKind.TheVariants as kind
use Rattle.orc_program.specs.declared.call.Call.{Call}
use Rattle.orc_program.specs.declared.call.Place.{Place}
use Rattle.orc_program.specs.Program.{FunctionValue, var_at, is_of, is_array, is_array_kind, same_kind, count_of, count_before, array_count, array_number, has_far}
use Rattle.orc_program.specs.Kept.{is_function}
use Rattle.orc_program.specs.Meaning.{no_place, place_at, cell, rows}
use Rattle.orc_program.specs.Good.{IsArray, GoodArrays}
use Rattle.orc_program.proofs.Apart.{IsSize}
use Rattle.orc_program.proofs.Sizes.{size_kept}
use Rattle.orc_emul.specs.State.{HasCounts}
use Rattle.orc_emul.proofs.Functions.{before_all}
use Rattle.orc_program.proofs.Near.{has_cell}
use Rattle.c_run.specs.Meaning.{Turn, address, index_by, byte_address}
use Rattle.c_emit.specs.Body.{index_of}
use Rattle.c_emit.specs.CAs.{IsCall}
use Rattle.c_emit.proofs.Strides.{rows_up, rows_down}
use Rattle.c_emit.proofs.Addresses.{byte_at_is}
use Rattle.c_emit.proofs.Cells.{IsAt}

-- ---- an array is among a call's

pub number_below : (vars : List Var) (p : ℕ) → p < length vars → is_array (var_at vars p) ≡ true → array_number vars p < array_count vars
number_below vars p l a = by (var_at vars p).kind refl a
  where
    pick : (b : Bool) → is_of kind.Dest (var_at vars p) ≡ b → array_number vars p ≡ (if b then count_before kind.Dest vars p else count_of kind.Dest vars + count_before kind.Source vars p)
    pick b e = ap (λ b. if b then count_before kind.Dest vars p else count_of kind.Dest vars + count_before kind.Source vars p) e

    by : (k : VarKind) → (var_at vars p).kind ≡ k → is_array_kind k ≡ true → array_number vars p < array_count vars
    by kind.Dest e h = let t : same_kind kind.Dest (var_at vars p).kind ≡ true = ap (same_kind kind.Dest) e in omega (arith, before_all kind.Dest vars p l t, pick true t)
    by kind.Source e h =
        let t : same_kind kind.Source (var_at vars p).kind ≡ true = ap (same_kind kind.Source) e in
        let n : same_kind kind.Dest (var_at vars p).kind ≡ false = ap (same_kind kind.Dest) e in
        omega (arith, before_all kind.Source vars p l t, pick false n)
    by kind.Temp e h = absurd (true≢false (sym h))
    by kind.Param e h = absurd (true≢false (sym h))
    by kind.Const e h = absurd (true≢false (sym h))
    by kind.Accumulator e h = absurd (true≢false (sym h))

-- ---- one stride

some_size : (n : ℕ) → IsSize n → (0 < n) × (n ≤ 8)
some_size n (inl e) = (omega (arith, e), omega (arith, e))
some_size n (inr (inl e)) = (omega (arith, e), omega (arith, e))
some_size n (inr (inr (inl e))) = (omega (arith, e), omega (arith, e))
some_size n (inr (inr (inr e))) = (omega (arith, e), omega (arith, e))

distance_of : (i size : ℕ) → i < 2 ^ 31 → size ≤ 8 → i * size < 2 ^ 47
distance_of i size l s = let m : i * size ≤ i * 8 = grind (arith) in omega (arith, m, l)

-- the address of a byte by the base, the stride, the row, the element's distance and the byte
abbrev pub spot : ℕ → ℤ → ℕ → ℕ → ℕ → ℕ
spot base stride r d j = ((base + r * cast_unsigned w64 stride + d) % 2 ^ 64 + j) % 2 ^ 64

up_bits : (n : ℕ) → n < 2 ^ 63 → cast_unsigned w64 (pos n) ≡ n
up_bits n h = omega (arith, h)

down_bits : (n : ℕ) → n < 2 ^ 63 → cast_unsigned w64 (negsuc n) ≡ 2 ^ 64 - 1 - n
down_bits n h = omega (arith, h)

-- the exact address of a row's byte, and each step of its index
at_stride : (base : ℕ) (stride : ℤ) (m r i size j : ℕ) → base < 2 ^ 64 → FitsSigned w64 stride → ((r : ℕ) → r < m → (base + r * cast_unsigned w64 stride) % 2 ^ 64 < 2 ^ 47) → r < m → i * size < 2 ^ 47 → j < 2 ^ 8 → spot base stride r (i * size) j < 2 ^ 47
    → (d : ℕ) → bind (index_by (record { row = r; element = i }) (record { stride = d; size = size; offset = j }) (record { base = base; stride = stride })) (λ z. address (pos base +ℤ z)) ≡ Some (spot base stride r (i * size) j)
at_stride base (pos n) m r i size j b f low l e o whole d =
    let s : n < 2 ^ 63 = omega (arith, ints, f.sfits) in
    let bits : cast_unsigned w64 (pos n) ≡ n = up_bits n s in
    let at = rows_up base n m r b s (λ r l. subst (λ k. (base + r * k) % 2 ^ 64 < 2 ^ 47) bits (low r l)) l in
    let a : base + r * n + i * size + j ≡ spot base (pos n) r (i * size) j = (let q : base + r * n + i * size + j ≡ ((base + r * n + i * size) % 2 ^ 64 + j) % 2 ^ 64 = omega (arith, at, e, o) in q) ∙ ap (λ k. ((base + r * k + i * size) % 2 ^ 64 + j) % 2 ^ 64) (sym bits) in
    byte_at_is (record { row = r; element = i }) (record { stride = d; size = size; offset = j }) base (pos n) (r * n) 0 (spot base (pos n) r (i * size) j)
    (pos-*ℤ-pos r n ∙ (omega (arith, ints))) (pos-*ℤ-pos i size) (omega (arith, at)) (omega arith) e o (omega (arith, a)) whole
at_stride base (negsuc n) m r i size j b f low l e o whole d =
    let s : n < 2 ^ 63 = omega (arith, ints, f.sfits) in
    let bits : cast_unsigned w64 (negsuc n) ≡ 2 ^ 64 - 1 - n = down_bits n s in
    let rows = λ (r : ℕ) (l : r < m). subst (λ k. (base + r * k) % 2 ^ 64 < 2 ^ 47) bits (low r l) in
    let at = rows_down base n m r b s rows l in
    let first = rows_down base n m 0 b s rows (omega (arith, l)) in
    let x : ℕ = base + r * (2 ^ 64 - 1 - n) in
    let a : base - r * suc n + i * size + j ≡ spot base (negsuc n) r (i * size) j = (let q : base - r * suc n + i * size + j ≡ ((x + i * size) % 2 ^ 64 + j) % 2 ^ 64 = omega (arith, at, e, o) in q) ∙ ap (λ k. ((base + r * k + i * size) % 2 ^ 64 + j) % 2 ^ 64) (sym bits) in
    byte_at_is (record { row = r; element = i }) (record { stride = d; size = size; offset = j }) base (negsuc n) 0 (r * suc n) (spot base (negsuc n) r (i * size) j)
    (pos-*ℤ-negsuc r n ∙ (omega (arith, ints))) (pos-*ℤ-pos i size) (omega arith) (omega (arith, at, first)) e o (omega (arith, a, at)) whole

-- ---- each cell

module _ (f : FunctionValue) (call : Call) (mem : Memory) (kept : is_function f ≡ true) (near : has_far f ≡ false) (counts : HasCounts f call) (is : IsCall call) (good : GoodArrays f call mem) where
  place_there : (p : ℕ) → IsArray f p → slice_get call.arrays.items (array_number f.vars p) ≡ Some (place_at f call p)
  place_there p a = slice_get-get_or call.arrays.items (array_number f.vars p) no_place (let n = number_below f.vars p a.0 a.1 in let c = counts.arrays in omega (arith, n, c))

  pub size_at : (p : ℕ) → IsArray f p → (0 < (var_at f.vars p).size) × ((var_at f.vars p).size ≤ 8)
  size_at p a = some_size (var_at f.vars p).size (size_kept f kept p a.0)

  row_low : (p i : ℕ) → IsArray f p → i < call.n → (r : ℕ) → r < rows f call → ((place_at f call p).base + r * cast_unsigned w64 (place_at f call p).stride) % 2 ^ 64 < 2 ^ 47
  row_low p i a e r l =
      let low = good.low p r 0 0 (record { array = a; row = l; element = has_cell f call near p 0 (omega (arith, e)); inside = (size_at p a).0 }) in
      omega (arith, low)

  -- the address in C of a byte of a cell
  pub is_at : (p r i : ℕ) → IsArray f p → r < rows f call → i < call.n → IsAt call (record { row = r; element = i }) f.vars p (cell f call p r i)
  is_at p r i a l e = record { address = λ j k. by j k }
    where
      by : (j : ℕ) → j < (var_at f.vars p).size → byte_address call (record { row = r; element = i }) (array_number f.vars p) (index_of f.vars p j) ≡ Some ((cell f call p r i + j) % 2 ^ 64)
      by j k =
          let t : Turn = record { row = r; element = i } in
          let z = size_at p a in
          let g = good.elements in
          ap (λ (o : Option Place). bind o (λ p1. bind (bind o (index_by t (index_of f.vars p j))) (λ z. address (pos p1.base +ℤ z)))) (place_there p a)
          ∙ at_stride (place_at f call p).base (place_at f call p).stride (rows f call) r i (var_at f.vars p).size j (is.bases (array_number f.vars p)) (is.strides (array_number f.vars p)) (row_low p i a e) l
          (distance_of i (var_at f.vars p).size (omega (arith, e, g)) z.1) (omega (arith, k, z)) (good.low p r i j (record { array = a; row = l; element = has_cell f call near p i e; inside = k })) (array_number f.vars p)
