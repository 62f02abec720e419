-- The cells of a part of a call are cells of the whole call.
use Rattle.std.proofs.Common.{◌≡◌, ℕ, ◌+◌, ◌*◌, ◌%◌, ◌^◌, ◌<◌, Bool, true, false, if◌then◌else◌, refl, sym, ap, ◌∙◌, subst, arith, inl, inr, ⊎_elim, ℤ}
use Rattle.std.specs.Int.{w64, cast_unsigned}
use Rattle.orc_bits.specs.Memory.{Memory, IsMapped}
use Rattle.orc_program.specs.declared.call.Call.{Call}
use Rattle.orc_program.specs.declared.rect.Rect.{Rect}
use Rattle.orc_program.specs.Program.{FunctionValue, var_at, has_far}
use Rattle.orc_program.specs.Meaning.{cell, rows, place_at}
use Rattle.orc_program.specs.Good.{IsArray, IsByte, IsSame, SharesNone, GoodArrays, byte_at}
use Rattle.orc_program.specs.Cut.{Has, Fits, IsPart}
use Rattle.orc_program.proofs.Near.{has_cell, element_of}

moved_cell : (b s z r0 r i0 i : ℕ) → ((b + r0 * s + i0 * z) % 2 ^ 64 + r * s + i * z) % 2 ^ 64 ≡ (b + (r0 + r) * s + (i0 + i) * z) % 2 ^ 64
moved_cell b s z r0 r i0 i =
    let rows : (r0 + r) * s ≡ r0 * s + r * s = omega arith in
    let elements : (i0 + i) * z ≡ i0 * z + i * z = omega arith in
    omega (arith, rows, elements)

module _ (f : FunctionValue) (near : has_far f ≡ false) (call part : Call) (q : Rect) (is : IsPart f call part q) (fits : Fits f call q) where
  whole_cell : (p r i : ℕ) → IsArray f p → cell f part p r i ≡ cell f call p (q.row + r) (q.element + i)
  whole_cell p r i a =
      let s = cast_unsigned w64 (place_at f call p).stride in
      let z = (var_at f.vars p).size in
      ap (λ b. (b + r * cast_unsigned w64 (place_at f part p).stride + i * z) % 2 ^ 64) (is.bases p a)
      ∙ ap (λ x. (cell f call p q.row q.element + r * cast_unsigned w64 x + i * z) % 2 ^ 64) (is.strides p a)
      ∙ moved_cell (place_at f call p).base s z q.row r q.element i

  pub whole_byte : (p r i j : ℕ) → IsByte f part p r i j → IsByte f call p (q.row + r) (q.element + i) j
  whole_byte p r i j b = record {
    array = b.array;
    row = let l = b.row in let m = is.m in let w = fits.rows_within in omega (arith, l, m, w);
    element = has_cell f call near p (q.element + i) (let l = element_of f part near p i b.element in let n = is.n in let w = fits.elements_within in omega (arith, l, n, w));
    inside = b.inside;
  }

  pub whole_at : (p r i j : ℕ) → IsArray f p → byte_at f part p r i j ≡ byte_at f call p (q.row + r) (q.element + i) j
  whole_at p r i j a = ap (λ c. (c + j) % 2 ^ 64) (whole_cell p r i a)

  pub has : (p r i j : ℕ) → IsByte f part p r i j → Has q (q.row + r) (q.element + i)
  has p r i j b = record {
    from_row = omega arith;
    to_row = let l = b.row in let m = is.m in omega (arith, l, m);
    from_element = omega arith;
    to_element = let l = element_of f part near p i b.element in let n = is.n in omega (arith, l, n);
  }

  -- arrays of one base and one stride have the same first cells
  same_rows : (p t : ℕ) → IsSame f call p t → q.row * cast_unsigned w64 (place_at f call p).stride ≡ q.row * cast_unsigned w64 (place_at f call t).stride
  same_rows p t same = go f.two_d refl
    where
      go : (b : Bool) → f.two_d ≡ b → q.row * cast_unsigned w64 (place_at f call p).stride ≡ q.row * cast_unsigned w64 (place_at f call t).stride
      go true e = ap (λ (z : ℤ). q.row * cast_unsigned w64 z) (same.stride e)
      go false e =
          let none : q.row ≡ 0 = (fits.one_row e).0 in
          let both : 0 * cast_unsigned w64 (place_at f call p).stride ≡ 0 * cast_unsigned w64 (place_at f call t).stride = omega arith in
          ap (λ k. k * cast_unsigned w64 (place_at f call p).stride) none ∙ both ∙ ap (λ k. k * cast_unsigned w64 (place_at f call t).stride) (sym none)

  same_first : (p t : ℕ) → IsSame f call p t → cell f call p q.row q.element ≡ cell f call t q.row q.element
  same_first p t same =
      ap (λ (b : ℕ). (b + q.row * cast_unsigned w64 (place_at f call p).stride + q.element * (var_at f.vars p).size) % 2 ^ 64) same.base
      ∙ ap (λ (s : ℕ). ((place_at f call t).base + s + q.element * (var_at f.vars p).size) % 2 ^ 64) (same_rows p t same)
      ∙ ap (λ (s : ℕ). ((place_at f call t).base + q.row * cast_unsigned w64 (place_at f call t).stride + q.element * s) % 2 ^ 64) same.size

  few_rows : (f.two_d ≡ true → call.m < 2 ^ 31) → f.two_d ≡ true → part.m < 2 ^ 31
  few_rows few e =
      let here : rows f part ≡ part.m = ap (λ b. if b then part.m else 1) e in
      let whole : rows f call ≡ call.m = ap (λ b. if b then call.m else 1) e in
      let m = is.m in
      let w = fits.rows_within in
      let l = few e in
      omega (arith, here, whole, m, w, l)

  -- its arrays are good on a memory that has its cells
  pub part_good : (mem own : Memory) → GoodArrays f call mem → ((p r i j : ℕ) → IsByte f part p r i j → IsMapped own (byte_at f part p r i j)) → GoodArrays f part own
  part_good mem own good mapped = record {
    elements = let n = is.n in let w = fits.elements_within in let l = good.elements in omega (arith, n, w, l);
    rows_few = few_rows good.rows_few;
    low = λ p r i j b. subst (λ a. a < 2 ^ 47) (sym (whole_at p r i j b.array)) (good.low p (q.row + r) (q.element + i) j (whole_byte p r i j b));
    apart = λ p t a b ne. ⊎_elim
        (λ (none : SharesNone f call p t). inl (λ r i j r2 i2 j2 x y e. none (q.row + r) (q.element + i) j (q.row + r2) (q.element + i2) j2 (whole_byte p r i j x) (whole_byte t r2 i2 j2 y) (sym (whole_at p r i j a) ∙ e ∙ whole_at t r2 i2 j2 b)))
        (λ (same : IsSame f call p t). inr (record {
          size = same.size;
          base = is.bases p a ∙ same_first p t same ∙ sym (is.bases t b);
          stride = λ e. is.strides p a ∙ same.stride e ∙ sym (is.strides t b);
          near = same.near;
        }))
        (good.apart p t a b ne);
    mapped = mapped;
  }
