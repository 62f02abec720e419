-- Emulation of a call that is cut into parts is emulation of the parts.
use Rattle.std.proofs.Common.{◌≡◌, ◌≢◌, ℕ, zero, suc, ◌+◌, ◌-◌, ◌*◌, ◌%◌, ◌^◌, ◌<◌, ◌≤◌, true, false, arith, List, [], ◌∷◌, length, get_or, map, Result, Ok, Err, refl, sym, ap, ap₂, ◌∙◌, subst, ⊎_elim, slice_index, None}
use Rattle.std.proofs.Math.Nat.{mod-add-mod, add-mod-mod, mod-eq_of_lt}
use Rattle.std.proofs.lemmas.Nat.{pow_pos}
use Rattle.std.proofs.lemmas.Bool.{cases_eq}
use Rattle.std.specs.Int.{cast_unsigned, w64}
use Rattle.orc_bits.specs.Memory.{Memory, IsMapped}
use Rattle.orc_program.specs.declared.program.VarKind.TheVariants as kind
use Rattle.orc_program.specs.declared.call.Call.{Call}
use Rattle.orc_program.specs.declared.rect.Rect.{Rect}
use Rattle.orc_program.specs.Program.{FunctionValue, var_at, is_array, is_array_kind, places_of, has_far}
use Rattle.orc_program.specs.Kept.{is_function}
use Rattle.orc_program.specs.Meaning.{State, Gap, go_on, cell, rows, place_at, element, row_of, rows_of, start, sums_of, ended, emulate}
use Rattle.orc_program.specs.Good.{IsArray, IsByte, byte_at}
use Rattle.orc_program.specs.Laws.{IsDestByte}
use Rattle.orc_program.specs.Cut.{Has, IsCut, IsPart, IsCell, IsDestCell, AddsUp, PartsAddUp, total, sum_size}
use Rattle.orc_program.proofs.Sizes.{kept_of}
use Rattle.orc_program.proofs.Near.{has_cell, element_of}
use Rattle.orc_program.proofs.Steps.{go_on_ok, ok_same, IsOutside, element_keeps, emulate_keeps}
use Rattle.orc_program.proofs.Mapped.{in_range, HasNoGap, AllMapped, emulate_fine}
use Rattle.orc_program.proofs.Alike.{Agree, Beside, element_alike}
use Rattle.orc_program.proofs.Progress.{progress, progress_start, progress_element, progress_other, progress_row, progress_end}

-- ---- totals

total_same : (n : ℕ) (g h : ℕ → ℕ) → ((k : ℕ) → k < n → h k ≡ g k) → total n h ≡ total n g
total_same zero g h e = refl
total_same (suc n) g h e = ap₂ (λ x y. x + y) (total_same n g h (λ k l. e k (omega (arith, l)))) (e n (omega arith))

-- one number grows by d modulo m, and the others stay
total_grows : (m d n k : ℕ) (g h : ℕ → ℕ) → k < n → h k % m ≡ (g k + d) % m → ((j : ℕ) → j < n → j ≢ k → h j ≡ g j) → total n h % m ≡ (total n g + d) % m
total_grows m d zero k g h l e o = absurd (omega (arith, l))
total_grows m d (suc n) k g h l e o = ⊎_elim last (λ ne. before ne (total_grows m d n k g h (omega (arith, l, ne)) e (λ j lj. o j (omega (arith, lj))))) (cases_eq k n)
  where
    last : k ≡ n → total (suc n) h % m ≡ (total (suc n) g + d) % m
    last q =
        let same : total n h ≡ total n g = total_same n g h (λ j lj. o j (omega (arith, lj)) (λ x. omega (arith, x, q, lj))) in
        let here : h n % m ≡ (g n + d) % m = subst (λ j. h j % m ≡ (g j + d) % m) q e in
        ap (λ x. (x + h n) % m) same ∙ sym (add-mod-mod (total n g) (h n) m) ∙ ap (λ x. (total n g + x) % m) here ∙ add-mod-mod (total n g) (g n + d) m
        ∙ ap (λ x. x % m) (let z : total n g + (g n + d) ≡ total n g + g n + d = omega arith in z)

    before : (k ≡ n → ⊥) → total n h % m ≡ (total n g + d) % m → total (suc n) h % m ≡ (total (suc n) g + d) % m
    before ne rest =
        ap (λ x. (total n h + x) % m) (o n (omega arith) (λ x. ne (sym x))) ∙ sym (mod-add-mod (total n h) m (g n)) ∙ ap (λ x. (x + g n) % m) rest ∙ mod-add-mod (total n g + d) m (g n)
        ∙ ap (λ x. x % m) (let z : total n g + d + g n ≡ total n g + g n + d = omega arith in z)

-- ---- where a part's cells are

moved_cell : (b s z r r0 i i0 : ℕ) → r0 ≤ r → i0 ≤ i → (b + r * s + i * z) % 2 ^ 64 ≡ ((b + r0 * s + i0 * z) % 2 ^ 64 + (r - r0) * s + (i - i0) * z) % 2 ^ 64
moved_cell b s z r r0 i i0 l k =
    let rows : r * s ≡ r0 * s + (r - r0) * s = ap (λ x. x * s) (let e : r ≡ r0 + (r - r0) = omega (arith, l) in e) ∙ (let e : (r0 + (r - r0)) * s ≡ r0 * s + (r - r0) * s = omega arith in e) in
    let elements : i * z ≡ i0 * z + (i - i0) * z = ap (λ x. x * z) (let e : i ≡ i0 + (i - i0) = omega (arith, k) in e) ∙ (let e : (i0 + (i - i0)) * z ≡ i0 * z + (i - i0) * z = omega arith in e) in
    omega (arith, rows, elements)

module _ (f : FunctionValue) (near : has_far f ≡ false) (call : Call) (part : Call) (q : Rect) (is : IsPart f call part q) where
  same_cell : (p r i : ℕ) → IsArray f p → Has q r i → cell f call p r i ≡ cell f part p (r - q.row) (i - q.element)
  same_cell p r i a h =
      let b = (place_at f call p).base in
      let s = cast_unsigned w64 (place_at f call p).stride in
      let z = (var_at f.vars p).size in
      moved_cell b s z r q.row i q.element h.from_row h.from_element
      ∙ ap (λ x. (x + (r - q.row) * s + (i - q.element) * z) % 2 ^ 64) (sym (is.bases p a))
      ∙ ap (λ x. ((place_at f part p).base + (r - q.row) * cast_unsigned w64 x + (i - q.element) * z) % 2 ^ 64) (sym (is.strides p a))

  part_byte : (p r i j : ℕ) → IsArray f p → Has q r i → j < (var_at f.vars p).size → IsByte f part p (r - q.row) (i - q.element) j
  part_byte p r i j a h l = record {
    array = a;
    row = subst (λ x. r - q.row < x) (sym is.m) (let e : r - q.row < q.rows = omega (arith, h.from_row, h.to_row) in e);
    element = has_cell f part near p (i - q.element) (subst (λ x. i - q.element < x) (sym is.n) (let e : i - q.element < q.elements = omega (arith, h.from_element, h.to_element) in e));
    inside = l;
  }

  part_cell : (p r i j : ℕ) → IsArray f p → Has q r i → j < (var_at f.vars p).size → IsCell f part (byte_at f call p r i j)
  part_cell p r i j a h l = (p, r - q.row, i - q.element, j, part_byte p r i j a h l, ap (λ c. (c + j) % 2 ^ 64) (same_cell p r i a h))

  part_dest : (p r i j : ℕ) → (var_at f.vars p).kind ≡ kind.Dest → IsArray f p → Has q r i → j < (var_at f.vars p).size → IsDestByte f part (byte_at f call p r i j) p (r - q.row) (i - q.element) j
  part_dest p r i j d a h l = record { byte = part_byte p r i j a h l; dest = d; here = ap (λ c. (c + j) % 2 ^ 64) (same_cell p r i a h) }

dest_array : (f : FunctionValue) (p : ℕ) → (var_at f.vars p).kind ≡ kind.Dest → IsArray f p
dest_array f p d = let a : is_array (var_at f.vars p) ≡ true = ap is_array_kind d in (in_range f.vars p a, a)

-- ---- the whole call beside its parts

abbrev sum_in : Result State Gap → ℕ → ℕ
sum_in (Ok t) p = t.sums p
sum_in (Err g) p = 0

abbrev modulus : FunctionValue → ℕ → ℕ
modulus f p = 2 ^ (8 * (var_at f.vars p).size)

module _ (f : FunctionValue) (kept : is_function f ≡ true) (near : has_far f ≡ false) (call : Call) (n : ℕ) (rect : ℕ → Rect) (part : ℕ → Call) (cut : IsCut f call n rect part) (begin : ℕ → State) where
  -- how far part k has come
  abbrev far : ℕ → ℕ → ℕ → Result State Gap
  far k r i = progress f (part k) (begin k) (rect k) r i

  -- the whole's state, beside what the parts have at their progress
  pub record Joined (at : ℕ → Result State Gap) (s : State) : Type 0 where
    pub parts : (k : ℕ) → k < n → (t : State) × (at k ≡ Ok t) × Agree (IsCell f (part k)) s.memory t.memory
    pub sums : (p : ℕ) → s.sums p % modulus f p ≡ total n (λ k. sum_in (at k) p) % modulus f p
    pub small : (p : ℕ) → s.sums p < modulus f p

  -- ---- one element of the whole, which is that of part `here`

  module _ (r i here : ℕ) (inside : here < n) (has : Has (rect here) r i) (s t : State) (e : element f call r i f.insns s ≡ Ok t) where
    abbrev is : IsPart f call (part here) (rect here)
    is = cut.parts here inside

    abbrev r2 : ℕ
    r2 = r - (rect here).row

    abbrev i2 : ℕ
    i2 = i - (rect here).element

    abbrev C : ℕ → Type 0
    C = IsCell f (part here)

    same : (p : ℕ) → is_array (var_at f.vars p) ≡ true → cell f call p r i ≡ cell f (part here) p r2 i2
    same p a = same_cell f near call (part here) (rect here) is p r i (in_range f.vars p a, a) has

    within : (p j : ℕ) → is_array (var_at f.vars p) ≡ true → j < (var_at f.vars p).size → C (byte_at f call p r i j)
    within p j a l = part_cell f near call (part here) (rect here) is p r i j (in_range f.vars p a, a) has l

    abbrev Did : State → State → Type 0
    Did u x = (element f (part here) r2 i2 f.insns u ≡ Ok x) × Beside f call (part here) r i r2 i2 C same is.params within (λ q. ⊥) s t u x

    does : (u : State) → Agree C s.memory u.memory → (x : State) × Did u x
    does u h = let d = element_alike f call (part here) r i r2 i2 C same is.params within f.insns s t u near (kept_of f kept).insns h e in (d.0, (d.1, d.2))

    -- it changes no cell of another part
    others_keep : (k : ℕ) → k < n → here ≢ k → (a : ℕ) → IsCell f (part k) a → t.memory a ≡ s.memory a
    others_keep k l ne a c = element_keeps f call r i a out f.insns s t e
      where
        out : IsOutside f call r i a
        out p j d lj q =
            let dest = part_dest f near call (part here) (rect here) is p r i j d (dest_array f p d) has lj in
            cut.apart here k inside l ne (byte_at f call p r i j) p r2 i2 j c.0 c.1 c.2 c.3 dest c.4 (sym q ∙ c.5)

    module _ (unique : (j : ℕ) → j < n → Has (rect j) r i → j ≡ here) where
      far_same : (k : ℕ) → k < n → here ≢ k → far k r (suc i) ≡ far k r i
      far_same k l ne = progress_other f (part k) (begin k) (rect k) r i (λ h. ne (sym (unique k l h)))

      module _ (u x : State) (at : far here r i ≡ Ok u) (did : Did u x) where
        far_here : far here r (suc i) ≡ Ok x
        far_here = progress_element f (part here) (begin here) (rect here) r i has ∙ ap (λ y. go_on y (element f (part here) r2 i2 f.insns)) at ∙ did.0

        part_after : (k : ℕ) → k < n → ((w : State) × (far k r i ≡ Ok w) × Agree (IsCell f (part k)) s.memory w.memory) → (w : State) × (far k r (suc i) ≡ Ok w) × Agree (IsCell f (part k)) t.memory w.memory
        part_after k l before = ⊎_elim
            (λ q. subst (λ j. (w : State) × (far j r (suc i) ≡ Ok w) × Agree (IsCell f (part j)) t.memory w.memory) q (x, far_here, did.1.agree))
            (λ ne. (before.0, far_same k l ne ∙ before.1, λ a c. others_keep k l ne a c ∙ before.2 a c))
            (cases_eq here k)

        sums_after : (p : ℕ) → s.sums p % modulus f p ≡ total n (λ k. sum_in (far k r i) p) % modulus f p → t.sums p % modulus f p ≡ total n (λ k. sum_in (far k r (suc i)) p) % modulus f p
        sums_after p q =
            let m = modulus f p in
            let d = did.1.adds p in
            let g : ℕ → ℕ = λ k. sum_in (far k r i) p in
            let h : ℕ → ℕ = λ k. sum_in (far k r (suc i)) p in
            let grown : h here % m ≡ (g here + d) % m = ap (λ y. sum_in y p % m) far_here ∙ (did.1.sums p).1.0 ∙ ap (λ y. (sum_in y p + d) % m) (sym at) in
            let all : total n h % m ≡ (total n g + d) % m = total_grows m d n here g h inside grown (λ j l ne. ap (λ y. sum_in y p) (far_same j l (λ z. ne (sym z)))) in
            (did.1.sums p).0.0 ∙ sym (mod-add-mod (s.sums p) m d) ∙ ap (λ y. (y + d) % m) q ∙ mod-add-mod (total n g) m d ∙ sym all

  joined_element : (r i : ℕ) → r < rows f call → i < call.n → (s t : State) → Joined (λ k. far k r i) s → element f call r i f.insns s ≡ Ok t → Joined (λ k. far k r (suc i)) t
  joined_element r i row low s t j e =
      let o = cut.cuts.once r i row low in
      let u = j.parts o.0 o.1 in
      let d = does r i o.0 o.1 o.2 s t e u.0 u.2 in
      record {
        parts = λ k l. part_after r i o.0 o.1 o.2 s t e o.3 u.0 d.0 u.1 d.1 k l (j.parts k l);
        sums = λ p. sums_after r i o.0 o.1 o.2 s t e o.3 u.0 d.0 u.1 d.1 p (j.sums p);
        small = λ p. (d.1.1.sums p).0.1 (j.small p);
      }

  -- ---- rows

  joined_row : (r m : ℕ) → r < rows f call → m ≤ call.n → (s t : State) → Joined (λ k. far k r 0) s → row_of f call r m s ≡ Ok t → Joined (λ k. far k r m) t
  joined_row r zero row l s t j e = subst (Joined (λ k. far k r 0)) (ok_same s t e) j
  joined_row r (suc m) row l s t j e =
      let u = go_on_ok (row_of f call r m s) (element f call r m f.insns) t e in
      joined_element r m row (omega (arith, l)) u.0 t (joined_row r m row (omega (arith, l)) s u.0 j u.1) u.2

  next_row : (r : ℕ) → (t : State) → Joined (λ k. far k r call.n) t → Joined (λ k. far k (suc r) 0) t
  next_row r t j = record {
    parts = λ k l. let x = j.parts k l in (x.0, same k l ∙ x.1, x.2);
    sums = λ p. j.sums p ∙ ap (λ y. y % modulus f p) (sym (total_same n (λ k. sum_in (far k r call.n) p) (λ k. sum_in (far k (suc r) 0) p) (λ k l. ap (λ y. sum_in y p) (same k l))));
    small = j.small;
  }
    where
      same : (k : ℕ) → k < n → far k (suc r) 0 ≡ far k r call.n
      same k l = progress_row f (part k) (begin k) (rect k) r call.n (cut.parts k l).n (cut.cuts.fits k l).elements_within

  joined_rows : (m : ℕ) → m ≤ rows f call → (s t : State) → Joined (λ k. far k 0 0) s → rows_of f call m s ≡ Ok t → Joined (λ k. far k m 0) t
  joined_rows zero l s t j e = subst (Joined (λ k. far k 0 0)) (ok_same s t e) j
  joined_rows (suc m) l s t j e =
      let u = go_on_ok (rows_of f call m s) (row_of f call m call.n) t e in
      next_row m t (joined_row m call.n (omega (arith, l)) (omega arith) u.0 t (joined_rows m (omega (arith, l)) s u.0 j u.1) u.2)

-- ---- the ends

abbrev end_in : FunctionValue → Result State Gap → Memory × List ℕ
end_in f (Ok t) = (t.memory, sums_of f t)
end_in f (Err g) = ((λ a. None), [])

map_at : (g : ℕ → ℕ) (ps : List ℕ) (i : ℕ) → i < length ps → get_or (map g ps) i 0 ≡ g (get_or ps i 0)
map_at g [] i l = absurd (omega (arith, l))
map_at g (p ∷ ps) zero l = refl
map_at g (p ∷ ps) (suc i) l = map_at g ps i (omega (arith, l))

length_map : (g : ℕ → ℕ) (ps : List ℕ) → length (map g ps) ≡ length ps
length_map g [] = refl
length_map g (p ∷ ps) = ap suc (length_map g ps)

total_zero : (n : ℕ) → total n (λ k. 0) ≡ 0
total_zero zero = refl
total_zero (suc n) = let e = total_zero n in omega (arith, e)

module _ (f : FunctionValue) (kept : is_function f ≡ true) (near : has_far f ≡ false) (call : Call) (n : ℕ) (rect : ℕ → Rect) (part : ℕ → Call) (cut : IsCut f call n rect part) (mem : Memory) (own : ℕ → Memory)
    (agree : (k : ℕ) → k < n → (a : ℕ) → IsCell f (part k) a → own k a ≡ mem a) where
  abbrev begin : ℕ → State
  begin k = start (own k)

  abbrev far_of : ℕ → ℕ → ℕ → Result State Gap
  far_of k r i = progress f (part k) (begin k) (rect k) r i

  begun : (k : ℕ) → far_of k 0 0 ≡ Ok (begin k)
  begun k = progress_start f (part k) (begin k) (rect k)

  joined_start : Joined f kept near call n rect part cut begin (λ k. far_of k 0 0) (start mem)
  joined_start = record {
    parts = λ k l. (begin k, begun k, λ a c. sym (agree k l a c));
    sums = λ p. ap (λ y. y % modulus f p) (sym (total_same n (λ k. 0) (λ k. sum_in (far_of k 0 0) p) (λ k l. ap (λ y. sum_in y p) (begun k)) ∙ total_zero n));
    small = λ p. pow_pos (8 * (var_at f.vars p).size);
  }

  abbrev ends : ℕ → Memory × List ℕ
  ends k = end_in f (far_of k (rows f call) 0)

  module _ (u : State) (end : Memory × List ℕ) (at_end : (u.memory, sums_of f u) ≡ end) (j : Joined f kept near call n rect part cut begin (λ k. far_of k (rows f call) 0) u) where
    end_of : (k : ℕ) → (l : k < n) → ends k ≡ ((j.parts k l).0.memory, sums_of f (j.parts k l).0)
    end_of k l = ap (end_in f) (j.parts k l).1

    ended_so : (k : ℕ) → k < n → emulate f (part k) (own k) ≡ Ok (ends k)
    ended_so k l =
        let is = cut.parts k l in
        let all : rows_of f (part k) (rows f (part k)) (begin k) ≡ Ok (j.parts k l).0 =
        ap (λ m. rows_of f (part k) m (begin k)) is.m ∙ sym (progress_end f (part k) (begin k) (rect k) (rows f call) (cut.cuts.fits k l).rows_within) ∙ (j.parts k l).1 in
        ap (λ x. go_on x (ended f)) all ∙ ap (λ x. Ok x) (sym (end_of k l))

    cells : (k : ℕ) → k < n → (a : ℕ) → IsCell f (part k) a → end.0 a ≡ (ends k).0 a
    cells k l a c = ap (λ (x : Memory × List ℕ). x.0 a) (sym at_end) ∙ (j.parts k l).2 a c ∙ ap (λ (x : Memory × List ℕ). x.0 a) (sym (end_of k l))

    sum_at : (t : State) (g : ℕ) → g < length (places_of kind.Accumulator f.vars) → slice_index (sums_of f t) g ≡ t.sums (slice_index (places_of kind.Accumulator f.vars) g)
    sum_at t g l = map_at t.sums (places_of kind.Accumulator f.vars) g l

    sums : (g : ℕ) → g < length end.1 → slice_index end.1 g ≡ total n (λ k. slice_index (ends k).1 g) % 2 ^ (8 * sum_size f g)
    sums g l =
        let ps = places_of kind.Accumulator f.vars in
        let p = slice_index ps g in
        let short : g < length ps = subst (λ x. g < x) (ap (λ (x : Memory × List ℕ). length x.1) (sym at_end) ∙ length_map u.sums ps) l in
        let each : total n (λ k. sum_in (far_of k (rows f call) 0) p) ≡ total n (λ k. slice_index (ends k).1 g) =
        total_same n (λ k. slice_index (ends k).1 g) (λ k. sum_in (far_of k (rows f call) 0) p)
        (λ k lk. ap (λ y. sum_in y p) (j.parts k lk).1 ∙ sym (sum_at (j.parts k lk).0 g short) ∙ ap (λ (x : Memory × List ℕ). slice_index x.1 g) (sym (end_of k lk))) in
        ap (λ (x : Memory × List ℕ). slice_index x.1 g) (sym at_end) ∙ sum_at u g short ∙ sym (mod-eq_of_lt (j.small p)) ∙ j.sums p ∙ ap (λ x. x % modulus f p) each

  others : (end : Memory × List ℕ) → emulate f call mem ≡ Ok end → (a : ℕ) → ((k : ℕ) → k < n → IsDestCell f (part k) a → ⊥) → end.0 a ≡ mem a
  others end e a none = emulate_keeps f call a outside mem end e
    where
      outside : (r i : ℕ) → r < rows f call → i < call.n → IsOutside f call r i a
      outside r i row low p b d l here =
          let o = cut.cuts.once r i row low in
          let byte = part_dest f near call (part o.0) (rect o.0) (cut.parts o.0 o.1) p r i b d (dest_array f p d) o.2 l in
          none o.0 o.1 (p, r - (rect o.0).row, i - (rect o.0).element, b, subst (λ x. IsDestByte f (part o.0) x p (r - (rect o.0).row) (i - (rect o.0).element) b) (sym here) byte)

  add_up : (end : Memory × List ℕ) → emulate f call mem ≡ Ok end → (ends : ℕ → Memory × List ℕ) × ((k : ℕ) → k < n → emulate f (part k) (own k) ≡ Ok (ends k)) × AddsUp f n part mem end ends
  add_up end e =
      let u = go_on_ok (rows_of f call (rows f call) (start mem)) (ended f) end e in
      let at_end = ok_same (u.0.memory, sums_of f u.0) end u.2 in
      let j = joined_rows f kept near call n rect part cut begin (rows f call) (omega arith) (start mem) u.0 joined_start u.1 in
      (ends, ended_so u.0 end at_end j, record { cells = cells u.0 end at_end j; others = others end e; sums = sums u.0 end at_end j })

  -- the whole's cells are the parts'
  all_mapped : ((k : ℕ) → k < n → (a : ℕ) → IsCell f (part k) a → IsMapped mem a) → AllMapped f call mem
  all_mapped mapped p r i j b =
      let o = cut.cuts.once r i b.row (element_of f call near p i b.element) in
      mapped o.0 o.1 (byte_at f call p r i j) (part_cell f near call (part o.0) (rect o.0) (cut.parts o.0 o.1) p r i j b.array o.2 b.inside)

okay_of : {A : Type 0} (x : Result A Gap) → HasNoGap x → (y : A) × (x ≡ Ok y)
okay_of (Ok y) h = (y, refl)
okay_of (Err g) h = absurd h

pub parts_add_up : (f : FunctionValue) (call : Call) → PartsAddUp f call
parts_add_up f call kept near n rect part cut mem own mapped agree =
    let end = okay_of (emulate f call mem) (emulate_fine f call mem (all_mapped f kept near call n rect part cut mem own agree mapped)) in
    (end.0, end.1, add_up f kept near call n rect part cut mem own agree end.0 end.1)
