-- How far a part has come when the whole call has done some rows, and some elements of the next row.
use Rattle.std.proofs.Common.{◌≡◌, ℕ, suc, ◌+◌, ◌-◌, ◌<◌, ◌≤◌, min, true, false, ◌&&◌, nat_le, nat_lt, arith, Result, Ok, Err, refl, sym, ap, ap₂, ◌∙◌, if◌then◌else◌, ◌⊎◌, inl, inr, ⊎_elim}
use Rattle.std.proofs.lemmas.Bool.{cases_lt}
use Rattle.std.proofs.lemmas.Bool.Decides.{nat_tests}
use Rattle.orc_program.specs.declared.call.Call.{Call}
use Rattle.orc_program.specs.declared.rect.Rect.{Rect}
use Rattle.orc_program.specs.Program.{FunctionValue}
use Rattle.orc_program.specs.Meaning.{State, Gap, go_on, element, row_of, rows_of}
use Rattle.orc_program.specs.Cut.{Has}

go_on_then : {A B D : Type 0} (x : Result A Gap) (g : A → Result B Gap) (h : B → Result D Gap) → go_on x (λ a. go_on (g a) h) ≡ go_on (go_on x g) h
go_on_then (Ok x) g h = refl
go_on_then (Err e) g h = refl

go_on_end : {A : Type 0} (x : Result A Gap) → go_on x (λ a. Ok a) ≡ x
go_on_end (Ok x) = refl
go_on_end (Err e) = refl

-- ---- rows and elements that are done

-- of so many numbers from one on, those below x
abbrev pub below : ℕ → ℕ → ℕ → ℕ
below from count x = min (x - from) count

abbrev pub rows_done : Rect → ℕ → ℕ
rows_done q r = below q.row q.rows r

abbrev pub elements_done : Rect → ℕ → ℕ → ℕ
elements_done q r i = if nat_le q.row r && nat_lt r (q.row + q.rows) then below q.element q.elements i else 0

is_within : (q : Rect) (r : ℕ) → q.row ≤ r → r < q.row + q.rows → (nat_le q.row r && nat_lt r (q.row + q.rows)) ≡ true
is_within q r a b = grind (arith, nat_tests, a, b)

is_before : (q : Rect) (r : ℕ) → r < q.row → (nat_le q.row r && nat_lt r (q.row + q.rows)) ≡ false
is_before q r a = grind (arith, nat_tests, a)

is_behind : (q : Rect) (r : ℕ) → q.row + q.rows ≤ r → (nat_le q.row r && nat_lt r (q.row + q.rows)) ≡ false
is_behind q r a = grind (arith, nat_tests, a)

within_rows : (q : Rect) (r i : ℕ) → q.row ≤ r → r < q.row + q.rows → elements_done q r i ≡ below q.element q.elements i
within_rows q r i a b = ap (λ c. if c then below q.element q.elements i else 0) (is_within q r a b)

before_rows : (q : Rect) (r i : ℕ) → r < q.row → elements_done q r i ≡ 0
before_rows q r i a = ap (λ c. if c then below q.element q.elements i else 0) (is_before q r a)

behind_rows : (q : Rect) (r i : ℕ) → q.row + q.rows ≤ r → elements_done q r i ≡ 0
behind_rows q r i a = ap (λ c. if c then below q.element q.elements i else 0) (is_behind q r a)

-- no element of a row that has begun is done
none_begun : (q : Rect) (r : ℕ) → elements_done q r 0 ≡ 0
none_begun q r = ⊎_elim (λ l. before_rows q r 0 l) (λ g. ⊎_elim
    (λ l. within_rows q r 0 g l ∙ (let e : min (0 - q.element) q.elements ≡ 0 = omega arith in e))
    (λ b. behind_rows q r 0 b)
    (cases_lt r (q.row + q.rows))) (cases_lt r q.row)

-- whether an element is the rectangle's
pub has_or_not : (q : Rect) (r i : ℕ) → Has q r i ⊎ (Has q r i → ⊥)
has_or_not q r i = ⊎_elim (λ l. inr (λ h. omega (arith, l, h.from_row))) (λ a. ⊎_elim
    (λ b. ⊎_elim (λ l. inr (λ h. omega (arith, l, h.from_element))) (λ c. ⊎_elim
    (λ d. inl (record { from_row = a; to_row = b; from_element = c; to_element = d }))
    (λ g. inr (λ h. omega (arith, g, h.to_element)))
    (cases_lt i (q.element + q.elements))) (cases_lt i q.element))
    (λ g. inr (λ h. omega (arith, g, h.to_row)))
    (cases_lt r (q.row + q.rows))) (cases_lt r q.row)

-- an element that isn't the rectangle's leaves the count
same_count : (q : Rect) (r i : ℕ) → (Has q r i → ⊥) → elements_done q r (suc i) ≡ elements_done q r i
same_count q r i n = ⊎_elim (λ l. before_rows q r (suc i) l ∙ sym (before_rows q r i l)) (λ a. ⊎_elim
    (λ b. within_rows q r (suc i) a b ∙ counts a b ∙ sym (within_rows q r i a b))
    (λ g. behind_rows q r (suc i) g ∙ sym (behind_rows q r i g))
    (cases_lt r (q.row + q.rows))) (cases_lt r q.row)
  where
    counts : q.row ≤ r → r < q.row + q.rows → min (suc i - q.element) q.elements ≡ min (i - q.element) q.elements
    counts a b = ⊎_elim (λ l. omega (arith, l)) (λ c. ⊎_elim
        (λ d. absurd (n (record { from_row = a; to_row = b; from_element = c; to_element = d })))
        (λ g. omega (arith, g))
        (cases_lt i (q.element + q.elements))) (cases_lt i q.element)

-- ---- the part's state

module _ (f : FunctionValue) (part : Call) (s : State) where
  -- so many rows, and so many elements of the next one
  abbrev go : ℕ → ℕ → Result State Gap
  go a b = go_on (rows_of f part a s) (row_of f part a b)

  go_element : (a b : ℕ) → go a (suc b) ≡ go_on (go a b) (element f part a b f.insns)
  go_element a b = go_on_then (rows_of f part a s) (row_of f part a b) (element f part a b f.insns)

  go_none : (a : ℕ) → go a 0 ≡ rows_of f part a s
  go_none a = go_on_end (rows_of f part a s)

  module _ (q : Rect) where
    abbrev pub progress : ℕ → ℕ → Result State Gap
    progress r i = go (rows_done q r) (elements_done q r i)

    pub progress_start : progress 0 0 ≡ Ok s
    progress_start = ap₂ go (let e : min (0 - q.row) q.rows ≡ 0 = omega arith in e) (none_begun q 0)

    pub progress_element : (r i : ℕ) → Has q r i → progress r (suc i) ≡ go_on (progress r i) (element f part (r - q.row) (i - q.element) f.insns)
    progress_element r i h =
        let row : rows_done q r ≡ r - q.row = omega (arith, h.from_row, h.to_row) in
        let at : elements_done q r i ≡ i - q.element = within_rows q r i h.from_row h.to_row ∙ (let e : min (i - q.element) q.elements ≡ i - q.element = omega (arith, h.from_element, h.to_element) in e) in
        let next : elements_done q r (suc i) ≡ suc (i - q.element) = within_rows q r (suc i) h.from_row h.to_row ∙ (let e : min (suc i - q.element) q.elements ≡ suc (i - q.element) = omega (arith, h.from_element, h.to_element) in e) in
        ap₂ go row next ∙ go_element (r - q.row) (i - q.element)
        ∙ ap (λ x. go_on x (element f part (r - q.row) (i - q.element) f.insns)) (sym (ap₂ go row at))

    pub progress_other : (r i : ℕ) → (Has q r i → ⊥) → progress r (suc i) ≡ progress r i
    progress_other r i h = ap (go (rows_done q r)) (same_count q r i h)

    -- the end of a row of so many elements
    pub progress_row : (r m : ℕ) → part.n ≡ q.elements → q.element + q.elements ≤ m → progress (suc r) 0 ≡ progress r m
    progress_row r m n l = ap (go (rows_done q (suc r))) (none_begun q (suc r)) ∙ go_none (rows_done q (suc r)) ∙ ⊎_elim
        (λ b. same (let e : rows_done q (suc r) ≡ rows_done q r = omega (arith, b) in e) (before_rows q r m b))
        (λ a. ⊎_elim
        (λ b. more (let e : rows_done q (suc r) ≡ suc (rows_done q r) = omega (arith, a, b) in e) (within_rows q r m a b ∙ (let e : min (m - q.element) q.elements ≡ q.elements = omega (arith, l) in e)))
        (λ b. same (let e : rows_done q (suc r) ≡ rows_done q r = omega (arith, b) in e) (behind_rows q r m b))
        (cases_lt r (q.row + q.rows)))
        (cases_lt r q.row)
      where
        same : rows_done q (suc r) ≡ rows_done q r → elements_done q r m ≡ 0 → rows_of f part (rows_done q (suc r)) s ≡ progress r m
        same e z = ap (λ a. rows_of f part a s) e ∙ sym (go_none (rows_done q r)) ∙ ap (go (rows_done q r)) (sym z)

        more : rows_done q (suc r) ≡ suc (rows_done q r) → elements_done q r m ≡ q.elements → rows_of f part (rows_done q (suc r)) s ≡ progress r m
        more e z = ap (λ a. rows_of f part a s) e ∙ ap (go (rows_done q r)) (n ∙ sym z)

    pub progress_end : (m : ℕ) → q.row + q.rows ≤ m → progress m 0 ≡ rows_of f part q.rows s
    progress_end m l = ap (go (rows_done q m)) (none_begun q m) ∙ go_none (rows_done q m) ∙ ap (λ a. rows_of f part a s) (let e : min (m - q.row) q.rows ≡ q.rows = omega (arith, l) in e)
