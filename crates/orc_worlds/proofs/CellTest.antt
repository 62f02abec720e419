-- A test for addresses of cells.
use Rattle.std.proofs.Common.{◌≡◌, ℕ, zero, suc, ◌<◌, ◌&&◌, nat_eq, Bool, true, false, if◌then◌else◌, true≢false, length, refl, sym, ap, ◌∙◌, arith, ⊎_elim}
use Rattle.std.proofs.lemmas.Bool.{cases_lt}
use Rattle.std.proofs.lemmas.Bool.Decides.{nat_tests}
use Rattle.orc_program.specs.declared.call.Call.{Call}
use Rattle.orc_program.specs.Program.{FunctionValue, var_at, is_array, has_far}
use Rattle.orc_program.specs.Meaning.{rows}
use Rattle.orc_program.specs.Good.{byte_at}
use Rattle.orc_program.specs.Cut.{IsCell}
use Rattle.orc_program.proofs.Near.{has_cell, element_of}

-- one of the first n passes a test
abbrev some_below : ℕ → (ℕ → Bool) → Bool
some_below zero t = false
some_below (suc n) t = if t n then true else some_below n t

found : (n : ℕ) (t : ℕ → Bool) → some_below n t ≡ true → (k : ℕ) × (k < n) × (t k ≡ true)
found zero t e = absurd (true≢false (sym e))
found (suc n) t e = go (t n) refl (found n t)
  where
    go : (b : Bool) → t n ≡ b → (some_below n t ≡ true → (k : ℕ) × (k < n) × (t k ≡ true)) → (k : ℕ) × (k < suc n) × (t k ≡ true)
    go true h rest = (n, omega arith, h)
    go false h rest = let x = rest (sym (ap (λ b. if b then true else some_below n t) h) ∙ e) in (x.0, omega (arith, x.1), x.2)

passes : (n : ℕ) (t : ℕ → Bool) (k : ℕ) → k < n → t k ≡ true → some_below n t ≡ true
passes zero t k l h = absurd (omega (arith, l))
passes (suc n) t k l h = go (t n) refl (passes n t k)
  where
    go : (b : Bool) → t n ≡ b → (k < n → t k ≡ true → some_below n t ≡ true) → some_below (suc n) t ≡ true
    go true e rest = ap (λ b. if b then true else some_below n t) e
    go false e rest =
        ap (λ b. if b then true else some_below n t) e
        ∙ ⊎_elim
        (λ less. rest less h)
        (λ more. let is : k ≡ n = omega (arith, l, more) in absurd (true≢false (sym h ∙ ap t is ∙ e)))
        (cases_lt k n)

both : (a b : Bool) → (a && b) ≡ true → (a ≡ true) × (b ≡ true)
both true true e = (refl, refl)
both true false e = absurd (true≢false (sym e))
both false b e = absurd (true≢false (sym e))

same_number : (a b : ℕ) → nat_eq a b ≡ true → a ≡ b
same_number a b e = grind (arith, nat_tests, e)

number_same : (a b : ℕ) → a ≡ b → nat_eq a b ≡ true
number_same a b e = grind (arith, nat_tests, e)

module _ (f : FunctionValue) (call : Call) (a : ℕ) where
  abbrev at_byte : ℕ → ℕ → ℕ → ℕ → Bool
  at_byte p r i j = nat_eq a (byte_at f call p r i j)

  abbrev in_cell : ℕ → ℕ → ℕ → Bool
  in_cell p r i = some_below (var_at f.vars p).size (at_byte p r i)

  abbrev in_row : ℕ → ℕ → Bool
  in_row p r = some_below call.n (in_cell p r)

  abbrev in_array : ℕ → Bool
  in_array p = is_array (var_at f.vars p) && some_below (rows f call) (in_row p)

  -- whether an address is a byte of a cell
  unfoldable pub is_cell : Bool
  is_cell = some_below (length f.vars) in_array

  pub cell_found : has_far f ≡ false → is_cell ≡ true → IsCell f call a
  unfolding is_cell
  cell_found near e =
      let p = found (length f.vars) in_array e in
      let x = both (is_array (var_at f.vars p.0)) (some_below (rows f call) (in_row p.0)) p.2 in
      let r = found (rows f call) (in_row p.0) x.1 in
      let i = found call.n (in_cell p.0 r.0) r.2 in
      let j = found (var_at f.vars p.0).size (at_byte p.0 r.0 i.0) i.2 in
      (p.0, r.0, i.0, j.0, record { array = (p.1, x.0); row = r.1; element = has_cell f call near p.0 i.0 i.1; inside = j.1 }, same_number a (byte_at f call p.0 r.0 i.0 j.0) j.2)

  pub cell_passes : has_far f ≡ false → IsCell f call a → is_cell ≡ true
  unfolding is_cell
  cell_passes near h =
      let p = h.0 in
      let r = h.1 in
      let i = h.2 in
      let j = h.3 in
      let b = h.4 in
      let bytes = passes (var_at f.vars p).size (at_byte p r i) j b.inside (number_same a (byte_at f call p r i j) h.5) in
      let cells = passes call.n (in_cell p r) i (element_of f call near p i b.element) bytes in
      let lines = passes (rows f call) (in_row p) r b.row cells in
      passes (length f.vars) in_array p b.array.0 (ap (λ t. t && some_below (rows f call) (in_row p)) b.array.1 ∙ lines)
