-- An early end of a row and of the rows.
use Rattle.std.proofs.Common.{◌≡◌, ℕ, zero, suc, ◌+◌, ◌<◌, ◌≤◌, ◌⊎◌, inl, inr, Result, Ok, Err, IfErr, refl, sym, subst, ap, ◌∙◌, arith}
use Rattle.std.proofs.lemmas.Bool.{cases_eq}
use Rattle.orc_program.specs.declared.call.Call.{Call}
use Rattle.orc_program.specs.Program.{FunctionValue}
use Rattle.orc_program.specs.Meaning.{State, Gap, go_on, element, row_of, rows_of}

abbrev stop : Gap → Result State Gap
stop g = Err g

abbrev go : State → Result State Gap
go s = Ok s

row_stays : (f : FunctionValue) (call : Call) (r k n : ℕ) (s : State) (g : Gap) → k ≤ n → row_of f call r k s ≡ stop g → row_of f call r n s ≡ stop g
row_stays f call r k zero s g l e = ap (λ m. row_of f call r m s) (let q : 0 ≡ k = omega (arith, l) in q) ∙ e
row_stays f call r k (suc n) s g l e = cases (cases_eq k (suc n)) (row_stays f call r k n s g)
  where
    cases : (k ≡ suc n) ⊎ (k ≡ suc n → ⊥) → (k ≤ n → row_of f call r k s ≡ stop g → row_of f call r n s ≡ stop g) → row_of f call r (suc n) s ≡ stop g
    cases (inl q) rest = ap (λ m. row_of f call r m s) (sym q) ∙ e
    cases (inr ne) rest = ap (λ (x : Result State Gap). go_on x (element f call r n f.insns)) (rest (omega (arith, l, ne)) e)

-- the first gap of a row's elements is the row's
pub row_stops : (f : FunctionValue) (call : Call) (r i n : ℕ) (s t : State) (g : Gap) → row_of f call r i s ≡ go t → element f call r i f.insns t ≡ stop g → i < n → row_of f call r n s ≡ stop g
row_stops f call r i n s t g a b l = row_stays f call r (suc i) n s g l (ap (λ (x : Result State Gap). go_on x (element f call r i f.insns)) a ∙ b)

rows_stay : (f : FunctionValue) (call : Call) (k n : ℕ) (s : State) (g : Gap) → k ≤ n → rows_of f call k s ≡ stop g → rows_of f call n s ≡ stop g
rows_stay f call k zero s g l e = ap (λ m. rows_of f call m s) (let q : 0 ≡ k = omega (arith, l) in q) ∙ e
rows_stay f call k (suc n) s g l e = cases (cases_eq k (suc n)) (rows_stay f call k n s g)
  where
    cases : (k ≡ suc n) ⊎ (k ≡ suc n → ⊥) → (k ≤ n → rows_of f call k s ≡ stop g → rows_of f call n s ≡ stop g) → rows_of f call (suc n) s ≡ stop g
    cases (inl q) rest = ap (λ m. rows_of f call m s) (sym q) ∙ e
    cases (inr ne) rest = ap (λ (x : Result State Gap). go_on x (row_of f call n call.n)) (rest (omega (arith, l, ne)) e)

-- the first gap of the rows is that of the whole
pub rows_stop : (f : FunctionValue) (call : Call) (i n : ℕ) (s t : State) (g : Gap) → rows_of f call i s ≡ go t → row_of f call i call.n t ≡ stop g → i < n → rows_of f call n s ≡ stop g
rows_stop f call i n s t g a b l = rows_stay f call (suc i) n s g l (ap (λ (x : Result State Gap). go_on x (row_of f call i call.n)) a ∙ b)

pub if_err : {A E : Type 0} (P : E → Type 0) (r : Result A E) (e : E) → r ≡ Err e → P e → IfErr r P
if_err P r e same h = subst (λ x. IfErr x P) (sym same) h
