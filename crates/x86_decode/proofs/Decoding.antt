-- Decoding answers exactly the instruction whose spelling begins the bytes.
use Rattle.std.proofs.Common.{◌≡◌, ℕ, true, List, ◌++◌, length, drop, nat_eq, Option, Some, None, refl, sym, ap, ◌∙◌, IsTrue, inl, inr, arith}
use Rattle.std.specs.Prelude.{IfSome, IfNone, option_and_then}
use Rattle.std.specs.List.{starts_with}
use Rattle.std.proofs.lemmas.Bool.{cases_Bool}
use Rattle.std.proofs.lemmas.Bool.Decides.{Decides-eqb}
use Rattle.std.proofs.lemmas.Option.{none-some}
use Rattle.std.proofs.lemmas.Slice.Eq.{starts_is}
use Rattle.x86_ins.specs.declared.ins.Ins.{Ins}
use Rattle.x86_ins.specs.Spelling.{spelling, has_spelling, IsIns, IsAllowed, Begins, Decode}
use Rattle.x86_decode.specs.Reading.{guess, checked, decoded}
use Rattle.x86_decode.proofs.RowLaws.{read_again}

-- what is answered is right
abbrev pub IsRight : List ℕ → Ins × ℕ → Type 0
IsRight bytes r = IsTrue (has_spelling r.0) × (r.1 ≡ length (spelling r.0)) × Begins (spelling r.0) bytes

checked_right : (bytes : List ℕ) (i : Ins) → IfSome (checked bytes i) (IsRight bytes)
checked_right bytes i =
    elim (cases_Bool (has_spelling i)) [
      | inl t ↦ rw t (elim (cases_Bool (starts_with nat_eq bytes (spelling i))) [
        | inl b ↦ rw b (t, refl, (drop (length (spelling i)) bytes, (starts_is Decides-eqb bytes (spelling i) _ refl).0 b))
        | inr b ↦ rw b tt
      ])
      | inr f ↦ rw f tt
    ]

pub decoded_right : (bytes : List ℕ) → IfSome (decoded bytes) (IsRight bytes)
unfolding decoded
decoded_right bytes = elim (guess bytes) as (λ g. IfSome (option_and_then (checked bytes) g) (IsRight bytes)) [ None ↦ tt | Some i ↦ checked_right bytes i ]

pub decoded_only : (bytes : List ℕ) (i : Ins) → IsIns i → IsTrue (has_spelling i) → Begins (spelling i) bytes → decoded bytes ≡ Some (i, length (spelling i))
unfolding decoded
decoded_only bytes i h t b =
    let e : guess bytes ≡ Some i = ap guess b.1 ∙ read_again i h b.0 in
    let s : starts_with nat_eq bytes (spelling i) ≡ true = (starts_is Decides-eqb bytes (spelling i) _ refl).1 b.0 b.1 in
    let t' : has_spelling i ≡ true = grind arith in
    rw e (rw (t', s) refl)

-- the same in the terms of Decode
pub decoded_some : (bytes : List ℕ) (r : Option (Ins × ℕ)) → IfSome r (IsRight bytes) → IfSome r (λ x. IsIns x.0) → IfSome r (λ x. Decode bytes x.0 x.1)
decoded_some bytes None right ranges = tt
decoded_some bytes (Some x) right ranges = record { allowed = (ranges, right.0); size = sym right.1; begins = right.2 }

pub decoded_once : (bytes : List ℕ) (i : Ins) (n : ℕ) → Decode bytes i n → decoded bytes ≡ Some (i, n)
decoded_once bytes i n d = decoded_only bytes i d.allowed.0 d.allowed.1 d.begins ∙ ap (λ k. Some (i, k)) d.size

pub decoded_again : (bytes : List ℕ) (i : Ins) (rest : List ℕ) → IsAllowed i → bytes ≡ spelling i ++ rest → decoded bytes ≡ Some (i, length (spelling i))
decoded_again bytes i rest a e = decoded_only bytes i a.0 a.1 (rest, e)

-- where nothing is answered, nothing is right
pub decoded_none : (bytes : List ℕ) (r : Option (Ins × ℕ)) → ((i : Ins) (n : ℕ) → Decode bytes i n → r ≡ Some (i, n)) → IfNone r ((i : Ins) (n : ℕ) → Decode bytes i n → ⊥)
decoded_none bytes None only = λ i n d. none-some (i, n) (only i n d)
decoded_none bytes (Some r) only = tt

-- spellings that begin the same bytes are of one instruction
pub one : (i j : Ins) (x y : List ℕ) → IsIns i → IsIns j → spelling i ++ x ≡ spelling j ++ y → i ≡ j
one i j x y h k e =
    let both : Some i ≡ Some j = sym (read_again i h x) ∙ ap guess e ∙ read_again j k y in
    cc
