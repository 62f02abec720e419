-- What a variable keeps, one by one.
use Rattle.std.proofs.Common.{◌≡◌, ℕ, ◌^◌, ◌<◌, ◌==◌, ◌&&◌, ◌||◌, true, not, nat_lt, if◌then◌else◌, arith}
use Rattle.std.specs.List.{list_all}
use Rattle.std.proofs.lemmas.Bool.Decides.{nat_tests}
use Rattle.orc_program.specs.declared.program.Var.{Var}
use Rattle.orc_program.specs.declared.program.VarKind.{VarKind}
use Rattle.orc_program.specs.declared.program.VarKind.TheVariants as kind
use Rattle.orc_program.specs.Words.{is_word, is_name}
use Rattle.orc_program.specs.Notes.{ends_in_align, has_bad_align}
use Rattle.orc_program.specs.Program.{is_array, is_of}
use Rattle.orc_program.specs.Kept.{is_var, is_size_for, is_size, has_none}
use Rattle.orc_program.proofs.Apart.{IsSize}
use Rattle.orc_program.proofs.Sizes.{both}

pub same_number : (m n : ℕ) → (m == n) ≡ true → m ≡ n
same_number m n h = grind (arith, nat_tests, h)

pub below : (m n : ℕ) → nat_lt m n ≡ true → m < n
below m n h = grind (arith, nat_tests, h)

one_size : (n : ℕ) → is_size n ≡ true → IsSize n
one_size n h = grind (arith, h)

pub sized : (k : VarKind) (n : ℕ) → is_size_for k n ≡ true → IsSize n
sized kind.Source n h = one_size n h
sized kind.Dest n h = one_size n h
sized kind.Accumulator n h = grind (arith, h)
sized kind.Param n h = one_size n h
sized kind.Const n h = one_size n h
sized kind.Temp n h = one_size n h

pub record KeptVar (v : Var) : Type 0 where
  pub size : is_size_for v.kind v.size ≡ true
  pub rest : (if is_of kind.Const v then has_none v.words else v.number == 0) ≡ true
  pub words : list_all is_word v.words ≡ true
  pub array : not (is_array v) || not (ends_in_align v.words || has_bad_align v.words) ≡ true
  pub name : is_name v.name ≡ true
  pub number : v.number < 2 ^ 64

pub kept_var : (v : Var) → is_var v ≡ true → KeptVar v
kept_var v h =
    let size = is_size_for v.kind v.size in
    let rest = if is_of kind.Const v then has_none v.words else v.number == 0 in
    let words = list_all is_word v.words in
    let array = not (is_array v) || not (ends_in_align v.words || has_bad_align v.words) in
    let name = is_name v.name in
    let number = nat_lt v.number (2 ^ 64) in
    let a = both size (rest && (words && (array && (name && number)))) h in
    let b = both rest (words && (array && (name && number))) a.1 in
    let c = both words (array && (name && number)) b.1 in
    let d = both array (name && number) c.1 in
    let e = both name number d.1 in
    record { size = a.0; rest = b.0; words = c.0; array = d.0; name = e.0; number = below v.number (2 ^ 64) e.1 }
