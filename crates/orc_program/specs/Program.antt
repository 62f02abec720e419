-- Programs as values, and what stands at a place of a function's list of variables.
use Rattle.std.specs.Prelude.{ℕ, ◌+◌, Bool, true, false, ◌||◌, ◌==◌, List, [], ◌∷◌, Option, Some, None, if◌then◌else◌, slice_index_or, take, length, filter, is_some}
use Rattle.std.specs.List.{count_by, range_with_len, list_any}
use Rattle.std.specs.Str.{bytes_eq}
use Rattle.orc_ops.specs.Far.{far_of}
use Rattle.orc_program.specs.declared.program.Var.{Var}
use Rattle.orc_program.specs.declared.program.VarKind.{VarKind}
use Rattle.orc_program.specs.declared.program.VarKind.TheVariants as kind
use Rattle.orc_program.specs.declared.program.Operand.{Operand}
use Rattle.orc_program.specs.declared.program.Operand.TheVariants as operand
use Rattle.orc_program.specs.declared.program.Insn.{Insn}
use Rattle.orc_program.specs.declared.program.Notes.{Notes}

-- A function: its name, whether it has rows, its variables and instructions in order, and its notes.
pub record FunctionValue : Type 0 where
  pub name : List ℕ
  pub two_d : Bool
  pub vars : List Var
  pub insns : List Insn
  pub notes : Notes

-- A program: the name after `.init`, and its functions in order.
pub record ProgramValue : Type 0 where
  pub init : Option (List ℕ)
  pub functions : List FunctionValue

-- ---- kinds

-- one and the same kind
abbrev pub same_kind : VarKind → VarKind → Bool
same_kind kind.Source kind.Source = true
same_kind kind.Dest kind.Dest = true
same_kind kind.Accumulator kind.Accumulator = true
same_kind kind.Param kind.Param = true
same_kind kind.Const kind.Const = true
same_kind kind.Temp kind.Temp = true
same_kind a b = false

-- a variable of this kind
abbrev pub is_of : VarKind → Var → Bool
is_of k v = same_kind k v.kind

-- a dest or a source
abbrev pub is_array_kind : VarKind → Bool
is_array_kind k = same_kind k kind.Dest || same_kind k kind.Source

-- a variable that is an array
abbrev pub is_array : Var → Bool
is_array v = is_array_kind v.kind

-- ---- places

-- what stands past the end of a list of variables: a number
abbrev pub no_var : Var
no_var = record { kind = kind.Const; size = 0; name = []; number = 0; words = [] }

-- the variable at a place
abbrev pub var_at : List Var → ℕ → Var
var_at vars p = slice_index_or vars p no_var

-- how many variables of a kind there are, and how many stand before a place
abbrev pub count_of : VarKind → List Var → ℕ
count_of k vars = count_by (is_of k) vars

abbrev pub count_before : VarKind → List Var → ℕ → ℕ
count_before k vars p = count_of k (take p vars)

-- the number of dests and sources
abbrev pub array_count : List Var → ℕ
array_count vars = count_of kind.Dest vars + count_of kind.Source vars

-- the place of an array among a call's: the dests, then the sources, each in order of declaration
abbrev pub array_number : List Var → ℕ → ℕ
array_number vars p = if is_of kind.Dest (var_at vars p) then count_before kind.Dest vars p else count_of kind.Dest vars + count_before kind.Source vars p

-- the places of the variables of a kind, in order
abbrev pub places_of : VarKind → List Var → List ℕ
places_of k vars = filter (λ p. is_of k (var_at vars p)) (range_with_len 0 (length vars))

-- the first variable of a name
abbrev pub place_from : List ℕ → ℕ → List Var → Option ℕ
place_from word p [] = None
place_from word p (v ∷ vars) = if bytes_eq v.name word then Some p else place_from word (p + 1) vars

abbrev pub place_of : List ℕ → List Var → Option ℕ
place_of word vars = place_from word 0 vars

-- ---- operands

-- the kind of the variable that an operand is; a number has none
abbrev pub operand_kind : List Var → Operand → Option VarKind
operand_kind vars (operand.Var p) = Some (var_at vars p).kind
operand_kind vars (operand.Number n) = None

-- an operand is a variable of this kind
abbrev pub operand_is : VarKind → List Var → Operand → Bool
operand_is k vars (operand.Var p) = is_of k (var_at vars p)
operand_is k vars (operand.Number n) = false

-- an operand is a temp
abbrev pub is_temp : List Var → Operand → Bool
is_temp vars o = operand_is kind.Temp vars o

-- whether an operand is the variable at a place
abbrev pub is_place : ℕ → Operand → Bool
is_place p (operand.Var q) = p == q
is_place p (operand.Number n) = false

-- the places of the temps among operands, in order
abbrev pub temps_among : List Var → List Operand → List ℕ
temps_among vars [] = []
temps_among vars (operand.Var p ∷ os) = if is_of kind.Temp (var_at vars p) then p ∷ temps_among vars os else temps_among vars os
temps_among vars (operand.Number n ∷ os) = temps_among vars os

-- ---- far loads

-- an instruction is a far load
abbrev pub is_far : Insn → Bool
is_far insn = is_some (far_of insn.op)

-- some instruction of the function is one
abbrev pub has_far : FunctionValue → Bool
has_far f = list_any is_far f.insns

-- the array of a far load, which is its first source
abbrev pub far_array : List Var → List Operand → Option ℕ
far_array vars (operand.Var p ∷ os) = if is_array (var_at vars p) then Some p else None
far_array vars os = None

-- the first that is there
abbrev pub or_later : Option ℕ → Option ℕ → Option ℕ
or_later (Some line) other = Some line
or_later None other = other

-- the line of the first far load, of a function and of functions in order
abbrev pub far_line : List Insn → Option ℕ
far_line [] = None
far_line (insn ∷ insns) = if is_far insn then Some insn.line else far_line insns

abbrev pub first_far_line : List FunctionValue → Option ℕ
first_far_line [] = None
first_far_line (f ∷ fs) = or_later (far_line f.insns) (first_far_line fs)
