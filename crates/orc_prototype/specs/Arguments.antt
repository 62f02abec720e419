-- The arguments of a function's prototype in C: their order, and which word each becomes.
use Rattle.std.specs.Prelude.{ℕ, ◌+◌, ◌-◌, ◌*◌, ◌%◌, ◌^◌, ◌≤◌, ◌==◌, Bool, false, nat_lt, if◌then◌else◌, List, [], ◌∷◌, ◌++◌, map, slice_index, slice_index_or}
use Rattle.std.specs.List.{flat_map, range_with_len}
use Rattle.orc_program.specs.declared.program.VarKind.TheVariants as kind
use Rattle.orc_program.specs.Program.{FunctionValue, var_at, count_of, places_of}
use Rattle.orc_program.specs.Facts.{facts_of}
use Rattle.orc_prototype.specs.declared.arguments.Argument.{Argument}
use Rattle.orc_prototype.specs.declared.arguments.Argument.TheVariants as argument
use Rattle.orc_prototype.specs.declared.arguments.Class.{Class}
use Rattle.orc_prototype.specs.declared.arguments.Class.TheVariants as class
use Rattle.orc_prototype.specs.declared.arguments.Shape.{Shape}

-- ---- their order

-- what of a function decides its arguments
abbrev pub shape_of : FunctionValue → Shape
shape_of f = record {
  two_d = f.two_d;
  dests = count_of kind.Dest f.vars;
  sums = count_of kind.Accumulator f.vars;
  sources = count_of kind.Source f.vars;
  params = count_of kind.Param f.vars;
  elements = (facts_of f).n.exact;
  rows = (facts_of f).m.exact;
}

-- the bytes of accumulator g
abbrev pub sum_size : FunctionValue → ℕ → ℕ
sum_size f g = (var_at f.vars (slice_index (places_of kind.Accumulator f.vars) g)).size

-- no more of each than a function has
pub record IsSmall (s : Shape) : Type 0 where
  pub dests : s.dests ≤ 4
  pub sums : s.sums ≤ 4
  pub sources : s.sources ≤ 8
  pub params : s.params ≤ 8

-- an array's address, and behind it its stride where there are rows
abbrev pub array_arguments : Bool → Argument → Argument → List Argument
array_arguments two_d address stride = address ∷ (if two_d then stride ∷ [] else [])

abbrev pub dest_arguments : Bool → ℕ → List Argument
dest_arguments two_d k = array_arguments two_d (argument.Dest k) (argument.DestStride k)

abbrev pub source_arguments : Bool → ℕ → List Argument
source_arguments two_d k = array_arguments two_d (argument.Source k) (argument.SourceStride k)

module _ (s : Shape) where
  -- m is an argument where there are rows, and the text doesn't state its one value
  abbrev pub has_rows_argument : Bool
  has_rows_argument = if s.two_d then s.rows == 0 else false

  -- The arguments: the dests, the accumulators, the sources and the parameters, each in order of declaration, then n where the text doesn't state its one value, and m.
  abbrev pub arguments : List Argument
  arguments = flat_map (dest_arguments s.two_d) (range_with_len 0 s.dests)
      ++ (map argument.Sum (range_with_len 0 s.sums)
      ++ (flat_map (source_arguments s.two_d) (range_with_len 0 s.sources)
      ++ (map argument.Param (range_with_len 0 s.params)
      ++ ((if s.elements == 0 then argument.Elements ∷ [] else [])
      ++ (if has_rows_argument then argument.Rows ∷ [] else [])))))

  -- ---- their numbers in that list, counted from 0

  -- how many arguments an array has
  abbrev pub width : ℕ
  width = if s.two_d then 2 else 1

  abbrev pub dest_argument : ℕ → ℕ
  dest_argument k = width * k

  abbrev pub sum_argument : ℕ → ℕ
  sum_argument g = width * s.dests + g

  abbrev pub source_argument : ℕ → ℕ
  source_argument k = width * s.dests + s.sums + width * k

  abbrev pub param_argument : ℕ → ℕ
  param_argument j = width * (s.dests + s.sources) + s.sums + j

  abbrev pub elements_argument : ℕ
  elements_argument = width * (s.dests + s.sources) + s.sums + s.params

  abbrev pub rows_argument : ℕ
  rows_argument = elements_argument + (if s.elements == 0 then 1 else 0)

  abbrev pub argument_count : ℕ
  argument_count = rows_argument + (if has_rows_argument then 1 else 0)

-- ---- which word each becomes

-- the low 32 bits, sign-extended to 64
abbrev pub extended : ℕ → ℕ
extended v = if nat_lt (v % 2 ^ 32) (2 ^ 31) then v % 2 ^ 32 else v % 2 ^ 32 + (2 ^ 64 - 2 ^ 32)

-- the low 32 bits, and 0 where they are negative
abbrev pub counted : ℕ → ℕ
counted v = if nat_lt (v % 2 ^ 32) (2 ^ 31) then v % 2 ^ 32 else 0

abbrev pub as_word : Class → ℕ → ℕ
as_word class.Word v = v
as_word class.Int v = extended v
as_word class.Count v = counted v

-- whether parameter j is said by `.longparam`, where `longs` says it of each
abbrev pub is_long : List Bool → ℕ → Bool
is_long longs j = slice_index_or longs j false

-- a parameter said by `.longparam` is an integer of 64 bits, and every other one an int
abbrev pub class_of : Bool → Class
class_of long = if long then class.Word else class.Int
