-- The header of a program in C: the prototype of each function.
use Rattle.std.specs.Prelude.{ℕ, ◌+◌, ◌*◌, Bool, List, [], ◌∷◌, ◌++◌, Option, Some, None, if◌then◌else◌, codes, filter, slice_index_or}
use Rattle.std.specs.Fmt.{decimal}
use Rattle.std.specs.Str.{bytes_eq}
use Rattle.orc_program.specs.declared.program.Var.{Var}
use Rattle.orc_program.specs.declared.program.VarKind.{VarKind}
use Rattle.orc_program.specs.declared.program.VarKind.TheVariants as kind
use Rattle.orc_program.specs.Words.{Word, is_align}
use Rattle.orc_program.specs.Program.{FunctionValue, ProgramValue, is_of, no_var}
use Rattle.orc_prototype.specs.declared.arguments.Argument.{Argument}
use Rattle.orc_prototype.specs.declared.arguments.Argument.TheVariants as argument
use Rattle.orc_prototype.specs.Arguments.{arguments, shape_of, is_long}
use Rattle.orc_prototype.specs.Longs.{long_params}

-- ---- what stands around the prototypes

-- lines, each with a line feed behind it
abbrev pub lines_text : List Word → List ℕ
lines_text [] = []
lines_text (line ∷ more) = line ++ (10 ∷ lines_text more)

-- Every part may be read twice: the typedefs and macros stand under names of their own, and a function may be declared again.
-- `ORC_RESTRICT` is nothing unless it is defined before: a call may pass one array as a dest and as a source, which `restrict` would forbid.
unfoldable pub opening : List ℕ
opening = lines_text (codes "#pragma once"
    ∷ codes ""
    ∷ codes "#include <stdint.h>"
    ∷ codes ""
    ∷ codes "#ifdef __cplusplus"
    ∷ codes "extern \"C\" {"
    ∷ codes "#endif"
    ∷ codes ""
    ∷ codes "#ifndef _ORC_INTEGER_TYPEDEFS_"
    ∷ codes "#define _ORC_INTEGER_TYPEDEFS_"
    ∷ codes "typedef int8_t orc_int8;"
    ∷ codes "typedef int16_t orc_int16;"
    ∷ codes "typedef int32_t orc_int32;"
    ∷ codes "typedef int64_t orc_int64;"
    ∷ codes "typedef uint8_t orc_uint8;"
    ∷ codes "typedef uint16_t orc_uint16;"
    ∷ codes "typedef uint32_t orc_uint32;"
    ∷ codes "typedef uint64_t orc_uint64;"
    ∷ codes "#define ORC_UINT64_C(x) UINT64_C(x)"
    ∷ codes "typedef union { orc_int16 i; orc_int8 x2[2]; } orc_union16;"
    ∷ codes "typedef union { orc_int32 i; float f; orc_int16 x2[2]; orc_int8 x4[4]; } orc_union32;"
    ∷ codes "typedef union { orc_int64 i; double f; orc_int32 x2[2]; float x2f[2]; orc_int16 x4[4]; } orc_union64;"
    ∷ codes "#endif"
    ∷ codes ""
    ∷ codes "#ifndef ORC_RESTRICT"
    ∷ codes "#define ORC_RESTRICT"
    ∷ codes "#endif"
    ∷ codes ""
    ∷ codes "#ifndef ORC_INTERNAL"
    ∷ codes "#ifdef __GNUC__"
    ∷ codes "#define ORC_INTERNAL __attribute__((visibility(\"hidden\")))"
    ∷ codes "#else"
    ∷ codes "#define ORC_INTERNAL"
    ∷ codes "#endif"
    ∷ codes "#endif"
    ∷ codes ""
    ∷ [])

unfoldable pub closing : List ℕ
closing = lines_text (codes ""
    ∷ codes "#ifdef __cplusplus"
    ∷ codes "}"
    ∷ codes "#endif"
    ∷ [])

-- ---- the type of an array's elements, and of a sum

-- the first word behind a name that is neither `align` nor the number behind it
abbrev pub type_word : List Word → Option Word
type_word [] = None
type_word (w ∷ []) = if is_align w then None else Some w
type_word (w ∷ v ∷ ws) = if is_align w then type_word ws else Some w

-- the integer types of `stdint.h`, by their names here
abbrev pub integer_types : List (Word × Word)
integer_types = (codes "int8_t", codes "orc_int8")
    ∷ (codes "int16_t", codes "orc_int16")
    ∷ (codes "int32_t", codes "orc_int32")
    ∷ (codes "int64_t", codes "orc_int64")
    ∷ (codes "uint8_t", codes "orc_uint8")
    ∷ (codes "uint16_t", codes "orc_uint16")
    ∷ (codes "uint32_t", codes "orc_uint32")
    ∷ (codes "uint64_t", codes "orc_uint64")
    ∷ []

-- the name of the first row with the word; the word itself where it is in no row
abbrev pub renamed : List (Word × Word) → Word → Word
renamed [] w = w
renamed (row ∷ rows) w = if bytes_eq row.0 w then row.1 else renamed rows w

-- the type that a text names, and else the unsigned integer of the size
abbrev pub type_text : Option Word → ℕ → List ℕ
type_text (Some w) size = renamed integer_types w
type_text None size = codes "orc_uint" ++ decimal (8 * size)

-- variable number k of a kind, in order of declaration
abbrev pub nth_of : VarKind → List Var → ℕ → Var
nth_of k vars n = slice_index_or (filter (is_of k) vars) n no_var

abbrev pub element_type : Var → List ℕ
element_type v = type_text (type_word v.words) v.size

-- ---- arguments

-- a letter and a number, which is 1 for the first
abbrev pub numbered : Word → ℕ → List ℕ
numbered letter k = letter ++ decimal (k + 1)

abbrev pub pointer_text : List ℕ → Word → ℕ → List ℕ
pointer_text element letter k = element ++ (codes " * ORC_RESTRICT " ++ numbered letter k)

abbrev pub stride_text : Word → ℕ → List ℕ
stride_text letter k = codes "int " ++ (numbered letter k ++ codes "_stride")

abbrev pub param_text : Bool → ℕ → List ℕ
param_text long k = (if long then codes "orc_int64 " else codes "int ") ++ numbered (codes "p") k

-- an argument, where `longs` says of each parameter whether it is declared by `.longparam`: dests are d1, d2, .., accumulators a1, .., sources s1, .. and parameters p1, .., whatever the text calls them
abbrev pub argument_text : List Var → List Bool → Argument → List ℕ
argument_text vars longs (argument.Dest k) = pointer_text (element_type (nth_of kind.Dest vars k)) (codes "d") k
argument_text vars longs (argument.DestStride k) = stride_text (codes "d") k
argument_text vars longs (argument.Sum g) = pointer_text (element_type (nth_of kind.Accumulator vars g)) (codes "a") g
argument_text vars longs (argument.Source k) = codes "const " ++ pointer_text (element_type (nth_of kind.Source vars k)) (codes "s") k
argument_text vars longs (argument.SourceStride k) = stride_text (codes "s") k
argument_text vars longs (argument.Param j) = param_text (is_long longs j) j
argument_text vars longs argument.Elements = codes "int n"
argument_text vars longs argument.Rows = codes "int m"

-- arguments, each behind a comma and a space
abbrev pub more_arguments : List Var → List Bool → List Argument → List ℕ
more_arguments vars longs [] = []
more_arguments vars longs (a ∷ list) = 44 ∷ 32 ∷ (argument_text vars longs a ++ more_arguments vars longs list)

-- arguments, parted by a comma and a space
abbrev pub arguments_text : List Var → List Bool → List Argument → List ℕ
arguments_text vars longs [] = codes "void"
arguments_text vars longs (a ∷ list) = argument_text vars longs a ++ more_arguments vars longs list

-- ---- prototypes

-- a function of a name and arguments that returns nothing
abbrev pub declaration : Word → List ℕ → List ℕ
declaration name list = codes "void " ++ (name ++ (codes " (" ++ (list ++ codes ");\n")))

unfoldable pub prototype : List ℕ → FunctionValue → List ℕ
prototype text f = declaration f.name (arguments_text f.vars (long_params text f.name) (arguments (shape_of f)))

abbrev pub prototypes : List ℕ → List FunctionValue → List ℕ
prototypes text [] = []
prototypes text (f ∷ fs) = prototype text f ++ prototypes text fs

-- the function that `.init` names
abbrev pub init_text : Option Word → List ℕ
init_text None = []
init_text (Some name) = declaration name (codes "void")

-- The header of a program that a text reads as: a prototype for each function, in order, and that of the function that `.init` names.
unfoldable pub header_text : ProgramValue → List ℕ → List ℕ
header_text p text = opening ++ (prototypes text p.functions ++ (init_text p.init ++ closing))
