-- The program of a text, by lists of lines: its segments, and in each segment its declaration lines, its instruction lines and the lines of its notes. It is said of texts without a fault.
use Rattle.std.specs.Prelude.{◌≡◌, ℕ, ◌+◌, ◌<◌, Bool, true, false, not, List, [], ◌∷◌, ◌++◌, Option, Some, None, if◌then◌else◌, drop, filter, filter_map, length, map, option_to_list, slice_index_or}
use Rattle.std.specs.List.{list_any, before_first}
use Rattle.orc_ops.specs.declared.lookup.Found.TheVariants as found
use Rattle.orc_ops.specs.Names.{find_op}
use Rattle.orc_program.specs.declared.program.Var.{Var}
use Rattle.orc_program.specs.declared.program.VarKind.{VarKind}
use Rattle.orc_program.specs.declared.program.VarKind.TheVariants as kind
use Rattle.orc_program.specs.declared.program.Operand.{Operand}
use Rattle.orc_program.specs.declared.program.Operand.TheVariants as operand
use Rattle.orc_program.specs.declared.program.Insn.{Insn}
use Rattle.orc_program.specs.Words.{Word, number_of, size_of}
use Rattle.orc_program.specs.Program.{FunctionValue, ProgramValue}
use Rattle.orc_program.specs.Kept.{all_distinct, result_count, source_count}
use Rattle.orc_words.specs.Text.{lines, content, words, word, starts_with_dot, looks_like_number}
use Rattle.orc_text.specs.declared.directive.Directive.{Directive}
use Rattle.orc_text.specs.declared.directive.Directive.TheVariants as directive
use Rattle.orc_text.specs.Each.{OneForEach}
use Rattle.orc_text.specs.Said.{directive_of, split_prefix, result_words, source_words}
use Rattle.orc_text.specs.Reads.{text_fault, text_program}

-- ---- lines

-- a line: its number, and its words
pub record TextLine : Type 0 where
  pub number : ℕ
  pub words : List Word

-- lines with their numbers, from a number on
abbrev pub numbered : ℕ → List (List ℕ) → List TextLine
numbered n [] = []
numbered n (line ∷ more) = record { number = n; words = words (content line) } ∷ numbered (n + 1) more

-- the lines of a text, whose numbers are counted from 1
abbrev pub text_lines : List ℕ → List TextLine
text_lines text = numbered 1 (lines text)

-- the directive that words begin with; an instruction has none
abbrev pub directive_in : List Word → Option Directive
directive_in [] = None
directive_in (w ∷ ws) = if starts_with_dot w then directive_of w else None

-- words that are an instruction: there are some, and the first has no dot
abbrev pub are_insn : List Word → Bool
are_insn [] = false
are_insn (w ∷ ws) = not (starts_with_dot w)

abbrev pub is_insn_line : TextLine → Bool
is_insn_line line = are_insn line.words

abbrev pub starts_function : Option Directive → Bool
starts_function (Some directive.Function) = true
starts_function d = false

-- a `.function` line
abbrev pub is_start : TextLine → Bool
is_start line = starts_function (directive_in line.words)

-- what a line says after `.init`, `.n`, `.m` and `.backup`; nothing where it is another line
abbrev pub after_init : Option Directive → List Word → Option Word
after_init (Some directive.Init) ws = Some (word ws 1)
after_init d ws = None

abbrev pub after_n : Option Directive → List Word → Option (List Word)
after_n (Some directive.CountN) ws = Some (drop 1 ws)
after_n d ws = None

abbrev pub after_m : Option Directive → List Word → Option (List Word)
after_m (Some directive.CountM) ws = Some (drop 1 ws)
after_m d ws = None

abbrev pub after_backup : Option Directive → List Word → Option Word
after_backup (Some directive.Backup) ws = Some (word ws 1)
after_backup d ws = None

abbrev pub is_flags : Option Directive → Bool
is_flags (Some directive.Flags) = true
is_flags d = false

abbrev pub is_declaration : Option Directive → Bool
is_declaration (Some (directive.Variable k)) = true
is_declaration d = false

-- a line that declares a variable
abbrev pub declares : TextLine → Bool
declares line = is_declaration (directive_in line.words)

-- ---- segments

-- A segment is a `.function` line with the lines behind it, up to the next `.function` line. Lines before the first one are in none.
abbrev pub segments : List TextLine → List (List TextLine)
segments [] = []
segments (line ∷ more) = if is_start line then (line ∷ before_first is_start more) ∷ segments more else segments more

-- the word behind a segment's `.function`
abbrev pub name_in : List TextLine → Word
name_in [] = []
name_in (line ∷ more) = word line.words 1

-- the names that lines declare, in order
abbrev pub declared_names : List TextLine → List Word
declared_names segment = map (λ line. word line.words 2) (filter declares segment)

-- each line of a segment, with the earlier lines of the segment
pub record Placed : Type 0 where
  pub earlier : List TextLine
  pub line : TextLine

abbrev pub placed_after : List TextLine → List TextLine → List Placed
placed_after earlier [] = []
placed_after earlier (line ∷ more) = record { earlier = earlier; line = line } ∷ placed_after (earlier ++ line ∷ []) more

-- the instruction lines of a segment, in order
abbrev pub insn_lines : List TextLine → List Placed
insn_lines segment = filter (λ x. is_insn_line x.line) (placed_after [] segment)

-- ---- what lines declare

-- the number of a constant is its word's, and no words are kept; another variable has none, and keeps the words after its name
abbrev pub HasRest : VarKind → List Word → ℕ → List Word → Type 0
HasRest kind.Const ws number kept = (number_of (word ws 3) ≡ Some number) × (kept ≡ [])
HasRest k ws number kept = (number ≡ 0) × (kept ≡ drop 3 ws)

-- a declaration line declares a variable
pub record Declares (line : TextLine) (v : Var) : Type 0 where
  pub kind : directive_in line.words ≡ Some (directive.Variable v.kind)
  pub size : size_of (word line.words 1) ≡ Some v.size
  pub name : v.name ≡ word line.words 2
  pub rest : HasRest v.kind line.words v.number v.words

-- ---- what lines instruct

-- a word stands at this place, and at no other
pub record OnlyAt (ws : List Word) (w : Word) (p : ℕ) : Type 0 where
  pub within : p < length ws
  pub here : slice_index_or ws p [] ≡ w
  pub only : (q : ℕ) → q < length ws → slice_index_or ws q [] ≡ w → q ≡ p

-- what a word stands for, after declarations of these names: a number word for its number, another for the one variable of its name
abbrev pub StandsFor : List Word → Word → Operand → Type 0
StandsFor names w (operand.Number n) = (looks_like_number w ≡ true) × (number_of w ≡ Some n)
StandsFor names w (operand.Var p) = (looks_like_number w ≡ false) × OnlyAt names w p

-- the words behind an instruction's opcode
abbrev pub operand_words : List Word → List Word
operand_words ws = drop 1 (split_prefix ws).1

-- an instruction line says an instruction; its names are those of earlier lines of its segment
pub record Instructs (x : Placed) (i : Insn) : Type 0 where
  pub line : i.line ≡ x.line.number
  pub prefix : i.prefix ≡ (split_prefix x.line.words).0
  pub opcode : find_op (word (split_prefix x.line.words).1 0) ≡ found.Yes i.op
  pub count : length (operand_words x.line.words) ≡ result_count i.op + source_count i.op
  pub results : OneForEach (StandsFor (declared_names x.earlier)) (result_words i.op (operand_words x.line.words)) i.results.items
  pub sources : OneForEach (StandsFor (declared_names x.earlier)) (source_words i.op (operand_words x.line.words)) i.sources.items

-- ---- functions and programs

-- A segment says a function. It has at most one line of each note.
pub record SaysFunction (segment : List TextLine) (f : FunctionValue) : Type 0 where
  pub name : f.name ≡ name_in segment
  pub two_d : f.two_d ≡ list_any (λ line. is_flags (directive_in line.words)) segment
  pub vars : OneForEach Declares (filter declares segment) f.vars
  pub distinct : all_distinct (declared_names segment) ≡ true
  pub insns : OneForEach Instructs (insn_lines segment) f.insns
  pub n : option_to_list f.notes.n ≡ filter_map (λ line. after_n (directive_in line.words) line.words) segment
  pub m : option_to_list f.notes.m ≡ filter_map (λ line. after_m (directive_in line.words) line.words) segment
  pub backup : option_to_list f.notes.backup ≡ filter_map (λ line. after_backup (directive_in line.words) line.words) segment

-- Lines say a program: its functions are those of the segments, in order, and it has the name of the one `.init` line, if there is one.
pub record SaysProgram (all : List TextLine) (p : ProgramValue) : Type 0 where
  pub functions : OneForEach SaysFunction (segments all) p.functions
  pub init : option_to_list p.init ≡ filter_map (λ line. after_init (directive_in line.words) line.words) all

-- ---- the law

-- A text without a fault reads as what its segments say.
abbrev pub ReadsAreSegments : Type 0
ReadsAreSegments = (text : List ℕ) → text_fault text ≡ None → SaysProgram (text_lines text) (text_program text)

-- Lines say at most one program.
abbrev pub SaysOne : Type 0
SaysOne = (all : List TextLine) (p q : ProgramValue) → SaysProgram all p → SaysProgram all q → p ≡ q
