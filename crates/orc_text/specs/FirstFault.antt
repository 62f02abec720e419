-- The first fault of a text, by the line that has it and the list of the lines before it.
use Rattle.std.specs.Prelude.{◌≡◌, ℕ, ◌+◌, ◌<◌, Bool, false, not, ◌&&◌, nat_le, List, [], ◌∷◌, Option, Some, None, is_some, filter, length, map, take, slice_index_or}
use Rattle.std.specs.List.{list_any, count_by}
use Rattle.std.specs.Str.{bytes_eq}
use Rattle.orc_ops.specs.declared.lookup.Found.{Found}
use Rattle.orc_ops.specs.declared.lookup.Found.TheVariants as found
use Rattle.orc_ops.specs.Names.{find_op}
use Rattle.orc_program.specs.declared.fault.Fault.{Fault}
use Rattle.orc_program.specs.declared.program.VarKind.{VarKind}
use Rattle.orc_program.specs.Checks.{is_set}
use Rattle.orc_program.specs.Kept.{most_of, most_functions}
use Rattle.orc_program.specs.Program.{same_kind, place_of}
use Rattle.orc_program.specs.Words.{Word}
use Rattle.orc_words.specs.Text.{lines, content, word, looks_like_number}
use Rattle.orc_text.specs.declared.directive.Directive.{Directive}
use Rattle.orc_text.specs.declared.directive.Directive.TheVariants as directive
use Rattle.orc_text.specs.Each.{OneForEach}
use Rattle.orc_text.specs.Faults.{is_duplicate, is_full, line_fault}
use Rattle.orc_text.specs.Reads.{text_fault}
use Rattle.orc_text.specs.Said.{Said, program_of, vars_in, insns_in, split_prefix, result_words}
use Rattle.orc_text.specs.Segments.{TextLine, numbered, directive_in, after_init, after_n, after_m, after_backup, is_start, declares, segments, name_in, declared_names, insn_lines, operand_words, Declares, Instructs, SaysProgram}

-- What a line's checks know of the lines before it: how many they are, and the program that their segments say, whose last function isn't over.
pub record IsBefore (earlier : List TextLine) (said : Said) : Type 0 where
  pub lines : said.lines ≡ length earlier
  pub program : SaysProgram earlier (program_of said)
  pub current : is_some said.current ≡ list_any is_start earlier

-- ---- the conditions, by the lines before

-- the last of segments; no lines where there is none
abbrev pub last_segment : List (List TextLine) → List TextLine
last_segment [] = []
last_segment (segment ∷ []) = segment
last_segment (segment ∷ next ∷ more) = last_segment (next ∷ more)

-- the segment that a line after these is in
abbrev pub this_segment : List TextLine → List TextLine
this_segment earlier = last_segment (segments earlier)

-- a line before says what this one does: it starts a function of the name, or has an `.init`; or, in this segment, it declares the name, or has such a note
abbrev pub is_said_before : List TextLine → Directive → List Word → Bool
is_said_before earlier directive.Function ws = list_any (bytes_eq (word ws 1)) (map name_in (segments earlier))
is_said_before earlier directive.Init ws = list_any (λ line. is_some (after_init (directive_in line.words) line.words)) earlier
is_said_before earlier directive.Backup ws = list_any (λ line. is_some (after_backup (directive_in line.words) line.words)) (this_segment earlier)
is_said_before earlier directive.Flags ws = false
is_said_before earlier directive.CountN ws = list_any (λ line. is_some (after_n (directive_in line.words) line.words)) (this_segment earlier)
is_said_before earlier directive.CountM ws = list_any (λ line. is_some (after_m (directive_in line.words) line.words)) (this_segment earlier)
is_said_before earlier (directive.Variable k) ws = list_any (bytes_eq (word ws 2)) (declared_names (this_segment earlier))
is_said_before earlier directive.Float ws = false

abbrev pub is_of_kind : VarKind → Option Directive → Bool
is_of_kind k (Some (directive.Variable j)) = same_kind k j
is_of_kind k d = false

-- so many lines before start a function, or, in this segment, declare a variable of this kind
abbrev pub are_many_before : List TextLine → Directive → Bool
are_many_before earlier directive.Function = nat_le most_functions (length (segments earlier))
are_many_before earlier (directive.Variable k) = nat_le (most_of k) (count_by (λ line. is_of_kind k (directive_in line.words)) (filter declares (this_segment earlier)))
are_many_before earlier d = false

-- this name is among the results of an instruction with these words
abbrev pub is_named : Word → Word → Bool
is_named name w = not (looks_like_number w) && bytes_eq name w

abbrev pub is_result_in : Word → Found → List Word → Bool
is_result_in name (found.Yes op) operands = list_any (is_named name) (result_words op operands)
is_result_in name other operands = false

abbrev pub is_result_of : Word → List Word → Bool
is_result_of name ws = is_result_in name (find_op (word (split_prefix ws).1 0)) (operand_words ws)

-- What the checks look at, by the lines before: whether there is a function, what is said already, how many lines there are, which names are known, and the variables and instructions that an instruction is checked with, which are those of the lines of this segment. A variable is set where an instruction line of this segment has its name as a result.
pub record LooksAt (earlier : List TextLine) (said : Said) : Type 0 where
  pub current : is_some said.current ≡ list_any is_start earlier
  pub duplicate : (d : Directive) (ws : List Word) → is_duplicate said d ws ≡ is_said_before earlier d ws
  pub many : (d : Directive) → is_full said d ≡ are_many_before earlier d
  pub known : (w : Word) → is_some (place_of w (vars_in said.current)) ≡ list_any (bytes_eq w) (declared_names (this_segment earlier))
  pub vars : OneForEach Declares (filter declares (this_segment earlier)) (vars_in said.current)
  pub insns : OneForEach Instructs (insn_lines (this_segment earlier)) (insns_in said.current)
  pub set : (p : ℕ) → p < length (declared_names (this_segment earlier))
      → is_set (insns_in said.current) p ≡ list_any (λ x. is_result_of (slice_index_or (declared_names (this_segment earlier)) p []) x.line.words) (insn_lines (this_segment earlier))

-- The checks look at the lines before alone.
abbrev pub ChecksLook : Type 0
ChecksLook = (earlier : List TextLine) (said : Said) → IsBefore earlier said → LooksAt earlier said

-- ---- the least line

-- the fault of the line at a place, counted from 0, after the lines before it
pub record FaultAt (all : List (List ℕ)) (k : ℕ) (x : Option Fault) : Type 0 where
  pub said : Said
  pub before : IsBefore (numbered 1 (take k all)) said
  pub fault : line_fault said (content (slice_index_or all k [])) ≡ x

-- the line at a place has this fault, and no line before it has one
pub record IsLeast (all : List (List ℕ)) (k : ℕ) (f : Fault) : Type 0 where
  pub there : k < length all
  pub fault : FaultAt all k (Some f)
  pub before : (j : ℕ) → j < k → FaultAt all j None

-- no line has a fault; or the least line that has one has this fault, and its number counts from 1
abbrev pub IsFirstFault : List (List ℕ) → Option (ℕ × Fault) → Type 0
IsFirstFault all None = (k : ℕ) → k < length all → FaultAt all k None
IsFirstFault all (Some x) = (k : ℕ) × (x.0 ≡ k + 1) × IsLeast all k x.1

-- A text's first fault is that of the least line that has one.
abbrev pub LeastLineFaults : Type 0
LeastLineFaults = (text : List ℕ) → IsFirstFault (lines text) (text_fault text)

-- A line has one fault or none.
abbrev pub OneFault : Type 0
OneFault = (all : List (List ℕ)) (k : ℕ) (x y : Option Fault) → FaultAt all k x → FaultAt all k y → x ≡ y
