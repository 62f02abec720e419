-- What a line's words say, apart from what is said with them. Only contracts inside the crate cite this.
use Rattle.std.specs.Prelude.{◌≡◌, ℕ, ◌+◌, ◌<◌, true, false, List, [], ◌∷◌, ◌++◌, Option, Some, None, if◌then◌else◌, drop, length, map, unwrap_or}
use Rattle.std.specs.List.{list_any}
use Rattle.std.specs.Str.{bytes_eq}
use Rattle.orc_ops.specs.declared.lookup.Found.{Found}
use Rattle.orc_ops.specs.declared.lookup.Found.TheVariants as found
use Rattle.orc_ops.specs.Names.{find_op}
use Rattle.orc_program.specs.declared.program.Var.{Var}
use Rattle.orc_program.specs.declared.program.VarKind.{VarKind}
use Rattle.orc_program.specs.declared.program.VarKind.TheVariants as kind
use Rattle.orc_program.specs.Words.{Word, number_of, size_of}
use Rattle.orc_program.specs.Program.{FunctionValue, place_of, count_of, same_kind}
use Rattle.orc_program.specs.Checks.{insn_fault}
use Rattle.orc_program.specs.Kept.{is_var, is_shaped, is_count_note, most_of, most_functions}
use Rattle.orc_words.specs.Text.{word, starts_with_dot}
use Rattle.orc_text.specs.declared.directive.Directive.{Directive}
use Rattle.orc_text.specs.declared.directive.Directive.TheVariants as directive
use Rattle.orc_text.specs.declared.line.Declared.{Declared}
use Rattle.orc_text.specs.declared.line.Line.{Line}
use Rattle.orc_text.specs.declared.line.Line.TheVariants as line
use Rattle.orc_text.specs.declared.line.Part.{Part}
use Rattle.orc_text.specs.declared.line.Part.TheVariants as part
use Rattle.orc_text.specs.Said.{Said, functions_of, vars_in, new_function, directive_of, split_prefix, insn_of, on_current}

-- ---- what words say

abbrev pub declared : VarKind → List Word → Declared
declared k ws = record {
  kind = k;
  size = unwrap_or (size_of (word ws 1)) 0;
  name = word ws 2;
  number = if same_kind kind.Const k then unwrap_or (number_of (word ws 3)) 0 else 0;
}

abbrev pub directive_line : List Word → Directive → Line
directive_line ws directive.Function = line.Function (word ws 1)
directive_line ws directive.Init = line.Init (word ws 1)
directive_line ws directive.Flags = line.Part part.Flags
directive_line ws directive.CountN = line.Part part.CountN
directive_line ws directive.CountM = line.Part part.CountM
directive_line ws directive.Backup = line.Part (part.Backup (word ws 1))
directive_line ws (directive.Variable k) = line.Part (part.Variable (declared k ws))
directive_line ws directive.Float = line.Blank

abbrev pub line_if : List Word → Option Directive → Line
line_if ws None = line.Blank
line_if ws (Some d) = directive_line ws d

abbrev pub found_line : Said → ℕ → List Word → Found → Line
found_line said prefix operands (found.Yes op) = line.Part (part.Insn (insn_of (vars_in said.current) (said.lines + 1) op prefix operands))
found_line said prefix operands found.Unsupported = line.Blank
found_line said prefix operands found.Unknown = line.Blank

abbrev pub insn_line : Said → ℕ × List Word → Line
insn_line said x = found_line said x.0 (drop 1 x.1) (find_op (word x.1 0))

abbrev pub line_of : Said → List Word → Line
line_of said [] = line.Blank
line_of said (w ∷ ws) = if starts_with_dot w then line_if (w ∷ ws) (directive_of w) else insn_line said (split_prefix (w ∷ ws))

-- ---- what is said with it

-- the variable of a line with these words
abbrev pub with_words : Declared → List Word → Var
with_words v ws = record { kind = v.kind; size = v.size; name = v.name; number = v.number; words = if same_kind kind.Const v.kind then [] else drop 3 ws }

abbrev pub with_part : FunctionValue → List Word → Part → FunctionValue
with_part f ws part.Flags = record f { two_d = true }
with_part f ws part.CountN = record f { notes = record { n = Some (drop 1 ws); m = f.notes.m; backup = f.notes.backup } }
with_part f ws part.CountM = record f { notes = record { n = f.notes.n; m = Some (drop 1 ws); backup = f.notes.backup } }
with_part f ws (part.Backup name) = record f { notes = record { n = f.notes.n; m = f.notes.m; backup = Some name } }
with_part f ws (part.Variable v) = record f { vars = f.vars ++ with_words v ws ∷ [] }
with_part f ws (part.Insn i) = record f { insns = f.insns ++ i ∷ [] }

abbrev pub with_line : Said → List Word → Line → Said
with_line said ws line.Blank = said
with_line said ws (line.Function name) = record said { over = functions_of said; current = Some (new_function name) }
with_line said ws (line.Init name) = record said { init = Some name }
with_line said ws (line.Part p) = on_current (λ f. with_part f ws p) said

-- ---- when it can be said

abbrev pub FitsPart : FunctionValue → List Word → Part → Type 0
FitsPart f ws part.Flags = Unit {0}
FitsPart f ws part.CountN = is_count_note (drop 1 ws) ≡ true
FitsPart f ws part.CountM = is_count_note (drop 1 ws) ≡ true
FitsPart f ws (part.Backup name) = Unit {0}
FitsPart f ws (part.Variable v) = (is_var (with_words v ws) ≡ true) × (place_of v.name f.vars ≡ None) × (count_of v.kind f.vars < most_of v.kind)
FitsPart f ws (part.Insn i) = (is_shaped f.vars i ≡ true) × (insn_fault f.vars f.insns i ≡ None)

abbrev pub FitsIn : Option FunctionValue → List Word → Part → Type 0
FitsIn None ws p = ⊥
FitsIn (Some f) ws p = FitsPart f ws p

abbrev pub Fits : Said → List Word → Line → Type 0
Fits said ws line.Blank = Unit {0}
Fits said ws (line.Function name) = (list_any (bytes_eq name) (map (λ (f : FunctionValue). f.name) (functions_of said)) ≡ false) × (length (functions_of said) < most_functions)
Fits said ws (line.Init name) = Unit {0}
Fits said ws (line.Part p) = FitsIn said.current ws p
