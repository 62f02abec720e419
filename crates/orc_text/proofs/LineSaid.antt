-- What a line's words say is said with it, and it can be said where the line has no fault.
use Rattle.std.proofs.Common.{◌≡◌, ℕ, ◌+◌, ◌<◌, ◌^◌, ◌++◌, true, false, not, ◌&&◌, List, [], ◌∷◌, Option, Some, None, is_some, option_map, drop, refl, sym, ap, subst, inl, inr, true≢false}
use Rattle.std.specs.List.{list_all, list_any}
use Rattle.std.proofs.lemmas.Bool.{cases_Bool}
use Rattle.orc_ops.specs.declared.opcode.Op.{Op}
use Rattle.orc_ops.specs.declared.lookup.Found.{Found}
use Rattle.orc_ops.specs.declared.lookup.Found.TheVariants as found
use Rattle.orc_ops.specs.Names.{find_op}
use Rattle.orc_program.specs.declared.fault.Fault.TheVariants as fault
use Rattle.orc_program.specs.Words.{Word, is_word}
use Rattle.orc_program.specs.Program.{FunctionValue, place_of, count_of}
use Rattle.orc_program.specs.Kept.{most_of}
use Rattle.orc_program.specs.Checks.{check, or_else}
use Rattle.orc_words.specs.Text.{words, word, starts_with_dot, is_hash}
use Rattle.orc_text.specs.declared.directive.Directive.{Directive}
use Rattle.orc_text.specs.declared.directive.Directive.TheVariants as directive
use Rattle.orc_text.specs.declared.line.Part.{Part}
use Rattle.orc_text.specs.declared.line.Part.TheVariants as part
use Rattle.orc_text.specs.Said.{Said, vars_in, insns_in, insn_of, directive_of, split_prefix, say_words, say_if, say_directive, say_found}
use Rattle.orc_text.specs.Faults.{stands_anywhere, has_wrong_words, word_by_word, is_duplicate, is_full, known_fault, directive_fault, opcode_fault, found_fault, insn_line_fault, line_fault}
use Rattle.orc_text.specs.Held.{is_prefix}
use Rattle.orc_text.specs.Line.{declared, directive_line, line_if, found_line, insn_line, line_of, with_line, FitsPart, FitsIn, Fits}
use Rattle.orc_text.proofs.Faultless.{or_none, check_none, not_false, function_new, function_room, n_fine, m_fine, var_fine, var_new, var_room}
use Rattle.orc_text.proofs.Fitting.{fine_line, prefix_fits, opcode_passes, opcode_shaped}
use Rattle.orc_text.proofs.Rest.{words_good, directive_good, instruction_good}

-- ---- what is said

insn_said : (c : Option FunctionValue) (n : ℕ) (op : Op) (prefix : ℕ) (ws : List Word) → option_map (λ (f : FunctionValue). record f { insns = f.insns ++ insn_of (vars_in c) n op prefix ws ∷ [] }) c
    ≡ option_map (λ (f : FunctionValue). record f { insns = f.insns ++ insn_of f.vars n op prefix ws ∷ [] }) c
insn_said None n op prefix ws = refl
insn_said (Some f) n op prefix ws = refl

found_said : (said : Said) (all : List Word) (prefix : ℕ) (ws : List Word) (x : Found) → with_line said all (found_line said prefix ws x) ≡ say_found said prefix ws x
found_said said all prefix ws (found.Yes op) = ap (λ (c : Option FunctionValue). record said { current = c }) (insn_said said.current (said.lines + 1) op prefix ws)
found_said said all prefix ws found.Unsupported = refl
found_said said all prefix ws found.Unknown = refl

directive_said : (said : Said) (ws : List Word) (d : Directive) → with_line said ws (directive_line ws d) ≡ say_directive said ws d
directive_said said ws directive.Function = refl
directive_said said ws directive.Init = refl
directive_said said ws directive.Flags = refl
directive_said said ws directive.CountN = refl
directive_said said ws directive.CountM = refl
directive_said said ws directive.Backup = refl
directive_said said ws (directive.Variable k) = refl
directive_said said ws directive.Float = refl

if_said : (said : Said) (ws : List Word) (x : Option Directive) → with_line said ws (line_if ws x) ≡ say_if said ws x
if_said said ws None = refl
if_said said ws (Some d) = directive_said said ws d

pub line_said : (said : Said) (ws : List Word) → with_line said ws (line_of said ws) ≡ say_words said ws
line_said said [] = refl
line_said said (w ∷ ws) =
    elim (cases_Bool (starts_with_dot w)) [
      | inl t ↦ rw t (if_said said (w ∷ ws) (directive_of w))
      | inr f ↦ rw f (found_said said (w ∷ ws) (split_prefix (w ∷ ws)).0 (drop 1 (split_prefix (w ∷ ws)).1) (find_op (word (split_prefix (w ∷ ws)).1 0)))
    ]

-- ---- it fits

-- a directive that needs a function has one before it
there : (said : Said) (d : Directive) (ws : List Word) → known_fault said d ws ≡ None → stands_anywhere d ≡ false → is_some said.current ≡ true
there said d ws h bound =
    let full = or_else (check (is_full said d) fault.TooMany) None in
    let again = or_else (check (is_duplicate said d ws) fault.Duplicate) full in
    let none = not (stands_anywhere d) && not (is_some said.current) in
    let a = or_none (check none fault.NoFunction) (or_else (check (has_wrong_words d ws) fault.WrongWords) (or_else (word_by_word d ws) again)) h in
    let e : not (stands_anywhere d) && not (is_some said.current) ≡ false = check_none none fault.NoFunction a.0 in
    not_false (is_some said.current) (subst (λ b. not b && not (is_some said.current) ≡ false) bound e)

in_current : (c : Option FunctionValue) (ws : List Word) (p : Part) → is_some c ≡ true → ((f : FunctionValue) → c ≡ Some f → FitsPart f ws p) → FitsIn c ws p
in_current None ws p h fits = absurd (true≢false (sym h))
in_current (Some f) ws p h fits = fits f refl

directive_fits : (said : Said) (ws : List Word) (d : Directive) → directive_fault said ws (Some d) ≡ None → list_all is_word ws ≡ true → Fits said ws (directive_line ws d)
directive_fits said ws directive.Function h fine = (function_new said ws h, function_room said ws h)
directive_fits said ws directive.Init h fine = tt
directive_fits said ws directive.Flags h fine = in_current said.current ws part.Flags (there said directive.Flags ws h refl) (λ f e. tt)
directive_fits said ws directive.CountN h fine = in_current said.current ws part.CountN (there said directive.CountN ws h refl) (λ f e. n_fine said ws h fine)
directive_fits said ws directive.CountM h fine = in_current said.current ws part.CountM (there said directive.CountM ws h refl) (λ f e. m_fine said ws h fine)
directive_fits said ws directive.Backup h fine = in_current said.current ws (part.Backup (word ws 1)) (there said directive.Backup ws h refl) (λ f e. tt)
directive_fits said ws (directive.Variable k) h fine =
    in_current said.current ws (part.Variable (declared k ws)) (there said (directive.Variable k) ws h refl)
    (λ f e. (var_fine said k ws h fine, subst (λ c. place_of (word ws 2) (vars_in c) ≡ None) e (var_new said k ws h), subst (λ c. count_of k (vars_in c) < most_of k) e (var_room said k ws h)))
directive_fits said ws directive.Float h fine = tt

if_fits : (said : Said) (ws : List Word) (x : Option Directive) → ((d : Directive) → x ≡ Some d → directive_fault said ws (Some d) ≡ None) → list_all is_word ws ≡ true → Fits said ws (line_if ws x)
if_fits said ws None h fine = tt
if_fits said ws (Some d) h fine = directive_fits said ws d (h d refl) fine

insn_in : (c : Option FunctionValue) (ws : List Word) (n : ℕ) (op : Op) (prefix : ℕ) (operands : List Word) → is_some c ≡ true → opcode_fault (vars_in c) (insns_in c) n op prefix operands ≡ None → is_prefix prefix ≡ true → n < 2 ^ 32
    → FitsIn c ws (part.Insn (insn_of (vars_in c) n op prefix operands))
insn_in None ws n op prefix operands h none fits small = absurd (true≢false (sym h))
insn_in (Some f) ws n op prefix operands h none fits small = (opcode_shaped f.vars f.insns n op prefix operands none fits small, opcode_passes f.vars f.insns n op prefix operands none)

found_fits : (said : Said) (ws : List Word) (prefix : ℕ) (operands : List Word) (x : Found) → is_some said.current ≡ true → found_fault said prefix operands x ≡ None → is_prefix prefix ≡ true → said.lines + 1 < 2 ^ 32
    → Fits said ws (found_line said prefix operands x)
found_fits said ws prefix operands (found.Yes op) h none fits small = insn_in said.current ws (said.lines + 1) op prefix operands h none fits small
found_fits said ws prefix operands found.Unsupported h none fits small = tt
found_fits said ws prefix operands found.Unknown h none fits small = tt

insn_fits : (said : Said) (ws : List Word) → insn_line_fault said (split_prefix ws) ≡ None → said.lines + 1 < 2 ^ 32 → Fits said ws (insn_line said (split_prefix ws))
insn_fits said ws h small =
    let x = split_prefix ws in
    let fine = fine_line said x h in
    found_fits said ws x.0 (drop 1 x.1) (find_op (word x.1 0)) fine.there fine.found (prefix_fits ws) small

words_fit : (said : Said) (line : List ℕ) (ws : List Word) → words line ≡ ws → line_fault said line ≡ None → list_any is_hash line ≡ false → said.lines + 1 < 2 ^ 32 → Fits said ws (line_of said ws)
words_fit said line [] cut h hash small = tt
words_fit said line (w ∷ ws) cut h hash small =
    let good = subst (λ vs. list_all is_word vs ≡ true) cut (words_good said line w ws h cut hash) in
    elim (cases_Bool (starts_with_dot w)) [
      | inl t ↦ rw t (if_fits said (w ∷ ws) (directive_of w) (λ d e. subst (λ vs. directive_fault said vs (Some d) ≡ None) cut (directive_good said line w ws d h cut t e)) good)
      | inr f ↦ rw f (insn_fits said (w ∷ ws) (subst (λ vs. insn_line_fault said (split_prefix vs) ≡ None) cut (instruction_good said line w ws h cut f)) small)
    ]

pub line_fits : (said : Said) (line : List ℕ) → line_fault said line ≡ None → list_any is_hash line ≡ false → said.lines + 1 < 2 ^ 32 → Fits said (words line) (line_of said (words line))
line_fits said line h hash small = words_fit said line (words line) refl h hash small
