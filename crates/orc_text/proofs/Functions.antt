-- The lines of functions: none has a fault, and they say the functions that they were shown for, but for the numbers of lines.
use Rattle.std.proofs.Common.{◌≡◌, ℕ, ◌+◌, ◌≤◌, ◌<◌, true, false, List, [], ◌∷◌, ◌++◌, None, codes, map, length, refl, sym, ap, ◌∙◌, subst, arith, append-nil, append_assoc, length-append}
use Rattle.std.specs.List.{list_all, list_any}
use Rattle.std.specs.Str.{bytes_eq}
use Rattle.std.proofs.lemmas.List.{length-map, map-append}
use Rattle.orc_program.specs.declared.program.Insn.{Insn}
use Rattle.orc_program.specs.declared.program.Notes.{Notes}
use Rattle.orc_program.specs.Words.{Word}
use Rattle.orc_program.specs.Program.{FunctionValue}
use Rattle.orc_program.specs.Kept.{all_distinct, is_function, most_functions}
use Rattle.orc_program.proofs.Sizes.{both, kept_of}
use Rattle.orc_text.specs.Said.{Said, functions_of, new_function}
use Rattle.orc_text.specs.Shown.{insns_text, words_line, flags_text, vars_text, notes_text, function_text, functions_text}
use Rattle.orc_text.specs.Again.{without_its_lines}
use Rattle.orc_text.proofs.Chained.{Says, says_none, says_then}
use Rattle.orc_text.proofs.Declarations.{counted_on, says_vars}
use Rattle.orc_text.proofs.Directives.{within, whole, flagged_on, noted_on, says_function, says_flags, says_notes}
use Rattle.orc_text.proofs.Distinct.{new_word}
use Rattle.orc_text.proofs.InsnLines.{relined, unlined_again, says_insns}

-- ---- one function

abbrev no_notes : Notes
no_notes = record { n = None; m = None; backup = None }

-- the last line before a function's instructions, where n is that of its name
abbrev head_lines : ℕ → FunctionValue → ℕ
head_lines n f = noted_on (noted_on (noted_on (counted_on (flagged_on n f.two_d) f.vars) f.notes.n) f.notes.m) f.notes.backup

-- the function as it is read
abbrev as_read : ℕ → FunctionValue → FunctionValue
as_read n f = record f { insns = relined (head_lines n f) f.insns }

-- what is said after its lines
abbrev after_function : Said → FunctionValue → Said
after_function said f = within (counted_on (head_lines (said.lines + 1) f) f.insns) said.init (functions_of said) (as_read (said.lines + 1) f)

says_whole : (said : Said) (f : FunctionValue) → is_function f ≡ true → list_any (bytes_eq f.name) (map (λ (g : FunctionValue). g.name) (functions_of said)) ≡ false → length (functions_of said) < most_functions
    → Says said (function_text f) (after_function said f)
unfolding function_text
says_whole said f h new room =
    let k = kept_of f h in
    let over = functions_of said in
    let n = said.lines + 1 in
    let flagged = flagged_on n f.two_d in
    let declared = counted_on flagged f.vars in
    let named = within n said.init over (new_function f.name) in
    let with_flags = within flagged said.init over (whole f.name f.two_d [] [] no_notes) in
    let with_vars = within declared said.init over (whole f.name f.two_d f.vars [] no_notes) in
    let with_notes = within (head_lines n f) said.init over (whole f.name f.two_d f.vars [] f.notes) in
    let last = after_function said f in
    let insns = insns_text f.vars f.insns in
    says_then said named last (words_line (codes ".function") (f.name ∷ [])) (flags_text f.two_d ++ (vars_text f.vars ++ (notes_text f.notes ++ insns))) (says_function said f.name k.name new room)
    (says_then named with_flags last (flags_text f.two_d) (vars_text f.vars ++ (notes_text f.notes ++ insns)) (says_flags said.init over f.name n f.two_d [] [] no_notes)
    (says_then with_flags with_vars last (vars_text f.vars) (notes_text f.notes ++ insns) (says_vars said.init over f.name f.two_d [] no_notes flagged [] f.vars k.vars k.names k.limits)
    (says_then with_vars with_notes last (notes_text f.notes) insns (says_notes said.init over f.name declared f.two_d f.vars [] f.notes k.n k.m k.backup)
    (says_insns f.vars k.vars k.names said.init over f.name f.two_d f.notes (head_lines n f) [] [] f.insns refl k.insns))))

read_same : (n : ℕ) (f : FunctionValue) → without_its_lines (as_read n f) ≡ without_its_lines f
read_same n f = ap (λ (xs : List Insn). record f { insns = xs }) (unlined_again (head_lines n f) f.insns)

-- ---- one after the other

abbrev pub after_functions : Said → List FunctionValue → Said
after_functions said [] = said
after_functions said (f ∷ fs) = after_functions (after_function said f) fs

abbrev names : List FunctionValue → List Word
names fs = map (λ (f : FunctionValue). f.name) fs

pub says_functions : (said : Said) (earlier fs : List FunctionValue) → names (functions_of said) ≡ names earlier → all_distinct (names (earlier ++ fs)) ≡ true → length (earlier ++ fs) ≤ most_functions → list_all is_function fs ≡ true
    → Says said (functions_text fs) (after_functions said fs)
says_functions said earlier [] same distinct few fine = says_none said
says_functions said earlier (f ∷ fs) same distinct few fine =
    let two = both (is_function f) (list_all is_function fs) fine in
    let e = append_assoc earlier (f ∷ []) fs in
    let next = after_function said f in
    let apart : all_distinct (names earlier ++ f.name ∷ names fs) ≡ true = ap all_distinct (sym (map-append (λ (g : FunctionValue). g.name) earlier (f ∷ fs))) ∙ distinct in
    let new : list_any (bytes_eq f.name) (names (functions_of said)) ≡ false = ap (list_any (bytes_eq f.name)) same ∙ new_word f.name (names earlier) (names fs) apart in
    let count : length (functions_of said) ≡ length earlier = sym (length-map (functions_of said) (λ (g : FunctionValue). g.name)) ∙ ap (λ (ws : List Word). length ws) same ∙ length-map earlier (λ (g : FunctionValue). g.name) in
    let room : length (functions_of said) < most_functions = omega (arith, count, length-append earlier (f ∷ fs), few) in
    let more : names (functions_of next) ≡ names (earlier ++ f ∷ []) =
    map-append (λ (g : FunctionValue). g.name) (functions_of said) (as_read (said.lines + 1) f ∷ [])
    ∙ ap (λ (ws : List Word). ws ++ f.name ∷ []) same
    ∙ sym (map-append (λ (g : FunctionValue). g.name) earlier (f ∷ [])) in
    let later = says_functions next (earlier ++ f ∷ []) fs more (ap (λ (gs : List FunctionValue). all_distinct (names gs)) e ∙ distinct) (subst (λ (gs : List FunctionValue). length gs ≤ most_functions) (sym e) few) two.1 in
    says_then said next (after_functions said (f ∷ fs)) (function_text f) (functions_text fs) (says_whole said f two.0 new room) later

abbrev unlined : List FunctionValue → List FunctionValue
unlined fs = map without_its_lines fs

-- which functions are there then
pub functions_after : (said : Said) (fs : List FunctionValue) → unlined (functions_of (after_functions said fs)) ≡ unlined (functions_of said) ++ unlined fs
functions_after said [] = sym (append-nil (unlined (functions_of said)))
functions_after said (f ∷ fs) =
    functions_after (after_function said f) fs
    ∙ ap (λ (gs : List FunctionValue). gs ++ unlined fs) (map-append without_its_lines (functions_of said) (as_read (said.lines + 1) f ∷ []))
    ∙ ap (λ (g : FunctionValue). (unlined (functions_of said) ++ g ∷ []) ++ unlined fs) (read_same (said.lines + 1) f)
    ∙ append_assoc (unlined (functions_of said)) (without_its_lines f ∷ []) (unlined fs)

pub init_after : (said : Said) (fs : List FunctionValue) → (after_functions said fs).init ≡ said.init
init_after said [] = refl
init_after said (f ∷ fs) = init_after (after_function said f) fs
