-- The canonical text of a program reads as the program again, but for the numbers of lines.
use Rattle.std.proofs.Common.{◌≡◌, ℕ, ◌≤◌, true, nat_le, List, [], Option, Some, None, codes, fold, length, refl, sym, ap, ◌∙◌, subst, arith, append-nil}
use Rattle.std.proofs.lemmas.Bool.Decides.{nat_tests}
use Rattle.orc_program.specs.Words.{Word}
use Rattle.orc_program.specs.Program.{FunctionValue, ProgramValue}
use Rattle.orc_program.specs.Kept.{is_program, is_name_or_none, most_functions}
use Rattle.orc_program.proofs.Growing.{kept_program}
use Rattle.orc_words.specs.Text.{lines}
use Rattle.orc_text.specs.Said.{Said, say, nothing_said, program_of}
use Rattle.orc_text.specs.Reads.{first_fault, text_fault, text_program}
use Rattle.orc_text.specs.Shown.{name_text, functions_text, program_text}
use Rattle.orc_text.specs.Again.{without_lines, ReadsAgain}
use Rattle.orc_text.proofs.Chained.{Says, says_none, says_then}
use Rattle.orc_text.proofs.Directives.{noted_on, says_init}
use Rattle.orc_text.proofs.Functions.{after_functions, says_functions, functions_after, init_after}
use Rattle.orc_text.proofs.Unlined.{same_text}

-- what is said before the first function
abbrev begun : Option Word → Said
begun init = record { lines = noted_on 0 init; init = init; over = []; current = None }

says_begun : (init : Option Word) → is_name_or_none init ≡ true → Says nothing_said (name_text (codes ".init") init) (begun init)
says_begun None h = says_none nothing_said
says_begun (Some name) h = says_init [] None 0 name h

at_most : (m n : ℕ) → nat_le m n ≡ true → m ≤ n
at_most m n h = grind (arith, nat_tests, h)

-- what is said at the end of a program's text
abbrev ended : ProgramValue → Said
ended p = after_functions (begun p.init) p.functions

says_program : (p : ProgramValue) → is_program p ≡ true → Says nothing_said (program_text p) (ended p)
unfolding program_text
says_program p h =
    let k = kept_program p h in
    says_then nothing_said (begun p.init) (ended p) (name_text (codes ".init") p.init) (functions_text p.functions) (says_begun p.init k.init)
    (says_functions (begun p.init) [] p.functions refl k.names (at_most (length p.functions) most_functions k.few) k.all)

-- a program's text has no fault, and reads as the program
read_again : (p : ProgramValue) → is_program p ≡ true → ReadsAgain (program_text p) p
unfolding text_fault text_program
read_again p h =
    let text = program_text p in
    let says = says_program p h in
    let whole = append-nil text in
    let read : fold say nothing_said (lines text) ≡ ended p = ap (λ (t : List ℕ). fold say nothing_said (lines t)) (sym whole) ∙ says.all [] in
    record {
      faultless = ap (λ (t : List ℕ). first_fault nothing_said (lines t)) (sym whole) ∙ says.fault [];
      same =
          ap (λ (s : Said). without_lines (program_of s)) read
          ∙ ap (λ (fs : List FunctionValue). record { init = (ended p).init; functions = fs }) (functions_after (begun p.init) p.functions)
          ∙ ap (λ (init : Option Word). without_lines (record { init = init; functions = p.functions })) (init_after (begun p.init) p.functions);
    }

pub reads_again : (p : ProgramValue) (text : List ℕ) → is_program p ≡ true → text ≡ program_text p → ReadsAgain text p
reads_again p text h is = subst (λ (t : List ℕ). ReadsAgain t p) (sym is) (read_again p h)

-- and the text of what it reads as is the text again
pub shown_again : (p : ProgramValue) (text : List ℕ) → is_program p ≡ true → text ≡ program_text p → program_text (text_program text) ≡ text
shown_again p text h is = same_text (text_program text) p (reads_again p text h is).same ∙ sym is
