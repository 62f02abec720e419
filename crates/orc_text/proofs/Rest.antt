-- A line without a fault, by its first word; and the lines that are left.
use Rattle.std.proofs.Common.{◌≡◌, ℕ, ◌+◌, Bool, true, false, if◌then◌else◌, List, [], ◌∷◌, Option, Some, None, length, fold, refl, sym, ap, ◌∙◌, subst}
use Rattle.std.specs.List.{list_all, list_any}
use Rattle.std.proofs.lemmas.List.{nil_from_length}
use Rattle.orc_program.specs.declared.fault.Fault.{Fault}
use Rattle.orc_program.specs.declared.fault.Fault.TheVariants as fault
use Rattle.orc_program.specs.Words.{Word, is_word}
use Rattle.orc_program.specs.Program.{ProgramValue}
use Rattle.orc_program.specs.Checks.{check, or_else}
use Rattle.orc_text.specs.declared.directive.Directive.{Directive}
use Rattle.orc_text.specs.declared.reading.TextError.{TextError}
use Rattle.orc_text.specs.declared.reading.TextError.TheVariants as error
use Rattle.orc_words.specs.Text.{lines, content, words, is_bad_byte, starts_with_dot, is_hash}
use Rattle.orc_text.specs.Said.{Said, say, say_words, counted, directive_of, split_prefix, program_of, nothing_said}
use Rattle.orc_text.specs.Faults.{line_fault, words_fault, directive_fault, insn_line_fault}
use Rattle.orc_text.specs.Reads.{found_or, first_fault, text_fault, text_program, Reads}
use Rattle.orc_text.specs.Refused.{Tells}
use Rattle.orc_words.proofs.Clean.{words_fine}
use Rattle.orc_text.proofs.Faultless.{or_none, check_none}

-- ---- the words of a line

-- what is checked after the bytes
abbrev after_bytes : Said → Word → List Word → Option Fault
after_bytes said w ws = if starts_with_dot w then directive_fault said (w ∷ ws) (directive_of w) else insn_line_fault said (split_prefix (w ∷ ws))

some_fault : (said : Said) (line : List ℕ) (w : Word) (ws : List Word) → line_fault said line ≡ None → words line ≡ w ∷ ws → (list_any is_bad_byte line ≡ false) × (after_bytes said w ws ≡ None)
unfolding line_fault
some_fault said line w ws h cut =
    let e : or_else (check (list_any is_bad_byte line) fault.BadByte) (after_bytes said w ws) ≡ None = subst (λ (vs : List Word). words_fault said line vs ≡ None) cut h in
    let a = or_none (check (list_any is_bad_byte line) fault.BadByte) (after_bytes said w ws) e in
    (check_none (list_any is_bad_byte line) fault.BadByte a.0, a.1)

pub words_good : (said : Said) (line : List ℕ) (w : Word) (ws : List Word) → line_fault said line ≡ None → words line ≡ w ∷ ws → list_any is_hash line ≡ false → list_all is_word (words line) ≡ true
words_good said line w ws h cut hash = words_fine line (some_fault said line w ws h cut).0 hash

pub directive_good : (said : Said) (line : List ℕ) (w : Word) (ws : List Word) (d : Directive) → line_fault said line ≡ None → words line ≡ w ∷ ws → starts_with_dot w ≡ true → directive_of w ≡ Some d → directive_fault said (words line) (Some d) ≡ None
directive_good said line w ws d h cut dot is =
    let e : directive_fault said (w ∷ ws) (directive_of w) ≡ None = subst (λ (b : Bool). (if b then directive_fault said (w ∷ ws) (directive_of w) else insn_line_fault said (split_prefix (w ∷ ws))) ≡ None) dot (some_fault said line w ws h cut).1 in
    subst (λ (vs : List Word). directive_fault said vs (Some d) ≡ None) (sym cut) (subst (λ (x : Option Directive). directive_fault said (w ∷ ws) x ≡ None) is e)

pub instruction_good : (said : Said) (line : List ℕ) (w : Word) (ws : List Word) → line_fault said line ≡ None → words line ≡ w ∷ ws → starts_with_dot w ≡ false → insn_line_fault said (split_prefix (words line)) ≡ None
instruction_good said line w ws h cut dot =
    let e : insn_line_fault said (split_prefix (w ∷ ws)) ≡ None = subst (λ (b : Bool). (if b then directive_fault said (w ∷ ws) (directive_of w) else insn_line_fault said (split_prefix (w ∷ ws))) ≡ None) dot (some_fault said line w ws h cut).1 in
    subst (λ (vs : List Word). insn_line_fault said (split_prefix vs) ≡ None) (sym cut) e

-- ---- the lines that are left

-- what is left says the rest of the text
pub record Left (text : List ℕ) (said : Said) (rest : List ℕ) : Type 0 where
  pub fault : first_fault said (lines rest) ≡ text_fault text
  pub program : program_of (fold say said (lines rest)) ≡ text_program text

pub left_first : (text : List ℕ) → Left text nothing_said text
unfolding text_fault text_program
left_first text = record { fault = refl; program = refl }

pub left_next : (text : List ℕ) (said after : Said) (rest line more body : List ℕ) → Left text said rest → lines rest ≡ line ∷ lines more → body ≡ content line → line_fault said body ≡ None
    → after ≡ counted (said.lines + 1) (say_words said (words body)) → Left text after more
unfolding say
left_next text said after rest line more body left cut is none says =
    let none' : line_fault said (content line) ≡ None = ap (line_fault said) (sym is) ∙ none in
    let next : after ≡ say said line = says ∙ ap (λ (b : List ℕ). counted (said.lines + 1) (say_words said (words b))) is in
    record {
      fault =
          ap (λ s. first_fault s (lines more)) next
          ∙ sym (ap (first_fault said) cut ∙ ap (λ f. found_or (said.lines + 1) f (first_fault (say said line) (lines more))) none')
          ∙ left.fault;
      program =
          ap (λ s. program_of (fold say s (lines more))) next
          ∙ sym (ap (λ ls. program_of (fold say said ls)) cut)
          ∙ left.program;
    }

found_first : (n : ℕ) (x : Option Fault) (later : Option (ℕ × Fault)) (e : TextError) → Tells (found_or n x None) e → Tells (found_or n x later) e
found_first n None later (error.Fault line f) h = absurd (let e : ⊥ = cc in e)
found_first n None later error.Memory h = tt
found_first n (Some g) later e h = h

pub left_told : (text : List ℕ) (said : Said) (rest line more body : List ℕ) (e : TextError) → Left text said rest → lines rest ≡ line ∷ lines more → body ≡ content line
    → Tells (found_or (said.lines + 1) (line_fault said body) None) e → Tells (text_fault text) e
left_told text said rest line more body e left cut is told =
    let here : first_fault said (lines rest) ≡ found_or (said.lines + 1) (line_fault said body) (first_fault (say said line) (lines more)) =
    ap (first_fault said) cut ∙ ap (λ (b : List ℕ). found_or (said.lines + 1) (line_fault said b) (first_fault (say said line) (lines more))) (sym is) in
    subst (λ x. Tells x e) (sym here ∙ left.fault) (found_first (said.lines + 1) (line_fault said body) (first_fault (say said line) (lines more)) e told)

pub left_none : (text : List ℕ) (said : Said) (rest : List ℕ) (p : ProgramValue) → Left text said rest → length rest ≡ 0 → p ≡ program_of said → Reads text p
left_none text said rest p left none is =
    let e : rest ≡ [] = nil_from_length rest none in
    record {
      faultless = sym left.fault ∙ ap (λ (r : List ℕ). first_fault said (lines r)) e;
      program = is ∙ ap (λ (r : List ℕ). program_of (fold say said (lines r))) (sym e) ∙ left.program;
    }

pub left_begins : (text : List ℕ) (p : ProgramValue) → p ≡ record { init = None; functions = [] } → Left text (record { lines = 0; init = p.init; over = p.functions; current = None }) text
left_begins text p e = subst (λ (q : ProgramValue). Left text (record { lines = 0; init = q.init; over = q.functions; current = None }) text) (sym e) (left_first text)
