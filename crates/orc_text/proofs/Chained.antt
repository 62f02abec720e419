-- Lines without a fault, one after the other.
use Rattle.std.proofs.Common.{◌≡◌, ℕ, ◌+◌, Bool, true, false, List, [], ◌∷◌, ◌++◌, Option, Some, None, if◌then◌else◌, fold, refl, ap, ◌∙◌, subst, append_assoc}
use Rattle.std.specs.List.{list_all}
use Rattle.orc_program.specs.declared.fault.Fault.{Fault}
use Rattle.orc_program.specs.declared.fault.Fault.TheVariants as fault
use Rattle.orc_program.specs.Words.{Word, is_word}
use Rattle.orc_program.specs.Checks.{check, or_else}
use Rattle.orc_words.specs.Text.{lines, content, words, starts_with_dot}
use Rattle.orc_text.specs.declared.directive.Directive.{Directive}
use Rattle.orc_text.specs.Said.{Said, say, say_words, say_if, say_directive, say_insn, counted, directive_of, split_prefix}
use Rattle.orc_text.specs.Faults.{line_fault, words_fault, directive_fault, insn_line_fault}
use Rattle.orc_text.specs.Reads.{found_or, first_fault}
use Rattle.orc_text.specs.Shown.{spaced, words_line}
use Rattle.orc_text.proofs.Spaced.{is_plain, plain_content, plain_bytes, plain_line, IsLine, line_spaced}

-- the lines of a text have no fault, and lead from what was said before them to what is said after them, whatever follows
pub record Says (said : Said) (text : List ℕ) (after : Said) : Type 0 where
  pub fault : (rest : List ℕ) → first_fault said (lines (text ++ rest)) ≡ first_fault after (lines rest)
  pub all : (rest : List ℕ) → fold say said (lines (text ++ rest)) ≡ fold say after (lines rest)

pub says_none : (said : Said) → Says said [] said
says_none said = record { fault = λ rest. refl; all = λ rest. refl }

pub says_then : (a b c : Said) (t u : List ℕ) → Says a t b → Says b u c → Says a (t ++ u) c
says_then a b c t u x y = record {
  fault = λ rest. ap (λ (text : List ℕ). first_fault a (lines text)) (append_assoc t u rest) ∙ x.fault (u ++ rest) ∙ y.fault rest;
  all = λ rest. ap (λ (text : List ℕ). fold say a (lines text)) (append_assoc t u rest) ∙ x.all (u ++ rest) ∙ y.all rest;
}

-- ---- one line

cut_off : (line rest : List ℕ) → list_all is_plain line ≡ true → lines ((line ++ 10 ∷ []) ++ rest) ≡ line ∷ lines rest
cut_off line rest plain = ap lines (append_assoc line (10 ∷ []) rest) ∙ plain_line line rest plain

says_line : (said : Said) (line : List ℕ) → list_all is_plain line ≡ true → line_fault said line ≡ None → Says said (line ++ 10 ∷ []) (counted (said.lines + 1) (say_words said (words line)))
unfolding say
says_line said line plain good =
    let after = counted (said.lines + 1) (say_words said (words line)) in
    let whole = plain_content line plain in
    let moved : say said line ≡ after = ap (λ (body : List ℕ). counted (said.lines + 1) (say_words said (words body))) whole in
    let fine : line_fault said (content line) ≡ None = ap (line_fault said) whole ∙ good in
    record {
      fault = λ rest.
          ap (first_fault said) (cut_off line rest plain)
          ∙ ap (λ (f : Option Fault). found_or (said.lines + 1) f (first_fault (say said line) (lines rest))) fine
          ∙ ap (λ (s : Said). first_fault s (lines rest)) moved;
      all = λ rest. ap (fold say said) (cut_off line rest plain) ∙ ap (λ (s : Said). fold say s (lines rest)) moved;
    }

-- what is checked of words
abbrev word_fault : Said → Word → List Word → Bool → Option Fault
word_fault said w ws dot = if dot then directive_fault said (w ∷ ws) (directive_of w) else insn_line_fault said (split_prefix (w ∷ ws))

fault_of : (said : Said) (line : List ℕ) (w : Word) (ws : List Word) (dot : Bool) → IsLine line (w ∷ ws) → starts_with_dot w ≡ dot → line_fault said line ≡ word_fault said w ws dot
unfolding line_fault
fault_of said line w ws dot l is =
    ap (words_fault said line) l.cut
    ∙ ap (λ (bad : Bool). or_else (check bad fault.BadByte) (word_fault said w ws (starts_with_dot w))) (plain_bytes line l.plain)
    ∙ ap (word_fault said w ws) is

-- what words say
abbrev said_word : Said → Word → List Word → Bool → Said
said_word said w ws dot = if dot then say_if said (w ∷ ws) (directive_of w) else say_insn said (split_prefix (w ∷ ws))

pub says_directive : (said : Said) (line : List ℕ) (w : Word) (ws : List Word) (d : Directive) → IsLine line (w ∷ ws) → starts_with_dot w ≡ true → directive_of w ≡ Some d → directive_fault said (w ∷ ws) (Some d) ≡ None
    → Says said (line ++ 10 ∷ []) (counted (said.lines + 1) (say_directive said (w ∷ ws) d))
says_directive said line w ws d l dot is good =
    let fine : line_fault said line ≡ None = fault_of said line w ws true l dot ∙ ap (directive_fault said (w ∷ ws)) is ∙ good in
    let moved : say_words said (words line) ≡ say_directive said (w ∷ ws) d = ap (say_words said) l.cut ∙ ap (said_word said w ws) dot ∙ ap (say_if said (w ∷ ws)) is in
    subst (λ (s : Said). Says said (line ++ 10 ∷ []) (counted (said.lines + 1) s)) moved (says_line said line l.plain fine)

pub says_insn : (said : Said) (line : List ℕ) (w : Word) (ws : List Word) → IsLine line (w ∷ ws) → starts_with_dot w ≡ false → insn_line_fault said (split_prefix (w ∷ ws)) ≡ None
    → Says said (line ++ 10 ∷ []) (counted (said.lines + 1) (say_insn said (split_prefix (w ∷ ws))))
says_insn said line w ws l dot good =
    let fine : line_fault said line ≡ None = fault_of said line w ws false l dot ∙ good in
    let moved : say_words said (words line) ≡ say_insn said (split_prefix (w ∷ ws)) = ap (say_words said) l.cut ∙ ap (said_word said w ws) dot in
    subst (λ (s : Said). Says said (line ++ 10 ∷ []) (counted (said.lines + 1) s)) moved (says_line said line l.plain fine)

-- a directive, and words behind it
pub says_words_line : (said : Said) (w : Word) (ws : List Word) (d : Directive) → is_word w ≡ true → list_all is_word ws ≡ true → starts_with_dot w ≡ true → directive_of w ≡ Some d → directive_fault said (w ∷ ws) (Some d) ≡ None
    → Says said (words_line w ws) (counted (said.lines + 1) (say_directive said (w ∷ ws) d))
says_words_line said w ws d fine all dot is good =
    subst (λ (text : List ℕ). Says said text (counted (said.lines + 1) (say_directive said (w ∷ ws) d))) (append_assoc w (spaced ws) (10 ∷ [])) (says_directive said (w ++ spaced ws) w ws d (line_spaced w ws fine all) dot is good)
