-- Names as words, and the names of opcodes.
use Rattle.std.proofs.Common.{◌≡◌, ℕ, ◌&&◌, Bool, true, false, not, nat_lt, is_some, [], ◌∷◌, None, length, refl, sym, arith, true≢false}
use Rattle.std.specs.List.{list_all}
use Rattle.std.proofs.lemmas.Bool.Decides.{nat_tests}
use Rattle.orc_ops.specs.declared.opcode.Op.{Op}
use Rattle.orc_ops.specs.declared.opcode.Op.TheVariants as op
use Rattle.orc_ops.specs.declared.lookup.Found.TheVariants as found
use Rattle.orc_ops.specs.Table.{row}
use Rattle.orc_ops.specs.Names.{find_op}
use Rattle.orc_ops.proofs.Finding.{yes_is_name}
use Rattle.orc_program.specs.Words.{Word, is_word, is_word_byte, is_name, is_letter, is_name_byte}
use Rattle.orc_program.proofs.Sizes.{both}
use Rattle.orc_program.proofs.Declared.{both_hold}
use Rattle.orc_words.specs.Text.{starts_with_dot, looks_like_number, prefix_of}
use Rattle.orc_text.proofs.Distinct.{not_true}
use Rattle.orc_text.proofs.Faultless.{not_some}
use Rattle.orc_text.proofs.Spaced.{all_so}

-- ---- names

letter_byte : (b : ℕ) → is_letter b ≡ true → is_word_byte b ≡ true
letter_byte b h = grind (arith, nat_tests, h)

name_byte : (b : ℕ) → is_name_byte b ≡ true → is_word_byte b ≡ true
name_byte b h = grind (arith, nat_tests, h)

letter_first : (b : ℕ) → is_letter b ≡ true → looks_like_number (b ∷ []) ≡ false
letter_first b h = grind (arith, nat_tests, h)

pub name_word : (w : Word) → is_name w ≡ true → is_word w ≡ true
name_word [] h = absurd (true≢false (sym h))
name_word (b ∷ bytes) h =
    let two = both (is_letter b) (list_all is_name_byte bytes && nat_lt (length bytes) 64) h in
    let rest = both (list_all is_name_byte bytes) (nat_lt (length bytes) 64) two.1 in
    both_hold (is_word_byte b) (list_all is_word_byte bytes) (letter_byte b two.0) (all_so is_name_byte is_word_byte bytes name_byte rest.0)

pub name_no_number : (w : Word) → is_name w ≡ true → looks_like_number w ≡ false
name_no_number [] h = absurd (true≢false (sym h))
name_no_number (b ∷ bytes) h = letter_first b (both (is_letter b) (list_all is_name_byte bytes && nat_lt (length bytes) 64) h).0

-- ---- opcodes

-- a word without a dot in front, which is no prefix
abbrev is_plain_name : Word → Bool
is_plain_name w = is_word w && (not (starts_with_dot w) && not (is_some (prefix_of w)))

-- computed at each opcode
all_plain : (o : Op) → is_plain_name (row o).name ≡ true
all_plain op.Absb = refl
all_plain o = refl

pub op_word : (o : Op) → is_word (row o).name ≡ true
op_word o = (both (is_word (row o).name) (not (starts_with_dot (row o).name) && not (is_some (prefix_of (row o).name))) (all_plain o)).0

plain_rest : (o : Op) → not (starts_with_dot (row o).name) && not (is_some (prefix_of (row o).name)) ≡ true
plain_rest o = (both (is_word (row o).name) (not (starts_with_dot (row o).name) && not (is_some (prefix_of (row o).name))) (all_plain o)).1

pub op_no_dot : (o : Op) → starts_with_dot (row o).name ≡ false
op_no_dot o = not_true (starts_with_dot (row o).name) (both (not (starts_with_dot (row o).name)) (not (is_some (prefix_of (row o).name))) (plain_rest o)).0

pub op_no_prefix : (o : Op) → prefix_of (row o).name ≡ None
op_no_prefix o = not_some (prefix_of (row o).name) (not_true (is_some (prefix_of (row o).name)) (both (not (starts_with_dot (row o).name)) (not (is_some (prefix_of (row o).name))) (plain_rest o)).1)

pub op_found : (o : Op) → find_op (row o).name ≡ found.Yes o
op_found o = (yes_is_name (row o).name o).1 refl
