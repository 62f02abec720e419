-- The symbols of a written object hold what is asked of them, and tell of the functions.
use Rattle.std.proofs.Common.{◌≡◌, ℕ, ◌+◌, ◌^◌, ◌<◌, ◌≤◌, true, false, List, [], ◌∷◌, ◌++◌, length, Some, None, refl, sym, ap, ◌∙◌, append_assoc, arith, length-append}
use Rattle.std.specs.Prelude.{replicate}
use Rattle.std.specs.List.{list_any}
use Rattle.std.specs.Str.{bytes_eq}
use Rattle.std.proofs.lemmas.Bool.{le-leb}
use Rattle.std.proofs.lemmas.List.{length-replicate}
use Rattle.std.proofs.lemmas.List.Folds.{list_any-append}
use Rattle.std.proofs.lemmas.Slice.Eq.{bytes_eq-Decides}
use Rattle.orc_program.specs.Words.{Word}
use Rattle.orc_program.specs.Kept.{all_distinct}
use Rattle.orc_elf.specs.Entries.{EntryValue, IsEntry, AreEntries, names, is_among}
use Rattle.orc_elf.specs.Fields.{part, number_at, first_refused, contents, size_of, string_at, name_of, word_of, is_new, is_code_size, symbol, symbols, entry_at, entries_at}
use Rattle.orc_elf.specs.Layout.{gap, codes_from, symbol_bytes, symbols_from, names_from}
use Rattle.orc_elf.proofs.Refusals.{refused_append}
use Rattle.orc_elf.proofs.Sizes.{symbol_size}
use Rattle.orc_elf.proofs.Offsets.{number_4, number_8, number_after, number_here, part_here, good, exact_good, up_to_good}
use Rattle.orc_elf.proofs.Strings.{string_again}

-- the symbols of these functions stand at an offset, their names from `name` on in section 3, and their codes after `code` in section 1
pub record Stands (bytes : List ℕ) (at name code : ℕ) (es : List EntryValue) : Type 0 where
  pub front : List ℕ
  pub back : List ℕ
  pub whole : bytes ≡ front ++ (symbols_from name code es ++ back)
  pub place : at ≡ length front
  pub names_front : List ℕ
  pub names_whole : contents bytes 3 ≡ names_front ++ names_from es
  pub names_place : name ≡ length names_front
  pub names_few : length (contents bytes 3) < 2 ^ 32
  pub code_front : List ℕ
  pub code_whole : contents bytes 1 ≡ code_front ++ codes_from code es
  pub code_place : code ≡ length code_front
  pub code_few : length (contents bytes 1) < 2 ^ 32
  pub code_size : size_of bytes 1 ≡ length (contents bytes 1)

-- where the code of the first begins
abbrev start : ℕ → ℕ
start code = code + gap 16 code

fill_size : (n byte : ℕ) → length (replicate n byte) ≡ n
fill_size n byte = length-replicate {A = ℕ} n byte

next_stands : (bytes : List ℕ) (at name code : ℕ) (e : EntryValue) (es : List EntryValue) → Stands bytes at name code (e ∷ es)
    → Stands bytes (at + 24) (name + (length e.name + 1)) (start code + length e.code) es
unfolding symbols_from names_from codes_from
next_stands bytes at name code e es s =
    let one : List ℕ = symbol_bytes 0x12 name (start code) (length e.code) in
    let later : List ℕ = symbols_from (name + (length e.name + 1)) (start code + length e.code) es in
    let fill : List ℕ = replicate (gap 16 code) 0xcc in
    let codes : List ℕ = codes_from (start code + length e.code) es in
    record {
      front = s.front ++ one;
      back = s.back;
      whole = s.whole ∙ ap (λ t. s.front ++ t) (append_assoc one later s.back) ∙ sym (append_assoc s.front one (later ++ s.back));
      place = omega (arith, s.place, length-append s.front one, symbol_size 0x12 name (start code) (length e.code));
      names_front = s.names_front ++ (e.name ++ 0 ∷ []);
      names_whole = s.names_whole ∙ ap (λ t. s.names_front ++ t) (sym (append_assoc e.name (0 ∷ []) (names_from es))) ∙ sym (append_assoc s.names_front (e.name ++ 0 ∷ []) (names_from es));
      names_place = omega (arith, s.names_place, length-append s.names_front (e.name ++ 0 ∷ []), length-append e.name (0 ∷ []));
      names_few = s.names_few;
      code_front = s.code_front ++ (fill ++ e.code);
      code_whole = s.code_whole ∙ ap (λ t. s.code_front ++ t) (sym (append_assoc fill e.code codes)) ∙ sym (append_assoc s.code_front (fill ++ e.code) codes);
      code_place = omega (arith, s.code_place, length-append s.code_front (fill ++ e.code), length-append fill e.code, fill_size (gap 16 code) 0xcc);
      code_few = s.code_few;
      code_size = s.code_size;
    }

-- ---- one symbol

-- what stands at an offset where the symbol of a function stands
record Holds (bytes : List ℕ) (at : ℕ) (e : EntryValue) (value : ℕ) : Type 0 where
  there : at + 24 ≤ length bytes
  info : number_at bytes (at + 4) 1 ≡ 0x12
  other : number_at bytes (at + 5) 1 ≡ 0
  section : number_at bytes (at + 6) 2 ≡ 1
  value_is : number_at bytes (at + 8) 8 ≡ value
  size_is : number_at bytes (at + 16) 8 ≡ length e.code
  name_is : name_of bytes at ≡ Some e.name
  code_is : part (contents bytes 1) value (length e.code) ≡ e.code
  within : value + length e.code ≤ size_of bytes 1

holds : (bytes : List ℕ) (at name code : ℕ) (e : EntryValue) (es : List EntryValue) → Stands bytes at name code (e ∷ es) → IsEntry e → Holds bytes at e (start code)
unfolding symbols_from names_from codes_from symbol_bytes number_at name_of
holds bytes at name code e es s k =
    let one : List ℕ = symbol_bytes 0x12 name (start code) (length e.code) in
    let later : List ℕ = symbols_from (name + (length e.name + 1)) (start code + length e.code) es in
    let more : List ℕ = one ++ (later ++ s.back) in
    let fill : List ℕ = replicate (gap 16 code) 0xcc in
    let codes : List ℕ = codes_from (start code + length e.code) es in
    let whole : bytes ≡ s.front ++ more = s.whole ∙ ap (λ t. s.front ++ t) (append_assoc one later s.back) in
    let n : (i m : ℕ) → number_at bytes (at + i) m ≡ number_at more i m = λ i m. number_after bytes s.front more at i m whole s.place in
    let code_parts : contents bytes 1 ≡ (s.code_front ++ fill) ++ (e.code ++ codes) = s.code_whole ∙ sym (append_assoc s.code_front fill (e.code ++ codes)) in
    let begins : start code ≡ length (s.code_front ++ fill) = omega (arith, s.code_place, length-append s.code_front fill, fill_size (gap 16 code) 0xcc) in
    let ends : start code + length e.code ≤ length (contents bytes 1) = omega (arith, ap length code_parts, length-append (s.code_front ++ fill) (e.code ++ codes), length-append e.code codes, begins) in
    let name_low : name < 2 ^ 32 = omega (arith, s.names_few, ap length s.names_whole, length-append s.names_front (e.name ++ (0 ∷ names_from es)), s.names_place) in
    let named : number_at bytes at 4 ≡ name = number_here bytes s.front more at 4 whole s.place ∙ number_4 name name_low in
    record {
      there = omega (arith, ap length whole, length-append s.front more, length-append one (later ++ s.back), symbol_size 0x12 name (start code) (length e.code), s.place);
      info = n 4 1;
      other = n 5 1;
      section = n 6 2;
      value_is = n 8 8 ∙ number_8 (start code) (omega (arith, ends, s.code_few));
      size_is = n 16 8 ∙ number_8 (length e.code) (omega (arith, k.few_code));
      name_is = ap (string_at (contents bytes 3)) named ∙ string_again (contents bytes 3) s.names_front e.name (names_from es) name s.names_whole s.names_place k.name;
      code_is = part_here (contents bytes 1) (s.code_front ++ fill) e.code codes (start code) (length e.code) code_parts begins refl;
      within = omega (arith, ends, s.code_size);
    }

symbol_good : (bytes : List ℕ) (seen : List Word) (at value : ℕ) (e : EntryValue) → Holds bytes at e value → IsEntry e → is_among seen e.name ≡ false → first_refused bytes (symbol bytes seen at) ≡ None
unfolding symbol
symbol_good bytes seen at value e h k new =
    let allowed : is_new seen (name_of bytes at) ≡ true = ap (is_new seen) h.name_is ∙ rw (k.name, new) refl in
    let sized : is_code_size (size_of bytes 1) (number_at bytes (at + 8) 8) (number_at bytes (at + 16) 8) ≡ true =
    ap (λ v. is_code_size (size_of bytes 1) v (number_at bytes (at + 16) 8)) h.value_is ∙ ap (is_code_size (size_of bytes 1) value) h.size_is
    ∙ rw (le-leb 1 (length e.code) k.some_code, le-leb (length e.code) 1048576 k.few_code, le-leb (value + length e.code) (size_of bytes 1) h.within) refl in
    let l = h.there in
    rw (
      exact_good bytes (at + 4) 1 0x12 (omega arith) h.info,
      exact_good bytes (at + 5) 1 0 (omega arith) h.other,
      exact_good bytes (at + 6) 2 1 (omega arith) h.section,
      up_to_good bytes (at + 8) 8 (size_of bytes 1) value (omega arith) h.value_is (omega (arith, h.within)),
      good bytes (record { at = at + 16; size = 8; allowed = is_code_size (size_of bytes 1) (number_at bytes (at + 8) 8) (number_at bytes (at + 16) 8) }) (omega arith) sized,
      good bytes (record { at = at; size = 4; allowed = is_new seen (name_of bytes at) }) (omega arith) allowed,
    ) refl

entry_is : (bytes : List ℕ) (at value : ℕ) (e : EntryValue) → Holds bytes at e value → entry_at bytes at ≡ e
entry_is bytes at value e h =
    let name : word_of (name_of bytes at) ≡ e.name = ap word_of h.name_is in
    let code : part (contents bytes 1) (number_at bytes (at + 8) 8) (number_at bytes (at + 16) 8) ≡ e.code =
    ap (λ v. part (contents bytes 1) v (number_at bytes (at + 16) 8)) h.value_is ∙ ap (part (contents bytes 1) value) h.size_is ∙ h.code_is in
    ap (λ (w : List ℕ). record { name = w; code = part (contents bytes 1) (number_at bytes (at + 8) 8) (number_at bytes (at + 16) 8) }) name
    ∙ ap (λ (c : List ℕ). record { name = e.name; code = c }) code

-- ---- all symbols

-- of words that differ, one that follows others is none of them
none_before : (seen : List Word) (w : Word) (ws : List Word) → all_distinct (seen ++ w ∷ ws) ≡ true → is_among seen w ≡ false
none_before [] w ws d = refl
none_before (x ∷ seen) w ws d =
    let rest : all_distinct (seen ++ w ∷ ws) ≡ true = grind arith in
    let apart : list_any (bytes_eq x) (seen ++ w ∷ ws) ≡ false = grind arith in
    let e : bytes_eq x w ≡ false = grind (arith, list_any-append (bytes_eq x) seen (w ∷ ws)) in
    let s : bytes_eq w x ≡ false = grind (arith, bytes_eq-Decides w x, bytes_eq-Decides x w) in
    rw (s, none_before seen w ws rest) refl

pub symbols_good : (bytes : List ℕ) (seen : List Word) (at name code : ℕ) (es : List EntryValue) → Stands bytes at name code es → AreEntries es → all_distinct (seen ++ names es) ≡ true
    → first_refused bytes (symbols bytes seen at (length es)) ≡ None
unfolding symbols
symbols_good bytes seen at name code [] s k d = refl
symbols_good bytes seen at name code (e ∷ es) s k d =
    let h = holds bytes at name code e es s k.0 in
    let one = symbol_good bytes seen at (start code) e h k.0 (none_before seen e.name (names es) d) in
    let found : word_of (name_of bytes at) ≡ e.name = ap word_of h.name_is in
    let apart : all_distinct ((seen ++ e.name ∷ []) ++ names es) ≡ true = ap all_distinct (append_assoc seen (e.name ∷ []) (names es)) ∙ d in
    let more = symbols_good bytes (seen ++ e.name ∷ []) (at + 24) (name + (length e.name + 1)) (start code + length e.code) es (next_stands bytes at name code e es s) k.1 apart in
    refused_append bytes (symbol bytes seen at) (symbols bytes (seen ++ word_of (name_of bytes at) ∷ []) (at + 24) (length es))
    ∙ rw (one, found) more

pub entries_are : (bytes : List ℕ) (at name code : ℕ) (es : List EntryValue) → Stands bytes at name code es → AreEntries es → entries_at bytes at (length es) ≡ es
unfolding entries_at
entries_are bytes at name code [] s k = refl
entries_are bytes at name code (e ∷ es) s k =
    let h = holds bytes at name code e es s k.0 in
    let more = entries_are bytes (at + 24) (name + (length e.name + 1)) (start code + length e.code) es (next_stands bytes at name code e es s) k.1 in
    ap (λ x. x ∷ entries_at bytes (at + 24) (length es)) (entry_is bytes at (start code) e h) ∙ ap (λ xs. e ∷ xs) more
