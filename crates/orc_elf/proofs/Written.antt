-- What is written for some functions, one after the other.
use Rattle.std.proofs.Common.{◌≡◌, ℕ, ◌+◌, ◌<◌, ◌≤◌, true, ltb, List, [], ◌∷◌, ◌++◌, length, get_or, drop, sym, ap, ◌∙◌, append_assoc, arith, length-append}
use Rattle.std.specs.Prelude.{replicate}
use Rattle.std.proofs.lemmas.Bool.{ltb-true}
use Rattle.std.proofs.lemmas.List.{append-nil, drop_more, drop_all, length-replicate}
use Rattle.orc_program.specs.Words.{is_name}
use Rattle.orc_elf.specs.Entries.{EntryValue}
use Rattle.orc_elf.specs.Layout.{gap, codes_from, symbol_bytes, symbols_from, names_from}

pub name_length : (w : List ℕ) → is_name w ≡ true → (1 ≤ length w) × (length w ≤ 64)
name_length [] h = absurd cc
name_length (b ∷ bytes) h =
    let lt : ltb (length bytes) 64 ≡ true = grind arith in
    let l : length bytes < 64 = ltb-true _ _ lt in
    (omega arith, omega arith)

-- the first of the functions that are left
first_left : (es : List EntryValue) (i : ℕ) (e : EntryValue) → i < length es → e ≡ get_or es i e → drop i es ≡ e ∷ drop (i + 1) es
first_left es i e lt is = drop_more es i e lt ∙ ap (λ x. x ∷ drop (i + 1) es) (sym is)

-- ---- codes

pub one_code : (out : List ℕ) (es : List EntryValue) (i : ℕ) (e : EntryValue) (grown total : List ℕ) → i < length es → e ≡ get_or es i e
    → grown ≡ (out ++ replicate (gap 16 (length out)) 0xcc) ++ e.code
    → out ++ codes_from (length out) (drop i es) ≡ total → grown ++ codes_from (length grown) (drop (i + 1) es) ≡ total
unfolding codes_from
one_code out es i e grown total lt is g so_far =
    let fill : List ℕ = replicate (gap 16 (length out)) 0xcc in
    let at : length grown ≡ length out + gap 16 (length out) + length e.code = omega (arith, ap length g, length-append (out ++ fill) e.code, length-append out fill, length-replicate {A = ℕ} (gap 16 (length out)) 0xcc) in
    let more = codes_from (length out + gap 16 (length out) + length e.code) (drop (i + 1) es) in
    let step : out ++ codes_from (length out) (drop i es) ≡ out ++ (fill ++ (e.code ++ more)) = ap (λ xs. out ++ codes_from (length out) xs) (first_left es i e lt is) in
    ap (λ n. grown ++ codes_from n (drop (i + 1) es)) at
    ∙ ap (λ t. t ++ more) g
    ∙ append_assoc (out ++ fill) e.code more
    ∙ append_assoc out fill (e.code ++ more)
    ∙ sym step
    ∙ so_far

pub all_codes : (out : List ℕ) (es : List EntryValue) (i : ℕ) (total : List ℕ) → length es ≤ i → out ++ codes_from (length out) (drop i es) ≡ total → out ≡ total
unfolding codes_from
all_codes out es i total le so_far = sym (append-nil out) ∙ ap (λ xs. out ++ codes_from (length out) xs) (sym (drop_all i es le)) ∙ so_far

-- ---- symbols

pub one_more_symbol : (out : List ℕ) (es : List EntryValue) (i name at : ℕ) (e : EntryValue) (grown total : List ℕ) → i < length es → e ≡ get_or es i e
    → grown ≡ out ++ symbol_bytes 0x12 name (at + gap 16 at) (length e.code)
    → out ++ symbols_from name at (drop i es) ≡ total → grown ++ symbols_from (name + (length e.name + 1)) (at + gap 16 at + length e.code) (drop (i + 1) es) ≡ total
unfolding symbols_from
one_more_symbol out es i name at e grown total lt is g so_far =
    let one = symbol_bytes 0x12 name (at + gap 16 at) (length e.code) in
    let more = symbols_from (name + (length e.name + 1)) (at + gap 16 at + length e.code) (drop (i + 1) es) in
    let step : out ++ symbols_from name at (drop i es) ≡ out ++ (one ++ more) = ap (λ xs. out ++ symbols_from name at xs) (first_left es i e lt is) in
    ap (λ t. t ++ more) g ∙ append_assoc out one more ∙ sym step ∙ so_far

pub all_symbols : (out : List ℕ) (es : List EntryValue) (i name at : ℕ) (total : List ℕ) → length es ≤ i → out ++ symbols_from name at (drop i es) ≡ total → out ≡ total
unfolding symbols_from
all_symbols out es i name at total le so_far = sym (append-nil out) ∙ ap (λ xs. out ++ symbols_from name at xs) (sym (drop_all i es le)) ∙ so_far

-- ---- names

pub one_more_name : (out : List ℕ) (es : List EntryValue) (i : ℕ) (e : EntryValue) (grown total : List ℕ) → i < length es → e ≡ get_or es i e
    → grown ≡ (out ++ e.name) ++ 0 ∷ []
    → out ++ names_from (drop i es) ≡ total → grown ++ names_from (drop (i + 1) es) ≡ total
unfolding names_from
one_more_name out es i e grown total lt is g so_far =
    let more = names_from (drop (i + 1) es) in
    let step : out ++ names_from (drop i es) ≡ out ++ (e.name ++ (0 ∷ more)) = ap (λ xs. out ++ names_from xs) (first_left es i e lt is) in
    ap (λ t. t ++ more) g
    ∙ append_assoc (out ++ e.name) (0 ∷ []) more
    ∙ append_assoc out e.name (0 ∷ more)
    ∙ sym step
    ∙ so_far

pub all_names : (out : List ℕ) (es : List EntryValue) (i : ℕ) (total : List ℕ) → length es ≤ i → out ++ names_from (drop i es) ≡ total → out ≡ total
unfolding names_from
all_names out es i total le so_far = sym (append-nil out) ∙ ap (λ xs. out ++ names_from xs) (sym (drop_all i es le)) ∙ so_far
