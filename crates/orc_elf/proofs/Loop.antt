-- Symbols one after the other, as a loop reads them.
use Rattle.std.proofs.Common.{◌≡◌, ℕ, suc, ◌-◌, ◌+◌, ◌≤◌, ◌<◌, List, [], ◌∷◌, ◌++◌, Option, Some, None, refl, sym, ap, ◌∙◌, append_assoc, arith}
use Rattle.std.proofs.lemmas.List.{append-nil}
use Rattle.orc_program.specs.Words.{Word}
use Rattle.orc_elf.specs.declared.error.ElfError.{ElfError}
use Rattle.orc_elf.specs.Entries.{EntryValue}
use Rattle.orc_elf.specs.Fields.{symbol, symbols, name_of, word_of, entry_at, entries_at, first_of, first_refused}
use Rattle.orc_elf.proofs.Refusals.{refused_append}

-- one symbol, and those behind it
one_symbol : (bytes : List ℕ) (seen : List Word) (at count i : ℕ) → i < count
    → first_refused bytes (symbols bytes seen at (count - i)) ≡ first_of (first_refused bytes (symbol bytes seen at)) (first_refused bytes (symbols bytes (seen ++ word_of (name_of bytes at) ∷ []) (at + 24) (count - (i + 1))))
unfolding symbols
one_symbol bytes seen at count i lt =
    let k : count - i ≡ suc (count - (i + 1)) = omega arith in
    rw k (refused_append bytes (symbol bytes seen at) (symbols bytes (seen ++ word_of (name_of bytes at) ∷ []) (at + 24) (count - (i + 1))))

pub goes_on : (bytes : List ℕ) (seen : List Word) (at count i : ℕ) (name : Word) (total : Option ElfError) → i < count → name ≡ word_of (name_of bytes at)
    → None ≡ first_refused bytes (symbol bytes seen at) → first_refused bytes (symbols bytes seen at (count - i)) ≡ total
    → first_refused bytes (symbols bytes (seen ++ name ∷ []) (at + 24) (count - (i + 1))) ≡ total
goes_on bytes seen at count i name total lt n none so_far =
    let more = first_refused bytes (symbols bytes (seen ++ word_of (name_of bytes at) ∷ []) (at + 24) (count - (i + 1))) in
    ap (λ w. first_refused bytes (symbols bytes (seen ++ w ∷ []) (at + 24) (count - (i + 1)))) n
    ∙ ap (λ r. first_of r more) none ∙ sym (one_symbol bytes seen at count i lt) ∙ so_far

pub stops : (bytes : List ℕ) (seen : List Word) (at count i : ℕ) (e : ElfError) (total : Option ElfError) → i < count
    → Some e ≡ first_refused bytes (symbol bytes seen at) → first_refused bytes (symbols bytes seen at (count - i)) ≡ total → Some e ≡ total
stops bytes seen at count i e total lt some so_far =
    let more = first_refused bytes (symbols bytes (seen ++ word_of (name_of bytes at) ∷ []) (at + 24) (count - (i + 1))) in
    ap (λ r. first_of r more) some ∙ sym (one_symbol bytes seen at count i lt) ∙ so_far

pub is_done : (bytes : List ℕ) (seen : List Word) (at count i : ℕ) (total : Option ElfError) → count ≤ i
    → first_refused bytes (symbols bytes seen at (count - i)) ≡ total → None ≡ total
unfolding symbols
is_done bytes seen at count i total le so_far =
    let k : count - i ≡ 0 = omega arith in
    let none : first_refused bytes (symbols bytes seen at (count - i)) ≡ None = rw k refl in
    sym none ∙ so_far

pub one_entry : (bytes : List ℕ) (front : List EntryValue) (at count i : ℕ) (e : EntryValue) (total : List EntryValue) → i < count → e ≡ entry_at bytes at
    → front ++ entries_at bytes at (count - i) ≡ total → (front ++ e ∷ []) ++ entries_at bytes (at + 24) (count - (i + 1)) ≡ total
unfolding entries_at
one_entry bytes front at count i e total lt same so_far =
    let k : count - i ≡ suc (count - (i + 1)) = omega arith in
    let step : front ++ entries_at bytes at (count - i) ≡ (front ++ e ∷ []) ++ entries_at bytes (at + 24) (count - (i + 1)) = rw (k, same) (sym (append_assoc front (entry_at bytes at ∷ []) (entries_at bytes (at + 24) (count - (i + 1))))) in
    sym step ∙ so_far

pub all_entries : (bytes : List ℕ) (front : List EntryValue) (at count i : ℕ) (total : List EntryValue) → count ≤ i → front ++ entries_at bytes at (count - i) ≡ total → front ≡ total
unfolding entries_at
all_entries bytes front at count i total le so_far =
    let k : count - i ≡ 0 = omega arith in
    let end : front ++ entries_at bytes at (count - i) ≡ front = rw k (append-nil front) in
    sym end ∙ so_far
