-- One function more.
use Rattle.std.proofs.Common.{◌≡◌, ℕ, ◌<◌, Bool, true, false, ◌||◌, Option, List, [], ◌∷◌, ◌++◌, length, map, refl, ap, ◌∙◌, arith, length-append}
use Rattle.std.specs.List.{list_any}
use Rattle.std.specs.Str.{bytes_eq}
use Rattle.std.proofs.lemmas.List.Folds.{list_any-append}
use Rattle.std.proofs.lemmas.Slice.Eq.{bytes_eq-Decides}
use Rattle.orc_program.specs.Kept.{all_distinct}
use Rattle.orc_elf.specs.declared.library.Unwind.{Unwind}
use Rattle.orc_elf.specs.Library.{IsLibrary}
use Rattle.orc_elf.specs.Entries.{EntryValue, IsEntry, IsElf, AreEntries, names, is_among}

pub list_any-map : {A B : Type 0} (f : A → B) (p : B → Bool) (xs : List A) → list_any p (map f xs) ≡ list_any (λ x. p (f x)) xs
list_any-map f p [] = refl
list_any-map f p (x ∷ xs) = ap (λ b. p (f x) || b) (list_any-map f p xs)

pub among_names : (word : List ℕ) (fs : List EntryValue) → is_among (names fs) word ≡ list_any (λ f. bytes_eq word f.name) fs
among_names word fs = list_any-map (λ f. f.name) (bytes_eq word) fs

eq_swapped : (a b : List ℕ) → bytes_eq a b ≡ bytes_eq b a
eq_swapped a b = grind (arith, bytes_eq-Decides)

-- words that differ, and one more that is none of them
pub distinct_pushed : (ws : List (List ℕ)) (w : List ℕ) → all_distinct ws ≡ true → is_among ws w ≡ false → all_distinct (ws ++ w ∷ []) ≡ true
distinct_pushed [] w d n = refl
distinct_pushed (x ∷ ws) w d n =
    let h : is_among ws w ≡ false = grind arith in
    let e : bytes_eq x w ≡ false = eq_swapped x w ∙ (grind arith) in
    let t : all_distinct ws ≡ true = grind arith in
    let a : list_any (bytes_eq x) ws ≡ false = grind arith in
    rw (list_any-append (bytes_eq x) ws (w ∷ []), a, e, distinct_pushed ws w t h) refl

pub entries_pushed : (fs : List EntryValue) (f : EntryValue) → AreEntries fs → IsEntry f → AreEntries (fs ++ f ∷ [])
entries_pushed [] f a h = (h, tt)
entries_pushed (x ∷ fs) f a h = (a.0, entries_pushed fs f a.1 h)

pub names_pushed : (fs : List EntryValue) (f : EntryValue) → names (fs ++ f ∷ []) ≡ names fs ++ f.name ∷ []
names_pushed [] f = refl
names_pushed (x ∷ fs) f = ap (λ ws. x.name ∷ ws) (names_pushed fs f)

pub elf_pushed : (fs : List EntryValue) (f : EntryValue) → IsElf (record { entries = fs }) → IsEntry f → length fs < 64 → is_among (names fs) f.name ≡ false → IsElf (record { entries = fs ++ f ∷ [] })
elf_pushed fs f i h few new = record {
  few = omega (arith, length-append fs (f ∷ []));
  each = entries_pushed fs f i.each h;
  distinct = rw names_pushed (distinct_pushed (names fs) f.name i.distinct new);
}

pub library_pushed : (fs : List EntryValue) (us : List (Option Unwind)) (f : EntryValue) (u : Option Unwind) → IsLibrary (record { entries = fs; unwinds = us }) → IsEntry f → length fs < 65 → is_among (names fs) f.name ≡ false → IsLibrary (record { entries = fs ++ f ∷ []; unwinds = us ++ u ∷ [] })
library_pushed fs us f u i h few new = record {
  few = omega (arith, length-append fs (f ∷ []));
  each = entries_pushed fs f i.each h;
  distinct = rw names_pushed (distinct_pushed (names fs) f.name i.distinct new);
  paired = omega (arith, i.paired, length-append fs (f ∷ []), length-append us (u ∷ []));
}
