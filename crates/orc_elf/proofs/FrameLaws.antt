-- Rows written one after the other, and how many bytes call frame information has.
use Rattle.std.proofs.Common.{◌≡◌, ℕ, ◌+◌, ◌-◌, ◌*◌, ◌≤◌, Option, Some, None, Result, Ok, Err, OnOk, List, [], ◌∷◌, ◌++◌, length, refl, append_assoc, arith, length-append}
use Rattle.std.specs.Prelude.{if◌then◌else◌}
use Rattle.std.specs.Result.{is_ok}
use Rattle.orc_elf.specs.declared.library.Unwind.{Unwind}
use Rattle.orc_elf.specs.Entries.{EntryValue}
use Rattle.orc_elf.specs.Layout.{gap}
use Rattle.orc_elf.specs.Frames.{common_entry, advance, row, saved, restored, rows, frame_bytes, frames_from, relocation_bytes, relocations_from, frame_part}

eight : (o a b c d e f g h : List ℕ) → (((((((o ++ a) ++ b) ++ c) ++ d) ++ e) ++ f) ++ g) ++ h ≡ o ++ (a ++ (b ++ (c ++ (d ++ (e ++ (f ++ (g ++ h)))))))
eight o a b c d e f g h = simp append_assoc

pub moved : (size m n : ℕ) (u : Unwind) (o0 o1 o2 o3 o4 o5 o6 o7 o8 : List ℕ) → m ≡ u.exit - u.body - 55 → n ≡ size - 1 - u.exit
    → o1 ≡ o0 ++ row 7 352 → o2 ≡ o1 ++ row u.body 2400 → o3 ≡ o2 ++ advance 48 → o4 ≡ o3 ++ saved → o5 ≡ o4 ++ row m 352 → o6 ≡ o5 ++ restored
    → o7 ≡ o6 ++ advance n → o8 ≡ o7 ++ 0x0e ∷ 8 ∷ 0 ∷ 0 ∷ 0 ∷ [] → o8 ≡ o0 ++ rows size (Some u)
unfolding rows
moved size m n u o0 o1 o2 o3 o4 o5 o6 o7 o8 a b e1 e2 e3 e4 e5 e6 e7 e8 =
    rw (e8, e7, e6, e5, e4, e3, e2, e1, a, b) (eight o0 (row 7 352) (row u.body 2400) (advance 48) saved (row (u.exit - u.body - 55) 352) restored (advance (size - 1 - u.exit)) (0x0e ∷ 8 ∷ 0 ∷ 0 ∷ 0 ∷ []))

-- what is written where a call succeeds
pub where_ok : {X E : Type 0} (r : Result X E) (written x y : List ℕ) (Q : Type 0) → (written ≡ x → Q) → written ≡ (if is_ok r then x else y) → OnOk r Q
where_ok (Ok v) written x y Q f is = f is
where_ok (Err e) written x y Q f is = tt

rows_size : (size : ℕ) (u : Option Unwind) → length (rows size u) ≡ 63
unfolding rows row saved
rows_size size None = refl
rows_size size (Some u) = refl

frame_size : (at size : ℕ) (u : Option Unwind) → length (frame_bytes at size u) ≡ 80
unfolding frame_bytes
frame_size at size u = omega (arith, rows_size size u)

frames_size : (at : ℕ) (es : List EntryValue) (us : List (Option Unwind)) → length (frames_from at es us) ≤ 80 * length es
unfolding frames_from
frames_size at [] us = omega arith
frames_size at (e ∷ es) [] = omega arith
frames_size at (e ∷ es) (u ∷ us) = omega (arith, frames_size (at + 80) es us, frame_size at (length e.code) u, length-append (frame_bytes at (length e.code) u) (frames_from (at + 80) es us))

pub frame_part_size : (es : List EntryValue) (us : List (Option Unwind)) → length (frame_part es us) ≤ 24 + 80 * length es
unfolding common_entry
frame_part_size es us = omega (arith, frames_size 24 es us, length-append common_entry (frames_from 24 es us))

relocation_size : (at code : ℕ) → length (relocation_bytes at code) ≡ 24
unfolding relocation_bytes
relocation_size at code = refl

pub relocations_size : (at code : ℕ) (es : List EntryValue) → length (relocations_from at code es) ≡ 24 * length es
unfolding relocations_from
relocations_size at code [] = omega arith
relocations_size at code (e ∷ es) =
    let next = code + gap 16 code + length e.code in
    omega (arith, relocations_size (at + 80) next es, relocation_size at (code + gap 16 code), length-append (relocation_bytes at (code + gap 16 code)) (relocations_from (at + 80) next es))
