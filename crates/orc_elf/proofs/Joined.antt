-- The contents of an object's sections, written one after the other.
use Rattle.std.proofs.Common.{◌≡◌, ℕ, List, ◌++◌, length, ap, ◌∙◌, append_assoc}
use Rattle.std.specs.Prelude.{replicate}
use Rattle.std.proofs.lemmas.List.{length-replicate}
use Rattle.orc_elf.specs.Layout.{gap, padded, contents_part}

pub fill_size : (n byte : ℕ) → length (replicate n byte) ≡ n
fill_size n byte = length-replicate {A = ℕ} n byte

four : (a b c d : List ℕ) → ((a ++ b) ++ c) ++ d ≡ a ++ (b ++ (c ++ d))
four a b c d = simp append_assoc

pub joined : (code symbols names section_names o1 o2 o3 o4 o5 o6 : List ℕ) → o1 ≡ code → o2 ≡ o1 ++ replicate (gap 8 (length o1)) 0
    → o3 ≡ o2 ++ symbols → o4 ≡ o3 ++ names → o5 ≡ o4 ++ section_names → o6 ≡ o5 ++ replicate (gap 8 (length o5)) 0
    → o6 ≡ contents_part code symbols names section_names
unfolding contents_part
joined code symbols names section_names o1 o2 o3 o4 o5 o6 e1 e2 e3 e4 e5 e6 =
    let start : o2 ≡ padded code = e2 ∙ ap padded e1 in
    let parts : o5 ≡ padded code ++ (symbols ++ (names ++ section_names)) = rw (e5, e4, e3, start) (four (padded code) symbols names section_names) in
    e6 ∙ ap padded parts
