-- Indexes and array bytes are guessed right.
use Rattle.std.proofs.Common.{◌≡◌, ℕ, ◌+◌, ◌≤◌, ◌<◌, Bool, true, List, [], ◌∷◌, ◌++◌, codes, drop, refl, ap, ◌∙◌, arith}
use Rattle.std.specs.Fmt.{decimal}
use Rattle.std.proofs.lemmas.Fmt.{decimal_digit}
use Rattle.std.proofs.lemmas.Bool.Decides.{nat_tests}
use Rattle.orc_program.specs.Words.{is_digit}
use Rattle.c_run.specs.declared.tree.CIndex.{CIndex}
use Rattle.c_read.specs.Limits.{is_size, is_place}
use Rattle.c_emit.specs.Text.{index_text}
use Rattle.c_read.specs.Guess.{number_at, size_of, size_at, index_at, byte_at}
use Rattle.c_read.proofs.Pieces.{Reads, reads_none, reads_known, reads_piece, reads_by, reads_value, reads_same}
use Rattle.c_read.proofs.Numbers.{number_reads}

-- ---- sizes

size_with : (s : ℕ) → s < 10 → size_of (48 + s) ≡ s → Reads is_digit s (decimal s) (λ b. decimal (size_at b).0) size_at
unfolding size_at
size_with s h e =
    let one = decimal_digit s h in
    reads_same is_digit s (decimal s) ((48 + s) ∷ []) (λ b. decimal (size_at b).0) (λ b. decimal (size_at b).0) size_at one (λ b. refl)
    (reads_by is_digit s (48 + s) [] (λ b. decimal (size_at b).0) (λ b. (48 + s) ∷ []) size_at (λ b. (s, drop 1 b)) (λ b. ap decimal e ∙ one) (λ b. ap (λ (k : ℕ). (k, b)) e)
    (reads_known is_digit s ((48 + s) ∷ []) [] (λ b. []) (λ b. (s, b)) (reads_none is_digit s (λ b. []))))

pub size_reads : (s : ℕ) → is_size s ≡ true → Reads is_digit s (decimal s) (λ b. decimal (size_at b).0) size_at
size_reads s t = size_with s (grind (arith, nat_tests, t)) (sized s t)
  where
    sized : (s : ℕ) → is_size s ≡ true → size_of (48 + s) ≡ s
    sized s t = grind (arith, nat_tests, t)

-- ---- indexes

record IsIndex (x : CIndex) : Type 0 where
  stride : x.stride ≤ 255
  size : is_size x.size ≡ true
  offset : x.offset ≤ 7

index_parts : (x : CIndex) → is_place x ≡ true → IsIndex x
index_parts x t = record { stride = grind (arith, nat_tests, t); size = grind (arith, nat_tests, t); offset = grind (arith, nat_tests, t) }

pub index_reads : (x : CIndex) → is_place x ≡ true → Reads is_digit x (index_text x) (λ b. index_text (index_at b).0) index_at
unfolding index_at
index_reads x t =
    let h = index_parts x t in
    reads_known is_digit x (codes "(j * s") (decimal x.stride ++ (codes ") + (i * " ++ (decimal x.size ++ (codes ") + " ++ decimal x.offset)))) _ _
    (reads_piece is_digit is_digit decimal (number_at 255) x.stride x 41 _ (λ d b. codes ") + (i * " ++ (decimal (size_at (drop 9 b)).0 ++ (codes ") + " ++ decimal (number_at 7 (drop 4 (size_at (drop 9 b)).1)).0)))
    (λ d b. (record { stride = d; size = (size_at (drop 9 b)).0; offset = (number_at 7 (drop 4 (size_at (drop 9 b)).1)).0 }, (number_at 7 (drop 4 (size_at (drop 9 b)).1)).1))
    refl (number_reads 255 (omega arith) x.stride h.stride)
    (reads_known is_digit x (codes ") + (i * ") (decimal x.size ++ (codes ") + " ++ decimal x.offset)) _ _
    (reads_piece is_digit is_digit decimal size_at x.size x 41 _ (λ s b. codes ") + " ++ decimal (number_at 7 (drop 4 b)).0) (λ s b. (record { stride = x.stride; size = s; offset = (number_at 7 (drop 4 b)).0 }, (number_at 7 (drop 4 b)).1))
    refl (size_reads x.size h.size)
    (reads_known is_digit x (codes ") + ") (decimal x.offset) _ _
    (reads_value is_digit (λ (k : ℕ). record { stride = x.stride; size = x.size; offset = k }) x.offset (decimal x.offset) _ (number_at 7) (number_reads 7 (omega arith) x.offset h.offset))))))

-- ---- array bytes

-- after `a`
abbrev pub byte_tail : ℕ × CIndex → List ℕ
byte_tail b = decimal b.0 ++ (codes "[" ++ (index_text b.1 ++ codes "]"))

pub byte_reads : (stops : ℕ → Bool) (d : ℕ) (x : CIndex) → d ≤ 255 → is_place x ≡ true → Reads stops (d, x) (byte_tail (d, x)) (λ b. byte_tail (byte_at b).0) byte_at
unfolding byte_at
byte_reads stops d x h t =
    reads_piece is_digit stops decimal (number_at 255) d (d, x) 91 _ (λ n b. codes "[" ++ (index_text (index_at (drop 1 b)).0 ++ codes "]")) (λ n b. ((n, (index_at (drop 1 b)).0), drop 1 (index_at (drop 1 b)).1))
    refl (number_reads 255 (omega arith) d h)
    (reads_known stops (d, x) (codes "[") (index_text x ++ codes "]") _ _
    (reads_piece is_digit stops index_text index_at x (d, x) 93 [] (λ i b. codes "]") (λ i b. ((d, i), drop 1 b)) refl (index_reads x t)
    (reads_known stops (d, x) (codes "]") [] (λ b. []) (λ b. ((d, x), b)) (reads_none stops (d, x) (λ b. [])))))
