-- A pattern of 4 bytes in the frame is a word whose low 32 bits are the pattern's number's.
use Rattle.std.proofs.Common.{◌≡◌, ℕ, suc, ◌+◌, ◌*◌, ◌/◌, ◌%◌, ◌^◌, ◌<◌, Some, sym, ap, ◌∙◌, arith}
use Rattle.orc_bits.specs.Memory.{Memory, word}
use Rattle.orc_bits.specs.Numbers.{cut}
use Rattle.orc_region.proofs.Arithmetic.Digits.{digit, digit_small, number_of, digit_of, value_digits}

low_half : (v a b c d rest : ℕ) → a ≡ v / 1 % 256 → b ≡ v / 256 % 256 → c ≡ v / 65536 % 256 → d ≡ v / 16777216 % 256 → (a + 256 * (b + 256 * (c + 256 * (d + 256 * rest)))) % 2 ^ 32 ≡ v % 2 ^ 32
low_half v a b c d rest e f g h = omega (arith, e, f, g, h)

low_word : (v : ℕ) → v % 256 ^ 8 % 2 ^ 32 ≡ v % 2 ^ 32
low_word v = omega arith

-- 4 bytes over and over
pub pattern_word : (mem : Memory) (a v : ℕ) → a + 16 < 2 ^ 63 → ((b : ℕ) → b < 16 → mem (a + b) ≡ Some (digit v (b % 4))) → (w : ℕ) × (word mem a ≡ Some w) × (cut 32 w ≡ cut 32 v)
pattern_word mem a v low there =
    let f : ℕ → ℕ = λ j. digit v (j % 4) in
    let at : (j : ℕ) → j < 4 → f j ≡ digit v j = λ j l. ap (digit v) (let e : j % 4 ≡ j = omega (arith, l) in e) in
    let x = number_of 8 f in
    let bytes : (j : ℕ) → j < 8 → mem (a + j) ≡ Some (digit x j) = λ j l. there j (omega (arith, l)) ∙ ap Some (sym (digit_of 8 f j (λ k m. digit_small v (k % 4)) l)) in (
      x % 256 ^ 8,
      value_digits 8 mem a x (omega (arith, low)) bytes,
      low_word x ∙ low_half v (f 0) (f 1) (f 2) (f 3) (number_of 4 (λ j. f (suc (suc (suc (suc j)))))) (at 0 (omega arith)) (at 1 (omega arith)) (at 2 (omega arith)) (at 3 (omega arith)),
    )
