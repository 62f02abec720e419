-- The words behind the first of a line.
use Rattle.std.proofs.Common.{◌≡◌, ℕ, zero, suc, ◌-◌, ◌<◌, List, [], ◌∷◌, drop, refl, arith}
use Rattle.orc_program.specs.Words.{Word}
use Rattle.orc_words.specs.Text.{word}

less_one : (k : ℕ) → suc k - 1 ≡ k
less_one k = omega arith

pub word_next : (w : Word) (ws : List Word) (k : ℕ) → 0 < k → word (w ∷ ws) k ≡ word ws (k - 1)
word_next w ws zero h = absurd (omega (arith, h))
word_next w ws (suc k) h = rw (less_one k) refl

pub word_none : (k : ℕ) → word [] k ≡ []
word_none zero = refl
word_none (suc k) = refl

pub drop_next : (w : Word) (ws : List Word) (k : ℕ) → 0 < k → drop k (w ∷ ws) ≡ drop (k - 1) ws
drop_next w ws zero h = absurd (omega (arith, h))
drop_next w ws (suc k) h = rw (less_one k) refl
