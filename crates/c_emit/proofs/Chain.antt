-- Lists that grow at the end.
use Rattle.std.proofs.Common.{◌≡◌, ℕ, ◌+◌, ◌-◌, ◌<◌, suc, List, ◌++◌, sym, ap, ◌∙◌, append_assoc, arith}
use Rattle.c_emit.specs.Text.{numbered}

-- one piece, and then another
pub chain : (o x y : List ℕ) {m n : List ℕ} → m ≡ o ++ x → n ≡ m ++ y → n ≡ o ++ (x ++ y)
chain o x y h k = k ∙ ap (λ (t : List ℕ). t ++ y) h ∙ append_assoc o x y

-- one part more
pub one_more : (part : ℕ → List ℕ) (k n : ℕ) → k < n → numbered part k (n - k) ≡ part k ++ numbered part (k + 1) (n - (k + 1))
one_more part k n h = let e : n - k ≡ suc (n - (k + 1)) = omega arith in ap (numbered part k) e

pub with_one_more : (part : ℕ → List ℕ) (k n : ℕ) (o : List ℕ) {m t : List ℕ} → k < n → o ++ numbered part k (n - k) ≡ t → m ≡ o ++ part k → m ++ numbered part (k + 1) (n - (k + 1)) ≡ t
with_one_more part k n o h i e =
    ap (λ (s : List ℕ). s ++ numbered part (k + 1) (n - (k + 1))) e
    ∙ append_assoc o (part k) (numbered part (k + 1) (n - (k + 1)))
    ∙ ap (λ (s : List ℕ). o ++ s) (sym (one_more part k n h))
    ∙ i
