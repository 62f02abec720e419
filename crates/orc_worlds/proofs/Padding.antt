-- Zeros behind bytes, one after the other.
use Rattle.std.proofs.Common.{◌≡◌, ℕ, ◌+◌, ◌-◌, ◌≤◌, ◌<◌, ◌++◌, List, [], ◌∷◌, length, replicate, refl, ap, ◌∙◌, arith, length-append}
use Rattle.std.proofs.lemmas.List.{length-replicate, replicate_more, append_assoc}
use Rattle.orc_worlds.specs.Placement.{padded}

-- so many zeros have been put, and no more than are wanted
pub record Padded (size : ℕ) (bytes now : List ℕ) : Type 0 where
  pub zeros : ℕ
  pub few : zeros ≤ size - length bytes
  pub is : now ≡ bytes ++ replicate zeros 0

nil_after : (l : List ℕ) → l ≡ l ++ []
nil_after [] = refl
nil_after (x ∷ l) = ap (λ (m : List ℕ). x ∷ m) (nil_after l)

pub none_put : (size : ℕ) (bytes : List ℕ) → Padded size bytes bytes
none_put size bytes = record { zeros = 0; few = omega arith; is = nil_after bytes }

size_now : (size : ℕ) (bytes now : List ℕ) (p : Padded size bytes now) → length now ≡ length bytes + p.zeros
size_now size bytes now p = ap length p.is ∙ length-append bytes (replicate p.zeros 0) ∙ ap (λ k. length bytes + k) (length-replicate {A = ℕ} p.zeros 0)

pub one_more : (size : ℕ) (bytes now then : List ℕ) → Padded size bytes now → length now < size → then ≡ now ++ 0 ∷ [] → Padded size bytes then
one_more size bytes now then p less e = record {
  zeros = p.zeros + 1;
  few = omega (arith, size_now size bytes now p, less);
  is = e ∙ ap (λ (l : List ℕ). l ++ 0 ∷ []) p.is ∙ append_assoc bytes (replicate p.zeros 0) (0 ∷ []) ∙ ap (λ (l : List ℕ). bytes ++ l) (replicate_more p.zeros 0);
}

pub all_put : (size : ℕ) (bytes now : List ℕ) → Padded size bytes now → size ≤ length now → now ≡ padded size bytes
all_put size bytes now p full =
    let all : p.zeros ≡ size - length bytes = omega (arith, size_now size bytes now p, full, p.few) in
    p.is ∙ ap (λ k. bytes ++ replicate k 0) all

pub three_more : {A : Type 0} (xs : List A) (a b c : A) → ((xs ++ (a ∷ [])) ++ (b ∷ [])) ++ (c ∷ []) ≡ xs ++ (a ∷ b ∷ c ∷ [])
three_more [] a b c = refl
three_more {A} (x ∷ xs) a b c = ap (λ (l : List A). x ∷ l) (three_more xs a b c)
