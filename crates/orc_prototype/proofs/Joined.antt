-- Texts that grow.
use Rattle.std.proofs.Common.{◌≡◌, List, ◌++◌, Result, Ok, Err, OnOk, ap, ◌∙◌, append_assoc}

module _ {A : Type 0} (start first second third one two three : List A) where
  joined : one ≡ start ++ first → two ≡ one ++ second → three ≡ two ++ third → three ≡ start ++ (first ++ (second ++ third))
  joined e g h = h ∙ ap (λ t. t ++ third) g ∙ ap (λ t. (t ++ second) ++ third) e ∙ append_assoc (start ++ first) second third ∙ append_assoc start first (second ++ third)

  pub joined_ok : {T E : Type 0} (r : Result T E) → one ≡ start ++ first → two ≡ one ++ second → OnOk r (three ≡ two ++ third) → OnOk r (three ≡ start ++ (first ++ (second ++ third)))
  joined_ok (Ok x) e g h = joined e g h
  joined_ok (Err x) e g h = h
