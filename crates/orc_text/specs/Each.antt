-- Two lists whose items belong to each other, one for one.
use Rattle.std.specs.Prelude.{List, [], ◌∷◌}

-- one for each, in order
abbrev pub OneForEach : {A B : Type 0} → (A → B → Type 0) → List A → List B → Type 0
OneForEach R [] [] = Unit {0}
OneForEach R [] (b ∷ bs) = ⊥
OneForEach R (a ∷ rest) [] = ⊥
OneForEach R (a ∷ rest) (b ∷ bs) = R a b × OneForEach R rest bs
