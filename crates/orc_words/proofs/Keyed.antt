-- Keys that are seen as other values.
use Rattle.std.proofs.Common.{◌≡◌, ℕ, ◌+◌, Bool, false, not, cond, if◌then◌else◌, ◌||◌, List, [], ◌∷◌, ◌++◌, Some, None, map, length, nat_lt, position, refl, sym, ap, ◌∙◌}
use Rattle.std.specs.List.{list_any, position_or_len}
use Rattle.std.proofs.lemmas.List.{length-map, map-append}
use Rattle.indexmap.specs.IndexSet.{insert_key}

module _ {K X : Type 0} (f : K → X) (p : X → Bool) where
  pub list_any-map : (ks : List K) → list_any p (map f ks) ≡ list_any (λ k. p (f k)) ks
  list_any-map [] = refl
  list_any-map (k ∷ ks) = ap (λ b. p (f k) || b) (list_any-map ks)

  position_or_len-map : (ks : List K) → position_or_len p (map f ks) ≡ position_or_len (λ k. p (f k)) ks
  position_or_len-map [] = refl
  position_or_len-map (k ∷ ks) = ap (λ n. cond (not (p (f k))) (1 + n) 0) (position_or_len-map ks)

  pub position-map : (ks : List K) → position p (map f ks) ≡ position (λ k. p (f k)) ks
  position-map ks =
      let at = position_or_len (λ k. p (f k)) ks in
      ap (λ (m : ℕ). cond (nat_lt m (length (map f ks))) (Some m) None) (position_or_len-map ks) ∙ ap (λ (n : ℕ). cond (nat_lt at n) (Some at) None) (length-map ks f)

-- a key that isn't there goes last
module _ {K X : Type 0} (f : K → X) (same : X → X → Bool) where
  insert_key-new : (ks : List K) (k : K) → list_any (same (f k)) (map f ks) ≡ false → map f (insert_key (λ a b. same (f a) (f b)) ks k) ≡ map f ks ++ f k ∷ []
  insert_key-new ks k absent = ap (λ b. map f (if b then ks else ks ++ k ∷ [])) (sym (list_any-map f (same (f k)) ks) ∙ absent) ∙ map-append f ks (k ∷ [])

  pub insert_key-seen : (ks new : List K) (k : K) (xs : List X) (x : X) → map f ks ≡ xs → f k ≡ x → list_any (same x) xs ≡ false → new ≡ insert_key (λ a b. same (f a) (f b)) ks k → map f new ≡ xs ++ x ∷ []
  insert_key-seen ks new k xs x seen is absent inserted =
      let absent' : list_any (same (f k)) (map f ks) ≡ false = ap (λ y. list_any (same y) (map f ks)) is ∙ ap (list_any (same x)) seen ∙ absent in
      ap (map f) inserted ∙ insert_key-new ks k absent' ∙ ap (λ ys. ys ++ f k ∷ []) seen ∙ ap (λ y. xs ++ y ∷ []) is
