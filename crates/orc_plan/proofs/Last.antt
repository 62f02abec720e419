-- The last value of a temp.
use Rattle.std.proofs.Common.{◌≡◌, ◌≢◌, ℕ, suc, ◌+◌, ◌<◌, Bool, true, false, not, ◌||◌, ◌&&◌, ◌==◌, List, [], ◌∷◌, refl, sym, ap, ◌∙◌, arith, length, drop, get_or, add-one, if◌then◌else◌, true≢false}
use Rattle.std.proofs.Math.Seq.{drop-cons}
use Rattle.orc_program.specs.Need.{is_in}
use Rattle.orc_plan.specs.Lowered.{last_value}
use Rattle.orc_plan.proofs.Holding.{is_same, other_is}

-- the last value of a temp among these and what was found before
abbrev pub found : List ℕ → ℕ → ℕ → ℕ → ℕ
found temps p i last = if is_in p temps then i + last_value temps p else last

found_one : (q : ℕ) (qs : List ℕ) (p i last : ℕ) → found (q ∷ qs) p i last ≡ found qs p (i + 1) (if p == q then i else last)
unfolding last_value
found_one q qs p i last = go (p == q) (is_in p qs)
  where
    go : (a b : Bool) → (if a || b then i + (if a && not b then 0 else suc (last_value qs p)) else last) ≡ (if b then i + 1 + last_value qs p else (if a then i else last))
    go true true = omega arith
    go true false = omega arith
    go false true = omega arith
    go false false = refl

pub found_more : (temps : List ℕ) (p i last : ℕ) → i < length temps → found (drop i temps) p i last ≡ found (drop (i + 1) temps) p (i + 1) (if p == get_or temps i 0 then i else last)
found_more temps p i last l =
    ap (λ (ts : List ℕ). found ts p i last) (drop-cons temps i 0 l)
    ∙ found_one (get_or temps i 0) (drop (suc i) temps) p i last
    ∙ ap (λ n. found (drop n temps) p (i + 1) (if p == get_or temps i 0 then i else last)) (sym (add-one i))

pub found_first : (temps : List ℕ) (p : ℕ) → found temps p 0 (length temps) ≡ last_value temps p
unfolding last_value
found_first [] p = refl
found_first (q ∷ qs) p = go (p == q) (is_in p qs) (found_first qs p)
  where
    go : (a b : Bool) → (if b then 0 + last_value qs p else length qs) ≡ last_value qs p → (if a || b then 0 + (if a && not b then 0 else suc (last_value qs p)) else suc (length qs)) ≡ (if a && not b then 0 else suc (last_value qs p))
    go true true h = omega arith
    go true false h = omega arith
    go false true h = omega arith
    go false false h = ap suc h

pub found_next : (temps : List ℕ) (p i last next whole : ℕ) → i < length temps → next ≡ (if p == get_or temps i 0 then i else last) → found (drop i temps) p i last ≡ whole → found (drop (i + 1) temps) p (i + 1) next ≡ whole
found_next temps p i last next whole l e h = ap (found (drop (i + 1) temps) p (i + 1)) e ∙ sym (found_more temps p i last l) ∙ h

-- where a temp has a value, its last one is among these
pub last_below : (temps : List ℕ) (p : ℕ) → is_in p temps ≡ true → last_value temps p < length temps
unfolding last_value
last_below [] p h = absurd (true≢false (sym h))
last_below (q ∷ qs) p h = go (p == q) (is_in p qs) h (last_below qs p)
  where
    go : (a b : Bool) → (a || b) ≡ true → (b ≡ true → last_value qs p < length qs) → (if a && not b then 0 else suc (last_value qs p)) < suc (length qs)
    go true true s later = omega (arith, later refl)
    go true false s later = omega arith
    go false true s later = omega (arith, later refl)
    go false false s later = absurd (true≢false (sym s))

pub found_then : (temps : List ℕ) (p i last next whole : ℕ) → i < length temps → p ≡ get_or temps i 0 → next ≡ i → found (drop i temps) p i last ≡ whole → found (drop (i + 1) temps) p (i + 1) next ≡ whole
found_then temps p i last next whole l e n h = found_next temps p i last next whole l (n ∙ sym (ap (λ b. if b then i else last) (is_same p (get_or temps i 0) e))) h

pub found_else : (temps : List ℕ) (p i last next whole : ℕ) → i < length temps → p ≢ get_or temps i 0 → next ≡ last → found (drop i temps) p i last ≡ whole → found (drop (i + 1) temps) p (i + 1) next ≡ whole
found_else temps p i last next whole l e n h = found_next temps p i last next whole l (n ∙ sym (ap (λ b. if b then i else last) (other_is p (get_or temps i 0) e))) h
