-- How guesses are put together where they are right on texts and prefixes of at most n bytes alone.
use Rattle.std.proofs.Common.{◌≡◌, ℕ, ◌≤◌, List, [], ◌∷◌, ◌++◌, length, drop, Bool, false, refl, sym, ap, subst, ◌∙◌, append_assoc, arith}
use Rattle.std.proofs.lemmas.List.{drop_at, length-append}
use Rattle.c_read.specs.Guess.{head, with_value}
use Rattle.c_read.specs.Wrong.{Begins}
use Rattle.c_read.proofs.Pieces.{Reads, Ends, within, behind, ends, begins_none, begins_longer, begins_append}

pub record ReadsIn {A : Type 0} (n : ℕ) (stops : ℕ → Bool) (v : A) (t : List ℕ) (f : List ℕ → List ℕ) (g : List ℕ → A × List ℕ) : Type 0 where
  pub part : (p y q : List ℕ) → length p ≤ n → t ≡ p ++ y → Begins p (f (p ++ q))
  pub again : (q : List ℕ) → length t ≤ n → stops (head q) ≡ false → g (t ++ q) ≡ (v, q)

pub in_all : {A : Type 0} (n : ℕ) (stops : ℕ → Bool) (v : A) (t : List ℕ) (f : List ℕ → List ℕ) (g : List ℕ → A × List ℕ) → Reads stops v t f g → ReadsIn n stops v t f g
in_all n stops v t f g r = record { part = λ p y q l e. r.part p y q e; again = λ q l h. r.again q h }

pub in_fewer : {A : Type 0} (n m : ℕ) (stops : ℕ → Bool) (v : A) (t : List ℕ) (f : List ℕ → List ℕ) (g : List ℕ → A × List ℕ) → m ≤ n → ReadsIn n stops v t f g → ReadsIn m stops v t f g
in_fewer n m stops v t f g k r = record { part = λ p y q l e. r.part p y q (omega (arith, k, l)) e; again = λ q l h. r.again q (omega (arith, k, l)) h }

shorter : (x r : List ℕ) (n : ℕ) → length (x ++ r) ≤ n → length r ≤ n
shorter x r n h = let e = length-append x r in omega (arith, e, h)

pub in_known : {A : Type 0} (n : ℕ) (stops : ℕ → Bool) (v : A) (x t : List ℕ) (f : List ℕ → List ℕ) (g : List ℕ → A × List ℕ) → ReadsIn n stops v t f g
    → ReadsIn n stops v (x ++ t) (λ b. x ++ f (drop (length x) b)) (λ b. g (drop (length x) b))
in_known n stops v x t f g r = record {
  part = λ p y q l e. known p y q l (ends x t p y e);
  again = λ q l h. ap g (ap (drop (length x)) (append_assoc x t q) ∙ drop_at x (t ++ q) (length x) refl) ∙ r.again q (shorter x t n l) h;
}
  where
    known : (p y q : List ℕ) → length p ≤ n → Ends x t p y → Begins p (x ++ f (drop (length x) (p ++ q)))
    known p y q l (within z e) = subst (λ (s : List ℕ). Begins p (s ++ f (drop (length x) (p ++ q)))) (sym e) (begins_longer p (p ++ z) (f (drop (length x) (p ++ q))) (z, refl))
    known p y q l (behind c s e i) =
        let at : drop (length x) (p ++ q) ≡ (c ∷ s) ++ q = ap (λ (u : List ℕ). drop (length x) (u ++ q)) e ∙ ap (drop (length x)) (append_assoc x (c ∷ s) q) ∙ drop_at x ((c ∷ s) ++ q) (length x) refl in
        let few : length (c ∷ s) ≤ n = shorter x (c ∷ s) n (subst (λ (u : List ℕ). length u ≤ n) e l) in
        subst (λ (u : List ℕ). Begins u (x ++ f (drop (length x) (p ++ q)))) (sym e)
        (subst (λ (u : List ℕ). Begins (x ++ c ∷ s) (x ++ f u)) (sym at) (begins_append x (c ∷ s) (f ((c ∷ s) ++ q)) (r.part (c ∷ s) y q few i)))

-- a piece whose bytes that may not follow are these, and what follows on texts of at most m bytes, where the piece takes the others
pub in_piece : {A B : Type 0} (n m : ℕ) (first stops : ℕ → Bool) (text : A → List ℕ) (at : List ℕ → A × List ℕ) (a : A) (v : B) (t : List ℕ) (f : A → List ℕ → List ℕ) (g : A → List ℕ → B × List ℕ)
    → ((r : List ℕ) → length (text a ++ r) ≤ n → length r ≤ m) → ((c : ℕ) (r : List ℕ) → t ≡ c ∷ r → first c ≡ false)
    → ((q : List ℕ) → stops (head q) ≡ false → first (head (t ++ q)) ≡ false)
    → ReadsIn n first a (text a) (λ b. text (at b).0) at → ReadsIn m stops v t (f a) (g a)
    → ReadsIn n stops v (text a ++ t) (λ b. text (at b).0 ++ f (at b).0 (at b).1) (λ b. g (at b).0 (at b).1)
in_piece {A} {B} n m first stops text at a v t f g left n1 n2 i r = record {
  part = λ p y q l e. pieces p y q l (ends (text a) t p y e);
  again = λ q l h. ap (λ (b : List ℕ). g (at b).0 (at b).1) (append_assoc (text a) t q) ∙ ap (λ (x : A × List ℕ). g x.0 x.1) (i.again (t ++ q) (front t l) (n2 q h)) ∙ r.again q (left t l) h;
}
  where
    front : (r : List ℕ) → length (text a ++ r) ≤ n → length (text a) ≤ n
    front r h = let e = length-append (text a) r in omega (arith, e, h)

    pieces : (p y q : List ℕ) → length p ≤ n → Ends (text a) t p y → Begins p (text (at (p ++ q)).0 ++ f (at (p ++ q)).0 (at (p ++ q)).1)
    pieces p y q l (within z e) = begins_longer p (text (at (p ++ q)).0) (f (at (p ++ q)).0 (at (p ++ q)).1) (i.part p z q l e)
    pieces p y q l (behind d s e j) =
        let few : length (text a ++ d ∷ s) ≤ n = subst (λ (u : List ℕ). length u ≤ n) e l in
        let is : at (p ++ q) ≡ (a, (d ∷ s) ++ q) = ap (λ (u : List ℕ). at (u ++ q)) e ∙ ap at (append_assoc (text a) (d ∷ s) q) ∙ i.again ((d ∷ s) ++ q) (front (d ∷ s) few) (n1 d (s ++ y) j) in
        subst (λ (u : List ℕ). Begins u (text (at (p ++ q)).0 ++ f (at (p ++ q)).0 (at (p ++ q)).1)) (sym e)
        (subst (λ (x : A × List ℕ). Begins (text a ++ d ∷ s) (text x.0 ++ f x.0 x.1)) (sym is) (begins_append (text a) (d ∷ s) (f a ((d ∷ s) ++ q)) (r.part (d ∷ s) y q (left (d ∷ s) few) j)))

pub in_by : {A : Type 0} (n : ℕ) (stops : ℕ → Bool) (v : A) (c : ℕ) (t : List ℕ) (f f' : List ℕ → List ℕ) (g g' : List ℕ → A × List ℕ)
    → ((b : List ℕ) → f (c ∷ b) ≡ f' (c ∷ b)) → ((b : List ℕ) → g (c ∷ b) ≡ g' (c ∷ b)) → ReadsIn n stops v (c ∷ t) f' g' → ReadsIn n stops v (c ∷ t) f g
in_by n stops v c t f f' g g' i j r = record {
  part = λ p y q l e. by p y q l e;
  again = λ q l h. j (t ++ q) ∙ r.again q l h;
}
  where
    by : (p y q : List ℕ) → length p ≤ n → c ∷ t ≡ p ++ y → Begins p (f (p ++ q))
    by [] y q l e = begins_none (f q)
    by (d ∷ p) y q l e = let same : c ≡ d = ap head e in
        subst (λ (s : List ℕ). Begins (d ∷ p) s) (sym (subst (λ (k : ℕ). f (k ∷ (p ++ q)) ≡ f' (k ∷ (p ++ q))) same (i (p ++ q)))) (r.part (d ∷ p) y q l e)

pub in_same : {A : Type 0} (n : ℕ) (stops : ℕ → Bool) (v : A) (t t' : List ℕ) (f f' : List ℕ → List ℕ) (g : List ℕ → A × List ℕ) → t ≡ t' → ((b : List ℕ) → f b ≡ f' b) → ReadsIn n stops v t' f' g → ReadsIn n stops v t f g
in_same n stops v t t' f f' g e i r = record {
  part = λ p y q l k. subst (λ (s : List ℕ). Begins p s) (sym (i (p ++ q))) (r.part p y q l (sym e ∙ k));
  again = λ q l h. ap (λ (s : List ℕ). g (s ++ q)) e ∙ r.again q (subst (λ (s : List ℕ). length s ≤ n) e l) h;
}

pub in_value : {A B : Type 0} (n : ℕ) (stops : ℕ → Bool) (h : A → B) (a : A) (t : List ℕ) (f : List ℕ → List ℕ) (g : List ℕ → A × List ℕ) → ReadsIn n stops a t f g → ReadsIn n stops (h a) t f (λ b. with_value h (g b))
in_value {A} n stops h a t f g r = record {
  part = r.part;
  again = λ q l k. ap (λ (x : A × List ℕ). with_value h x) (r.again q l k);
}
