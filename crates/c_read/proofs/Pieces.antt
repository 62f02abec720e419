-- How guesses are put together. A guess of a text t is right where it gives the value back, whatever follows, and where
-- on any prefix p of t, whatever follows, the text of the value that it gives begins with p.
use Rattle.std.proofs.Common.{◌≡◌, ℕ, List, [], ◌∷◌, ◌++◌, length, drop, Bool, true, false, refl, sym, ap, ap₂, subst, ◌∙◌, append_assoc, true≢false}
use Rattle.std.proofs.lemmas.List.{drop_at}
use Rattle.c_read.specs.Guess.{head, with_value}
use Rattle.c_read.specs.Wrong.{Begins}

-- ---- lists

abbrev pub tail : List ℕ → List ℕ
tail [] = []
tail (b ∷ bytes) = bytes

abbrev is_empty : List ℕ → Bool
is_empty [] = true
is_empty (b ∷ bytes) = false

pub begins_none : (t : List ℕ) → Begins [] t
begins_none t = (t, refl)

pub begins_cons : (c : ℕ) (p t : List ℕ) → Begins p t → Begins (c ∷ p) (c ∷ t)
begins_cons c p t b = (b.0, ap (λ (s : List ℕ). c ∷ s) b.1)

pub begins_append : (x p t : List ℕ) → Begins p t → Begins (x ++ p) (x ++ t)
begins_append x p t b = (b.0, ap (λ (s : List ℕ). x ++ s) b.1 ∙ sym (append_assoc x p b.0))

pub begins_longer : (p t x : List ℕ) → Begins p t → Begins p (t ++ x)
begins_longer p t x b = (b.0 ++ x, ap (λ (s : List ℕ). s ++ x) b.1 ∙ append_assoc p b.0 x)

-- nothing is two parts only where the first is nothing
pub none_left : (r y : List ℕ) → [] ≡ r ++ y → r ≡ []
none_left [] y e = refl
none_left (c ∷ r) y e = absurd (true≢false (ap is_empty e))

-- p ends within x, or goes on behind it
pub data Ends (x t p y : List ℕ) : Type 0 where
  within : (z : List ℕ) → x ≡ p ++ z → Ends x t p y
  behind : (c : ℕ) (r : List ℕ) → p ≡ x ++ c ∷ r → t ≡ c ∷ (r ++ y) → Ends x t p y

pub ends : (x t p y : List ℕ) → x ++ t ≡ p ++ y → Ends x t p y
ends [] t [] y e = within [] refl
ends [] t (c ∷ r) y e = behind c r refl e
ends (b ∷ x) t [] y e = within (b ∷ x) refl
ends (b ∷ x) t (c ∷ p) y e = more (ends x t p y (ap tail e))
  where
    same : b ≡ c
    same = ap head e

    more : Ends x t p y → Ends (b ∷ x) t (c ∷ p) y
    more (within z i) = within z (ap₂ (λ (h : ℕ) (s : List ℕ). h ∷ s) same i)
    more (behind d r i j) = behind d r (ap₂ (λ (h : ℕ) (s : List ℕ). h ∷ s) (sym same) i) j

-- ---- right guesses

-- `stops` says which bytes may not follow
pub record Reads {A : Type 0} (stops : ℕ → Bool) (v : A) (t : List ℕ) (f : List ℕ → List ℕ) (g : List ℕ → A × List ℕ) : Type 0 where
  pub part : (p y q : List ℕ) → t ≡ p ++ y → Begins p (f (p ++ q))
  pub again : (q : List ℕ) → stops (head q) ≡ false → g (t ++ q) ≡ (v, q)

-- nothing more
pub reads_none : {A : Type 0} (stops : ℕ → Bool) (v : A) (f : List ℕ → List ℕ) → Reads stops v [] f (λ b. (v, b))
reads_none stops v f = record {
  part = λ p y q e. nothing p y (f (p ++ q)) e;
  again = λ q h. refl;
}
  where
    nothing : (p y t : List ℕ) → [] ≡ p ++ y → Begins p t
    nothing [] y t e = begins_none t
    nothing (c ∷ p) y t e = absurd (true≢false (ap is_empty e))

-- known bytes
pub reads_known : {A : Type 0} (stops : ℕ → Bool) (v : A) (x t : List ℕ) (f : List ℕ → List ℕ) (g : List ℕ → A × List ℕ) → Reads stops v t f g
    → Reads stops v (x ++ t) (λ b. x ++ f (drop (length x) b)) (λ b. g (drop (length x) b))
reads_known stops v x t f g r = record {
  part = λ p y q e. known p y q (ends x t p y e);
  again = λ q h. ap g (ap (drop (length x)) (append_assoc x t q) ∙ drop_at x (t ++ q) (length x) refl) ∙ r.again q h;
}
  where
    known : (p y q : List ℕ) → Ends x t p y → Begins p (x ++ f (drop (length x) (p ++ q)))
    known p y q (within z e) = subst (λ (s : List ℕ). Begins p (s ++ f (drop (length x) (p ++ q)))) (sym e) (begins_longer p (p ++ z) (f (drop (length x) (p ++ q))) (z, refl))
    known p y q (behind c s e i) =
        let at : drop (length x) (p ++ q) ≡ (c ∷ s) ++ q = ap (λ (u : List ℕ). drop (length x) (u ++ q)) e ∙ ap (drop (length x)) (append_assoc x (c ∷ s) q) ∙ drop_at x ((c ∷ s) ++ q) (length x) refl in
        subst (λ (u : List ℕ). Begins u (x ++ f (drop (length x) (p ++ q)))) (sym e)
        (subst (λ (u : List ℕ). Begins (x ++ c ∷ s) (x ++ f u)) (sym at) (begins_append x (c ∷ s) (f ((c ∷ s) ++ q)) (r.part (c ∷ s) y q i)))

-- a piece that is guessed, and then what follows, which starts with a byte that stops it
pub reads_piece : {A B : Type 0} (first stops : ℕ → Bool) (text : A → List ℕ) (at : List ℕ → A × List ℕ) (a : A) (v : B) (c : ℕ) (t : List ℕ) (f : A → List ℕ → List ℕ) (g : A → List ℕ → B × List ℕ)
    → first c ≡ false → Reads first a (text a) (λ b. text (at b).0) at → Reads stops v (c ∷ t) (f a) (g a)
    → Reads stops v (text a ++ c ∷ t) (λ b. text (at b).0 ++ f (at b).0 (at b).1) (λ b. g (at b).0 (at b).1)
reads_piece {A} {B} first stops text at a v c t f g n i r = record {
  part = λ p y q e. pieces p y q (ends (text a) (c ∷ t) p y e);
  again = λ q h. ap (λ (b : List ℕ). g (at b).0 (at b).1) (append_assoc (text a) (c ∷ t) q) ∙ ap (λ (x : A × List ℕ). g x.0 x.1) (i.again ((c ∷ t) ++ q) n) ∙ r.again q h;
}
  where
    pieces : (p y q : List ℕ) → Ends (text a) (c ∷ t) p y → Begins p (text (at (p ++ q)).0 ++ f (at (p ++ q)).0 (at (p ++ q)).1)
    pieces p y q (within z e) = begins_longer p (text (at (p ++ q)).0) (f (at (p ++ q)).0 (at (p ++ q)).1) (i.part p z q e)
    pieces p y q (behind d s e j) =
        let stop : first d ≡ false = subst (λ (k : ℕ). first k ≡ false) (ap head j) n in
        let is : at (p ++ q) ≡ (a, (d ∷ s) ++ q) = ap (λ (u : List ℕ). at (u ++ q)) e ∙ ap at (append_assoc (text a) (d ∷ s) q) ∙ i.again ((d ∷ s) ++ q) stop in
        subst (λ (u : List ℕ). Begins u (text (at (p ++ q)).0 ++ f (at (p ++ q)).0 (at (p ++ q)).1)) (sym e)
        (subst (λ (x : A × List ℕ). Begins (text a ++ d ∷ s) (text x.0 ++ f x.0 x.1)) (sym is) (begins_append (text a) (d ∷ s) (f a ((d ∷ s) ++ q)) (r.part (d ∷ s) y q j)))

-- the first byte decides
pub reads_by : {A : Type 0} (stops : ℕ → Bool) (v : A) (c : ℕ) (t : List ℕ) (f f' : List ℕ → List ℕ) (g g' : List ℕ → A × List ℕ)
    → ((b : List ℕ) → f (c ∷ b) ≡ f' (c ∷ b)) → ((b : List ℕ) → g (c ∷ b) ≡ g' (c ∷ b)) → Reads stops v (c ∷ t) f' g' → Reads stops v (c ∷ t) f g
reads_by stops v c t f f' g g' i j r = record {
  part = λ p y q e. by p y q e;
  again = λ q h. j (t ++ q) ∙ r.again q h;
}
  where
    by : (p y q : List ℕ) → c ∷ t ≡ p ++ y → Begins p (f (p ++ q))
    by [] y q e = begins_none (f q)
    by (d ∷ p) y q e = let same : c ≡ d = ap head e in
        subst (λ (s : List ℕ). Begins (d ∷ p) s) (sym (subst (λ (k : ℕ). f (k ∷ (p ++ q)) ≡ f' (k ∷ (p ++ q))) same (i (p ++ q)))) (r.part (d ∷ p) y q e)

-- the value is made of another
pub reads_value : {A B : Type 0} (stops : ℕ → Bool) (h : A → B) (a : A) (t : List ℕ) (f : List ℕ → List ℕ) (g : List ℕ → A × List ℕ) → Reads stops a t f g → Reads stops (h a) t f (λ b. with_value h (g b))
reads_value {A} stops h a t f g r = record {
  part = r.part;
  again = λ q n. ap (λ (x : A × List ℕ). with_value h x) (r.again q n);
}

-- the same text, otherwise told
pub reads_same : {A : Type 0} (stops : ℕ → Bool) (v : A) (t t' : List ℕ) (f f' : List ℕ → List ℕ) (g : List ℕ → A × List ℕ) → t ≡ t' → ((b : List ℕ) → f b ≡ f' b) → Reads stops v t' f' g → Reads stops v t f g
reads_same {A} stops v t t' f f' g e i r = record {
  part = λ p y q k. subst (λ (s : List ℕ). Begins p s) (sym (i (p ++ q))) (r.part p y q (sym e ∙ k));
  again = λ q n. ap (λ (s : List ℕ). g (s ++ q)) e ∙ r.again q n;
}
