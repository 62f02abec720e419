-- Declarations of temps are guessed right, with what stands behind them.
use Rattle.std.proofs.Common.{◌≡◌, ℕ, zero, suc, ◌+◌, ◌≤◌, ◌==◌, Bool, true, false, List, ◌∷◌, ◌++◌, drop, length, refl, sym, ap, subst, ◌∙◌, inl, inr, arith, append_assoc, if◌then◌else◌}
use Rattle.std.proofs.lemmas.Bool.{cases_Bool}
use Rattle.std.proofs.lemmas.List.{drop_at, length-append}
use Rattle.c_emit.specs.Text.{line_text, numbered}
use Rattle.c_emit.specs.declared.lines.Line.TheVariants.{Temp}
use Rattle.c_read.specs.Guess.{head, is_temp, temps_at}
use Rattle.c_read.specs.Wrong.{Begins}
use Rattle.c_read.proofs.Pieces.{Ends, within, behind, ends, begins_longer, begins_append}
use Rattle.c_read.proofs.Parts.{trans, numbered_next}
use Rattle.c_read.proofs.Bounded.{ReadsIn}

abbrev line : ℕ → List ℕ
line k = line_text Temp k

-- from number k on, the temps that are guessed, and f on what is behind them
abbrev pub whole : ℕ → (List ℕ → List ℕ) → ℕ → ℕ → List ℕ → List ℕ
whole accs f zero k b = f b
whole accs f (suc m) k b = if is_temp accs b then line k ++ whole accs f m (k + 1) (drop (length (line k)) b) else f b

go : (accs k m : ℕ) (b : List ℕ) → is_temp accs b ≡ true → temps_at accs k (suc m) b ≡ temps_at accs (k + 1) m (drop (length (line k)) b)
unfolding temps_at
go accs k m b t = rw t refl

stop : (accs k m : ℕ) (b : List ℕ) → is_temp accs b ≡ false → temps_at accs k m b ≡ (k, b)
unfolding temps_at
stop accs k zero b f = refl
stop accs k (suc m) b f = rw f refl

none : (accs k : ℕ) (b : List ℕ) → temps_at accs k 0 b ≡ (k, b)
unfolding temps_at
none accs k b = refl

-- with the temps before them
pub whole_is : (accs : ℕ) (f : List ℕ → List ℕ) (m k : ℕ) (b : List ℕ) → numbered line 0 (temps_at accs k m b).0 ++ f (temps_at accs k m b).1 ≡ numbered line 0 k ++ whole accs f m k b
whole_is accs f zero k b = ap (λ (x : ℕ × List ℕ). numbered line 0 x.0 ++ f x.1) (none accs k b)
whole_is accs f (suc m) k b =
    elim (cases_Bool (is_temp accs b)) [
      | inl t ↦
          let r = drop (length (line k)) b in
          let e : whole accs f (suc m) k b ≡ line k ++ whole accs f m (k + 1) r = rw t refl in
          ap (λ (x : ℕ × List ℕ). numbered line 0 x.0 ++ f x.1) (go accs k m b t) ∙ whole_is accs f m (k + 1) r
          ∙ ap (λ (s : List ℕ). s ++ whole accs f m (k + 1) r) (numbered_next line k) ∙ append_assoc (numbered line 0 k) (line k) (whole accs f m (k + 1) r)
          ∙ ap (λ (s : List ℕ). numbered line 0 k ++ s) (sym e)
      | inr n ↦
          let e : whole accs f (suc m) k b ≡ f b = rw n refl in
          ap (λ (x : ℕ × List ℕ). numbered line 0 x.0 ++ f x.1) (stop accs k (suc m) b n) ∙ ap (λ (s : List ℕ). numbered line 0 k ++ s) (sym e)
    ]

-- the byte behind `front` tells a temp (`letter`) from what stands behind the temps (`other`)
module _ {B : Type 0} (accs : ℕ) (front : List ℕ) (letter other : ℕ) (is : (b : List ℕ) → is_temp accs b ≡ (head (drop (length front) b) == letter)) (yes : (letter == letter) ≡ true) (differ : (other == letter) ≡ false)
    (behind_front : ℕ → List ℕ) (line_is : (k : ℕ) → line k ≡ front ++ letter ∷ behind_front k)
    (n : ℕ) (stops : ℕ → Bool) (v : B) (s : List ℕ) (f : List ℕ → List ℕ) (g : ℕ → List ℕ → B × List ℕ) (f_begins : (b : List ℕ) → Begins front (f b)) where
  seen : (c : ℕ) (r : List ℕ) → is_temp accs ((front ++ c ∷ r)) ≡ (c == letter)
  seen c r = is (front ++ c ∷ r) ∙ ap (λ (u : List ℕ). head u == letter) (drop_at front (c ∷ r) (length front) refl)

  whole_begins : (m k : ℕ) (b : List ℕ) → Begins front (whole accs f m k b)
  whole_begins zero k b = f_begins b
  whole_begins (suc m) k b =
      elim (cases_Bool (is_temp accs b)) [
        | inl t ↦ rw t (begins_longer front (line k) (whole accs f m (k + 1) (drop (length (line k)) b)) (letter ∷ behind_front k, line_is k))
        | inr h ↦ rw h (f_begins b)
      ]

  abbrev result : ℕ → ℕ → List ℕ → B × List ℕ
  result k m b = g (temps_at accs k m b).0 (temps_at accs k m b).1

  abbrev after : List ℕ
  after = front ++ other ∷ s

  no_more : (m k : ℕ) → ReadsIn n stops v after f (g k) → ReadsIn n stops v after (whole accs f m k) (result k m)
  no_more m k r = record {
    part = λ p y q l e. parts p y q l e (ends front (other ∷ s) p y e);
    again = λ q l h. ap (λ (x : ℕ × List ℕ). g x.0 x.1) (stop accs k m (after ++ q) (ap (is_temp accs) (append_assoc front (other ∷ s) q) ∙ seen other (s ++ q) ∙ differ)) ∙ r.again q l h;
  }
    where
      not_temp : (b : List ℕ) (m : ℕ) → is_temp accs b ≡ false → whole accs f m k b ≡ f b
      not_temp b zero h = refl
      not_temp b (suc m) h = rw h refl

      parts : (p y q : List ℕ) → length p ≤ n → after ≡ p ++ y → Ends front (other ∷ s) p y → Begins p (whole accs f m k (p ++ q))
      parts p y q l e (within z i) = trans p front (whole accs f m k (p ++ q)) (z, i) (whole_begins m k (p ++ q))
      parts p y q l e (behind c t i j) =
          let same : p ≡ front ++ other ∷ t = i ∙ ap (λ (x : ℕ). front ++ x ∷ t) (sym (ap head j)) in
          let test : is_temp accs (p ++ q) ≡ false = ap (λ (u : List ℕ). is_temp accs (u ++ q)) same ∙ ap (is_temp accs) (append_assoc front (other ∷ t) q) ∙ seen other (t ++ q) ∙ differ in
          subst (λ (u : List ℕ). Begins p u) (sym (not_temp (p ++ q) m test)) (r.part p y q l e)

  one_more : (m k : ℕ) (t : List ℕ) → ReadsIn n stops v t (whole accs f m (k + 1)) (result (k + 1) m) → ReadsIn n stops v (line k ++ t) (whole accs f (suc m) k) (result k (suc m))
  one_more m k t r = record {
    part = λ p y q l e. parts p y q l e (ends front ((letter ∷ behind_front k) ++ t) p y (text ∙ e));
    again = λ q l h. ap (result k (suc m)) (append_assoc (line k) t q) ∙ ap (λ (x : ℕ × List ℕ). g x.0 x.1) (go accs k m (line k ++ (t ++ q)) (temp (t ++ q)) ∙ ap (temps_at accs (k + 1) m) (drop_at (line k) (t ++ q) (length (line k)) refl)) ∙ r.again q (few l) h;
  }
    where
      text : front ++ ((letter ∷ behind_front k) ++ t) ≡ line k ++ t
      text = sym (append_assoc front (letter ∷ behind_front k) t) ∙ ap (λ (u : List ℕ). u ++ t) (sym (line_is k))

      temp : (b : List ℕ) → is_temp accs (line k ++ b) ≡ true
      temp b = ap (λ (u : List ℕ). is_temp accs (u ++ b)) (line_is k) ∙ ap (is_temp accs) (append_assoc front (letter ∷ behind_front k) b) ∙ seen letter (behind_front k ++ b) ∙ yes

      few : length (line k ++ t) ≤ n → length t ≤ n
      few l = let e = length-append (line k) t in omega (arith, e, l)

      lines : (p y q : List ℕ) → length p ≤ n → is_temp accs (p ++ q) ≡ true → Ends (line k) t p y → Begins p (line k ++ whole accs f m (k + 1) (drop (length (line k)) (p ++ q)))
      lines p y q l test (within z i) = begins_longer p (line k) (whole accs f m (k + 1) (drop (length (line k)) (p ++ q))) (z, i)
      lines p y q l test (behind c u i j) =
          let rest : drop (length (line k)) (p ++ q) ≡ (c ∷ u) ++ q = ap (λ (w : List ℕ). drop (length (line k)) (w ++ q)) i ∙ ap (drop (length (line k))) (append_assoc (line k) (c ∷ u) q) ∙ drop_at (line k) ((c ∷ u) ++ q) (length (line k)) refl in
          let size : length p ≡ length (line k) + length (c ∷ u) = ap (λ (w : List ℕ). length w) i ∙ length-append (line k) (c ∷ u) in
          subst (λ (w : List ℕ). Begins w (line k ++ whole accs f m (k + 1) (drop (length (line k)) (p ++ q)))) (sym i)
          (subst (λ (w : List ℕ). Begins (line k ++ c ∷ u) (line k ++ whole accs f m (k + 1) w)) (sym rest) (begins_append (line k) (c ∷ u) (whole accs f m (k + 1) ((c ∷ u) ++ q)) (r.part (c ∷ u) y q (omega (arith, size, l)) j)))

      parts : (p y q : List ℕ) → length p ≤ n → line k ++ t ≡ p ++ y → Ends front ((letter ∷ behind_front k) ++ t) p y → Begins p (whole accs f (suc m) k (p ++ q))
      parts p y q l e (within z i) = trans p front (whole accs f (suc m) k (p ++ q)) (z, i) (whole_begins (suc m) k (p ++ q))
      parts p y q l e (behind c u i j) =
          let same : p ≡ front ++ letter ∷ u = i ∙ ap (λ (x : ℕ). front ++ x ∷ u) (sym (ap head j)) in
          let test : is_temp accs (p ++ q) ≡ true = ap (λ (w : List ℕ). is_temp accs (w ++ q)) same ∙ ap (is_temp accs) (append_assoc front (letter ∷ u) q) ∙ seen letter (u ++ q) ∙ yes in
          rw test (lines p y q l test (ends (line k) t p y e))

  -- some temps, and what is behind them
  pub temps_in : (m a k last : ℕ) → a ≤ m → k + a ≡ last → ReadsIn n stops v after f (g last) → ReadsIn n stops v (numbered line k a ++ after) (whole accs f m k) (result k m)
  temps_in m zero k last h e r = let i : last ≡ k = omega (arith, e) in no_more m k (subst (λ (x : ℕ). ReadsIn n stops v after f (g x)) i r)
  temps_in zero (suc a) k last h e r = absurd (omega (arith, h))
  temps_in (suc m) (suc a) k last h e r =
      let i = temps_in m a (k + 1) last (omega (arith, h)) (omega (arith, e)) r in
      subst (λ (u : List ℕ). ReadsIn n stops v u (whole accs f (suc m) k) (result k (suc m))) (sym (append_assoc (line k) (numbered line (k + 1) a) after)) (one_more m k (numbered line (k + 1) a ++ after) i)
