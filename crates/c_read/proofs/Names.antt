-- Names are guessed right.
use Rattle.std.proofs.Common.{◌≡◌, ℕ, zero, suc, ◌+◌, ◌-◌, ◌≤◌, ◌<◌, ◌&&◌, nat_lt, Bool, true, false, List, [], ◌∷◌, ◌++◌, codes, take, drop, length, length-take, refl, sym, ap, subst, ◌∙◌, inl, inr, arith, true≢false}
use Rattle.std.specs.List.{list_all}
use Rattle.std.proofs.lemmas.Bool.{cases_Bool}
use Rattle.std.proofs.lemmas.Bool.Decides.{nat_tests}
use Rattle.std.proofs.lemmas.List.{take_at, drop_at, length-append}
use Rattle.orc_program.specs.Words.{is_letter, is_name_byte, is_name}
use Rattle.c_read.specs.Guess.{head, name_len, name_at}
use Rattle.c_read.specs.Wrong.{Begins}
use Rattle.c_read.proofs.Pieces.{Reads, begins_none}

both : (a b : Bool) → (a && b) ≡ true → (a ≡ true) × (b ≡ true)
both true true e = (refl, refl)
both true false e = absurd (true≢false (sym e))
both false b e = absurd (true≢false (sym e))

and : (a b : Bool) → a ≡ true → b ≡ true → (a && b) ≡ true
and a b h k = rw (h, k) refl

-- bytes of names
abbrev AllName : List ℕ → Type 0
AllName s = list_all is_name_byte s ≡ true

parts : (b : ℕ) (s : List ℕ) → AllName (b ∷ s) → (is_name_byte b ≡ true) × AllName s
parts b s h = both (is_name_byte b) (list_all is_name_byte s) h

len_goes : (n b : ℕ) (q : List ℕ) → is_name_byte b ≡ true → name_len (suc n) (b ∷ q) ≡ suc (name_len n q)
unfolding name_len
len_goes n b q t = rw t refl

len_stops : (n : ℕ) (q : List ℕ) → is_name_byte (head q) ≡ false → name_len n q ≡ 0
unfolding name_len
len_stops zero q f = refl
len_stops (suc n) [] f = refl
len_stops (suc n) (b ∷ q) f = rw f refl

-- the first bytes of a name count, as far as there is room
len_name : (n : ℕ) (s q : List ℕ) → AllName s → length s ≤ n → name_len n (s ++ q) ≡ length s + name_len (n - length s) q
len_name n [] q h l = let e : n ≡ n - 0 = omega arith in ap (λ (k : ℕ). name_len k q) e ∙ zero_plus (name_len (n - 0) q)
  where
    zero_plus : (k : ℕ) → k ≡ 0 + k
    zero_plus k = omega arith
len_name zero (b ∷ s) q h l = absurd (omega (arith, l))
len_name (suc n) (b ∷ s) q h l =
    let p = parts b s h in
    let i = len_name n s q p.1 (omega (arith, l)) in
    let e : suc n - suc (length s) ≡ n - length s = omega arith in
    let f : name_len (n - length s) q ≡ name_len (suc n - suc (length s)) q = sym (ap (λ (k : ℕ). name_len k q) e) in
    let g : suc (length s + name_len (n - length s) q) ≡ suc (length s) + name_len (suc n - suc (length s)) q = omega (arith, f) in
    len_goes n b (s ++ q) p.0 ∙ ap suc i ∙ g

-- what is counted can stand in a name
len_fine : (n : ℕ) (q : List ℕ) → AllName (take (name_len n q) q) × (name_len n q ≤ n)
unfolding name_len
len_fine zero q = (refl, omega arith)
len_fine (suc n) [] = (refl, omega arith)
len_fine (suc n) (b ∷ q) =
    elim (cases_Bool (is_name_byte b)) [
      | inl t ↦ let i = len_fine n q in rw t (and (is_name_byte b) (list_all is_name_byte (take (name_len n q) q)) t i.0, omega (arith, i.1))
      | inr f ↦ rw f (refl, omega arith)
    ]

letter_fine : (b : ℕ) → is_letter b ≡ true → is_name_byte b ≡ true
letter_fine b t = rw t refl

record IsGood (s : List ℕ) : Type 0 where
  all : AllName s
  short : length s ≤ 64

name_parts : (b : ℕ) (s : List ℕ) → is_name (b ∷ s) ≡ true → (is_letter b ≡ true) × AllName s × (length s < 64)
name_parts b s h =
    let p = both (is_letter b) (list_all is_name_byte s && nat_lt (length s) 64) h in
    let r = both (list_all is_name_byte s) (nat_lt (length s) 64) p.1 in
    (p.0, r.0, grind (arith, nat_tests, r.1))

name_good : (s : List ℕ) → is_name s ≡ true → IsGood s
name_good [] h = absurd (true≢false (sym h))
name_good (b ∷ s) h = let p = name_parts b s h in record { all = and (is_name_byte b) (list_all is_name_byte s) (letter_fine b p.0) p.1; short = omega (arith, p.2) }

name_made : (b : ℕ) (s : List ℕ) → is_letter b ≡ true → AllName (b ∷ s) → length (b ∷ s) ≤ 64 → is_name (b ∷ s) ≡ true
name_made b s t h l = let u : nat_lt (length s) 64 ≡ true = grind (arith, nat_tests, l) in and (is_letter b) (list_all is_name_byte s && nat_lt (length s) 64) t (and (list_all is_name_byte s) (nat_lt (length s) 64) (parts b s h).1 u)

take_more : (p q : List ℕ) (k : ℕ) → take (length p + k) (p ++ q) ≡ p ++ take k q
take_more [] q k = let e : 0 + k ≡ k = omega arith in ap (λ (n : ℕ). take n q) e
take_more (b ∷ p) q k = let e : suc (length p) + k ≡ suc (length p + k) = omega arith in ap (λ (n : ℕ). take n (b ∷ (p ++ q))) e ∙ ap (λ (s : List ℕ). b ∷ s) (take_more p q k)

front_all : (p y : List ℕ) → AllName (p ++ y) → AllName p
front_all [] y h = refl
front_all (b ∷ p) y h = let r = parts b (p ++ y) h in and (is_name_byte b) (list_all is_name_byte p) r.0 (front_all p y r.1)

named : (b : List ℕ) → is_name (take (name_len 64 b) b) ≡ true → name_at b ≡ (take (name_len 64 b) b, drop (name_len 64 b) b)
unfolding name_at
named b t = rw t refl

no_name : (b : List ℕ) → is_name (take (name_len 64 b) b) ≡ false → name_at b ≡ (codes "_", b)
unfolding name_at
no_name b f = rw f refl

name_again : (s q : List ℕ) → is_name s ≡ true → is_name_byte (head q) ≡ false → name_at (s ++ q) ≡ (s, q)
name_again s q h f =
    let g = name_good s h in
    let n : name_len 64 (s ++ q) ≡ length s = len_name 64 s q g.all g.short ∙ (let z = len_stops (64 - length s) q f in omega (arith, z)) in
    let t : take (name_len 64 (s ++ q)) (s ++ q) ≡ s = ap (λ (k : ℕ). take k (s ++ q)) n ∙ take_at s q (length s) refl in
    let d : drop (name_len 64 (s ++ q)) (s ++ q) ≡ q = ap (λ (k : ℕ). drop k (s ++ q)) n ∙ drop_at s q (length s) refl in
    named (s ++ q) (ap is_name t ∙ h)
    ∙ ap (λ (x : List ℕ). let w : List ℕ × List ℕ = (x, drop (name_len 64 (s ++ q)) (s ++ q)) in w) t
    ∙ ap (λ (x : List ℕ). let w : List ℕ × List ℕ = (s, x) in w) d

name_part : (s p y q : List ℕ) → is_name s ≡ true → s ≡ p ++ y → Begins p (name_at (p ++ q)).0
name_part s [] y q h e = begins_none (name_at q).0
name_part s (b ∷ p) y q h e =
    let whole = subst (λ (t : List ℕ). is_name t ≡ true) e h in
    let g = name_good ((b ∷ p) ++ y) whole in
    let all = front_all (b ∷ p) y g.all in
    let long = length-append (b ∷ p) y in
    let short : length (b ∷ p) ≤ 64 = omega (arith, long, g.short) in
    let k = name_len (64 - length (b ∷ p)) q in
    let n : name_len 64 ((b ∷ p) ++ q) ≡ length (b ∷ p) + k = len_name 64 (b ∷ p) q all short in
    let t : take (name_len 64 ((b ∷ p) ++ q)) ((b ∷ p) ++ q) ≡ b ∷ (p ++ take k q) = ap (λ (j : ℕ). take j ((b ∷ p) ++ q)) n ∙ take_more (b ∷ p) q k in
    let fine = len_fine 64 ((b ∷ p) ++ q) in
    let all2 : AllName (b ∷ (p ++ take k q)) = subst AllName t fine.0 in
    let few : length (b ∷ (p ++ take k q)) ≤ 64 = subst (λ (u : List ℕ). length u ≤ 64) t (omega (arith, fine.1, length-take (name_len 64 ((b ∷ p) ++ q)) ((b ∷ p) ++ q))) in
    let is : is_name (take (name_len 64 ((b ∷ p) ++ q)) ((b ∷ p) ++ q)) ≡ true = ap is_name t ∙ name_made b (p ++ take k q) (name_parts b (p ++ y) whole).0 all2 few in
    (take k q, ap (λ (x : List ℕ × List ℕ). x.0) (named ((b ∷ p) ++ q) is) ∙ t)

pub name_reads : (s : List ℕ) → is_name s ≡ true → Reads is_name_byte s s (λ b. (name_at b).0) name_at
name_reads s h = record { part = λ p y q e. name_part s p y q h e; again = λ q f. name_again s q h f }

pub name_fine : (b : List ℕ) → is_name (name_at b).0 ≡ true
name_fine b =
    elim (cases_Bool (is_name (take (name_len 64 b) b))) [
      | inl t ↦ subst (λ (x : List ℕ × List ℕ). is_name x.0 ≡ true) (sym (named b t)) t
      | inr f ↦ subst (λ (x : List ℕ × List ℕ). is_name x.0 ≡ true) (sym (no_name b f)) refl
    ]
