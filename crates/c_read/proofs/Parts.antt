-- The list of parameters is guessed right.
use Rattle.std.proofs.Common.{◌≡◌, ℕ, zero, suc, ◌+◌, ◌≤◌, ◌<◌, ◌==◌, ◌&&◌, not, nat_lt, Bool, true, false, List, [], ◌∷◌, ◌++◌, codes, Option, Some, None, drop, length, refl, sym, ap, subst, ◌∙◌, inl, inr, arith, append_assoc, append-nil, if◌then◌else◌, true≢false}
use Rattle.std.specs.Fmt.{decimal}
use Rattle.std.proofs.lemmas.Bool.{cases_Bool}
use Rattle.std.proofs.lemmas.Bool.Decides.{nat_tests}
use Rattle.std.proofs.lemmas.List.{drop_at}
use Rattle.c_emit.specs.Text.{line_text, numbered}
use Rattle.c_emit.specs.declared.lines.Line.{Line}
use Rattle.c_emit.specs.declared.lines.Line.TheVariants.{Array, Param, Pointer}
use Rattle.c_read.specs.declared.function.Counts.{Counts}
use Rattle.c_read.specs.Guess.{head, is_array, is_param, next_at, or_more, counts_at, no_counts}
use Rattle.c_read.specs.Wrong.{Begins}
use Rattle.c_read.proofs.Pieces.{Reads, Ends, within, behind, ends, begins_none, begins_longer, begins_append, none_left, reads_same}

-- ---- kinds of parts

abbrev pub count : Line → Counts → ℕ
count Array c = c.arrays
count Param c = c.params
count k c = c.accs

abbrev pub more : Line → Counts → Counts
more Array c = record c { arrays = c.arrays + 1 }
more Param c = record c { params = c.params + 1 }
more k c = record c { accs = c.accs + 1 }

-- the text of the next part of a kind
abbrev pub part : Line → Counts → List ℕ
part k c = line_text k (count k c)

-- the kind that is guessed
abbrev pub kind_at : Counts → List ℕ → Option Line
kind_at c b = if not (head b == 44) then None else (if is_array c (drop 3 b) then Some Array else (if is_param c (drop 3 b) then Some Param else (if nat_lt c.accs 4 then Some Pointer else None)))

abbrev applied : Counts → List ℕ → Option Line → Option (Counts × List ℕ)
applied c b None = None
applied c b (Some k) = Some (more k c, drop (length (part k c)) b)

next_is : (c : Counts) (b : List ℕ) → next_at c b ≡ applied c b (kind_at c b)
unfolding next_at
next_is c b =
    elim (cases_Bool (head b == 44)) [
      | inr f ↦ rw f refl
      | inl t ↦ elim (cases_Bool (is_array c (drop 3 b))) [
        | inl u ↦ rw (t, u) refl
        | inr g ↦ elim (cases_Bool (is_param c (drop 3 b))) [
          | inl u ↦ rw (t, g, u) refl
          | inr h ↦ elim (cases_Bool (nat_lt c.accs 4)) [
            | inl u ↦ rw (t, g, h, u) refl
            | inr i ↦ rw (t, g, h, i) refl
          ]
        ]
      ]
    ]

counts_go : (n : ℕ) (c : Counts) (b : List ℕ) → counts_at (suc n) c b ≡ or_more (counts_at n) c b (applied c b (kind_at c b))
unfolding counts_at
counts_go n c b = ap (λ (o : Option (Counts × List ℕ)). or_more (counts_at n) c b o) (next_is c b)

counts_none : (c : Counts) (b : List ℕ) → counts_at 0 c b ≡ (c, b)
unfolding counts_at
counts_none c b = refl

-- the text of the parts that are guessed
abbrev pub text_of : (Counts → List ℕ → List ℕ) → Counts → List ℕ → Option Line → List ℕ
text_of later c b None = []
text_of later c b (Some k) = part k c ++ later (more k c) (drop (length (part k c)) b)

abbrev pub parts_text : ℕ → Counts → List ℕ → List ℕ
parts_text zero c b = []
parts_text (suc n) c b = text_of (parts_text n) c b (kind_at c b)

-- ---- what may come next

pub data Allowed (c : Counts) : Line → Type 0 where
  array : c.arrays < 12 → c.params ≡ 0 → c.accs ≡ 0 → Allowed c Array
  param : c.params < 8 → c.accs ≡ 0 → Allowed c Param
  pointer : c.accs < 4 → Allowed c Pointer

room : (c : Counts) (k : Line) → Allowed c k → c.accs < 4
room c k (array h i j) = omega (arith, j)
room c k (param h j) = omega (arith, j)
room c k (pointer h) = h

-- ---- the kind is seen

array_kind : (c : Counts) (b : List ℕ) → c.arrays < 12 → c.params ≡ 0 → c.accs ≡ 0 → kind_at c (44 ∷ 32 ∷ 117 ∷ 110 ∷ b) ≡ Some Array
array_kind c b h i j = let t : is_array c (110 ∷ b) ≡ true = grind (arith, nat_tests, h, i, j) in rw t refl

param_kind : (c : Counts) (b : List ℕ) → c.params < 8 → c.accs ≡ 0 → kind_at c (codes ", uint64_t p" ++ b) ≡ Some Param
param_kind c b h j = let t : (true && (nat_lt c.params 8 && c.accs == 0)) ≡ true = grind (arith, nat_tests, h, j) in rw t refl

pointer_kind : (c : Counts) (b : List ℕ) → c.accs < 4 → kind_at c (codes ", uint64_t *" ++ b) ≡ Some Pointer
pointer_kind c b h = let t : nat_lt c.accs 4 ≡ true = grind (arith, nat_tests, h) in rw t refl

-- ---- what is common to them

pub trans : (p x t : List ℕ) → Begins p x → Begins x t → Begins p t
trans p x t b d = (b.0 ++ d.0, d.1 ∙ ap (λ (s : List ℕ). s ++ d.0) b.1 ∙ append_assoc p b.0 d.0)

opened : (later : Counts → List ℕ → List ℕ) (c : Counts) (b : List ℕ) → c.accs < 4 → Begins (codes ", u") (text_of later c (44 ∷ b) (kind_at c (44 ∷ b)))
opened later c b h =
    elim (cases_Bool (is_array c (drop 3 (44 ∷ b)))) [
      | inl t ↦ rw t (_, refl)
      | inr f ↦ elim (cases_Bool (is_param c (drop 3 (44 ∷ b)))) [
        | inl t ↦ rw (f, t) (_, refl)
        | inr g ↦ let u : nat_lt c.accs 4 ≡ true = grind (arith, nat_tests, h) in rw (f, g, u) (_, refl)
      ]
    ]

typed : (later : Counts → List ℕ → List ℕ) (c : Counts) (b : List ℕ) → c.accs < 4 → Begins (codes ", uint64_t ") (text_of later c (44 ∷ 32 ∷ 117 ∷ 105 ∷ b) (kind_at c (44 ∷ 32 ∷ 117 ∷ 105 ∷ b)))
typed later c b h =
    elim (cases_Bool (is_param c (105 ∷ b))) [
      | inl t ↦ rw t (_, refl)
      | inr g ↦ let u : nat_lt c.accs 4 ≡ true = grind (arith, nat_tests, h) in rw (g, u) (_, refl)
    ]

kind_is : (c : Counts) (k : Line) (r : List ℕ) → Allowed c k → kind_at c (part k c ++ r) ≡ Some k
kind_is c k r (array h i j) = array_kind c ((codes "signed char *a" ++ (decimal c.arrays ++ (codes ", int64_t s" ++ decimal c.arrays))) ++ r) h i j
kind_is c k r (param h j) = param_kind c (decimal c.params ++ r) h j
kind_is c k r (pointer h) = pointer_kind c ((codes "g" ++ decimal c.accs) ++ r) h

-- ---- on a prefix of the next part

module _ (later : Counts → List ℕ → List ℕ) (c : Counts) where
  abbrev guessed : List ℕ → List ℕ
  guessed b = text_of later c b (kind_at c b)

  late : (k : Line) (p z q : List ℕ) → part k c ≡ p ++ z → kind_at c (p ++ q) ≡ Some k → Begins p (guessed (p ++ q))
  late k p z q e s = subst (λ (o : Option Line). Begins p (text_of later c (p ++ q) o)) (sym s) (begins_longer p (part k c) (later (more k c) (drop (length (part k c)) (p ++ q))) (z, e))

  early : (p w q : List ℕ) → c.accs < 4 → codes ", u" ≡ p ++ w → Begins p (guessed (p ++ q))
  early [] w q h e = begins_none (guessed q)
  early (a ∷ p) w q h e = let same : 44 ≡ a = ap head e in
      trans (a ∷ p) (codes ", u") (guessed (a ∷ (p ++ q))) (w, e) (subst (λ (x : ℕ). Begins (codes ", u") (guessed (x ∷ (p ++ q)))) same (opened later c (p ++ q) h))

  middle : (p w q : List ℕ) → c.accs < 4 → codes ", uint64_t " ≡ p ++ w → Ends (codes ", u") (codes "int64_t ") p w → Begins p (guessed (p ++ q))
  middle p w q h e (within v i) = early p v q h i
  middle p w q h e (behind d s i j) =
      let is : p ≡ codes ", u" ++ 105 ∷ s = i ∙ ap (λ (x : ℕ). codes ", u" ++ x ∷ s) (sym (ap head j)) in
      trans p (codes ", uint64_t ") (guessed (p ++ q)) (w, e) (subst (λ (u : List ℕ). Begins (codes ", uint64_t ") (guessed (u ++ q))) (sym is) (typed later c (s ++ q) h))

  begun : (k : Line) (p z q : List ℕ) → Allowed c k → part k c ≡ p ++ z → Begins p (guessed (p ++ q))
  begun k p z q (array h i j) e = at (ends (codes ", u") (codes "nsigned char *a" ++ (decimal c.arrays ++ (codes ", int64_t s" ++ decimal c.arrays))) p z e)
    where
      at : Ends (codes ", u") (codes "nsigned char *a" ++ (decimal c.arrays ++ (codes ", int64_t s" ++ decimal c.arrays))) p z → Begins p (guessed (p ++ q))
      at (within v m) = early p v q (omega (arith, j)) m
      at (behind d s m n) =
          let is : p ≡ codes ", u" ++ 110 ∷ s = m ∙ ap (λ (x : ℕ). codes ", u" ++ x ∷ s) (sym (ap head n)) in
          late Array p z q e (ap (λ (u : List ℕ). kind_at c (u ++ q)) is ∙ array_kind c (s ++ q) h i j)
  begun k p z q (param h j) e = at (ends (codes ", uint64_t ") (codes "p" ++ decimal c.params) p z e)
    where
      at : Ends (codes ", uint64_t ") (codes "p" ++ decimal c.params) p z → Begins p (guessed (p ++ q))
      at (within v m) = middle p v q (omega (arith, j)) m (ends (codes ", u") (codes "int64_t ") p v m)
      at (behind d s m n) =
          let is : p ≡ codes ", uint64_t " ++ 112 ∷ s = m ∙ ap (λ (x : ℕ). codes ", uint64_t " ++ x ∷ s) (sym (ap head n)) in
          late Param p z q e (ap (λ (u : List ℕ). kind_at c (u ++ q)) is ∙ param_kind c (s ++ q) h j)
  begun k p z q (pointer h) e = at (ends (codes ", uint64_t ") (codes "*g" ++ decimal c.accs) p z e)
    where
      at : Ends (codes ", uint64_t ") (codes "*g" ++ decimal c.accs) p z → Begins p (guessed (p ++ q))
      at (within v m) = middle p v q h m (ends (codes ", u") (codes "int64_t ") p v m)
      at (behind d s m n) =
          let is : p ≡ codes ", uint64_t " ++ 42 ∷ s = m ∙ ap (λ (x : ℕ). codes ", uint64_t " ++ x ∷ s) (sym (ap head n)) in
          late Pointer p z q e (ap (λ (u : List ℕ). kind_at c (u ++ q)) is ∙ pointer_kind c (s ++ q) h)

-- ---- all parts

abbrev pub comma : ℕ → Bool
comma b = b == 44

-- each part may come where it stands
abbrev pub Good : Counts → List Line → Type 0
Good c [] = Unit {0}
Good c (k ∷ ks) = Allowed c k × Good (more k c) ks

abbrev pub final : Counts → List Line → Counts
final c [] = c
final c (k ∷ ks) = final (more k c) ks

abbrev pub text_from : Counts → List Line → List ℕ
text_from c [] = []
text_from c (k ∷ ks) = part k c ++ text_from (more k c) ks

stopped : (n : ℕ) (c : Counts) (q : List ℕ) → comma (head q) ≡ false → counts_at n c q ≡ (c, q)
stopped zero c q f = counts_none c q
stopped (suc n) c q f = counts_go n c q ∙ ap (λ (o : Option Line). or_more (counts_at n) c q (applied c q o)) (no_kind c q f)
  where
    no_kind : (c : Counts) (q : List ℕ) → comma (head q) ≡ false → kind_at c q ≡ None
    no_kind c q f = rw f refl

goes : (n : ℕ) (c : Counts) (k : Line) (b : List ℕ) → kind_at c b ≡ Some k → counts_at (suc n) c b ≡ counts_at n (more k c) (drop (length (part k c)) b)
goes n c k b e = counts_go n c b ∙ ap (λ (o : Option Line). or_more (counts_at n) c b (applied c b o)) e

parts_step : (n : ℕ) (c : Counts) (k : Line) (d : Counts) (t : List ℕ) → Allowed c k → Reads comma d t (parts_text n (more k c)) (counts_at n (more k c)) → Reads comma d (part k c ++ t) (parts_text (suc n) c) (counts_at (suc n) c)
parts_step n c k d t a i = record {
  part = λ p y q e. parts p y q (ends x t p y e);
  again = λ q f. ap (counts_at (suc n) c) (append_assoc x t q) ∙ goes n c k (x ++ (t ++ q)) (kind_is c k (t ++ q) a) ∙ ap (counts_at n (more k c)) (drop_at x (t ++ q) (length x) refl) ∙ i.again q f;
}
  where
    x : List ℕ
    x = part k c

    parts : (p y q : List ℕ) → Ends x t p y → Begins p (parts_text (suc n) c (p ++ q))
    parts p y q (within z e) = begun (parts_text n) c k p z q a e
    parts p y q (behind h s e j) =
        let at : p ++ q ≡ x ++ ((h ∷ s) ++ q) = ap (λ (u : List ℕ). u ++ q) e ∙ append_assoc x (h ∷ s) q in
        let kind : kind_at c (p ++ q) ≡ Some k = ap (kind_at c) at ∙ kind_is c k ((h ∷ s) ++ q) a in
        let rest : drop (length x) (p ++ q) ≡ (h ∷ s) ++ q = ap (drop (length x)) at ∙ drop_at x ((h ∷ s) ++ q) (length x) refl in
        subst (λ (u : List ℕ). Begins u (parts_text (suc n) c (p ++ q))) (sym e)
        (subst (λ (o : Option Line). Begins (x ++ h ∷ s) (text_of (parts_text n) c (p ++ q) o)) (sym kind)
        (subst (λ (u : List ℕ). Begins (x ++ h ∷ s) (x ++ parts_text n (more k c) u)) (sym rest) (begins_append x (h ∷ s) (parts_text n (more k c) ((h ∷ s) ++ q)) (i.part (h ∷ s) y q j))))

-- the parts that are there are guessed
parts_reads : (n : ℕ) (c : Counts) (ks : List Line) → length ks ≤ n → Good c ks → Reads comma (final c ks) (text_from c ks) (parts_text n c) (counts_at n c)
parts_reads n c [] l g = record {
  part = λ p y q e. subst (λ (s : List ℕ). Begins s (parts_text n c (s ++ q))) (sym (none_left p y e)) (begins_none (parts_text n c q));
  again = λ q f. stopped n c q f;
}
parts_reads zero c (k ∷ ks) l g = absurd (omega (arith, l))
parts_reads (suc n) c (k ∷ ks) l g = parts_step n c k (final (more k c) ks) (text_from (more k c) ks) g.0 (parts_reads n (more k c) ks (omega (arith, l)) g.1)

-- ---- the whole text of counts

abbrev pub all : Counts → List ℕ
all c = numbered (line_text Array) 0 c.arrays ++ (numbered (line_text Param) 0 c.params ++ numbered (line_text Pointer) 0 c.accs)

-- one number more at the end
numbered_more : (f : ℕ → List ℕ) (k n : ℕ) → numbered f k (n + 1) ≡ numbered f k n ++ f (k + n)
numbered_more f k zero = let e : k + 0 ≡ k = omega arith in append-nil (f k) ∙ ap f (sym e)
numbered_more f k (suc n) =
    let e : suc n + 1 ≡ suc (n + 1) = omega arith in
    let d : k + 1 + n ≡ k + suc n = omega arith in
    ap (λ (m : ℕ). numbered f k m) e ∙ ap (λ (s : List ℕ). f k ++ s) (numbered_more f (k + 1) n ∙ ap (λ (m : ℕ). numbered f (k + 1) n ++ f m) d) ∙ sym (append_assoc (f k) (numbered f (k + 1) n) (f (k + suc n)))

pub numbered_next : (f : ℕ → List ℕ) (n : ℕ) → numbered f 0 (n + 1) ≡ numbered f 0 n ++ f n
numbered_next f n = let e : 0 + n ≡ n = omega arith in numbered_more f 0 n ∙ ap (λ (m : ℕ). numbered f 0 n ++ f m) e

all_more : (c : Counts) (k : Line) → Allowed c k → all (more k c) ≡ all c ++ part k c
all_more c k (array h i j) =
    let a = numbered (line_text Array) 0 in
    let e : numbered (line_text Param) 0 c.params ++ numbered (line_text Pointer) 0 c.accs ≡ [] = ap (λ (m : ℕ). numbered (line_text Param) 0 m ++ numbered (line_text Pointer) 0 c.accs) i ∙ ap (λ (m : ℕ). numbered (line_text Pointer) 0 m) j in
    ap (λ (s : List ℕ). a (c.arrays + 1) ++ s) e ∙ append-nil (a (c.arrays + 1)) ∙ numbered_next (line_text Array) c.arrays ∙ ap (λ (s : List ℕ). s ++ line_text Array c.arrays) (sym (ap (λ (s : List ℕ). a c.arrays ++ s) e ∙ append-nil (a c.arrays)))
all_more c k (param h j) =
    let a = numbered (line_text Array) 0 c.arrays in
    let p = numbered (line_text Param) 0 in
    let e : numbered (line_text Pointer) 0 c.accs ≡ [] = ap (λ (m : ℕ). numbered (line_text Pointer) 0 m) j in
    ap (λ (s : List ℕ). a ++ (p (c.params + 1) ++ s)) e ∙ ap (λ (s : List ℕ). a ++ s) (append-nil (p (c.params + 1)) ∙ numbered_next (line_text Param) c.params)
    ∙ sym (append_assoc a (p c.params) (line_text Param c.params))
    ∙ ap (λ (s : List ℕ). s ++ line_text Param c.params) (sym (ap (λ (s : List ℕ). a ++ (p c.params ++ s)) e ∙ ap (λ (s : List ℕ). a ++ s) (append-nil (p c.params))))
all_more c k (pointer h) =
    let a = numbered (line_text Array) 0 c.arrays in
    let p = numbered (line_text Param) 0 c.params in
    let g = numbered (line_text Pointer) 0 in
    ap (λ (s : List ℕ). a ++ (p ++ s)) (numbered_next (line_text Pointer) c.accs) ∙ ap (λ (s : List ℕ). a ++ s) (sym (append_assoc p (g c.accs) (line_text Pointer c.accs))) ∙ sym (append_assoc a (p ++ g c.accs) (line_text Pointer c.accs))

all_final : (c : Counts) (ks : List Line) → Good c ks → all (final c ks) ≡ all c ++ text_from c ks
all_final c [] g = sym (append-nil (all c))
all_final c (k ∷ ks) g = all_final (more k c) ks g.1 ∙ ap (λ (s : List ℕ). s ++ text_from (more k c) ks) (all_more c k g.0) ∙ append_assoc (all c) (part k c) (text_from (more k c) ks)

-- ---- what is guessed is allowed

both : (a b : Bool) → (a && b) ≡ true → (a ≡ true) × (b ≡ true)
both true true e = (refl, refl)
both true false e = absurd (true≢false (sym e))
both false b e = absurd (true≢false (sym e))

array_allowed : (c : Counts) (b : List ℕ) → is_array c b ≡ true → Allowed c Array
array_allowed c b t =
    let r = (both (head b == 110) (nat_lt c.arrays 12 && (c.params == 0 && c.accs == 0)) t).1 in
    array (grind (arith, nat_tests, r)) (grind (arith, nat_tests, r)) (grind (arith, nat_tests, r))

param_allowed : (c : Counts) (b : List ℕ) → is_param c b ≡ true → Allowed c Param
param_allowed c b t =
    let r = (both (head (drop 8 b) == 112) (nat_lt c.params 8 && c.accs == 0) t).1 in
    param (grind (arith, nat_tests, r)) (grind (arith, nat_tests, r))

-- parts that may come, with their text and what they come to
record Kinds (n : ℕ) (c : Counts) (b : List ℕ) : Type 0 where
  kinds : List Line
  good : Good c kinds
  is : (counts_at n c b).0 ≡ final c kinds
  text : parts_text n c b ≡ text_from c kinds

one_kind : (n : ℕ) (c : Counts) (b : List ℕ) (k : Line) → kind_at c b ≡ Some k → Allowed c k → ((b' : List ℕ) → Kinds n (more k c) b') → Kinds (suc n) c b
one_kind n c b k e a i =
    let later = i (drop (length (part k c)) b) in
    record {
      kinds = k ∷ later.kinds;
      good = (a, later.good);
      is = ap (λ (x : Counts × List ℕ). x.0) (goes n c k b e) ∙ later.is;
      text = ap (text_of (parts_text n) c b) e ∙ ap (λ (s : List ℕ). part k c ++ s) later.text;
    }

no_kinds : (n : ℕ) (c : Counts) (b : List ℕ) → kind_at c b ≡ None → Kinds (suc n) c b
no_kinds n c b e = record {
  kinds = [];
  good = tt;
  is = ap (λ (x : Counts × List ℕ). x.0) (counts_go n c b ∙ ap (λ (o : Option Line). or_more (counts_at n) c b (applied c b o)) e);
  text = ap (text_of (parts_text n) c b) e;
}

kinds_of : (n : ℕ) (c : Counts) (b : List ℕ) → Kinds n c b
kinds_of zero c b = record { kinds = []; good = tt; is = ap (λ (x : Counts × List ℕ). x.0) (counts_none c b); text = refl }
kinds_of (suc n) c b =
    elim (cases_Bool (head b == 44)) [
      | inr f ↦ no_kinds n c b (rw f refl)
      | inl t ↦ elim (cases_Bool (is_array c (drop 3 b))) [
        | inl u ↦ one_kind n c b Array (rw (t, u) refl) (array_allowed c (drop 3 b) u) (kinds_of n (more Array c))
        | inr g ↦ elim (cases_Bool (is_param c (drop 3 b))) [
          | inl u ↦ one_kind n c b Param (rw (t, g, u) refl) (param_allowed c (drop 3 b) u) (kinds_of n (more Param c))
          | inr h ↦ elim (cases_Bool (nat_lt c.accs 4)) [
            | inl u ↦ one_kind n c b Pointer (rw (t, g, h, u) refl) (pointer (grind (arith, nat_tests, u))) (kinds_of n (more Pointer c))
            | inr i ↦ no_kinds n c b (rw (t, g, h, i) refl)
          ]
        ]
      ]
    ]

-- the counts of a function
pub record Limited (c : Counts) : Type 0 where
  pub arrays : c.arrays ≤ 12
  pub params : c.params ≤ 8
  pub accs : c.accs ≤ 4

more_limited : (c : Counts) (k : Line) → Allowed c k → Limited c → Limited (more k c)
more_limited c k (array h i j) l = record { arrays = omega (arith, h); params = l.params; accs = l.accs }
more_limited c k (param h j) l = record { arrays = l.arrays; params = omega (arith, h); accs = l.accs }
more_limited c k (pointer h) l = record { arrays = l.arrays; params = l.params; accs = omega (arith, h) }

final_limited : (c : Counts) (ks : List Line) → Good c ks → Limited c → Limited (final c ks)
final_limited c [] g l = l
final_limited c (k ∷ ks) g l = final_limited (more k c) ks g.1 (more_limited c k g.0 l)

pub counts_fine : (b : List ℕ) → Limited (counts_at 24 no_counts b).0
counts_fine b = let k = kinds_of 24 no_counts b in subst Limited (sym k.is) (final_limited no_counts k.kinds k.good (record { arrays = omega arith; params = omega arith; accs = omega arith }))

-- ---- all counts within the limits can be reached

record Reach (c d : Counts) (n : ℕ) : Type 0 where
  kinds : List Line
  good : Good c kinds
  is : final c kinds ≡ d
  few : length kinds ≤ n

one_reach : (c d : Counts) (k : Line) (n : ℕ) → Allowed c k → Reach (more k c) d n → Reach c d (suc n)
one_reach c d k n a r = record { kinds = k ∷ r.kinds; good = (a, r.good); is = r.is; few = (let f = r.few in omega (arith, f)) }

reach_accs : (a p g n : ℕ) → g + n ≤ 4 → Reach (record { arrays = a; params = p; accs = g }) (record { arrays = a; params = p; accs = g + n }) n
reach_accs a p g zero h = record { kinds = []; good = tt; is = (let e : g ≡ g + 0 = omega arith in ap (λ (x : ℕ). let w : Counts = record { arrays = a; params = p; accs = x } in w) e); few = omega arith }
reach_accs a p g (suc n) h =
    let c = let w : Counts = record { arrays = a; params = p; accs = g } in w in
    let e : g + 1 + n ≡ g + suc n = omega arith in
    one_reach c _ Pointer n (pointer (omega (arith, h))) (subst (λ (x : ℕ). Reach (more Pointer c) (record { arrays = a; params = p; accs = x }) n) e (reach_accs a p (g + 1) n (omega (arith, h))))

reach_params : (a p n g : ℕ) → p + n ≤ 8 → g ≤ 4 → Reach (record { arrays = a; params = p; accs = 0 }) (record { arrays = a; params = p + n; accs = g }) (n + g)
reach_params a p zero g h l =
    let e : p ≡ p + 0 = omega arith in
    let m : g ≡ 0 + g = omega arith in
    subst (λ (x : ℕ). Reach (record { arrays = a; params = p; accs = 0 }) (record { arrays = a; params = x; accs = g }) (0 + g)) e
    (subst (λ (y : ℕ). Reach (record { arrays = a; params = p; accs = 0 }) (record { arrays = a; params = p; accs = g }) y) m
    (subst (λ (x : ℕ). Reach (record { arrays = a; params = p; accs = 0 }) (record { arrays = a; params = p; accs = x }) g) (sym m) (reach_accs a p 0 g (omega (arith, l)))))
reach_params a p (suc n) g h l =
    let c = let w : Counts = record { arrays = a; params = p; accs = 0 } in w in
    let e : p + 1 + n ≡ p + suc n = omega arith in
    let m : suc (n + g) ≡ suc n + g = omega arith in
    subst (λ (y : ℕ). Reach c (record { arrays = a; params = p + suc n; accs = g }) y) m
    (one_reach c _ Param (n + g) (param (omega (arith, h)) refl) (subst (λ (x : ℕ). Reach (more Param c) (record { arrays = a; params = x; accs = g }) (n + g)) e (reach_params a (p + 1) n g (omega (arith, h)) l)))

reach_arrays : (a n p g : ℕ) → a + n ≤ 12 → p ≤ 8 → g ≤ 4 → Reach (record { arrays = a; params = 0; accs = 0 }) (record { arrays = a + n; params = p; accs = g }) (n + (p + g))
reach_arrays a zero p g h k l =
    let e : a ≡ a + 0 = omega arith in
    let m : p + g ≡ 0 + (p + g) = omega arith in
    let z : 0 + p ≡ p = omega arith in
    subst (λ (x : ℕ). Reach (record { arrays = a; params = 0; accs = 0 }) (record { arrays = x; params = p; accs = g }) (0 + (p + g))) e
    (subst (λ (y : ℕ). Reach (record { arrays = a; params = 0; accs = 0 }) (record { arrays = a; params = p; accs = g }) y) m
    (subst (λ (x : ℕ). Reach (record { arrays = a; params = 0; accs = 0 }) (record { arrays = a; params = x; accs = g }) (p + g)) z (reach_params a 0 p g (omega (arith, k)) l)))
reach_arrays a (suc n) p g h k l =
    let c = let w : Counts = record { arrays = a; params = 0; accs = 0 } in w in
    let e : a + 1 + n ≡ a + suc n = omega arith in
    let m : suc (n + (p + g)) ≡ suc n + (p + g) = omega arith in
    subst (λ (y : ℕ). Reach c (record { arrays = a + suc n; params = p; accs = g }) y) m
    (one_reach c _ Array (n + (p + g)) (array (omega (arith, h)) refl refl) (subst (λ (x : ℕ). Reach (more Array c) (record { arrays = x; params = p; accs = g }) (n + (p + g))) e (reach_arrays (a + 1) n p g (omega (arith, h)) k l)))

-- the counts that a list of parameters has are guessed right
pub counts_reads : (d : Counts) → Limited d → Reads comma d (all d) (λ b. all (counts_at 24 no_counts b).0) (counts_at 24 no_counts)
counts_reads d l =
    let z : 0 + d.arrays ≡ d.arrays = omega arith in
    let r = reach_arrays 0 d.arrays d.params d.accs (omega (arith, l.arrays)) l.params l.accs in
    let is : final no_counts r.kinds ≡ d = r.is ∙ ap (λ (x : ℕ). let w : Counts = record { arrays = x; params = d.params; accs = d.accs } in w) z in
    let text : all d ≡ text_from no_counts r.kinds = ap all (sym is) ∙ all_final no_counts r.kinds r.good in
    let few : length r.kinds ≤ 24 = (let f = r.few in omega (arith, f, l.arrays, l.params, l.accs)) in
    subst (λ (x : Counts). Reads comma x (all d) (λ b. all (counts_at 24 no_counts b).0) (counts_at 24 no_counts)) is
    (reads_same comma (final no_counts r.kinds) (all d) (text_from no_counts r.kinds) (λ b. all (counts_at 24 no_counts b).0) (parts_text 24 no_counts) (counts_at 24 no_counts) text
    (λ b. let k = kinds_of 24 no_counts b in ap all k.is ∙ all_final no_counts k.kinds k.good ∙ sym k.text)
    (parts_reads 24 no_counts r.kinds few r.good))
