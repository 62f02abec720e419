-- Expressions are guessed right.
use Rattle.std.proofs.Common.{◌≡◌, ℕ, zero, suc, ◌+◌, ◌-◌, ◌/◌, ◌%◌, ◌^◌, ◌≤◌, ◌<◌, ◌==◌, ◌&&◌, ◌||◌, not, nat_lt, Bool, true, false, max, List, [], ◌∷◌, ◌++◌, codes, drop, length, refl, sym, ap, subst, ◌∙◌, inl, inr, arith, append_assoc, true≢false}
use Rattle.std.specs.Fmt.{decimal}
use Rattle.std.proofs.lemmas.Fmt.{decimal_by_steps}
use Rattle.std.proofs.lemmas.List.{drop_at}
use Rattle.std.proofs.lemmas.Bool.{cases_Bool, lt-ltb}
use Rattle.std.proofs.lemmas.Bool.Decides.{nat_tests}
use Rattle.orc_program.specs.Words.{is_digit}
use Rattle.c_run.specs.declared.tree.COp.{COp}
use Rattle.c_run.specs.declared.tree.COp.TheVariants as op
use Rattle.c_run.specs.declared.tree.CCmp.{CCmp}
use Rattle.c_run.specs.declared.tree.CCmp.TheVariants as cmp
use Rattle.c_run.specs.declared.tree.CIndex.{CIndex}
use Rattle.c_run.specs.declared.tree.CExpr.{CExpr}
use Rattle.c_run.specs.declared.tree.CExpr.TheVariants.{Number, V, W, P, Byte, Two, Test, Choose}
use Rattle.c_run.specs.Tree.{depth}
use Rattle.c_run.specs.Whole.{is_number}
use Rattle.c_emit.specs.Text.{expr_text, op_text, cmp_text, byte_text}
use Rattle.c_emit.proofs.Texts.{text_number, text_v, text_w, text_p, text_byte, text_two, text_test, text_choose}
use Rattle.c_read.specs.Limits.{has_limits, is_place, IsExpr}
use Rattle.c_read.specs.Guess.{head, with_value, number_at, byte_at, op_of, cmp_of, Guess, two_at, choose_at, after_first, pair_at, compared_at, test_at, constant_at, cast_at, paren_at, level_at, expr_at}
use Rattle.c_read.proofs.Pieces.{Reads, reads_none, reads_known, reads_piece, reads_by, reads_value, reads_same, tail}
use Rattle.c_read.proofs.Numbers.{number_reads}
use Rattle.c_read.proofs.Trees.{cases_expr, depth_two, depth_test, depth_choose, limits_number, limits_v, limits_w, limits_p, limits_byte, limits_two, limits_test, limits_choose}
use Rattle.c_read.proofs.Places.{byte_tail, byte_reads}

-- an expression is guessed right by `guess`
abbrev IsRead : Guess → CExpr → Type 0
IsRead guess e = Reads is_digit e (expr_text e) (λ b. expr_text (guess b).0) guess

-- ---- first bytes

record First (t : List ℕ) : Type 0 where
  byte : ℕ
  more : List ℕ
  is : t ≡ byte ∷ more
  no_cast : (byte == 117) ≡ false

-- no expression begins with `u`
first_byte : (e : CExpr) → First (expr_text e)
first_byte e = cases_expr (λ (x : CExpr). First (expr_text x))
    (λ n. record { byte = 40; more = _; is = text_number n; no_cast = refl })
    (λ d. record { byte = 118; more = _; is = text_v d; no_cast = refl })
    (λ d. record { byte = 119; more = _; is = text_w d; no_cast = refl })
    (λ d. record { byte = 112; more = _; is = text_p d; no_cast = refl })
    (λ d x. record { byte = 40; more = _; is = text_byte d x; no_cast = refl })
    (λ o a b. record { byte = 40; more = _; is = text_two o a b; no_cast = refl })
    (λ c a b. record { byte = 40; more = _; is = text_test c a b; no_cast = refl })
    (λ c a b. record { byte = 40; more = _; is = text_choose c a b; no_cast = refl })
    e

-- the first byte of an operator tells it
record OpFirst (o : COp) : Type 0 where
  byte : ℕ
  more : List ℕ
  is : op_text o ≡ byte ∷ more
  no_choice : (byte == 63) ≡ false
  back : op_of byte ≡ o

op_first : (o : COp) → OpFirst o
op_first op.Add = record { byte = 43; more = []; is = refl; no_choice = refl; back = refl }
op_first op.Sub = record { byte = 45; more = []; is = refl; no_choice = refl; back = refl }
op_first op.Mul = record { byte = 42; more = []; is = refl; no_choice = refl; back = refl }
op_first op.Div = record { byte = 47; more = []; is = refl; no_choice = refl; back = refl }
op_first op.And = record { byte = 38; more = []; is = refl; no_choice = refl; back = refl }
op_first op.Or = record { byte = 124; more = []; is = refl; no_choice = refl; back = refl }
op_first op.Xor = record { byte = 94; more = []; is = refl; no_choice = refl; back = refl }
op_first op.Shl = record { byte = 60; more = 60 ∷ []; is = refl; no_choice = refl; back = refl }
op_first op.Shr = record { byte = 62; more = 62 ∷ []; is = refl; no_choice = refl; back = refl }

record CmpFirst (c : CCmp) : Type 0 where
  byte : ℕ
  more : List ℕ
  is : cmp_text c ≡ byte ∷ more
  back : cmp_of byte ≡ c

cmp_first : (c : CCmp) → CmpFirst c
cmp_first cmp.Less = record { byte = 60; more = []; is = refl; back = refl }
cmp_first cmp.Equal = record { byte = 61; more = 61 ∷ []; is = refl; back = refl }

-- a text that begins with x is x and the rest
rest_is : (x t r : List ℕ) → t ≡ x ++ r → drop (length x) t ≡ r
rest_is x t r e = ap (drop (length x)) e ∙ drop_at x r (length x) refl

begins_rest : (x t r : List ℕ) → t ≡ x ++ r → t ≡ x ++ drop (length x) t
begins_rest x t r e = e ∙ ap (λ (s : List ℕ). x ++ s) (sym (rest_is x t r e))

-- the first byte of a number
record NumberFirst (n : ℕ) (ds : List ℕ) : Type 0 where
  byte : ℕ
  more : List ℕ
  is : ds ≡ byte ∷ more
  no_array : (byte == 97) ≡ false
  no_test : (byte == 40) ≡ false

number_first : (n : ℕ) → n < 2 ^ 64 → NumberFirst n (decimal n)
number_first n h = decimal_by_steps NumberFirst one more n h
  where
    one : (n : ℕ) → n < 10 → NumberFirst n ((48 + n) ∷ [])
    one n h = record { byte = 48 + n; more = []; is = refl; no_array = grind (arith, nat_tests, h); no_test = grind (arith, nat_tests, h) }

    more : (n : ℕ) (ds : List ℕ) → 10 ≤ n → NumberFirst (n / 10) ds → NumberFirst n (ds ++ (48 + n % 10) ∷ [])
    more n ds h f = record { byte = f.byte; more = f.more ++ (48 + n % 10) ∷ []; is = ap (λ (s : List ℕ). s ++ (48 + n % 10) ∷ []) f.is; no_array = f.no_array; no_test = f.no_test }

-- ---- one level over a guess of what is inside

module _ (inner : Guess) where
  -- after `(`, the first operand and a space
  abbrev front : CExpr → List ℕ
  front a = codes "(" ++ (expr_text a ++ codes " ")

  abbrev after_text : CExpr → List ℕ → List ℕ
  after_text a b = drop (length (front a)) (expr_text (after_first inner a b).0)

  behind_front : (a : CExpr) (s : List ℕ) → codes "(" ++ (expr_text a ++ (codes " " ++ s)) ≡ front a ++ s
  behind_front a s = ap (λ (t : List ℕ). 40 ∷ t) (sym (append_assoc (expr_text a) (codes " ") s))

  two_front : (o : COp) (a b : CExpr) → expr_text (Two o a b) ≡ front a ++ (op_text o ++ (codes " " ++ (expr_text b ++ codes ")")))
  two_front o a b = text_two o a b ∙ behind_front a (op_text o ++ (codes " " ++ (expr_text b ++ codes ")")))

  choose_front : (c a b : CExpr) → expr_text (Choose c a b) ≡ front c ++ (codes "? " ++ (expr_text a ++ (codes " : " ++ (expr_text b ++ codes ")"))))
  choose_front c a b = text_choose c a b ∙ behind_front c (codes "? " ++ (expr_text a ++ (codes " : " ++ (expr_text b ++ codes ")"))))

  -- an operator and the second operand
  two_is : (o : COp) (a : CExpr) (r : List ℕ) → after_first inner a ((op_first o).byte ∷ r) ≡ two_at inner o a ((op_first o).byte ∷ r)
  unfolding after_first
  two_is o a r = let f = op_first o in rw f.no_choice (ap (λ (k : COp). two_at inner k a (f.byte ∷ r)) f.back)

  abbrev two_text : COp → List ℕ → List ℕ
  two_text o r = op_text o ++ (codes " " ++ (expr_text (inner (drop 1 (drop (length (op_text o)) r))).0 ++ codes ")"))

  two_text_is : (o : COp) (a : CExpr) (r : List ℕ) → drop (length (front a)) (expr_text (two_at inner o a r).0) ≡ two_text o r
  unfolding two_at
  two_text_is o a r = rest_is (front a) _ (two_text o r) (two_front o a (inner (drop 1 (drop (length (op_text o)) r))).0)

  two_known : (o : COp) (a b : CExpr) → IsRead inner b → Reads is_digit (Two o a b) (op_text o ++ (codes " " ++ (expr_text b ++ codes ")"))) (two_text o) (two_at inner o a)
  unfolding two_at
  two_known o a b i =
      reads_known is_digit (Two o a b) (op_text o) (codes " " ++ (expr_text b ++ codes ")")) _ _
      (reads_known is_digit (Two o a b) (codes " ") (expr_text b ++ codes ")") _ _
      (reads_piece is_digit is_digit expr_text inner b (Two o a b) 41 [] (λ x r. codes ")") (λ x r. (Two o a x, drop 1 r)) refl i
      (reads_known is_digit (Two o a b) (codes ")") [] (λ r. []) (λ r. (Two o a b, r)) (reads_none is_digit (Two o a b) (λ r. [])))))

  two_reads : (o : COp) (a b : CExpr) → IsRead inner b → Reads is_digit (Two o a b) (op_text o ++ (codes " " ++ (expr_text b ++ codes ")"))) (after_text a) (after_first inner a)
  two_reads o a b i =
      let f = op_first o in
      let s = codes " " ++ (expr_text b ++ codes ")") in
      reads_same is_digit (Two o a b) (op_text o ++ s) (f.byte ∷ (f.more ++ s)) (after_text a) (after_text a) (after_first inner a) (ap (λ (t : List ℕ). t ++ s) f.is) (λ r. refl)
      (reads_by is_digit (Two o a b) f.byte (f.more ++ s) (after_text a) (two_text o) (after_first inner a) (two_at inner o a)
      (λ r. ap (λ (x : CExpr × List ℕ). drop (length (front a)) (expr_text x.0)) (two_is o a r) ∙ two_text_is o a (f.byte ∷ r))
      (two_is o a)
      (reads_same is_digit (Two o a b) (f.byte ∷ (f.more ++ s)) (op_text o ++ s) (two_text o) (two_text o) (two_at inner o a) (ap (λ (t : List ℕ). t ++ s) (sym f.is)) (λ r. refl) (two_known o a b i)))

  -- a choice
  abbrev choose_text : List ℕ → List ℕ
  choose_text r = codes "? " ++ (expr_text (inner (drop 2 r)).0 ++ (codes " : " ++ (expr_text (inner (drop 3 (inner (drop 2 r)).1)).0 ++ codes ")")))

  choose_text_is : (c : CExpr) (r : List ℕ) → drop (length (front c)) (expr_text (choose_at inner c r).0) ≡ choose_text r
  unfolding choose_at
  choose_text_is c r = rest_is (front c) _ (choose_text r) (choose_front c (inner (drop 2 r)).0 (inner (drop 3 (inner (drop 2 r)).1)).0)

  choose_is : (c : CExpr) (r : List ℕ) → after_first inner c (63 ∷ r) ≡ choose_at inner c (63 ∷ r)
  unfolding after_first
  choose_is c r = refl

  choose_known : (c a b : CExpr) → IsRead inner a → IsRead inner b → Reads is_digit (Choose c a b) (codes "? " ++ (expr_text a ++ (codes " : " ++ (expr_text b ++ codes ")")))) choose_text (choose_at inner c)
  unfolding choose_at
  choose_known c a b i j =
      reads_known is_digit (Choose c a b) (codes "? ") (expr_text a ++ (codes " : " ++ (expr_text b ++ codes ")"))) _ _
      (reads_piece is_digit is_digit expr_text inner a (Choose c a b) 32 _ (λ x r. codes " : " ++ (expr_text (inner (drop 3 r)).0 ++ codes ")")) (λ x r. (Choose c x (inner (drop 3 r)).0, drop 1 (inner (drop 3 r)).1)) refl i
      (reads_known is_digit (Choose c a b) (codes " : ") (expr_text b ++ codes ")") _ _
      (reads_piece is_digit is_digit expr_text inner b (Choose c a b) 41 [] (λ x r. codes ")") (λ x r. (Choose c a x, drop 1 r)) refl j
      (reads_known is_digit (Choose c a b) (codes ")") [] (λ r. []) (λ r. (Choose c a b, r)) (reads_none is_digit (Choose c a b) (λ r. []))))))

  choose_reads : (c a b : CExpr) → IsRead inner a → IsRead inner b → Reads is_digit (Choose c a b) (codes "? " ++ (expr_text a ++ (codes " : " ++ (expr_text b ++ codes ")")))) (after_text c) (after_first inner c)
  choose_reads c a b i j =
      reads_by is_digit (Choose c a b) 63 _ (after_text c) choose_text (after_first inner c) (choose_at inner c)
      (λ r. ap (λ (x : CExpr × List ℕ). drop (length (front c)) (expr_text x.0)) (choose_is c r) ∙ choose_text_is c (63 ∷ r))
      (choose_is c)
      (choose_known c a b i j)

  -- whatever is guessed begins with the operand
  pub after_yes : (a : CExpr) (r : List ℕ) → (head r == 63) ≡ true → after_first inner a r ≡ choose_at inner a r
  unfolding after_first
  after_yes a r t = rw t refl

  pub after_no : (a : CExpr) (r : List ℕ) → (head r == 63) ≡ false → after_first inner a r ≡ two_at inner (op_of (head r)) a r
  unfolding after_first
  after_no a r f = rw f refl

  choose_begins : (a : CExpr) (r : List ℕ) → expr_text (choose_at inner a r).0 ≡ front a ++ drop (length (front a)) (expr_text (choose_at inner a r).0)
  unfolding choose_at
  choose_begins a r = begins_rest (front a) _ (choose_text r) (choose_front a (inner (drop 2 r)).0 (inner (drop 3 (inner (drop 2 r)).1)).0)

  two_begins : (o : COp) (a : CExpr) (r : List ℕ) → expr_text (two_at inner o a r).0 ≡ front a ++ drop (length (front a)) (expr_text (two_at inner o a r).0)
  unfolding two_at
  two_begins o a r = begins_rest (front a) _ (two_text o r) (two_front o a (inner (drop 1 (drop (length (op_text o)) r))).0)

  after_begins : (a : CExpr) (r : List ℕ) → expr_text (after_first inner a r).0 ≡ front a ++ after_text a r
  after_begins a r =
      elim (cases_Bool (head r == 63)) [
        | inl t ↦ subst (λ (x : CExpr × List ℕ). expr_text x.0 ≡ front a ++ drop (length (front a)) (expr_text x.0)) (sym (after_yes a r t)) (choose_begins a r)
        | inr f ↦ subst (λ (x : CExpr × List ℕ). expr_text x.0 ≡ front a ++ drop (length (front a)) (expr_text x.0)) (sym (after_no a r f)) (two_begins (op_of (head r)) a r)
      ]

  -- ---- after `(`, where no cast stands
  abbrev pair_text : List ℕ → List ℕ
  pair_text b = tail (expr_text (pair_at inner b).0)

  pair_text_is : (b : List ℕ) → pair_text b ≡ expr_text (inner b).0 ++ (codes " " ++ after_text (inner b).0 (drop 1 (inner b).1))
  unfolding pair_at
  pair_text_is b = ap tail (after_begins (inner b).0 (drop 1 (inner b).1)) ∙ append_assoc (expr_text (inner b).0) (codes " ") (after_text (inner b).0 (drop 1 (inner b).1))

  pair_reads : (e a : CExpr) (s : List ℕ) → IsRead inner a → Reads is_digit e s (after_text a) (after_first inner a) → Reads is_digit e (expr_text a ++ (codes " " ++ s)) pair_text (pair_at inner)
  unfolding pair_at
  pair_reads e a s i r =
      reads_same is_digit e (expr_text a ++ (codes " " ++ s)) (expr_text a ++ (codes " " ++ s)) pair_text (λ b. expr_text (inner b).0 ++ (codes " " ++ after_text (inner b).0 (drop 1 (inner b).1))) (pair_at inner) refl pair_text_is
      (reads_piece is_digit is_digit expr_text inner a e 32 s (λ x b. codes " " ++ after_text x (drop 1 b)) (λ x b. after_first inner x (drop 1 b)) refl i
      (reads_known is_digit e (codes " ") s (after_text a) (after_first inner a) r))

  -- ---- after `(uint64_t)(`: a comparison
  abbrev cmp_tail : CCmp → List ℕ → List ℕ
  cmp_tail c r = cmp_text c ++ (codes " " ++ (expr_text (inner (drop 1 (drop (length (cmp_text c)) r))).0 ++ codes ")"))

  compared_reads : (c : CCmp) (a b : CExpr) → IsRead inner b → Reads is_digit (Test c a b) (cmp_text c ++ (codes " " ++ (expr_text b ++ codes ")"))) (cmp_tail c) (compared_at inner c a)
  unfolding compared_at
  compared_reads c a b i =
      reads_known is_digit (Test c a b) (cmp_text c) (codes " " ++ (expr_text b ++ codes ")")) _ _
      (reads_known is_digit (Test c a b) (codes " ") (expr_text b ++ codes ")") _ _
      (reads_piece is_digit is_digit expr_text inner b (Test c a b) 41 [] (λ x r. codes ")") (λ x r. (Test c a x, drop 1 r)) refl i
      (reads_known is_digit (Test c a b) (codes ")") [] (λ r. []) (λ r. (Test c a b, r)) (reads_none is_digit (Test c a b) (λ r. [])))))

  compared_by : (c : CCmp) (a b : CExpr) → IsRead inner b
      → Reads is_digit (Test c a b) (cmp_text c ++ (codes " " ++ (expr_text b ++ codes ")"))) (λ r. cmp_tail (cmp_of (head r)) r) (λ r. compared_at inner (cmp_of (head r)) a r)
  compared_by c a b i =
      let f = cmp_first c in
      let s = codes " " ++ (expr_text b ++ codes ")") in
      reads_same is_digit (Test c a b) (cmp_text c ++ s) (f.byte ∷ (f.more ++ s)) _ (λ r. cmp_tail (cmp_of (head r)) r) (λ r. compared_at inner (cmp_of (head r)) a r) (ap (λ (t : List ℕ). t ++ s) f.is) (λ r. refl)
      (reads_by is_digit (Test c a b) f.byte (f.more ++ s) (λ r. cmp_tail (cmp_of (head r)) r) (cmp_tail c) (λ r. compared_at inner (cmp_of (head r)) a r) (compared_at inner c a)
      (λ r. ap (λ (k : CCmp). cmp_tail k (f.byte ∷ r)) f.back)
      (λ r. ap (λ (k : CCmp). compared_at inner k a (f.byte ∷ r)) f.back)
      (reads_same is_digit (Test c a b) (f.byte ∷ (f.more ++ s)) (cmp_text c ++ s) (cmp_tail c) (cmp_tail c) (compared_at inner c a) (ap (λ (t : List ℕ). t ++ s) (sym f.is)) (λ r. refl) (compared_reads c a b i)))

  abbrev test_text : List ℕ → List ℕ
  test_text b = drop (length (codes "(uint64_t)(")) (expr_text (test_at inner b).0)

  abbrev test_form : CExpr → List ℕ → List ℕ
  test_form a r = expr_text a ++ (codes " " ++ cmp_tail (cmp_of (head (drop 1 r))) (drop 1 r))

  test_form_is : (b : List ℕ) → expr_text (test_at inner b).0 ≡ codes "(uint64_t)(" ++ test_form (inner b).0 (inner b).1
  unfolding test_at compared_at
  test_form_is b = text_test (cmp_of (head (drop 1 (inner b).1))) (inner b).0 _

  test_reads : (c : CCmp) (a b : CExpr) → IsRead inner a → IsRead inner b → Reads is_digit (Test c a b) (expr_text a ++ (codes " " ++ (cmp_text c ++ (codes " " ++ (expr_text b ++ codes ")"))))) test_text (test_at inner)
  unfolding test_at
  test_reads c a b i j =
      let t = cmp_text c ++ (codes " " ++ (expr_text b ++ codes ")")) in
      reads_same is_digit (Test c a b) (expr_text a ++ (codes " " ++ t)) (expr_text a ++ (codes " " ++ t)) test_text (λ r. test_form (inner r).0 (inner r).1) (test_at inner) refl (λ r. rest_is (codes "(uint64_t)(") _ _ (test_form_is r))
      (reads_piece is_digit is_digit expr_text inner a (Test c a b) 32 t (λ x r. codes " " ++ cmp_tail (cmp_of (head (drop 1 r))) (drop 1 r)) (λ x r. compared_at inner (cmp_of (head (drop 1 r))) x (drop 1 r)) refl i
      (reads_known is_digit (Test c a b) (codes " ") t (λ r. cmp_tail (cmp_of (head r)) r) (λ r. compared_at inner (cmp_of (head r)) a r) (compared_by c a b j)))

  -- ---- after `(uint64_t)`
  module _ (deep : Bool) where
    abbrev cast : List ℕ
    cast = codes "(uint64_t)"

    abbrev cast_text : List ℕ → List ℕ
    cast_text b = drop (length cast) (expr_text (cast_at deep inner b).0)

    byte_is : (b : List ℕ) → cast_at deep inner (97 ∷ b) ≡ with_value (λ x. Byte x.0 x.1) (byte_at b)
    unfolding cast_at
    byte_is b = refl

    cast_byte : (d : ℕ) (x : CIndex) → d ≤ 255 → is_place x ≡ true → Reads is_digit (Byte d x) (byte_text d x) cast_text (cast_at deep inner)
    cast_byte d x h t =
        reads_by is_digit (Byte d x) 97 (byte_tail (d, x)) cast_text (λ b. 97 ∷ byte_tail (byte_at (drop 1 b)).0) (cast_at deep inner) (λ b. with_value (λ y. Byte y.0 y.1) (byte_at (drop 1 b)))
        (λ b. ap (λ (y : CExpr × List ℕ). drop (length cast) (expr_text y.0)) (byte_is b) ∙ rest_is cast _ _ (text_byte (byte_at b).0.0 (byte_at b).0.1))
        byte_is
        (reads_known is_digit (Byte d x) (97 ∷ []) (byte_tail (d, x)) (λ b. byte_tail (byte_at b).0) (λ b. with_value (λ y. Byte y.0 y.1) (byte_at b))
        (reads_value is_digit (λ (y : ℕ × CIndex). Byte y.0 y.1) (d, x) (byte_tail (d, x)) _ byte_at (byte_reads is_digit d x h t)))

    -- a number
    constant_text : (b : List ℕ) → drop (length cast) (expr_text (constant_at b).0) ≡ decimal (number_at (2 ^ 64 - 1) b).0 ++ codes "ull"
    unfolding constant_at
    constant_text b = rest_is cast _ _ (text_number (number_at (2 ^ 64 - 1) b).0)

    constant_reads : (n : ℕ) → n < 2 ^ 64 → Reads is_digit (Number n) (decimal n ++ codes "ull") (λ b. drop (length cast) (expr_text (constant_at b).0)) constant_at
    unfolding constant_at
    constant_reads n h =
        reads_same is_digit (Number n) (decimal n ++ codes "ull") (decimal n ++ codes "ull") _ (λ b. decimal (number_at (2 ^ 64 - 1) b).0 ++ codes "ull") constant_at refl constant_text
        (reads_piece is_digit is_digit decimal (number_at (2 ^ 64 - 1)) n (Number n) 117 _ (λ k b. codes "ull") (λ k b. (Number k, drop 3 b)) refl (number_reads (2 ^ 64 - 1) (omega arith) n (omega (arith, h)))
        (reads_known is_digit (Number n) (codes "ull") [] (λ b. []) (λ b. (Number n, b)) (reads_none is_digit (Number n) (λ b. []))))

    constant_is : (c : ℕ) (b : List ℕ) → (c == 97) ≡ false → (c == 40) ≡ false → cast_at deep inner (c ∷ b) ≡ constant_at (c ∷ b)
    unfolding cast_at
    constant_is c b f g = rw (f, g) refl

    cast_number : (n : ℕ) → n < 2 ^ 64 → Reads is_digit (Number n) (decimal n ++ codes "ull") cast_text (cast_at deep inner)
    cast_number n h =
        let f = number_first n h in
        let s = codes "ull" in
        let g = λ (b : List ℕ). drop (length cast) (expr_text (constant_at b).0) in
        reads_same is_digit (Number n) (decimal n ++ s) (f.byte ∷ (f.more ++ s)) cast_text cast_text (cast_at deep inner) (ap (λ (t : List ℕ). t ++ s) f.is) (λ b. refl)
        (reads_by is_digit (Number n) f.byte (f.more ++ s) cast_text g (cast_at deep inner) constant_at
        (λ b. ap (λ (y : CExpr × List ℕ). drop (length cast) (expr_text y.0)) (constant_is f.byte b f.no_array f.no_test))
        (λ b. constant_is f.byte b f.no_array f.no_test)
        (reads_same is_digit (Number n) (f.byte ∷ (f.more ++ s)) (decimal n ++ s) g g constant_at (ap (λ (t : List ℕ). t ++ s) (sym f.is)) (λ b. refl) (constant_reads n h)))

    -- whatever is guessed begins with the cast
    pub byte_yes : (b : List ℕ) → (head b == 97) ≡ true → cast_at deep inner b ≡ with_value (λ x. Byte x.0 x.1) (byte_at (drop 1 b))
    unfolding cast_at
    byte_yes b t = rw t refl

    pub test_yes : (b : List ℕ) → (head b == 97) ≡ false → (head b == 40 && deep) ≡ true → cast_at deep inner b ≡ test_at inner (drop 1 b)
    unfolding cast_at
    test_yes b f t = rw (f, t) refl

    pub number_yes : (b : List ℕ) → (head b == 97) ≡ false → (head b == 40 && deep) ≡ false → cast_at deep inner b ≡ constant_at b
    unfolding cast_at
    number_yes b f g = rw (f, g) refl

    abbrev Casts : CExpr × List ℕ → Type 0
    Casts x = expr_text x.0 ≡ cast ++ drop (length cast) (expr_text x.0)

    constant_casts : (b : List ℕ) → Casts (constant_at b)
    unfolding constant_at
    constant_casts b = begins_rest cast _ _ (text_number (number_at (2 ^ 64 - 1) b).0)

    cast_begins : (b : List ℕ) → Casts (cast_at deep inner b)
    cast_begins b =
        elim (cases_Bool (head b == 97)) [
          | inl t ↦ subst Casts (sym (byte_yes b t)) (begins_rest cast _ _ (text_byte (byte_at (drop 1 b)).0.0 (byte_at (drop 1 b)).0.1))
          | inr f ↦ elim (cases_Bool (head b == 40 && deep)) [
            | inl t ↦ subst Casts (sym (test_yes b f t)) (begins_rest cast _ (40 ∷ test_form (inner (drop 1 b)).0 (inner (drop 1 b)).1) (test_form_is (drop 1 b)))
            | inr g ↦ subst Casts (sym (number_yes b f g)) (constant_casts b)
          ]
        ]

    -- ---- after `(`
    abbrev paren_text : List ℕ → List ℕ
    paren_text b = tail (expr_text (paren_at deep inner b).0)

    cast_is : (b : List ℕ) → paren_at deep inner (117 ∷ b) ≡ cast_at deep inner (drop 9 (117 ∷ b))
    unfolding paren_at
    cast_is b = refl

    paren_cast : (e : CExpr) (u : List ℕ) → Reads is_digit e u cast_text (cast_at deep inner) → Reads is_digit e (codes "uint64_t)" ++ u) paren_text (paren_at deep inner)
    paren_cast e u r =
        reads_by is_digit e 117 _ paren_text (λ b. codes "uint64_t)" ++ cast_text (drop 9 b)) (paren_at deep inner) (λ b. cast_at deep inner (drop 9 b))
        (λ b. ap (λ (x : CExpr × List ℕ). tail (expr_text x.0)) (cast_is b) ∙ ap tail (cast_begins (drop 9 (117 ∷ b))))
        cast_is
        (reads_known is_digit e (codes "uint64_t)") u cast_text (cast_at deep inner) r)

    abbrev Opens : CExpr × List ℕ → Type 0
    Opens x = expr_text x.0 ≡ 40 ∷ tail (expr_text x.0)

    opens : (t s : List ℕ) → t ≡ 40 ∷ s → t ≡ 40 ∷ tail t
    opens t s e = e ∙ ap (λ (r : List ℕ). 40 ∷ r) (sym (ap tail e))

    pub paren_yes : (b : List ℕ) → (head b == 117 || not deep) ≡ true → paren_at deep inner b ≡ cast_at deep inner (drop 9 b)
    unfolding paren_at
    paren_yes b t = rw t refl

    pub paren_no : (b : List ℕ) → (head b == 117 || not deep) ≡ false → paren_at deep inner b ≡ pair_at inner b
    unfolding paren_at
    paren_no b f = rw f refl

    pair_opens : (b : List ℕ) → Opens (pair_at inner b)
    unfolding pair_at
    pair_opens b = opens _ _ (after_begins (inner b).0 (drop 1 (inner b).1))

    paren_begins : (b : List ℕ) → Opens (paren_at deep inner b)
    paren_begins b =
        elim (cases_Bool (head b == 117 || not deep)) [
          | inl t ↦ subst Opens (sym (paren_yes b t)) (opens _ _ (cast_begins (drop 9 b)))
          | inr f ↦ subst Opens (sym (paren_no b f)) (pair_opens b)
        ]

    -- ---- the level
    paren_is : (b : List ℕ) → level_at deep inner (40 ∷ b) ≡ paren_at deep inner b
    unfolding level_at
    paren_is b = refl

    abbrev IsLevel : CExpr → Type 0
    IsLevel e = IsRead (level_at deep inner) e

    level_paren : (e : CExpr) (r : List ℕ) → expr_text e ≡ 40 ∷ r → Reads is_digit e r paren_text (paren_at deep inner) → IsLevel e
    level_paren e r i j =
        reads_same is_digit e (expr_text e) (40 ∷ r) _ (λ b. expr_text (level_at deep inner b).0) (level_at deep inner) i (λ b. refl)
        (reads_by is_digit e 40 r (λ b. expr_text (level_at deep inner b).0) (λ b. 40 ∷ paren_text (drop 1 b)) (level_at deep inner) (λ b. paren_at deep inner (drop 1 b))
        (λ b. ap (λ (x : CExpr × List ℕ). expr_text x.0) (paren_is b) ∙ paren_begins b)
        paren_is
        (reads_known is_digit e (40 ∷ []) r paren_text (paren_at deep inner) j))

    level_cast : (e : CExpr) (u : List ℕ) → expr_text e ≡ cast ++ u → Reads is_digit e u cast_text (cast_at deep inner) → IsLevel e
    level_cast e u i r = level_paren e (codes "uint64_t)" ++ u) i (paren_cast e u r)

    level_variable : (letter d : ℕ) (kind : ℕ → CExpr) → ((k : ℕ) → expr_text (kind k) ≡ letter ∷ decimal k) → ((b : List ℕ) → level_at deep inner (letter ∷ b) ≡ with_value kind (number_at 255 b)) → d ≤ 255 → IsLevel (kind d)
    level_variable letter d kind text is h =
        reads_same is_digit (kind d) (expr_text (kind d)) (letter ∷ decimal d) _ (λ b. expr_text (level_at deep inner b).0) (level_at deep inner) (text d) (λ b. refl)
        (reads_by is_digit (kind d) letter (decimal d) (λ b. expr_text (level_at deep inner b).0) (λ b. letter ∷ decimal (number_at 255 (drop 1 b)).0) (level_at deep inner) (λ b. with_value kind (number_at 255 (drop 1 b)))
        (λ b. ap (λ (x : CExpr × List ℕ). expr_text x.0) (is b) ∙ text (number_at 255 b).0)
        is
        (reads_known is_digit (kind d) (letter ∷ []) (decimal d) (λ b. decimal (number_at 255 b).0) (λ b. with_value kind (number_at 255 b)) (reads_value is_digit kind d (decimal d) _ (number_at 255) (number_reads 255 (omega arith) d h))))

    v_is : (b : List ℕ) → level_at deep inner (118 ∷ b) ≡ with_value V (number_at 255 b)
    unfolding level_at
    v_is b = refl

    w_is : (b : List ℕ) → level_at deep inner (119 ∷ b) ≡ with_value W (number_at 255 b)
    unfolding level_at
    w_is b = refl

    p_is : (b : List ℕ) → level_at deep inner (112 ∷ b) ≡ with_value P (number_at 255 b)
    unfolding level_at
    p_is b = refl

-- ---- all levels

both : (a b : Bool) → (a && b) ≡ true → (a ≡ true) × (b ≡ true)
both true true e = (refl, refl)
both true false e = absurd (true≢false (sym e))
both false b e = absurd (true≢false (sym e))

pair_no_cast : (inner : Guess) (c : ℕ) (b : List ℕ) → (c == 117) ≡ false → paren_at true inner (c ∷ b) ≡ pair_at inner (c ∷ b)
unfolding paren_at
pair_no_cast inner c b n = rw n refl

test_no_number : (inner : Guess) (r : List ℕ) → cast_at true inner (40 ∷ r) ≡ test_at inner r
unfolding cast_at
test_no_number inner r = refl

-- a pair at one level over something
level_pair : (inner : Guess) (e a : CExpr) (s : List ℕ) → expr_text e ≡ codes "(" ++ (expr_text a ++ (codes " " ++ s)) → IsRead inner a → Reads is_digit e s (after_text inner a) (after_first inner a) → IsRead (level_at true inner) e
level_pair inner e a s i h r =
    let f = first_byte a in
    let u = codes " " ++ s in
    level_paren inner true e (expr_text a ++ u) i
    (reads_same is_digit e (expr_text a ++ u) (f.byte ∷ (f.more ++ u)) (paren_text inner true) (paren_text inner true) (paren_at true inner) (ap (λ (t : List ℕ). t ++ u) f.is) (λ b. refl)
    (reads_by is_digit e f.byte (f.more ++ u) (paren_text inner true) (pair_text inner) (paren_at true inner) (pair_at inner)
    (λ b. ap (λ (x : CExpr × List ℕ). tail (expr_text x.0)) (pair_no_cast inner f.byte b f.no_cast))
    (λ b. pair_no_cast inner f.byte b f.no_cast)
    (reads_same is_digit e (f.byte ∷ (f.more ++ u)) (expr_text a ++ u) (pair_text inner) (pair_text inner) (pair_at inner) (ap (λ (t : List ℕ). t ++ u) (sym f.is)) (λ b. refl) (pair_reads inner e a s h r))))

-- a comparison at one level over something
level_test : (inner : Guess) (c : CCmp) (a b : CExpr) → IsRead inner a → IsRead inner b → IsRead (level_at true inner) (Test c a b)
level_test inner c a b h k =
    let t = expr_text a ++ (codes " " ++ (cmp_text c ++ (codes " " ++ (expr_text b ++ codes ")")))) in
    level_cast inner true (Test c a b) (40 ∷ t) (text_test c a b)
    (reads_by is_digit (Test c a b) 40 t (cast_text inner true) (λ r. 40 ∷ test_text inner (drop 1 r)) (cast_at true inner) (λ r. test_at inner (drop 1 r))
    (λ r. ap (λ (x : CExpr × List ℕ). drop (length (cast inner true)) (expr_text x.0)) (test_no_number inner r) ∙ opened r)
    (test_no_number inner)
    (reads_known is_digit (Test c a b) (40 ∷ []) t (test_text inner) (test_at inner) (test_reads inner c a b h k)))
  where
    opened : (r : List ℕ) → drop (length (codes "(uint64_t)")) (expr_text (test_at inner r).0) ≡ 40 ∷ test_text inner r
    opened r = rest_is (codes "(uint64_t)") _ _ (test_form_is inner r) ∙ ap (λ (s : List ℕ). 40 ∷ s) (sym (rest_is (codes "(uint64_t)(") _ _ (test_form_is inner r)))

-- an expression within the limits and with fewer levels inside than n
pub record Fits (n : ℕ) (e : CExpr) : Type 0 where
  pub limits : has_limits e ≡ true
  pub below : depth e < n

-- every expression of at most n levels is guessed right
abbrev AllRead : ℕ → Type 0
AllRead n = (e : CExpr) → Fits n e → IsRead (expr_at n) e

first_of_two : (n : ℕ) (o : COp) (a b : CExpr) → Fits (suc n) (Two o a b) → (0 < n) × Fits n a × Fits n b
first_of_two n o a b h =
    let l = both (has_limits a) (has_limits b) (sym (limits_two o a b) ∙ h.limits) in
    let d : max (depth a) (depth b) + 1 < suc n = subst (λ (k : ℕ). k < suc n) (depth_two o a b) h.below in
    (omega (arith, d), record { limits = l.0; below = omega (arith, d) }, record { limits = l.1; below = omega (arith, d) })

parts_of_test : (n : ℕ) (c : CCmp) (a b : CExpr) → Fits (suc n) (Test c a b) → (0 < n) × Fits n a × Fits n b
parts_of_test n c a b h =
    let l = both (has_limits a) (has_limits b) (sym (limits_test c a b) ∙ h.limits) in
    let d : max (depth a) (depth b) + 1 < suc n = subst (λ (k : ℕ). k < suc n) (depth_test c a b) h.below in
    (omega (arith, d), record { limits = l.0; below = omega (arith, d) }, record { limits = l.1; below = omega (arith, d) })

parts_of_choose : (n : ℕ) (c a b : CExpr) → Fits (suc n) (Choose c a b) → (0 < n) × Fits n c × Fits n a × Fits n b
parts_of_choose n c a b h =
    let l = both (has_limits c) (has_limits a && has_limits b) (sym (limits_choose c a b) ∙ h.limits) in
    let m = both (has_limits a) (has_limits b) l.1 in
    let d : max (depth c) (max (depth a) (depth b)) + 1 < suc n = subst (λ (k : ℕ). k < suc n) (depth_choose c a b) h.below in
    (omega (arith, d), record { limits = l.0; below = omega (arith, d) }, record { limits = m.0; below = omega (arith, d) }, record { limits = m.1; below = omega (arith, d) })

deep_level : (n : ℕ) (inner : Guess) (e : CExpr) → 0 < n → IsRead (level_at true inner) e → IsRead (level_at (nat_lt 0 n) inner) e
deep_level n inner e h r = let t : true ≡ nat_lt 0 n = sym (lt-ltb 0 n h) in subst (λ (d : Bool). IsRead (level_at d inner) e) t r

small : (d : ℕ) → is_number d ≡ true → d ≤ 255
small d t = grind (arith, nat_tests, t)

below_64 : (n : ℕ) → nat_lt n (2 ^ 64) ≡ true → n < 2 ^ 64
below_64 n t = grind (arith, nat_tests, t)

one_more : (n : ℕ) → AllRead n → (e : CExpr) → Fits (suc n) e → IsRead (level_at (nat_lt 0 n) (expr_at n)) e
one_more n i e h = cases_expr (λ (x : CExpr). Fits (suc n) x → IsRead (level_at deep inner) x)
    (λ k f. let l = below_64 k (sym (limits_number k) ∙ f.limits) in level_cast inner deep (Number k) (decimal k ++ codes "ull") (text_number k) (cast_number inner deep k l))
    (λ d f. level_variable inner deep 118 d V text_v (v_is inner deep) (small d (sym (limits_v d) ∙ f.limits)))
    (λ d f. level_variable inner deep 119 d W text_w (w_is inner deep) (small d (sym (limits_w d) ∙ f.limits)))
    (λ d f. level_variable inner deep 112 d P text_p (p_is inner deep) (small d (sym (limits_p d) ∙ f.limits)))
    (λ d x f. let l = both (is_number d) (is_place x) (sym (limits_byte d x) ∙ f.limits) in level_cast inner deep (Byte d x) (byte_text d x) (text_byte d x) (cast_byte inner deep d x (small d l.0) l.1))
    (λ o a b f. let p = first_of_two n o a b f in deep_level n inner (Two o a b) p.0 (level_pair inner (Two o a b) a _ (text_two o a b) (i a p.1) (two_reads inner o a b (i b p.2))))
    (λ c a b f. let p = parts_of_test n c a b f in deep_level n inner (Test c a b) p.0 (level_test inner c a b (i a p.1) (i b p.2)))
    (λ c a b f. let p = parts_of_choose n c a b f in deep_level n inner (Choose c a b) p.0 (level_pair inner (Choose c a b) c _ (text_choose c a b) (i c p.1) (choose_reads inner c a b (i a p.2) (i b p.3))))
    e h
  where
    inner : Guess
    inner = expr_at n

    deep : Bool
    deep = nat_lt 0 n

all_read : (n : ℕ) → AllRead n
all_read zero e h = absurd (omega (arith, h.below))
all_read (suc n) e h = one_more n (all_read n) e h

-- an expression of the grammar is guessed right
pub expr_reads : (n : ℕ) (e : CExpr) → IsExpr n e → Reads is_digit e (expr_text e) (λ b. expr_text (expr_at (suc n) b).0) (expr_at (suc n))
expr_reads n e h = all_read (suc n) e (record { limits = h.limits; below = omega (arith, h.depth) })
