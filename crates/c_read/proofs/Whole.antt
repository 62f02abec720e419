-- Whole texts are guessed right.
use Rattle.std.proofs.Common.{◌≡◌, ℕ, zero, suc, ◌+◌, ◌≤◌, nat_eq, Bool, true, false, List, [], ◌∷◌, ◌++◌, take, drop, length, refl, sym, ap, subst, ◌∙◌, inl, inr, arith, append_assoc, length-take, true≢false, Result, Ok, Err, IfOk, IfErr}
use Rattle.std.specs.List.{AllByRecursion, common_prefix_len}
use Rattle.std.proofs.lemmas.Bool.{cases_Bool}
use Rattle.std.proofs.lemmas.Bool.Decides.{nat_tests}
use Rattle.std.proofs.lemmas.List.{drop_at, length-append, take-append-drop}
use Rattle.std.proofs.lemmas.List.Sums.{common_prefix_len-le}
use Rattle.c_run.specs.declared.tree.CTree.{CTree}
use Rattle.c_run.specs.Tree.{CFunctionValue}
use Rattle.c_run.specs.Whole.{IsFunction, IsTree}
use Rattle.c_emit.specs.Text.{function_text, functions_text, header_text, c_text}
use Rattle.c_emit.specs.Spelled.{CText}
use Rattle.c_read.specs.Guess.{head, with_value, function_at, functions_at}
use Rattle.c_read.specs.Wrong.{Begins, BeginsSome, FirstWrong, IsWrong, GivesTree}
use Rattle.c_read.specs.declared.error.CError.{CError}
use Rattle.c_read.specs.declared.error.CError.TheVariants.{Syntax, Memory}
use Rattle.c_read.specs.Told.{suggested, Compares}
use Rattle.c_read.proofs.Pieces.{Ends, within, behind, ends, begins_none, begins_longer, begins_append, none_left}
use Rattle.c_read.proofs.Functions.{function_reads, function_fine}
use Rattle.c_read.proofs.Kept.{in_limits, is_function}

-- ---- functions

record Some (f : CFunctionValue) : Type 0 where
  more : List ℕ
  is : function_text f ≡ 118 ∷ more

some : (f : CFunctionValue) → Some f
unfolding function_text
some f = record { more = _; is = refl }

go : (m n c : ℕ) (b : List ℕ) → functions_at m (suc n) (c ∷ b) ≡ with_value (λ fs. (function_at m (c ∷ b)).0 ∷ fs) (functions_at m n (function_at m (c ∷ b)).1)
unfolding functions_at
go m n c b = refl

no_bytes : (m n : ℕ) → functions_at m n [] ≡ ([], [])
unfolding functions_at
no_bytes m zero = refl
no_bytes m (suc n) = refl

record AreRead (m n : ℕ) (fs : List CFunctionValue) : Type 0 where
  part : (p y q : List ℕ) → length p ≤ n → functions_text fs ≡ p ++ y → Begins p (functions_text (functions_at m n (p ++ q)).0)
  again : length (functions_text fs) ≤ n → functions_at m n (functions_text fs) ≡ (fs, [])

read_text : List CFunctionValue × List ℕ → List ℕ
read_text x = functions_text x.0

one_step : (m n : ℕ) (f : CFunctionValue) (fs : List CFunctionValue) → suc n ≤ m → IsFunction f → AreRead m n fs → AreRead m (suc n) (f ∷ fs)
one_step m n f fs l h i = record {
  part = λ p y q k e. parts p y q k e;
  again = λ k. all_again k;
}
  where
    t : List ℕ
    t = functions_text fs

    shorter : (r : List ℕ) (j : ℕ) → length (function_text f ++ r) ≤ suc j → length r ≤ j
    shorter r j k =
        let e = length-append (function_text f) r in
        let s : length (function_text f) ≡ suc (length (some f).more) = ap (λ (u : List ℕ). length u) (some f).is in
        omega (arith, e, s, k)

    front : (r : List ℕ) → length (function_text f ++ r) ≤ suc n → length (function_text f) ≤ m
    front r k = let e = length-append (function_text f) r in omega (arith, e, k, l)

    by_ends : (c : ℕ) (p y q : List ℕ) → length (c ∷ p) ≤ suc n → Ends (function_text f) t (c ∷ p) y
        → Begins (c ∷ p) (function_text (function_at m (c ∷ (p ++ q))).0 ++ functions_text (functions_at m n (function_at m (c ∷ (p ++ q))).1).0)
    by_ends c p y q k (within z e) =
        let b = c ∷ (p ++ q) in
        begins_longer (c ∷ p) (function_text (function_at m b).0) (functions_text (functions_at m n (function_at m b).1).0) ((function_reads m f (in_limits f h)).part (c ∷ p) z q (omega (arith, k, l)) e)
    by_ends c p y q k (behind d s e j) =
        let b = c ∷ (p ++ q) in
        let few : length (function_text f ++ d ∷ s) ≤ suc n = subst (λ (u : List ℕ). length u ≤ suc n) e k in
        let is : function_at m b ≡ (f, (d ∷ s) ++ q) = ap (λ (u : List ℕ). function_at m (u ++ q)) e ∙ ap (function_at m) (append_assoc (function_text f) (d ∷ s) q) ∙ (function_reads m f (in_limits f h)).again ((d ∷ s) ++ q) (front (d ∷ s) few) refl in
        subst (λ (u : List ℕ). Begins u (function_text (function_at m b).0 ++ functions_text (functions_at m n (function_at m b).1).0)) (sym e)
        (subst (λ (x : CFunctionValue × List ℕ). Begins (function_text f ++ d ∷ s) (function_text x.0 ++ functions_text (functions_at m n x.1).0)) (sym is)
        (begins_append (function_text f) (d ∷ s) (functions_text (functions_at m n ((d ∷ s) ++ q)).0) (i.part (d ∷ s) y q (shorter (d ∷ s) n few) j)))

    parts : (p y q : List ℕ) → length p ≤ suc n → function_text f ++ t ≡ p ++ y → Begins p (functions_text (functions_at m (suc n) (p ++ q)).0)
    parts [] y q k e = begins_none (functions_text (functions_at m (suc n) q).0)
    parts (c ∷ p) y q k e = subst (λ (x : List CFunctionValue × List ℕ). Begins (c ∷ p) (functions_text x.0)) (sym (go m n c (p ++ q))) (by_ends c p y q k (ends (function_text f) t (c ∷ p) y e))

    all_again : length (function_text f ++ t) ≤ suc n → functions_at m (suc n) (function_text f ++ t) ≡ (f ∷ fs, [])
    all_again k =
        let cells : function_text f ++ t ≡ 118 ∷ ((some f).more ++ t) = ap (λ (u : List ℕ). u ++ t) (some f).is in
        let is : function_at m (118 ∷ ((some f).more ++ t)) ≡ (f, t) = ap (function_at m) (sym cells) ∙ (function_reads m f (in_limits f h)).again t (front t k) refl in
        ap (functions_at m (suc n)) cells ∙ go m n 118 ((some f).more ++ t)
        ∙ ap (λ (x : CFunctionValue × List ℕ). with_value (λ gs. x.0 ∷ gs) (functions_at m n x.1)) is
        ∙ ap (λ (x : List CFunctionValue × List ℕ). with_value (λ gs. f ∷ gs) x) (i.again (shorter t n k))

are_read : (m n : ℕ) (fs : List CFunctionValue) → n ≤ m → AllByRecursion IsFunction fs → AreRead m n fs
are_read m n [] l h = record {
  part = λ p y q k e. subst (λ (s : List ℕ). Begins s (functions_text (functions_at m n (s ++ q)).0)) (sym (none_left p y e)) (begins_none (functions_text (functions_at m n q).0));
  again = λ k. no_bytes m n;
}
are_read m zero (f ∷ fs) l h = record { part = λ p y q k e. nothing p q k; again = λ k. absurd (too_long k) }
  where
    nothing : (p q : List ℕ) → length p ≤ 0 → Begins p (functions_text (functions_at m 0 (p ++ q)).0)
    nothing [] q k = begins_none (functions_text (functions_at m 0 q).0)
    nothing (c ∷ p) q k = absurd (omega (arith, k))

    too_long : length (function_text f ++ functions_text fs) ≤ 0 → ⊥
    too_long k =
        let e = length-append (function_text f) (functions_text fs) in
        let s : length (function_text f) ≡ suc (length (some f).more) = ap (λ (u : List ℕ). length u) (some f).is in
        omega (arith, e, s, k)
are_read m (suc n) (f ∷ fs) l h = one_step m n f fs l h.0 (are_read m n fs (omega (arith, l)) h.1)

are_fine : (m n : ℕ) (b : List ℕ) → AllByRecursion IsFunction (functions_at m n b).0
unfolding functions_at
are_fine m zero b = tt
are_fine m (suc n) [] = tt
are_fine m (suc n) (c ∷ b) = (is_function (function_at m (c ∷ b)).0 (function_fine m (c ∷ b)), are_fine m n (function_at m (c ∷ b)).1)

-- ---- texts

pub suggested_fine : (bytes : List ℕ) → IsTree (suggested bytes)
suggested_fine bytes = are_fine (length bytes) (length bytes) (drop 20 bytes)

-- the text of a tree suggests it
pub suggested_again : (t : CTree) → IsTree t → suggested (c_text t) ≡ t
suggested_again t h =
    let n = length (c_text t) in
    let s = functions_text t.functions in
    let e = length-append header_text s in
    let rest : drop 20 (c_text t) ≡ s = drop_at header_text s 20 refl in
    ap (λ (fs : List CFunctionValue). let w : CTree = record { functions = fs } in w)
    (ap (λ (b : List ℕ). (functions_at n n b).0) rest ∙ ap (λ (x : List CFunctionValue × List ℕ). x.0) ((are_read n n t.functions (omega arith) h).again (omega (arith, e))))

-- what bytes have in common with the text of a tree, they have in common with the text of the suggested one
pub suggested_part : (t : CTree) → IsTree t → (p y q : List ℕ) → c_text t ≡ p ++ y → Begins p (c_text (suggested (p ++ q)))
suggested_part t h p y q e = at (ends header_text (functions_text t.functions) p y e)
  where
    n : ℕ
    n = length (p ++ q)

    at : Ends header_text (functions_text t.functions) p y → Begins p (header_text ++ functions_text (functions_at n n (drop 20 (p ++ q))).0)
    at (within z i) = begins_longer p header_text (functions_text (functions_at n n (drop 20 (p ++ q))).0) (z, i)
    at (behind c s i j) =
        let rest : drop 20 (p ++ q) ≡ (c ∷ s) ++ q = ap (λ (u : List ℕ). drop 20 (u ++ q)) i ∙ ap (drop 20) (append_assoc header_text (c ∷ s) q) ∙ drop_at header_text ((c ∷ s) ++ q) 20 refl in
        let size : length p ≡ length header_text + length (c ∷ s) = ap (λ (u : List ℕ). length u) i ∙ length-append header_text (c ∷ s) in
        let more = length-append p q in
        let few : length (c ∷ s) ≤ n = omega (arith, size, more) in
        subst (λ (u : List ℕ). Begins u (header_text ++ functions_text (functions_at n n (drop 20 (p ++ q))).0)) (sym i)
        (subst (λ (u : List ℕ). Begins (header_text ++ c ∷ s) (header_text ++ functions_text (functions_at n n u).0)) (sym rest)
        (begins_append header_text (c ∷ s) (functions_text (functions_at n n ((c ∷ s) ++ q)).0) ((are_read n n t.functions (omega arith) h).part (c ∷ s) y q few j)))

-- ---- the first wrong byte

shared_begins : (a b : List ℕ) → Begins (take (common_prefix_len nat_eq a b) a) b
shared_begins [] b = (b, refl)
shared_begins (x ∷ a) [] = ([], refl)
shared_begins (x ∷ a) (y ∷ b) =
    elim (cases_Bool (nat_eq x y)) [
      | inl t ↦
          let i = shared_begins a b in
          let same : y ≡ x = grind (arith, nat_tests, t) in
          let one : 1 + common_prefix_len nat_eq a b ≡ suc (common_prefix_len nat_eq a b) = omega arith in
          rw t (subst (λ (k : ℕ). Begins (take k (x ∷ a)) (y ∷ b)) (sym one) (i.0, ap (λ (s : List ℕ). y ∷ s) i.1 ∙ ap (λ (k : ℕ). k ∷ (take (common_prefix_len nat_eq a b) a ++ i.0)) same))
      | inr f ↦ rw f (y ∷ b, refl)
    ]

longest : (a b p q : List ℕ) → a ≡ p ++ q → Begins p b → length p ≤ common_prefix_len nat_eq a b
longest a b [] q e d = omega arith
longest [] b (c ∷ p) q e d = absurd (true≢false (ap is_none e))
  where
    is_none : List ℕ → Bool
    is_none [] = true
    is_none (x ∷ s) = false
longest (x ∷ a) [] (c ∷ p) q e d = absurd (true≢false (ap is_none d.1))
  where
    is_none : List ℕ → Bool
    is_none [] = true
    is_none (x ∷ s) = false
longest (x ∷ a) (y ∷ b) (c ∷ p) q e d =
    let same_x : x ≡ c = ap head e in
    let same_y : y ≡ c = ap head d.1 in
    let t : nat_eq x y ≡ true = grind (arith, nat_tests, same_x, same_y) in
    let i = longest a b p q (ap (drop 1) e) (d.0, ap (drop 1) d.1) in
    let goal : suc (length p) ≤ 1 + common_prefix_len nat_eq a b = omega (arith, i) in
    rw t goal

pub first_wrong : (bytes : List ℕ) → FirstWrong bytes (common_prefix_len nat_eq bytes (c_text (suggested bytes)))
first_wrong bytes = record {
  within = (common_prefix_len-le nat_eq bytes (c_text (suggested bytes))).0;
  begins = (suggested bytes, suggested_fine bytes, shared_begins bytes (c_text (suggested bytes)));
  longest = λ n l b. most n l b;
}
  where
    most : (n : ℕ) → n ≤ length bytes → BeginsSome (take n bytes) → n ≤ common_prefix_len nat_eq bytes (c_text (suggested bytes))
    most n l b =
        let cut = take-append-drop n bytes in
        let d : Begins (take n bytes) (c_text (suggested bytes)) = subst (λ (u : List ℕ). Begins (take n bytes) (c_text (suggested u))) cut (suggested_part b.0 b.1 (take n bytes) b.2.0 (drop n bytes) b.2.1) in
        let i = longest bytes (c_text (suggested bytes)) (take n bytes) (drop n bytes) (sym cut) d in
        let size = length-take n bytes in
        omega (arith, i, size, l)

-- ---- what is read

pub compared_found : (bytes : List ℕ) (r : Result CTree CError) → Compares bytes r → IfOk r (λ t. CText bytes t)
compared_found bytes (Ok t) c = record { tree = subst IsTree (sym c.0) (suggested_fine bytes); text = c.1 }
compared_found bytes (Err e) c = tt

pub compared_only : (bytes : List ℕ) (r : Result CTree CError) → Compares bytes r → (t : CTree) → CText bytes t → GivesTree r t
compared_only bytes (Ok u) c t h = c.0 ∙ ap suggested h.text ∙ suggested_again t h.tree
compared_only bytes (Err (Syntax at)) c t h = c.1 (h.text ∙ ap c_text (sym (ap suggested h.text ∙ suggested_again t h.tree)))
compared_only bytes (Err Memory) c t h = tt

pub compared_wrong : (bytes : List ℕ) (r : Result CTree CError) → Compares bytes r → IfErr r (λ e. IsWrong bytes e)
compared_wrong bytes (Ok t) c = tt
compared_wrong bytes (Err (Syntax at)) c = subst (λ (n : ℕ). FirstWrong bytes n) (sym c.0) (first_wrong bytes)
compared_wrong bytes (Err Memory) c = tt
