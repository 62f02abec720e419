-- Statements are guessed right.
use Rattle.std.proofs.Common.{◌≡◌, ℕ, zero, suc, ◌≤◌, ◌==◌, Bool, true, false, List, [], ◌∷◌, ◌++◌, codes, drop, length, refl, sym, ap, subst, ◌∙◌, inl, inr, arith}
use Rattle.std.specs.Fmt.{decimal}
use Rattle.std.specs.List.{AllByRecursion}
use Rattle.std.proofs.lemmas.List.{length-append}
use Rattle.std.proofs.lemmas.Bool.{cases_Bool}
use Rattle.orc_program.specs.Words.{is_digit}
use Rattle.c_run.specs.declared.tree.CIndex.{CIndex}
use Rattle.c_run.specs.declared.tree.CExpr.{CExpr}
use Rattle.c_run.specs.declared.tree.CStmt.{CStmt}
use Rattle.c_run.specs.declared.tree.CStmt.TheVariants.{SetV, SetW, SetByte}
use Rattle.c_run.specs.Tree.{most_deep}
use Rattle.c_emit.specs.Text.{expr_text, stmt_text, body_text}
use Rattle.c_read.specs.Limits.{IsExpr, IsStmt, is_place}
use Rattle.c_read.specs.Guess.{head, with_value, number_at, byte_at, expr_at, greatest_levels, set_at, set_byte_at, stmt_at, starts_stmt, body_at}
use Rattle.c_read.specs.Wrong.{Begins}
use Rattle.c_read.proofs.Pieces.{Reads, reads_none, reads_known, reads_piece, reads_by, none_left, begins_none}
use Rattle.c_read.proofs.Bounded.{ReadsIn, in_all, in_piece, in_by, in_same, in_value}
use Rattle.c_read.proofs.Numbers.{number_reads, number_within}
use Rattle.c_read.proofs.Places.{byte_tail, byte_reads}
use Rattle.c_read.proofs.Exprs.{expr_reads}
use Rattle.c_read.proofs.Good.{expr_fine, byte_fine}

abbrev pub never : ℕ → Bool
never b = false

-- ---- statements

abbrev set_text : ℕ → CExpr → List ℕ
set_text d e = decimal d ++ (codes " = " ++ (expr_text e ++ codes ";\n"))

set_reads : (set : ℕ → CExpr → CStmt) (d : ℕ) (e : CExpr) → d ≤ 255 → IsExpr most_deep e
    → Reads never (set d e) (set_text d e) (λ b. set_text (number_at 255 b).0 (expr_at greatest_levels (drop 3 (number_at 255 b).1)).0) (set_at set)
unfolding set_at
set_reads set d e h k =
    reads_piece is_digit never decimal (number_at 255) d (set d e) 32 _ (λ n b. codes " = " ++ (expr_text (expr_at greatest_levels (drop 3 b)).0 ++ codes ";\n")) (λ n b. (set n (expr_at greatest_levels (drop 3 b)).0, drop 2 (expr_at greatest_levels (drop 3 b)).1)) refl (number_reads 255 (omega arith) d h)
    (reads_known never (set d e) (codes " = ") (expr_text e ++ codes ";\n") _ _
    (reads_piece is_digit never expr_text (expr_at greatest_levels) e (set d e) 59 _ (λ x b. codes ";\n") (λ x b. (set d x, drop 2 b)) refl (expr_reads most_deep e k)
    (reads_known never (set d e) (codes ";\n") [] (λ b. []) (λ b. (set d e, b)) (reads_none never (set d e) (λ b. [])))))

abbrev set_byte_text : ℕ × CIndex → CExpr → List ℕ
set_byte_text x e = byte_tail x ++ (codes " = (unsigned char)(" ++ (expr_text e ++ codes " & 255ull);\n"))

set_byte_reads : (d : ℕ) (x : CIndex) (e : CExpr) → d ≤ 255 → is_place x ≡ true → IsExpr most_deep e
    → Reads never (SetByte d x e) (set_byte_text (d, x) e) (λ b. set_byte_text (byte_at b).0 (expr_at greatest_levels (drop 19 (byte_at b).1)).0) set_byte_at
unfolding set_byte_at
set_byte_reads d x e h t k =
    reads_piece never never byte_tail byte_at (d, x) (SetByte d x e) 32 _ (λ y b. codes " = (unsigned char)(" ++ (expr_text (expr_at greatest_levels (drop 19 b)).0 ++ codes " & 255ull);\n")) (λ y b. (SetByte y.0 y.1 (expr_at greatest_levels (drop 19 b)).0, drop 12 (expr_at greatest_levels (drop 19 b)).1)) refl (byte_reads never d x h t)
    (reads_known never (SetByte d x e) (codes " = (unsigned char)(") (expr_text e ++ codes " & 255ull);\n") _ _
    (reads_piece is_digit never expr_text (expr_at greatest_levels) e (SetByte d x e) 32 _ (λ z b. codes " & 255ull);\n") (λ z b. (SetByte d x z, drop 12 b)) refl (expr_reads most_deep e k)
    (reads_known never (SetByte d x e) (codes " & 255ull);\n") [] (λ b. []) (λ b. (SetByte d x e, b)) (reads_none never (SetByte d x e) (λ b. [])))))

v_is : (b : List ℕ) → stmt_at (118 ∷ b) ≡ set_at SetV b
unfolding stmt_at
v_is b = refl

w_is : (b : List ℕ) → stmt_at (119 ∷ b) ≡ set_at SetW b
unfolding stmt_at
w_is b = refl

a_is : (b : List ℕ) → stmt_at (97 ∷ b) ≡ set_byte_at b
unfolding stmt_at
a_is b = refl

abbrev read_text : CStmt × List ℕ → List ℕ
read_text x = stmt_text x.0

v_text : (b : List ℕ) → read_text (set_at SetV b) ≡ 118 ∷ set_text (number_at 255 b).0 (expr_at greatest_levels (drop 3 (number_at 255 b).1)).0
unfolding set_at
v_text b = refl

w_text : (b : List ℕ) → read_text (set_at SetW b) ≡ 119 ∷ set_text (number_at 255 b).0 (expr_at greatest_levels (drop 3 (number_at 255 b).1)).0
unfolding set_at
w_text b = refl

a_text : (b : List ℕ) → read_text (set_byte_at b) ≡ 97 ∷ set_byte_text (byte_at b).0 (expr_at greatest_levels (drop 19 (byte_at b).1)).0
unfolding set_byte_at
a_text b = refl

pub stmt_reads : (s : CStmt) → IsStmt s → Reads never s (stmt_text s) (λ b. stmt_text (stmt_at b).0) stmt_at
stmt_reads (SetV d e) h =
    reads_by never (SetV d e) 118 (set_text d e) (λ b. read_text (stmt_at b)) _ stmt_at (λ b. set_at SetV (drop 1 b)) (λ b. ap read_text (v_is b) ∙ v_text b) v_is
    (reads_known never (SetV d e) (118 ∷ []) (set_text d e) (λ b. set_text (number_at 255 b).0 (expr_at greatest_levels (drop 3 (number_at 255 b).1)).0) (set_at SetV) (set_reads SetV d e h.0 h.1))
stmt_reads (SetW d e) h =
    reads_by never (SetW d e) 119 (set_text d e) (λ b. read_text (stmt_at b)) _ stmt_at (λ b. set_at SetW (drop 1 b)) (λ b. ap read_text (w_is b) ∙ w_text b) w_is
    (reads_known never (SetW d e) (119 ∷ []) (set_text d e) (λ b. set_text (number_at 255 b).0 (expr_at greatest_levels (drop 3 (number_at 255 b).1)).0) (set_at SetW) (set_reads SetW d e h.0 h.1))
stmt_reads (SetByte d x e) h =
    reads_by never (SetByte d x e) 97 (set_byte_text (d, x) e) (λ b. read_text (stmt_at b)) _ stmt_at (λ b. set_byte_at (drop 1 b)) (λ b. ap read_text (a_is b) ∙ a_text b) a_is
    (reads_known never (SetByte d x e) (97 ∷ []) (set_byte_text (d, x) e) (λ b. set_byte_text (byte_at b).0 (expr_at greatest_levels (drop 19 (byte_at b).1)).0) set_byte_at (set_byte_reads d x e h.0 h.1 h.2))

set_fine : (set : ℕ → CExpr → CStmt) → ((d : ℕ) (e : CExpr) → d ≤ 255 → IsExpr most_deep e → IsStmt (set d e)) → (b : List ℕ) → IsStmt (set_at set b).0
unfolding set_at
set_fine set h b = h _ _ (number_within 255 b) (expr_fine most_deep (drop 3 (number_at 255 b).1))

set_byte_fine : (b : List ℕ) → IsStmt (set_byte_at b).0
unfolding set_byte_at
set_byte_fine b = ((byte_fine b).0, (byte_fine b).1, expr_fine most_deep (drop 19 (byte_at b).1))

pub stmt_fine : (b : List ℕ) → IsStmt (stmt_at b).0
unfolding stmt_at
stmt_fine b =
    elim (cases_Bool (head b == 118)) [
      | inl t ↦ rw t (set_fine SetV (λ d e h k. (h, k)) (drop 1 b))
      | inr f ↦ elim (cases_Bool (head b == 119)) [
        | inl t ↦ rw (f, t) (set_fine SetW (λ d e h k. (h, k)) (drop 1 b))
        | inr g ↦ rw (f, g) (set_byte_fine (drop 1 b))
      ]
    ]

-- ---- the body

record StmtFirst (s : CStmt) : Type 0 where
  byte : ℕ
  more : List ℕ
  is : stmt_text s ≡ byte ∷ more
  starts : starts_stmt byte ≡ true

stmt_first : (s : CStmt) → StmtFirst s
stmt_first (SetV d e) = record { byte = 118; more = _; is = refl; starts = refl }
stmt_first (SetW d e) = record { byte = 119; more = _; is = refl; starts = refl }
stmt_first (SetByte d x e) = record { byte = 97; more = _; is = refl; starts = refl }

body_ends : (n : ℕ) (q : List ℕ) → starts_stmt (head q) ≡ false → body_at n q ≡ ([], q)
unfolding body_at
body_ends zero q f = refl
body_ends (suc n) q f = rw f refl

body_goes : (n c : ℕ) (b : List ℕ) → starts_stmt c ≡ true → body_at (suc n) (c ∷ b) ≡ with_value (λ body. (stmt_at (c ∷ b)).0 ∷ body) (body_at n (stmt_at (c ∷ b)).1)
unfolding body_at
body_goes n c b t = rw t refl

abbrev body_read : List CStmt × List ℕ → List ℕ
body_read x = body_text x.0

pub body_reads : (n : ℕ) (body : List CStmt) → AllByRecursion IsStmt body → ReadsIn n starts_stmt body (body_text body) (λ b. body_text (body_at n b).0) (body_at n)
body_reads n [] h = record {
  part = λ p y q l e. subst (λ (s : List ℕ). Begins s (body_text (body_at n (s ++ q)).0)) (sym (none_left p y e)) (begins_none (body_text (body_at n q).0));
  again = λ q l f. body_ends n q f;
}
body_reads zero (s ∷ body) h = record {
  part = λ p y q l e. nothing p q l;
  again = λ q l f. absurd (some (stmt_first s) l);
}
  where
    nothing : (p q : List ℕ) → length p ≤ 0 → Begins p (body_text (body_at 0 (p ++ q)).0)
    nothing [] q l = begins_none (body_text (body_at 0 q).0)
    nothing (c ∷ p) q l = absurd (omega (arith, l))

    some : StmtFirst s → length (stmt_text s ++ body_text body) ≤ 0 → ⊥
    some f l =
        let e = length-append (stmt_text s) (body_text body) in
        let k : length (stmt_text s) ≡ suc (length f.more) = ap (λ (t : List ℕ). length t) f.is in
        omega (arith, e, k, l)
body_reads (suc n) (s ∷ body) h =
    in_same (suc n) starts_stmt (s ∷ body) (stmt_text s ++ t) (f.byte ∷ (f.more ++ t)) (λ b. body_read (body_at (suc n) b)) (λ b. body_read (body_at (suc n) b)) (body_at (suc n)) (ap (λ (u : List ℕ). u ++ t) f.is) (λ b. refl)
    (in_by (suc n) starts_stmt (s ∷ body) f.byte (f.more ++ t) (λ b. body_read (body_at (suc n) b)) (λ b. stmt_text (stmt_at b).0 ++ body_text (body_at n (stmt_at b).1).0) (body_at (suc n)) (λ b. with_value (λ ss. (stmt_at b).0 ∷ ss) (body_at n (stmt_at b).1))
    (λ b. ap body_read (body_goes n f.byte b f.starts))
    (λ b. body_goes n f.byte b f.starts)
    (in_same (suc n) starts_stmt (s ∷ body) (f.byte ∷ (f.more ++ t)) (stmt_text s ++ t) _ (λ b. stmt_text (stmt_at b).0 ++ body_text (body_at n (stmt_at b).1).0) _ (ap (λ (u : List ℕ). u ++ t) (sym f.is)) (λ b. refl)
    (in_piece (suc n) n never starts_stmt stmt_text stmt_at s (s ∷ body) t (λ x b. body_text (body_at n b).0) (λ x b. with_value (λ ss. x ∷ ss) (body_at n b)) left (λ c r e. refl) (λ q e. refl)
    (in_all (suc n) never s (stmt_text s) (λ b. stmt_text (stmt_at b).0) stmt_at (stmt_reads s h.0))
    (in_value n starts_stmt (λ ss. s ∷ ss) body t _ (body_at n) (body_reads n body h.1)))))
  where
    t : List ℕ
    t = body_text body

    f : StmtFirst s
    f = stmt_first s

    left : (r : List ℕ) → length (stmt_text s ++ r) ≤ suc n → length r ≤ n
    left r l =
        let e = length-append (stmt_text s) r in
        let k : length (stmt_text s) ≡ suc (length f.more) = ap (λ (u : List ℕ). length u) f.is in
        omega (arith, e, k, l)

pub body_fine : (n : ℕ) (b : List ℕ) → AllByRecursion IsStmt (body_at n b).0
unfolding body_at
body_fine zero b = tt
body_fine (suc n) b =
    elim (cases_Bool (starts_stmt (head b))) [
      | inl t ↦ rw t (stmt_fine b, body_fine n (stmt_at b).1)
      | inr f ↦ rw f tt
    ]
