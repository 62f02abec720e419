-- Steps of the code as steps of the guesses.
use Rattle.std.proofs.Common.{◌≡◌, ℕ, suc, ◌+◌, ◌-◌, ◌<◌, true, List, [], ◌∷◌, ◌++◌, drop, length, refl, sym, ap, subst, ◌∙◌, append_assoc, arith}
use Rattle.c_run.specs.declared.tree.CIndex.{CIndex}
use Rattle.c_run.specs.declared.tree.CExpr.{CExpr}
use Rattle.c_run.specs.declared.tree.CStmt.{CStmt}
use Rattle.c_run.specs.declared.tree.CStmt.TheVariants.{SetByte}
use Rattle.c_read.specs.Guess.{head, with_value, byte_at, expr_at, greatest_levels, set_byte_at, stmt_at, starts_stmt, body_at, function_at, functions_at, past, is_temp, temps_at}
use Rattle.c_emit.specs.Text.{line_text}
use Rattle.c_emit.specs.declared.lines.Line.TheVariants.{Temp}
use Rattle.std.specs.List.{AllByRecursion}
use Rattle.c_run.specs.Tree.{CFunctionValue}
use Rattle.c_read.specs.Limits.{IsStmt}
use Rattle.c_read.proofs.Stmts.{body_fine}

pub set_byte_is : (bytes r s : List ℕ) (d : ℕ) (x : CIndex) (e : CExpr) → ◌≡◌ {A = (ℕ × CIndex) × List ℕ} ((d, x), r) (byte_at bytes) → ◌≡◌ {A = CExpr × List ℕ} (e, s) (expr_at greatest_levels (drop 19 r)) → ◌≡◌ {A = CStmt × List ℕ} (SetByte d x e, drop 12 s) (set_byte_at bytes)
unfolding set_byte_at
set_byte_is bytes r s d x e h k =
    subst (λ (y : (ℕ × CIndex) × List ℕ). ◌≡◌ {A = CStmt × List ℕ} (SetByte d x e, drop 12 s) (SetByte y.0.0 y.0.1 (expr_at greatest_levels (drop 19 y.1)).0, drop 12 (expr_at greatest_levels (drop 19 y.1)).1)) h
    (ap (λ (z : CExpr × List ℕ). let w : CStmt × List ℕ = (SetByte d x z.0, drop 12 z.1) in w) k)

body_goes : (n : ℕ) (rest : List ℕ) → starts_stmt (head rest) ≡ true → body_at (suc n) rest ≡ with_value (λ body. (stmt_at rest).0 ∷ body) (body_at n (stmt_at rest).1)
unfolding body_at
body_goes n rest t = rw t refl

pub body_step : (done new : List CStmt) (left : ℕ) (rest after : List ℕ) (one : CStmt) → new ≡ done ++ one ∷ [] → 0 < left → starts_stmt (head rest) ≡ true → ◌≡◌ {A = CStmt × List ℕ} (one, after) (stmt_at rest)
    → with_value (λ more. new ++ more) (body_at (left - 1) after) ≡ with_value (λ more. done ++ more) (body_at left rest)
body_step done new left rest after one is some t e =
    let n : left ≡ suc (left - 1) = omega (arith, some) in
    let b : body_at left rest ≡ with_value (λ body. one ∷ body) (body_at (left - 1) after) =
    ap (λ (k : ℕ). body_at k rest) n ∙ body_goes (left - 1) rest t ∙ ap (λ (s : CStmt × List ℕ). with_value (λ body. s.0 ∷ body) (body_at (left - 1) s.1)) (sym e) in
    ap (λ (u : List CStmt). with_value (λ more. u ++ more) (body_at (left - 1) after)) is
    ∙ ap (λ (m : List CStmt). let w : List CStmt × List ℕ = (m, (body_at (left - 1) after).1) in w) (append_assoc done (one ∷ []) (body_at (left - 1) after).0) ∙ ap (λ (y : List CStmt × List ℕ). with_value (λ more. done ++ more) y) (sym b)

pub body_is_fine : (n : ℕ) (bytes rest : List ℕ) (body : List CStmt) → ◌≡◌ {A = List CStmt × List ℕ} (body, rest) (body_at n bytes) → AllByRecursion IsStmt body
body_is_fine n bytes rest body e = subst (λ (x : List CStmt × List ℕ). AllByRecursion IsStmt x.0) (sym e) (body_fine n bytes)

functions_go : (m n b : ℕ) (bytes : List ℕ) → functions_at m (suc n) (b ∷ bytes) ≡ with_value (λ fs. (function_at m (b ∷ bytes)).0 ∷ fs) (functions_at m n (function_at m (b ∷ bytes)).1)
unfolding functions_at
functions_go m n b bytes = refl

pub functions_step : (m left : ℕ) (done new : List CFunctionValue) (rest after : List ℕ) (one : CFunctionValue) → new ≡ done ++ one ∷ [] → 0 < left → 0 < length rest → ◌≡◌ {A = CFunctionValue × List ℕ} (one, after) (function_at m rest)
    → new ++ (functions_at m (left - 1) after).0 ≡ done ++ (functions_at m left rest).0
functions_step m left done new [] after one is some none e = absurd (omega (arith, none))
functions_step m left done new (b ∷ rest) after one is some more e =
    let n : left ≡ suc (left - 1) = omega (arith, some) in
    let step : (functions_at m left (b ∷ rest)).0 ≡ one ∷ (functions_at m (left - 1) after).0 =
    ap (λ (k : ℕ). (functions_at m k (b ∷ rest)).0) n ∙ ap (λ (x : List CFunctionValue × List ℕ). x.0) (functions_go m (left - 1) b rest)
    ∙ ap (λ (s : CFunctionValue × List ℕ). s.0 ∷ (functions_at m (left - 1) s.1).0) (sym e) in
    ap (λ (u : List CFunctionValue). u ++ (functions_at m (left - 1) after).0) is ∙ append_assoc done (one ∷ []) (functions_at m (left - 1) after).0 ∙ ap (λ (u : List CFunctionValue). done ++ u) (sym step)

past_go : (part : ℕ → List ℕ) (k n : ℕ) (rest : List ℕ) → past part k (suc n) rest ≡ past part (k + 1) n (drop (length (part k)) rest)
unfolding past
past_go part k n rest = refl

pub past_step : (part : ℕ → List ℕ) (k left : ℕ) (rest after : List ℕ) → 0 < left → after ≡ drop (length (part k)) rest → past part (k + 1) (left - 1) after ≡ past part k left rest
past_step part k left rest after some e =
    let n : left ≡ suc (left - 1) = omega (arith, some) in
    ap (past part (k + 1) (left - 1)) e ∙ sym (ap (λ (j : ℕ). past part k j rest) n ∙ past_go part k (left - 1) rest)

temps_go : (accs k n : ℕ) (rest : List ℕ) → is_temp accs rest ≡ true → temps_at accs k (suc n) rest ≡ temps_at accs (k + 1) n (drop (length (line_text Temp k)) rest)
unfolding temps_at
temps_go accs k n rest t = rw t refl

pub temps_step : (accs k left : ℕ) (rest after : List ℕ) → 0 < left → is_temp accs rest ≡ true → after ≡ drop (length (line_text Temp k)) rest → temps_at accs (k + 1) (left - 1) after ≡ temps_at accs k left rest
temps_step accs k left rest after some t e =
    let n : left ≡ suc (left - 1) = omega (arith, some) in
    ap (temps_at accs (k + 1) (left - 1)) e ∙ sym (ap (λ (j : ℕ). temps_at accs k j rest) n ∙ temps_go accs k (left - 1) rest t)
