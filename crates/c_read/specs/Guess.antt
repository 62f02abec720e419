-- The tree that bytes suggest. Each step looks at one byte, and takes for granted that the others are those of the text;
-- where nothing is suggested it takes the least part of the grammar that is possible there.
use Rattle.std.specs.Prelude.{ℕ, zero, suc, ◌+◌, ◌-◌, ◌*◌, ◌^◌, ◌==◌, ◌&&◌, ◌||◌, not, nat_lt, nat_le, Bool, List, [], ◌∷◌, length, take, drop, Option, Some, None, codes, if◌then◌else◌}
use Rattle.orc_program.specs.Words.{is_digit, is_name_byte, is_name}
use Rattle.c_run.specs.declared.tree.COp.{COp}
use Rattle.c_run.specs.declared.tree.COp.TheVariants as op
use Rattle.c_run.specs.declared.tree.CCmp.{CCmp}
use Rattle.c_run.specs.declared.tree.CCmp.TheVariants as cmp
use Rattle.c_run.specs.declared.tree.CIndex.{CIndex}
use Rattle.c_run.specs.declared.tree.CExpr.{CExpr}
use Rattle.c_run.specs.declared.tree.CExpr.TheVariants.{Number, V, W, P, Byte, Two, Test, Choose}
use Rattle.c_run.specs.declared.tree.CStmt.{CStmt}
use Rattle.c_run.specs.declared.tree.CStmt.TheVariants.{SetV, SetW, SetByte}
use Rattle.c_run.specs.Tree.{CFunctionValue, most_deep}
use Rattle.c_emit.specs.Text.{op_text, cmp_text, line_text}
use Rattle.c_read.specs.declared.function.Counts.{Counts}
use Rattle.c_emit.specs.declared.lines.Line.TheVariants as line

-- a value and the bytes after it
abbrev pub with_value : {A B : Type 0} → (A → B) → A × List ℕ → B × List ℕ
with_value f x = (f x.0, x.1)

-- the first byte, and 0 where there is none
abbrev pub head : List ℕ → ℕ
head [] = 0
head (b ∷ bytes) = b

-- ---- numbers and names

-- as many digits more as the bound allows; a number that starts with 0 has no more
unfoldable pub more_digits : ℕ → ℕ → List ℕ → ℕ × List ℕ
more_digits bound n [] = (n, [])
more_digits bound n (b ∷ bytes) = if is_digit b && (nat_lt 0 n && nat_le (n * 10 + (b - 48)) bound) then more_digits bound (n * 10 + (b - 48)) bytes else (n, b ∷ bytes)

unfoldable pub number_at : ℕ → List ℕ → ℕ × List ℕ
number_at bound [] = (0, [])
number_at bound (b ∷ bytes) = if is_digit b && nat_le (b - 48) bound then more_digits bound (b - 48) bytes else (0, b ∷ bytes)

-- how many of the first bytes, at most n, can stand in a name
unfoldable pub name_len : ℕ → List ℕ → ℕ
name_len zero bytes = 0
name_len (suc n) [] = 0
name_len (suc n) (b ∷ bytes) = if is_name_byte b then suc (name_len n bytes) else 0

unfoldable pub name_at : List ℕ → List ℕ × List ℕ
name_at bytes = if is_name (take (name_len 64 bytes) bytes) then (take (name_len 64 bytes) bytes, drop (name_len 64 bytes) bytes) else (codes "_", bytes)

-- ---- expressions

abbrev pub size_of : ℕ → ℕ
size_of b = if b == 50 then 2 else (if b == 52 then 4 else (if b == 56 then 8 else 1))

unfoldable pub size_at : List ℕ → ℕ × List ℕ
size_at bytes = (size_of (head bytes), drop 1 bytes)

-- after `(j * s`: the stride's number, the size and the offset
unfoldable pub index_at : List ℕ → CIndex × List ℕ
index_at bytes =
    let stride = number_at 255 (drop 6 bytes) in
    let size = size_at (drop 9 stride.1) in
    let offset = number_at 7 (drop 4 size.1) in
    (record { stride = stride.0; size = size.0; offset = offset.0 }, offset.1)

-- after `a`: the array's number, and the index in brackets
unfoldable pub byte_at : List ℕ → (ℕ × CIndex) × List ℕ
byte_at bytes =
    let array = number_at 255 bytes in
    let index = index_at (drop 1 array.1) in
    ((array.0, index.0), drop 1 index.1)

abbrev pub op_of : ℕ → COp
op_of b = if b == 45 then op.Sub else (if b == 42 then op.Mul else (if b == 47 then op.Div else (if b == 38 then op.And
    else (if b == 124 then op.Or else (if b == 94 then op.Xor else (if b == 60 then op.Shl else (if b == 62 then op.Shr else op.Add)))))))

abbrev pub cmp_of : ℕ → CCmp
cmp_of b = if b == 61 then cmp.Equal else cmp.Less

-- a way to guess an expression
abbrev pub Guess : Type 0
Guess = List ℕ → CExpr × List ℕ

-- after the first operand and a space: an operator and the second operand
unfoldable pub two_at : Guess → COp → CExpr → List ℕ → CExpr × List ℕ
two_at inner o a bytes = let b = inner (drop 1 (drop (length (op_text o)) bytes)) in (Two o a b.0, drop 1 b.1)

-- after the condition and a space: `? `, and both branches
unfoldable pub choose_at : Guess → CExpr → List ℕ → CExpr × List ℕ
choose_at inner c bytes =
    let a = inner (drop 2 bytes) in
    let b = inner (drop 3 a.1) in
    (Choose c a.0 b.0, drop 1 b.1)

unfoldable pub after_first : Guess → CExpr → List ℕ → CExpr × List ℕ
after_first inner a bytes = if head bytes == 63 then choose_at inner a bytes else two_at inner (op_of (head bytes)) a bytes

-- after `(`, where no cast stands
unfoldable pub pair_at : Guess → List ℕ → CExpr × List ℕ
pair_at inner bytes = let a = inner bytes in after_first inner a.0 (drop 1 a.1)

unfoldable pub compared_at : Guess → CCmp → CExpr → List ℕ → CExpr × List ℕ
compared_at inner c a bytes = let b = inner (drop 1 (drop (length (cmp_text c)) bytes)) in (Test c a b.0, drop 1 b.1)

-- after `(uint64_t)(`
unfoldable pub test_at : Guess → List ℕ → CExpr × List ℕ
test_at inner bytes = let a = inner bytes in compared_at inner (cmp_of (head (drop 1 a.1))) a.0 (drop 1 a.1)

-- after `(uint64_t)`: a number and `ull`
unfoldable pub constant_at : List ℕ → CExpr × List ℕ
constant_at bytes = let n = number_at (2 ^ 64 - 1) bytes in (Number n.0, drop 3 n.1)

-- after `(uint64_t)`: an array's byte, a comparison where something may be inside, or a number
unfoldable pub cast_at : Bool → Guess → List ℕ → CExpr × List ℕ
cast_at deep inner bytes =
    if head bytes == 97 then with_value (λ x. Byte x.0 x.1) (byte_at (drop 1 bytes))
    else (if head bytes == 40 && deep then test_at inner (drop 1 bytes)
    else constant_at bytes)

-- after `(`
unfoldable pub paren_at : Bool → Guess → List ℕ → CExpr × List ℕ
paren_at deep inner bytes = if head bytes == 117 || not deep then cast_at deep inner (drop 9 bytes) else pair_at inner bytes

-- One level of an expression; `deep` says whether something may be inside, and `inner` guesses that. Where no expression
-- begins nothing is guessed to be inside, so each guess that goes deeper has met a `(`.
unfoldable pub level_at : Bool → Guess → List ℕ → CExpr × List ℕ
level_at deep inner bytes =
    if head bytes == 118 then with_value V (number_at 255 (drop 1 bytes))
    else (if head bytes == 119 then with_value W (number_at 255 (drop 1 bytes))
    else (if head bytes == 112 then with_value P (number_at 255 (drop 1 bytes))
    else (if head bytes == 40 then paren_at deep inner (drop 1 bytes)
    else (V 0, bytes))))

-- an expression of at most n levels; one that is d deep has d + 1
abbrev pub expr_at : ℕ → Guess
expr_at zero bytes = (Number 0, bytes)
expr_at (suc n) bytes = level_at (nat_lt 0 n) (expr_at n) bytes

abbrev pub greatest_levels : ℕ
greatest_levels = suc most_deep

-- ---- statements

unfoldable pub set_at : (ℕ → CExpr → CStmt) → List ℕ → CStmt × List ℕ
set_at set bytes =
    let d = number_at 255 bytes in
    let e = expr_at greatest_levels (drop 3 d.1) in
    (set d.0 e.0, drop 2 e.1)

unfoldable pub set_byte_at : List ℕ → CStmt × List ℕ
set_byte_at bytes =
    let x = byte_at bytes in
    let e = expr_at greatest_levels (drop 19 x.1) in
    (SetByte x.0.0 x.0.1 e.0, drop 12 e.1)

-- a statement that starts with `v`, `w` or `a`
unfoldable pub stmt_at : List ℕ → CStmt × List ℕ
stmt_at bytes =
    if head bytes == 118 then set_at SetV (drop 1 bytes)
    else (if head bytes == 119 then set_at SetW (drop 1 bytes)
    else set_byte_at (drop 1 bytes))

abbrev pub starts_stmt : ℕ → Bool
starts_stmt b = b == 118 || (b == 119 || b == 97)

-- n bounds the number of statements
unfoldable pub body_at : ℕ → List ℕ → List CStmt × List ℕ
body_at zero bytes = ([], bytes)
body_at (suc n) bytes = if starts_stmt (head bytes)
    then (let s = stmt_at bytes in with_value (λ body. s.0 ∷ body) (body_at n s.1))
    else ([], bytes)

-- ---- functions

-- after `, u`: an array, a parameter or the place of a sum, as the bytes say and the limits allow
abbrev pub is_array : Counts → List ℕ → Bool
is_array c bytes = head bytes == 110 && (nat_lt c.arrays 12 && (c.params == 0 && c.accs == 0))

abbrev pub is_param : Counts → List ℕ → Bool
is_param c bytes = head (drop 8 bytes) == 112 && (nat_lt c.params 8 && c.accs == 0)

-- one part of the list of parameters more, and the bytes after it
unfoldable pub next_at : Counts → List ℕ → Option (Counts × List ℕ)
next_at c bytes =
    if not (head bytes == 44) then None
    else (if is_array c (drop 3 bytes) then Some (record c { arrays = c.arrays + 1 }, drop (length (line_text line.Array c.arrays)) bytes)
    else (if is_param c (drop 3 bytes) then Some (record c { params = c.params + 1 }, drop (length (line_text line.Param c.params)) bytes)
    else (if nat_lt c.accs 4 then Some (record c { accs = c.accs + 1 }, drop (length (line_text line.Pointer c.accs)) bytes)
    else None)))

abbrev pub or_more : (Counts → List ℕ → Counts × List ℕ) → Counts → List ℕ → Option (Counts × List ℕ) → Counts × List ℕ
or_more more c bytes None = (c, bytes)
or_more more c bytes (Some x) = more x.0 x.1

-- at most n parts more
unfoldable pub counts_at : ℕ → Counts → List ℕ → Counts × List ℕ
counts_at zero c bytes = (c, bytes)
counts_at (suc n) c bytes = or_more (counts_at n) c bytes (next_at c bytes)

abbrev pub no_counts : Counts
no_counts = record { arrays = 0; params = 0; accs = 0 }

-- whether a declaration of a `v` stands here; with accumulators another declaration follows
abbrev pub is_temp : ℕ → List ℕ → Bool
is_temp accs bytes = if accs == 0 then head bytes == 117 else head (drop 9 bytes) == 118

-- how many of them there are, from number k on, with room for n more
unfoldable pub temps_at : ℕ → ℕ → ℕ → List ℕ → ℕ × List ℕ
temps_at accs k zero bytes = (k, bytes)
temps_at accs k (suc n) bytes = if is_temp accs bytes then temps_at accs (k + 1) n (drop (length (line_text line.Temp k)) bytes) else (k, bytes)

-- past n parts that are known, from number k on
unfoldable pub past : (ℕ → List ℕ) → ℕ → ℕ → List ℕ → List ℕ
past part k zero bytes = bytes
past part k (suc n) bytes = past part (k + 1) n (drop (length (part k)) bytes)

-- a function with at most n statements
unfoldable pub function_at : ℕ → List ℕ → CFunctionValue × List ℕ
function_at n bytes =
    let name = name_at (drop 9 bytes) in
    let counts = counts_at 24 no_counts (drop 21 name.1) in
    let accs = counts.0.accs in
    let temps = temps_at accs 0 256 (drop 26 counts.1) in
    let loops = past (line_text line.Start) 0 accs (past (line_text line.Sum) 0 accs temps.1) in
    let rows = drop 16 loops in
    let body = body_at n (drop 36 rows) in (
      record { name = name.0; arrays = counts.0.arrays; params = counts.0.params; accs = accs; temps = temps.0; two_d = head rows == 109; body = body.0 },
      drop 2 (past (line_text line.Store) 0 accs (drop 4 body.1)),
    )

-- at most n functions, each with at most m statements
unfoldable pub functions_at : ℕ → ℕ → List ℕ → List CFunctionValue × List ℕ
functions_at m zero bytes = ([], bytes)
functions_at m (suc n) [] = ([], [])
functions_at m (suc n) (b ∷ bytes) = let f = function_at m (b ∷ bytes) in with_value (λ fs. f.0 ∷ fs) (functions_at m n f.1)

-- the functions of a text, behind its first line; there are no more functions, nor statements, than bytes
abbrev pub tree_at : List ℕ → List CFunctionValue
tree_at bytes = (functions_at (length bytes) (length bytes) (drop 20 bytes)).0
