-- The one text of a C tree.
use Rattle.std.specs.Prelude.{ℕ, zero, suc, ◌+◌, Bool, true, false, List, [], ◌∷◌, ◌++◌, codes}
use Rattle.std.specs.Fmt.{decimal}
use Rattle.c_run.specs.declared.tree.COp.{COp}
use Rattle.c_run.specs.declared.tree.COp.TheVariants as op
use Rattle.c_run.specs.declared.tree.CCmp.{CCmp}
use Rattle.c_run.specs.declared.tree.CCmp.TheVariants as cmp
use Rattle.c_run.specs.declared.tree.CIndex.{CIndex}
use Rattle.c_run.specs.declared.tree.CExpr.{CExpr, fold-CExpr}
use Rattle.c_run.specs.declared.tree.CExpr.TheOpen.{CExpr-F}
use Rattle.c_run.specs.declared.tree.CStmt.{CStmt}
use Rattle.c_run.specs.declared.tree.CStmt.TheVariants.{SetV, SetW, SetByte}
use Rattle.c_run.specs.declared.tree.CTree.{CTree}
use Rattle.c_run.specs.Tree.{CFunctionValue}
use Rattle.c_emit.specs.declared.lines.Line.{Line}
use Rattle.c_emit.specs.declared.lines.Line.TheVariants as line

-- ---- expressions

abbrev pub op_text : COp → List ℕ
op_text op.Add = codes "+"
op_text op.Sub = codes "-"
op_text op.Mul = codes "*"
op_text op.Div = codes "/"
op_text op.And = codes "&"
op_text op.Or = codes "|"
op_text op.Xor = codes "^"
op_text op.Shl = codes "<<"
op_text op.Shr = codes ">>"

abbrev pub cmp_text : CCmp → List ℕ
cmp_text cmp.Less = codes "<"
cmp_text cmp.Equal = codes "=="

-- (j * sD) + (i * SIZE) + K
abbrev pub index_text : CIndex → List ℕ
index_text x = codes "(j * s" ++ (decimal x.stride ++ (codes ") + (i * " ++ (decimal x.size ++ (codes ") + " ++ decimal x.offset))))

-- aD[x]
abbrev pub byte_text : ℕ → CIndex → List ℕ
byte_text d x = codes "a" ++ (decimal d ++ (codes "[" ++ (index_text x ++ codes "]")))

-- (uint64_t)Dull
abbrev pub number_text : ℕ → List ℕ
number_text n = codes "(uint64_t)" ++ (decimal n ++ codes "ull")

-- one level of an expression, with the texts of its parts in their places
abbrev pub expr_text_at : CExpr-F (List ℕ) → List ℕ
expr_text_at (CExpr-F.Number n) = number_text n
expr_text_at (CExpr-F.V d) = codes "v" ++ decimal d
expr_text_at (CExpr-F.W d) = codes "w" ++ decimal d
expr_text_at (CExpr-F.P d) = codes "p" ++ decimal d
expr_text_at (CExpr-F.Byte d x) = codes "(uint64_t)" ++ byte_text d x
expr_text_at (CExpr-F.Two op a b) = codes "(" ++ (a ++ (codes " " ++ (op_text op ++ (codes " " ++ (b ++ codes ")")))))
expr_text_at (CExpr-F.Test cmp a b) = codes "(uint64_t)(" ++ (a ++ (codes " " ++ (cmp_text cmp ++ (codes " " ++ (b ++ codes ")")))))
expr_text_at (CExpr-F.Choose c a b) = codes "(" ++ (c ++ (codes " ? " ++ (a ++ (codes " : " ++ (b ++ codes ")")))))

abbrev pub expr_text : CExpr → List ℕ
expr_text = fold-CExpr (List ℕ) expr_text_at

-- ---- statements

abbrev pub stmt_text : CStmt → List ℕ
stmt_text (SetV d e) = codes "v" ++ (decimal d ++ (codes " = " ++ (expr_text e ++ codes ";\n")))
stmt_text (SetW d e) = codes "w" ++ (decimal d ++ (codes " = " ++ (expr_text e ++ codes ";\n")))
stmt_text (SetByte d x e) = byte_text d x ++ (codes " = (unsigned char)(" ++ (expr_text e ++ codes " & 255ull);\n"))

abbrev pub body_text : List CStmt → List ℕ
body_text [] = []
body_text (s ∷ body) = stmt_text s ++ body_text body

-- ---- functions

-- one part that is there once for each number
abbrev pub line_text : Line → ℕ → List ℕ
line_text line.Array k = codes ", unsigned char *a" ++ (decimal k ++ (codes ", int64_t s" ++ decimal k))
line_text line.Param k = codes ", uint64_t p" ++ decimal k
line_text line.Pointer k = codes ", uint64_t *g" ++ decimal k
line_text line.Temp k = codes "uint64_t v" ++ (decimal k ++ codes ";\n")
line_text line.Sum k = codes "uint64_t w" ++ (decimal k ++ codes ";\n")
line_text line.Start k = codes "w" ++ (decimal k ++ codes " = 0ull;\n")
line_text line.Store k = codes "*g" ++ (decimal k ++ (codes " = w" ++ (decimal k ++ codes ";\n")))

-- n parts, from number k on
abbrev pub numbered : (ℕ → List ℕ) → ℕ → ℕ → List ℕ
numbered part k zero = []
numbered part k (suc n) = part k ++ numbered part (k + 1) n

-- the function's name and parameters
abbrev pub signature_text : List ℕ → ℕ → ℕ → ℕ → List ℕ
signature_text name arrays params accs = codes "void orc_" ++ (name ++ (codes "(int64_t n, int64_t m"
    ++ (numbered (line_text line.Array) 0 arrays
    ++ (numbered (line_text line.Param) 0 params
    ++ (numbered (line_text line.Pointer) 0 accs ++ codes ")\n")))))

-- the variables, and the first values of the sums
abbrev pub declarations_text : ℕ → ℕ → List ℕ
declarations_text temps accs = codes "{\nint64_t i;\nint64_t j;\n"
    ++ (numbered (line_text line.Temp) 0 temps
    ++ (numbered (line_text line.Sum) 0 accs ++ numbered (line_text line.Start) 0 accs))

-- the heads of the loops: over m rows, or over one
abbrev pub loops_text : Bool → List ℕ
loops_text true = codes "for (j = 0; j < m; j++) {\nfor (i = 0; i < n; i++) {\n"
loops_text false = codes "for (j = 0; j < 1; j++) {\nfor (i = 0; i < n; i++) {\n"

-- the ends of the loops, the sums stored, and the function's end
abbrev pub ends_text : ℕ → List ℕ
ends_text accs = codes "}\n}\n" ++ (numbered (line_text line.Store) 0 accs ++ codes "}\n")

unfoldable pub function_text : CFunctionValue → List ℕ
function_text f = signature_text f.name f.arrays f.params f.accs ++ (declarations_text f.temps f.accs ++ (loops_text f.two_d ++ (body_text f.body ++ ends_text f.accs)))

abbrev pub functions_text : List CFunctionValue → List ℕ
functions_text [] = []
functions_text (f ∷ fs) = function_text f ++ functions_text fs

abbrev pub header_text : List ℕ
header_text = codes "#include <stdint.h>\n"

-- the text of a tree
abbrev pub c_text : CTree → List ℕ
c_text t = header_text ++ functions_text t.functions
