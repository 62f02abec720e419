-- The statements that stand for the instructions of a function.
use Rattle.std.specs.Prelude.{ℕ, zero, suc, ◌+◌, ◌-◌, ◌*◌, ◌%◌, ◌^◌, ◌==◌, ◌&&◌, ◌||◌, Bool, nat_le, max, List, [], ◌∷◌, ◌++◌, Option, Some, None, if◌then◌else◌}
use Rattle.orc_ops.specs.declared.opcode.Op.{Op}
use Rattle.orc_ops.specs.Table.{row, wide, to, size_of_result, size_of_source}
use Rattle.orc_program.specs.declared.program.Var.{Var}
use Rattle.orc_program.specs.declared.program.VarKind.{VarKind}
use Rattle.orc_program.specs.declared.program.VarKind.TheVariants as kind
use Rattle.orc_program.specs.declared.program.Operand.{Operand}
use Rattle.orc_program.specs.declared.program.Operand.TheVariants as operand
use Rattle.orc_program.specs.declared.program.Insn.{Insn}
use Rattle.orc_program.specs.Program.{FunctionValue, var_at, count_of, count_before, array_count, array_number}
use Rattle.c_run.specs.declared.tree.COp.TheVariants.{Add}
use Rattle.c_run.specs.declared.tree.CIndex.{CIndex}
use Rattle.c_run.specs.declared.tree.CExpr.{CExpr}
use Rattle.c_run.specs.declared.tree.CExpr.TheVariants.{Number, V, W, P, Byte, Two}
use Rattle.c_run.specs.declared.tree.CStmt.{CStmt}
use Rattle.c_run.specs.declared.tree.CStmt.TheVariants.{SetV, SetW, SetByte}
use Rattle.c_run.specs.Tree.{CFunctionValue}
use Rattle.c_emit.specs.Expressions.{low, up, moved, part, variable_of, has_sum, is_copy, is_low, sum, from_sum, first}

-- ---- variables: one for each temp, and behind them those of an instruction: the cells of its sources, its sums, and a result

abbrev pub temp_of : List Var → ℕ → ℕ
temp_of vars p = count_before kind.Temp vars p

-- the first variable behind those of the temps
abbrev pub first_free : List Var → ℕ
first_free vars = count_of kind.Temp vars

-- how many variables the cell of a source takes
abbrev pub cells_of_kind : VarKind → ℕ
cells_of_kind kind.Source = 1
cells_of_kind kind.Dest = 1
cells_of_kind k = 0

abbrev pub cells : List Var → Operand → ℕ
cells vars (operand.Var p) = cells_of_kind (var_at vars p).kind
cells vars (operand.Number n) = 0

abbrev pub all_cells : List Var → List Operand → ℕ
all_cells vars [] = 0
all_cells vars (x ∷ []) = cells vars x
all_cells vars (x ∷ y ∷ more) = cells vars x + cells vars y

-- ---- cells

-- byte j of the cell of the array at place p
abbrev pub index_of : List Var → ℕ → ℕ → CIndex
index_of vars p j = record { stride = array_number vars p; size = (var_at vars p).size; offset = j }

abbrev pub byte_of : List Var → ℕ → ℕ → CExpr
byte_of vars p j = Byte (array_number vars p) (index_of vars p j)

-- the number in the bytes from byte j on, n of them and one more
abbrev pub bytes_of : List Var → ℕ → ℕ → ℕ → CExpr
bytes_of vars p j zero = byte_of vars p j
bytes_of vars p j (suc n) = Two Add (byte_of vars p j) (up (bytes_of vars p (j + 1) n) 8)

-- byte j of a variable goes to byte j of a cell, for j below n
abbrev pub stores : List Var → ℕ → ℕ → ℕ → List CStmt
stores vars p d zero = []
stores vars p d (suc n) = stores vars p d n ++ SetByte (array_number vars p) (index_of vars p n) (moved (V d) (8 * n)) ∷ []

-- ---- sources

-- the cell of a source that is an array goes to a variable
abbrev pub reads_var : List Var → ℕ → ℕ → VarKind → List CStmt
reads_var vars d p kind.Source = SetV d (bytes_of vars p 0 ((var_at vars p).size - 1)) ∷ []
reads_var vars d p kind.Dest = SetV d (bytes_of vars p 0 ((var_at vars p).size - 1)) ∷ []
reads_var vars d p k = []

abbrev pub reads_one : List Var → ℕ → Operand → List CStmt
reads_one vars d (operand.Var p) = reads_var vars d p (var_at vars p).kind
reads_one vars d (operand.Number n) = []

-- from the left, from variable d on
abbrev pub reads : List Var → ℕ → List Operand → List CStmt
reads vars d [] = []
reads vars d (x ∷ []) = reads_one vars d x
reads vars d (x ∷ y ∷ more) = reads_one vars d x ++ reads_one vars (d + cells vars x) y

-- What a source gives, where its cell is in variable d: t bits from bit b on. A number that is the same for all sub-lanes has its lowest bits.
abbrev pub bits_of_var : List Var → ℕ → ℕ → ℕ → ℕ → VarKind → CExpr
bits_of_var vars b t d p kind.Source = part (var_at vars p).size b t (V d)
bits_of_var vars b t d p kind.Dest = part (var_at vars p).size b t (V d)
bits_of_var vars b t d p kind.Temp = part (var_at vars p).size b t (V (temp_of vars p))
bits_of_var vars b t d p kind.Param = low t (P (count_before kind.Param vars p))
bits_of_var vars b t d p kind.Const = Number ((var_at vars p).number % 2 ^ t)
bits_of_var vars b t d p kind.Accumulator = Number 0

abbrev pub bits_of : List Var → ℕ → ℕ → ℕ → Operand → CExpr
bits_of vars b t d (operand.Var p) = bits_of_var vars b t d p (var_at vars p).kind
bits_of vars b t d (operand.Number n) = Number (n % 2 ^ t)

-- the two sources of sub-lane q, where the cells are in the variables from d on; a source that isn't there is 0
abbrev pub lane_first : List Var → Op → ℕ → ℕ → List Operand → CExpr
lane_first vars op q d [] = Number 0
lane_first vars op q d (x ∷ more) = bits_of vars (wide op * q) (wide op) d x

abbrev pub lane_second : List Var → Op → ℕ → ℕ → List Operand → CExpr
lane_second vars op q d [] = Number 0
lane_second vars op q d (x ∷ []) = Number 0
lane_second vars op q d (x ∷ y ∷ more) = bits_of vars (8 * size_of_source op 1 * q) (8 * size_of_source op 1) (d + cells vars x) y

-- the lowest bits of the first one, as many as a result has
abbrev pub lane_low : List Var → Op → ℕ → ℕ → List Operand → CExpr
lane_low vars op q d [] = Number 0
lane_low vars op q d (x ∷ more) = bits_of vars (wide op * q) (to op) d x

-- ---- results

-- the number with g q in sub-lane q of t bits, for q up to k, with k
abbrev pub packed : ℕ → ℕ → (ℕ → CExpr) → CExpr
packed t zero g = g 0
packed t (suc k) g = Two Add (packed t k g) (up (g (suc k)) (t * suc k))

-- the variables behind those of the cells: one for the sum of each sub-lane
abbrev pub sums_from : List Var → Insn → ℕ
sums_from vars insn = first_free vars + all_cells vars insn.sources.items

abbrev pub sum_count : Insn → ℕ
sum_count insn = if has_sum (row insn.op).stem then insn.prefix else 0

abbrev pub sum_at : List Var → Insn → ℕ → CExpr
sum_at vars insn q = sum (row insn.op).stem (wide insn.op) (to insn.op) (lane_first vars insn.op q (first_free vars) insn.sources.items) (lane_second vars insn.op q (first_free vars) insn.sources.items)

-- those of the sub-lanes below n
abbrev pub sums : List Var → Insn → ℕ → List CStmt
sums vars insn zero = []
sums vars insn (suc n) = sums vars insn n ++ SetV (sums_from vars insn + n) (sum_at vars insn n) ∷ []

-- the first and the second result on sub-lane q
abbrev pub first_at : List Var → Insn → ℕ → CExpr
first_at vars insn q =
    if has_sum (row insn.op).stem
    then from_sum (row insn.op).stem (wide insn.op) (to insn.op) (V (sums_from vars insn + q))
    else if is_low (row insn.op).stem
    then lane_low vars insn.op q (first_free vars) insn.sources.items
    else first (row insn.op).stem (wide insn.op) (to insn.op) (lane_first vars insn.op q (first_free vars) insn.sources.items) (lane_second vars insn.op q (first_free vars) insn.sources.items)

abbrev pub second_at : List Var → Insn → ℕ → CExpr
second_at vars insn q = lane_low vars insn.op q (first_free vars) insn.sources.items

-- of all sub-lanes
abbrev pub first_of : List Var → Insn → CExpr
first_of vars insn = packed (8 * size_of_result insn.op 0) (insn.prefix - 1) (first_at vars insn)

abbrev pub second_of : List Var → Insn → CExpr
second_of vars insn = packed (8 * size_of_result insn.op 1) (insn.prefix - 1) (second_at vars insn)

-- A number goes to the cell of an array. A variable goes there byte by byte; what is longer than a byte and is none goes to variable d before.
abbrev pub stores_by : List Var → ℕ → ℕ → CExpr → Option ℕ → List CStmt
stores_by vars d p e (Some k) = stores vars p k (var_at vars p).size
stores_by vars d p e None = if (var_at vars p).size == 1 then SetByte (array_number vars p) (index_of vars p 0) e ∷ [] else SetV d e ∷ stores vars p d (var_at vars p).size

abbrev pub writes_var : List Var → ℕ → ℕ → CExpr → VarKind → List CStmt
writes_var vars d p e kind.Dest = stores_by vars d p e (variable_of e)
writes_var vars d p e kind.Temp = SetV (temp_of vars p) e ∷ []
writes_var vars d p e kind.Accumulator = SetW (count_before kind.Accumulator vars p) (low (8 * (var_at vars p).size) (Two Add (W (count_before kind.Accumulator vars p)) e)) ∷ []
writes_var vars d p e k = []

-- an expression goes to a result operand
abbrev pub writes_one : List Var → ℕ → CExpr → Operand → List CStmt
writes_one vars d e (operand.Var p) = writes_var vars d p e (var_at vars p).kind
writes_one vars d e (operand.Number n) = []

-- The results, where variable d is free. Of two the second is computed before the first is written, and written after it.
abbrev pub writes : List Var → ℕ → Insn → List Operand → List CStmt
writes vars d insn [] = []
writes vars d insn (x ∷ []) = writes_one vars d (first_of vars insn) x
writes vars d insn (x ∷ y ∷ more) = SetV d (second_of vars insn) ∷ (writes_one vars (d + 1) (first_of vars insn) x ++ writes_one vars (d + 1) (V d) y)

-- ---- copies

-- all sub-lanes of a source together: the cell of an array, or a temp
abbrev pub whole_of_var : List Var → ℕ → VarKind → Option CExpr
whole_of_var vars p kind.Source = Some (bytes_of vars p 0 ((var_at vars p).size - 1))
whole_of_var vars p kind.Dest = Some (bytes_of vars p 0 ((var_at vars p).size - 1))
whole_of_var vars p kind.Temp = Some (V (temp_of vars p))
whole_of_var vars p k = None

abbrev pub whole_of : List Var → Operand → Option CExpr
whole_of vars (operand.Var p) = whole_of_var vars p (var_at vars p).kind
whole_of vars (operand.Number n) = None

abbrev pub whole_of_all : List Var → List Operand → Option CExpr
whole_of_all vars [] = None
whole_of_all vars (x ∷ []) = whole_of vars x
whole_of_all vars (x ∷ y ∷ more) = None

-- the result is all that the source has: no sub-lane of it is widened beside another
abbrev pub is_whole : Insn → Bool
is_whole insn = is_copy (row insn.op).stem && (wide insn.op == to insn.op || insn.prefix == 1)

-- what an instruction copies as a whole
abbrev pub copied : List Var → Insn → Option CExpr
copied vars insn = if is_whole insn then whole_of_all vars insn.sources.items else None

abbrev pub copies : List Var → CExpr → List Operand → List CStmt
copies vars e [] = []
copies vars e (x ∷ more) = writes_one vars (first_free vars) e x

-- ---- the whole

-- an instruction that is more than a copy
unfoldable pub works : List Var → Insn → List CStmt
works vars insn = reads vars (first_free vars) insn.sources.items ++ (sums vars insn (sum_count insn) ++ writes vars (sums_from vars insn + sum_count insn) insn insn.results.items)

abbrev pub copies_or_works : List Var → Insn → Option CExpr → List CStmt
copies_or_works vars insn (Some e) = copies vars e insn.results.items
copies_or_works vars insn None = works vars insn

unfoldable pub insn_body : List Var → Insn → List CStmt
insn_body vars insn = copies_or_works vars insn (copied vars insn)

abbrev pub body_of : List Var → List Insn → List CStmt
body_of vars [] = []
body_of vars (insn ∷ insns) = insn_body vars insn ++ body_of vars insns

-- the number of variables up to the last one that is set
abbrev pub set_by : CStmt → ℕ
set_by (SetV d e) = d + 1
set_by (SetW d e) = 0
set_by (SetByte d x e) = 0

abbrev pub variables_of : List CStmt → ℕ
variables_of [] = 0
variables_of (x ∷ xs) = max (set_by x) (variables_of xs)

unfoldable pub emitted : FunctionValue → CFunctionValue
emitted f = record {
  name = f.name;
  arrays = array_count f.vars;
  params = count_of kind.Param f.vars;
  accs = count_of kind.Accumulator f.vars;
  temps = variables_of (body_of f.vars f.insns);
  two_d = f.two_d;
  body = body_of f.vars f.insns;
}
