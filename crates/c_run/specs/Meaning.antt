-- What a function of C does (C11, 6.2.5, 6.3.1, 6.5 and 6.8, narrowed). Numbers are exact. None is an evaluation without a meaning.
use Rattle.std.specs.Prelude.{ℕ, zero, suc, ◌+◌, ◌-◌, ◌*◌, ◌/◌, ◌%◌, ◌^◌, ◌==◌, nat_lt, Bool, List, [], ◌∷◌, ◌++◌, Option, Some, None, is_some, Result, Ok, Err, if◌then◌else◌, slice_get, bit_and, bit_or, bit_xor, ℤ, pos, negsuc, ◌+ℤ◌, ◌*ℤ◌}
use Rattle.orc_bits.specs.Memory.{Memory, bind, put}
use Rattle.orc_bits.specs.Lanes.{change}
use Rattle.orc_program.specs.declared.call.Call.{Call}
use Rattle.orc_program.specs.declared.call.Place.{Place}
use Rattle.c_run.specs.declared.tree.COp.{COp}
use Rattle.c_run.specs.declared.tree.COp.TheVariants as op
use Rattle.c_run.specs.declared.tree.CCmp.{CCmp}
use Rattle.c_run.specs.declared.tree.CCmp.TheVariants as cmp
use Rattle.c_run.specs.declared.tree.CIndex.{CIndex}
use Rattle.c_run.specs.declared.tree.CExpr.{CExpr, fold-CExpr}
use Rattle.c_run.specs.declared.tree.CExpr.TheOpen.{CExpr-F}
use Rattle.c_run.specs.declared.tree.CStmt.{CStmt}
use Rattle.c_run.specs.declared.tree.CStmt.TheVariants as stmt
use Rattle.c_run.specs.Tree.{CFunctionValue}

-- ---- the state

-- The memory; the value of each v and w, where it was set in this call; the numbers stored to the g pointers so far; the statements done so far.
pub record CState : Type 0 where
  pub memory : Memory
  pub v : ℕ → Option ℕ
  pub w : ℕ → Option ℕ
  pub g : List ℕ
  pub done : ℕ

-- the turns of the loops that are under way: j, the row, and i, the element
pub record Turn : Type 0 where
  pub row : ℕ
  pub element : ℕ

-- ---- operators on uint64_t

-- Modulo 2 ^ 64 (6.2.5, paragraph 9). A division by 0 (6.5.5, paragraph 5) and a shift by the width or more (6.5.7, paragraph 3) have no meaning.
abbrev pub operate : COp → ℕ → ℕ → Option ℕ
operate op.Add x y = Some ((x + y) % 2 ^ 64)
operate op.Sub x y = Some ((x + (2 ^ 64 - y)) % 2 ^ 64)
operate op.Mul x y = Some (x * y % 2 ^ 64)
operate op.Div x y = if y == 0 then None else Some (x / y)
operate op.And x y = Some (bit_and x y)
operate op.Or x y = Some (bit_or x y)
operate op.Xor x y = Some (bit_xor x y)
operate op.Shl x y = if nat_lt y 64 then Some (x * 2 ^ y % 2 ^ 64) else None
operate op.Shr x y = if nat_lt y 64 then Some (x / 2 ^ y) else None

-- 1 where it holds, and 0 where it doesn't (6.5.8 and 6.5.9)
abbrev pub compare : CCmp → ℕ → ℕ → ℕ
compare cmp.Less x y = if nat_lt x y then 1 else 0
compare cmp.Equal x y = if x == y then 1 else 0

-- ---- bytes of arrays

-- an integer as an int64_t; one that overflows has no meaning (6.5, paragraph 5)
abbrev pub int64 : ℤ → Option ℤ
int64 (pos n) = if nat_lt n (2 ^ 63) then Some (pos n) else None
int64 (negsuc n) = if nat_lt n (2 ^ 63) then Some (negsuc n) else None

-- an integer as an address, of which there are none below 0 and from 2 ^ 64 on
abbrev pub address : ℤ → Option ℕ
address (pos a) = if nat_lt a (2 ^ 64) then Some a else None
address (negsuc n) = None

-- (j * sD) + (i * SIZE) + K, from the left
abbrev pub index_by : Turn → CIndex → Place → Option ℤ
index_by t x p =
    bind (int64 (pos t.row *ℤ p.stride)) (λ row.
    bind (int64 (pos t.element *ℤ pos x.size)) (λ element.
    bind (int64 (row +ℤ element)) (λ sum. int64 (sum +ℤ pos x.offset))))

abbrev pub index : Call → Turn → CIndex → Option ℤ
index call t x = bind (slice_get call.arrays.items x.stride) (index_by t x)

-- the address of aD[x]: array D's base plus x
abbrev pub byte_address : Call → Turn → ℕ → CIndex → Option ℕ
byte_address call t d x = bind (slice_get call.arrays.items d) (λ p. bind (index call t x) (λ z. address (pos p.base +ℤ z)))

-- ---- expressions

-- The value of an expression whose parts have these values. A choice takes the second part where the first isn't 0, and else the third; the other one is not evaluated (6.5.15, paragraph 4).
abbrev pub value_at : Call → Turn → CState → CExpr-F (Option ℕ) → Option ℕ
value_at call t s (CExpr-F.Number n) = Some n
value_at call t s (CExpr-F.V d) = s.v d
value_at call t s (CExpr-F.W d) = s.w d
value_at call t s (CExpr-F.P d) = slice_get call.params.items d
value_at call t s (CExpr-F.Byte d x) = bind (byte_address call t d x) s.memory
value_at call t s (CExpr-F.Two o a b) = bind a (λ x. bind b (operate o x))
value_at call t s (CExpr-F.Test c a b) = bind a (λ x. bind b (λ y. Some (compare c x y)))
value_at call t s (CExpr-F.Choose c a b) = bind c (λ x. if x == 0 then b else a)

abbrev pub value : Call → Turn → CState → CExpr → Option ℕ
value call t s = fold-CExpr (Option ℕ) (value_at call t s)

-- ---- statements

-- a variable that isn't declared can't be set
abbrev pub set_if : Bool → CState → Option CState
set_if declared s = if declared then Some s else None

-- the memory with a byte that was mapped changed
abbrev pub put_byte : Memory → ℕ → ℕ → Option Memory
put_byte mem a b = if is_some (mem a) then Some (put mem a b) else None

-- what an assignment does, before it is counted
abbrev pub assign : CFunctionValue → Call → Turn → CStmt → CState → Option CState
assign f call t (stmt.SetV d e) s = bind (value call t s e) (λ x. set_if (nat_lt d f.temps) (record s { v = change s.v d (Some x) }))
assign f call t (stmt.SetW d e) s = bind (value call t s e) (λ x. set_if (nat_lt d f.accs) (record s { w = change s.w d (Some x) }))
assign f call t (stmt.SetByte d x e) s =
    bind (value call t s e) (λ b.
    bind (byte_address call t d x) (λ a.
    bind (put_byte s.memory a (b % 256)) (λ mem. Some (record s { memory = mem }))))

-- ---- counting

-- Why a call doesn't end: a statement, counted from 0, without a meaning; or one more statement than the budget has. With the memory as it is then.
pub data Stop : Type 0 where
  NoMeaning : ℕ → Memory → Stop
  Budget : Memory → Stop

-- goes on where nothing has stopped
abbrev pub go_on : {A : Type 0} → Result CState Stop → (CState → Result A Stop) → Result A Stop
go_on (Ok s) go = go s
go_on (Err e) go = Err e

-- the state after a statement, which is counted
abbrev pub counted : CState → Option CState → Result CState Stop
counted s None = Err (NoMeaning s.done s.memory)
counted s (Some t) = Ok (record t { done = s.done + 1 })

-- a statement that is counted, where the budget has one left
abbrev pub count : ℕ → (CState → Option CState) → CState → Result CState Stop
count budget go s = if nat_lt s.done budget then counted s (go s) else Err (Budget s.memory)

-- a turn of a loop is counted when it begins
abbrev pub begin_turn : ℕ → CState → Result CState Stop
begin_turn budget s = count budget Some s

-- ---- the whole

-- the statements of the body, in order
abbrev pub body_of : CFunctionValue → Call → ℕ → Turn → List CStmt → CState → Result CState Stop
body_of f call budget t [] s = Ok s
body_of f call budget t (x ∷ xs) s = go_on (count budget (assign f call t x) s) (body_of f call budget t xs)

-- what is done for k from 0 up to n, without n, in that order
abbrev pub times : ℕ → (ℕ → CState → Result CState Stop) → CState → Result CState Stop
times zero go s = Ok s
times (suc n) go s = go_on (times n go s) (go n)

-- turn i of the loop over elements, in row j
abbrev pub element : CFunctionValue → Call → ℕ → ℕ → ℕ → CState → Result CState Stop
element f call budget j i s = go_on (begin_turn budget s) (body_of f call budget (record { row = j; element = i }) f.body)

-- turn j of the loop over rows
abbrev pub row : CFunctionValue → Call → ℕ → ℕ → CState → Result CState Stop
row f call budget j s = go_on (begin_turn budget s) (times call.n (element f call budget j))

-- the line that sets sum k to 0
abbrev pub clear : ℕ → ℕ → CState → Result CState Stop
clear budget k s = count budget (λ s. Some (record s { w = change s.w k (Some 0) })) s

-- the line that stores sum k
abbrev pub finish : ℕ → ℕ → CState → Result CState Stop
finish budget k s = count budget (λ s. bind (s.w k) (λ x. Some (record s { g = s.g ++ x ∷ [] }))) s

-- the turns of the loop over rows
abbrev pub rows : CFunctionValue → Call → ℕ
rows f call = if f.two_d then call.m else 1

-- before the first statement nothing is set
abbrev pub start : Memory → CState
start mem = record { memory = mem; v = λ d. None; w = λ d. None; g = []; done = 0 }

abbrev pub run_from : CFunctionValue → Call → ℕ → CState → Result CState Stop
run_from f call budget s =
    go_on (times f.accs (clear budget) s) (λ s.
    go_on (times (rows f call) (row f call budget) s) (times f.accs (finish budget)))

-- How a call ended: the memory, the sums and the number of statements.
pub record Ended : Type 0 where
  pub memory : Memory
  pub sums : List ℕ
  pub statements : ℕ

abbrev pub ended : CState → Result Ended Stop
ended s = Ok (record { memory = s.memory; sums = s.g; statements = s.done })

-- The meaning of a call within a budget of statements.
abbrev pub meaning : CFunctionValue → Call → Memory → ℕ → Result Ended Stop
meaning f call mem budget = go_on (run_from f call budget (start mem)) ended
