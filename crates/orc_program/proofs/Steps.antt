-- What one more element, one more row and one instruction do.
use Rattle.std.proofs.Common.{◌≡◌, ◌≢◌, ℕ, zero, suc, ◌+◌, ◌*◌, ◌%◌, ◌^◌, ◌<◌, ◌≤◌, arith, List, [], ◌∷◌, Option, Some, None, Result, Ok, Err, refl, sym, ap, ◌∙◌, subst}
use Rattle.orc_bits.specs.Memory.{Memory, store, fill}
use Rattle.orc_bits.specs.Lanes.{byte_of, change}
use Rattle.orc_bits.proofs.Memories.{fill_other, store_fills}
use Rattle.orc_ops.specs.declared.far.Far.{Far}
use Rattle.orc_ops.specs.Far.{far_of}
use Rattle.orc_program.specs.declared.program.VarKind.{VarKind}
use Rattle.orc_program.specs.declared.program.VarKind.TheVariants as kind
use Rattle.orc_program.specs.declared.program.Operand.{Operand}
use Rattle.orc_program.specs.declared.program.Operand.TheVariants as operand
use Rattle.orc_program.specs.declared.program.Insn.{Insn}
use Rattle.orc_program.specs.declared.call.Call.{Call}
use Rattle.orc_program.specs.Program.{FunctionValue, var_at, far_array}
use Rattle.orc_program.specs.Meaning.{State, Gap, go_on, or_gap, cell, gap_at, lanewise, read_sources, write_cell, write_var, write_result, write_results, load_far, reach_of, act, act_as, element, row_of, rows_of, rows, start, sums_of, ended, emulate}
use Rattle.orc_program.specs.Good.{byte_at}

-- ---- one more

pub row_more : (f : FunctionValue) (call : Call) (r n : ℕ) (s : State) → row_of f call r (suc n) s ≡ go_on (row_of f call r n s) (element f call r n f.insns)
row_more f call r n s = refl

pub rows_more : (f : FunctionValue) (call : Call) (m : ℕ) (s : State) → rows_of f call (suc m) s ≡ go_on (rows_of f call m s) (row_of f call m call.n)
rows_more f call m s = refl

-- ---- going on

abbrev IsGap : {A : Type 0} → Result A Gap → Type 0
IsGap (Ok x) = ⊥
IsGap (Err g) = Unit {0}

pub gap_ok : {A : Type 0} {g : Gap} {x : A} → Err g ≡ Ok x → ⊥
gap_ok e = subst IsGap e tt

abbrev ok_or : {A : Type 0} → A → Result A Gap → A
ok_or d (Ok x) = x
ok_or d (Err g) = d

abbrev okay : {A : Type 0} → A → Result A Gap
okay x = Ok x

pub ok_same : {A : Type 0} (x y : A) → okay x ≡ okay y → x ≡ y
ok_same x y e = ap (ok_or x) e

pub go_on_ok : {A B : Type 0} (x : Result A Gap) (go : A → Result B Gap) (y : B) → go_on x go ≡ Ok y → (z : A) × (x ≡ Ok z) × (go z ≡ Ok y)
go_on_ok (Ok z) go y e = (z, refl, e)
go_on_ok (Err g) go y e = absurd (gap_ok e)

pub or_gap_ok : {A : Type 0} (x : Option A) (g : Gap) (y : A) → or_gap x g ≡ Ok y → x ≡ Some y
or_gap_ok (Some z) g y e = ap Some (ok_same z y e)
or_gap_ok None g y e = absurd (gap_ok e)

-- ---- an instruction touches only cells of dests, at its row and element

-- an address is in the cell of some dest
abbrev pub IsOutside : FunctionValue → Call → ℕ → ℕ → ℕ → Type 0
IsOutside f call r i a = (p j : ℕ) → (var_at f.vars p).kind ≡ kind.Dest → j < (var_at f.vars p).size → a ≢ byte_at f call p r i j

module _ (f : FunctionValue) (call : Call) (r i a : ℕ) (out : IsOutside f call r i a) where
  write_cell_keeps : (p v : ℕ) (s : State) (mem : Memory) → (var_at f.vars p).kind ≡ kind.Dest → write_cell f call r i p v s ≡ Ok mem → mem a ≡ s.memory a
  write_cell_keeps p v s mem k e =
      let size = (var_at f.vars p).size in
      let at = cell f call p r i in
      let filled : fill size s.memory at (byte_of size v) ≡ mem = store_fills size s.memory at (byte_of size v) mem (or_gap_ok (store size s.memory at (byte_of size v)) (gap_at f call r i p s) mem e) in
      ap (λ (m : Memory). m a) (sym filled) ∙ fill_other size s.memory at (byte_of size v) a (λ j l. out p j k l)

  write_var_keeps : (p v : ℕ) (s t : State) (k : VarKind) → (var_at f.vars p).kind ≡ k → write_var f call r i v s p k ≡ Ok t → t.memory a ≡ s.memory a
  write_var_keeps p v s t kind.Dest h e =
      let x = go_on_ok (write_cell f call r i p v s) (λ mem. Ok (record s { memory = mem })) t e in
      ap (λ (u : State). u.memory a) (sym (ok_same (record s { memory = x.0 }) t x.2)) ∙ write_cell_keeps p v s x.0 h x.1
  write_var_keeps p v s t kind.Temp h e = ap (λ (u : State). u.memory a) (sym (ok_same (record s { temps = change s.temps p v }) t e))
  write_var_keeps p v s t kind.Accumulator h e = ap (λ (u : State). u.memory a) (sym (ok_same (record s { sums = change s.sums p ((s.sums p + v) % 2 ^ (8 * (var_at f.vars p).size)) }) t e))
  write_var_keeps p v s t kind.Source h e = ap (λ (u : State). u.memory a) (sym (ok_same s t e))
  write_var_keeps p v s t kind.Param h e = ap (λ (u : State). u.memory a) (sym (ok_same s t e))
  write_var_keeps p v s t kind.Const h e = ap (λ (u : State). u.memory a) (sym (ok_same s t e))

  write_result_keeps : (v : ℕ) (s t : State) (o : Operand) → write_result f call r i v s o ≡ Ok t → t.memory a ≡ s.memory a
  write_result_keeps v s t (operand.Var p) e = write_var_keeps p v s t (var_at f.vars p).kind refl e
  write_result_keeps v s t (operand.Number n) e = ap (λ (u : State). u.memory a) (sym (ok_same s t e))

  write_results_keep : (v : ℕ × ℕ) (s t : State) (os : List Operand) → write_results f call r i v s os ≡ Ok t → t.memory a ≡ s.memory a
  write_results_keep v s t [] e = ap (λ (u : State). u.memory a) (sym (ok_same s t e))
  write_results_keep v s t (x ∷ []) e = write_result_keeps v.0 s t x e
  write_results_keep v s t (x ∷ y ∷ more) e =
      let u = go_on_ok (write_result f call r i v.0 s x) (λ t. write_result f call r i v.1 t y) t e in
      write_result_keeps v.1 u.0 t y u.2 ∙ write_result_keeps v.0 s u.0 x u.1

  act_as_keeps : (insn : Insn) (s t : State) (o : Option Far) → act_as f call r i insn s o ≡ Ok t → t.memory a ≡ s.memory a
  act_as_keeps insn s t None e =
      let x = go_on_ok (read_sources f call r i insn.op s insn.sources.items) (λ x. write_results f call r i (lanewise insn.op insn.prefix x.0 x.1) s insn.results.items) t e in
      write_results_keep (lanewise insn.op insn.prefix x.0.0 x.0.1) s t insn.results.items x.2
  act_as_keeps insn s t (Some far) e =
      let x = go_on_ok (load_far f call r i far (reach_of f call far insn.sources.items i) s (far_array f.vars insn.sources.items)) (λ v. write_results f call r i (v, 0) s insn.results.items) t e in
      write_results_keep (x.0, 0) s t insn.results.items x.2

  pub act_keeps : (insn : Insn) (s t : State) → act f call r i insn s ≡ Ok t → t.memory a ≡ s.memory a
  unfolding act
  act_keeps insn s t e = act_as_keeps insn s t (far_of insn.op) e

  pub element_keeps : (insns : List Insn) (s t : State) → element f call r i insns s ≡ Ok t → t.memory a ≡ s.memory a
  element_keeps [] s t e = ap (λ (u : State). u.memory a) (sym (ok_same s t e))
  element_keeps (insn ∷ insns) s t e =
      let u = go_on_ok (act f call r i insn s) (element f call r i insns) t e in
      element_keeps insns u.0 t u.2 ∙ act_keeps insn s u.0 u.1

-- ---- a whole call changes no byte outside the cells of dests

module _ (f : FunctionValue) (call : Call) (a : ℕ) (out : (r i : ℕ) → r < rows f call → i < call.n → IsOutside f call r i a) where
  pub row_keeps : (r : ℕ) → r < rows f call → (n : ℕ) → n ≤ call.n → (s t : State) → row_of f call r n s ≡ Ok t → t.memory a ≡ s.memory a
  row_keeps r row zero l s t e = ap (λ (u : State). u.memory a) (sym (ok_same s t e))
  row_keeps r row (suc n) l s t e =
      let u = go_on_ok (row_of f call r n s) (element f call r n f.insns) t e in
      element_keeps f call r n a (out r n row (omega (arith, l))) f.insns u.0 t u.2 ∙ row_keeps r row n (omega (arith, l)) s u.0 u.1

  pub rows_keep : (m : ℕ) → m ≤ rows f call → (s t : State) → rows_of f call m s ≡ Ok t → t.memory a ≡ s.memory a
  rows_keep zero l s t e = ap (λ (u : State). u.memory a) (sym (ok_same s t e))
  rows_keep (suc m) l s t e =
      let u = go_on_ok (rows_of f call m s) (row_of f call m call.n) t e in
      row_keeps m (omega (arith, l)) call.n (omega arith) u.0 t u.2 ∙ rows_keep m (omega (arith, l)) s u.0 u.1

  pub emulate_keeps : (mem : Memory) (end : Memory × List ℕ) → emulate f call mem ≡ Ok end → end.0 a ≡ mem a
  emulate_keeps mem end e =
      let u = go_on_ok (rows_of f call (rows f call) (start mem)) (ended f) end e in
      ap (λ (x : Memory × List ℕ). x.0 a) (sym (ok_same (u.0.memory, sums_of f u.0) end u.2)) ∙ rows_keep (rows f call) (omega arith) (start mem) u.0 u.1
