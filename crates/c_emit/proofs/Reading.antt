-- An instruction's reads and results, in C and in emulation.
use Rattle.std.proofs.Common.{◌≡◌, ◌≢◌, ℕ, zero, suc, ◌⊎◌, inl, inr, if◌then◌else◌, ◌+◌, ◌-◌, ◌*◌, ◌^◌, ◌<◌, ◌≤◌, Bool, true, false, List, [], ◌∷◌, ◌++◌, length, Option, Some, None, Result, Ok, refl, sym, ap, ◌∙◌, subst, arith, true≢false}
use Rattle.std.proofs.lemmas.Option.{slice_get-get_or}
use Rattle.std.proofs.lemmas.Bool.{cases_eq}
use Rattle.orc_bits.specs.Lanes.{change}
use Rattle.orc_bits.specs.Memory.{Memory, read, number, value}
use Rattle.orc_bits.proofs.LaneLaws.{pow256}
use Rattle.orc_bits.proofs.Memories.{Bytewide, bind_some, some_one, none_some, value_small}
use Rattle.orc_ops.specs.declared.opcode.Op.{Op}
use Rattle.orc_ops.specs.Table.{row, size_of_result, size_of_source}
use Rattle.orc_program.specs.declared.program.VarKind.{VarKind}
use Rattle.orc_program.specs.declared.program.VarKind.TheVariants as kind
use Rattle.orc_program.specs.declared.program.Operand.{Operand}
use Rattle.orc_program.specs.declared.program.Operand.TheVariants as operand
use Rattle.orc_program.specs.declared.program.Insn.{Insn}
use Rattle.orc_program.specs.declared.call.Call.{Call}
use Rattle.orc_program.specs.Program.{FunctionValue, var_at, is_array_kind, same_kind, count_before, has_far}
use Rattle.orc_program.specs.Kept.{is_function}
use Rattle.orc_program.specs.Checks.{is_set}
use Rattle.orc_program.specs.Good.{IsArray, GoodArrays}
use Rattle.orc_program.specs.Meaning.{State, Gap, go_on, rows, cell, gap_at, read_cell, read_var, read_source, read_sources, sub_lane, lanewise}
use Rattle.orc_program.proofs.Steps.{go_on_ok, or_gap_ok, ok_same}
use Rattle.orc_emul.specs.State.{HasCounts}
use Rattle.orc_emul.proofs.Functions.{before_all, size_low}
use Rattle.c_run.specs.declared.tree.CExpr.{CExpr}
use Rattle.c_run.specs.declared.tree.CExpr.TheVariants.{V}
use Rattle.c_run.specs.declared.tree.CStmt.{CStmt}
use Rattle.c_run.specs.declared.tree.CStmt.TheVariants.{SetV}
use Rattle.c_run.specs.Tree.{CFunctionValue}
use Rattle.c_run.specs.Meaning.{CState}
use Rattle.c_emit.specs.CAs.{IsCall}
use Rattle.c_emit.specs.Expressions.{has_sum}
use Rattle.c_emit.specs.Body.{temp_of, first_free, cells_of_kind, cells, all_cells, sums_from, sum_count, sum_at, sums, bytes_of, reads_var, reads_one, reads, first_of, second_of, whole_of_var, whole_of, whole_of_all, is_whole, copied, variables_of}
use Rattle.c_emit.proofs.Values.{if_some, Scene, Gives, same}
use Rattle.c_emit.proofs.Doing.{Does, does_none, does_both, does_v, counting, with_v, scene, v_gives}
use Rattle.c_emit.proofs.Cells.{bytes_give}
use Rattle.c_emit.proofs.Opcodes.{has_lanes, whole_lanes, IsReady, AreReady, AreSummed, sum_of, sum_lane, both_okay, first_result, second_result}
use Rattle.c_emit.proofs.Places.{is_at, size_at}
use Rattle.c_emit.proofs.Passes.{IsRead, AreRead, IsChecked}
use Rattle.c_emit.proofs.Agree.{Agrees, agrees_v, change_same, change_other}

abbrev okay : (ℕ → ℕ) → Result (ℕ → ℕ) Gap
okay g = Ok g

-- variable d holds the cell of an operand that is an array
abbrev pub Held : FunctionValue → Call → ℕ → ℕ → CState → State → ℕ → Operand → Type 0
Held f call r i s e d (operand.Var p) = is_array_kind (var_at f.vars p).kind ≡ true → (v : ℕ) → read_cell f call r i p e ≡ Ok v → (s.v d ≡ Some v) × (v < 2 ^ (8 * (var_at f.vars p).size))
Held f call r i s e d (operand.Number n) = Unit {0}

abbrev pub AreHeld : FunctionValue → Call → ℕ → ℕ → CState → State → ℕ → List Operand → Type 0
AreHeld f call r i s e d [] = Unit {0}
AreHeld f call r i s e d (x ∷ []) = Held f call r i s e d x
AreHeld f call r i s e d (x ∷ y ∷ more) = Held f call r i s e d x × Held f call r i s e (d + cells f.vars x) y

cells_array : (k : VarKind) → is_array_kind k ≡ true → cells_of_kind k ≡ 1
cells_array kind.Source h = refl
cells_array kind.Dest h = refl
cells_array kind.Temp h = absurd (true≢false (sym h))
cells_array kind.Param h = absurd (true≢false (sym h))
cells_array kind.Const h = absurd (true≢false (sym h))
cells_array kind.Accumulator h = absurd (true≢false (sym h))

-- the variable of a cell, where there is one, stays as it is
held_still : (f : FunctionValue) (call : Call) (r i : ℕ) (s t : CState) (e : State) (d : ℕ) (x : Operand) → (cells f.vars x ≡ 1 → t.v d ≡ s.v d) → Held f call r i s e d x → Held f call r i t e d x
held_still f call r i s t e d (operand.Var p) k h = λ a v q. (k (cells_array (var_at f.vars p).kind a) ∙ (h a v q).0, (h a v q).1)
held_still f call r i s t e d (operand.Number n) k h = tt

pub are_held_still : (f : FunctionValue) (call : Call) (r i : ℕ) (s t : CState) (e : State) (d : ℕ) (xs : List Operand) → ((k : ℕ) → k < d + all_cells f.vars xs → t.v k ≡ s.v k) → AreHeld f call r i s e d xs → AreHeld f call r i t e d xs
are_held_still f call r i s t e d [] k h = tt
are_held_still f call r i s t e d (x ∷ []) k h = held_still f call r i s t e d x (λ one. k d (omega (arith, one))) h
are_held_still f call r i s t e d (x ∷ y ∷ more) k h = (
  held_still f call r i s t e d x (λ one. k d (omega (arith, one))) h.0,
  held_still f call r i s t e (d + cells f.vars x) y (λ one. k (d + cells f.vars x) (omega (arith, one))) h.1,
)

-- the state after statements that read one source
pub record HasRead (f : FunctionValue) (c : CFunctionValue) (call : Call) (r i : ℕ) (made : ℕ → Bool) (d : ℕ) (x : Operand) (xs : List CStmt) (s : CState) (e : State) : Type 0 where
  pub state : CState
  pub does : Does c call (record { row = r; element = i }) xs s state
  pub agrees : Agrees f made state e
  pub held : Held f call r i state e d x
  pub other : (k : ℕ) → k ≢ d → state.v k ≡ s.v k

-- after those that read all sources
pub record HasReads (f : FunctionValue) (c : CFunctionValue) (call : Call) (r i : ℕ) (made : ℕ → Bool) (os : List Operand) (xs : List CStmt) (s : CState) (e : State) : Type 0 where
  pub state : CState
  pub does : Does c call (record { row = r; element = i }) xs s state
  pub agrees : Agrees f made state e
  pub held : AreHeld f call r i state e (first_free f.vars) os

-- the state after those that set n sums
pub record HasSums (f : FunctionValue) (c : CFunctionValue) (call : Call) (r i : ℕ) (made : ℕ → Bool) (insn : Insn) (n : ℕ) (a b : ℕ → ℕ) (xs : List CStmt) (s : CState) (e : State) : Type 0 where
  pub state : CState
  pub does : Does c call (record { row = r; element = i }) xs s state
  pub agrees : Agrees f made state e
  pub held : AreHeld f call r i state e (first_free f.vars) insn.sources.items
  pub sums : (q : ℕ) → q < n → state.v (sums_from f.vars insn + q) ≡ Some (sum_of insn.op (a q) (b q))

-- the variables that statements set are declared
pub set_room : (d n : ℕ) (e : CExpr) (xs : List CStmt) → variables_of (SetV d e ∷ xs) ≤ n → (d < n) × (variables_of xs ≤ n)
set_room d n e xs h = (omega (arith, h), omega (arith, h))

pub room_both : (xs ys : List CStmt) (n : ℕ) → variables_of (xs ++ ys) ≤ n → (variables_of xs ≤ n) × (variables_of ys ≤ n)
room_both [] ys n h = (omega arith, h)
room_both (x ∷ xs) ys n h = let r = room_both xs ys n (omega (arith, h)) in (let a = r.0 in omega (arith, h, a), r.1)

-- an instruction that has sums
abbrev pub is_summed : Insn → Bool
is_summed insn = has_sum (row insn.op).stem

module _ (f : FunctionValue) (call : Call) (mem : Memory) (kept : is_function f ≡ true) (near : has_far f ≡ false) (counts : HasCounts f call) (is : IsCall call) (good : GoodArrays f call mem) (c : CFunctionValue) (r i : ℕ) (row : r < rows f call) (low : i < call.n) where
  -- ---- reads

  -- the bytes of a cell give its number
  cell_gives : (made : ℕ → Bool) (s : CState) (e : State) (p v : ℕ) → IsArray f p → Agrees f made s e → read_cell f call r i p e ≡ Ok v → Gives (scene call (record { row = r; element = i }) s) (bytes_of f.vars p 0 ((var_at f.vars p).size - 1)) v × (v < 2 ^ (8 * (var_at f.vars p).size))
  cell_gives made s e p v a g h =
      let size : ℕ = (var_at f.vars p).size in
      let at : ℕ = cell f call p r i in
      let z = size_at f call mem kept near counts is good p a in
      let h1 : value size e.memory at ≡ Some v = or_gap_ok (value size e.memory at) (gap_at f call r i p e) v h in
      let b = bind_some (read size e.memory at) (λ bs. let n : Option ℕ = Some (number bs) in n) v h1 in
      let n : size ≡ suc (size - 1) = omega (arith, z) in
      let h2 : read (suc (size - 1)) s.memory (at + 0) ≡ Some b.0 =
      ap (λ (m : Memory). read (suc (size - 1)) m (at + 0)) g.memory ∙ ap (λ n. read n e.memory (at + 0)) (sym n) ∙ ap (λ n. read size e.memory n) (let q : at + 0 ≡ at = omega arith in q) ∙ b.1 in
      let wide : Bytewide s.memory = subst Bytewide (sym g.memory) g.bytes in
      let gives = bytes_give call (record { row = r; element = i }) s f.vars p at (is_at f call mem kept near counts is good p r i a row low) wide (size - 1) 0 b.0 (omega (arith, n)) (omega (arith, n, z)) h2 in
      (same v gives (some_one (number b.0) v b.2), subst (λ n. v < n) (pow256 size) (value_small size e.memory at v g.bytes h1))

  read_nothing : (made : ℕ → Bool) (s : CState) (e : State) (d p : ℕ) → Agrees f made s e → is_array_kind (var_at f.vars p).kind ≡ false → HasRead f c call r i made d (operand.Var p) [] s e
  read_nothing made s e d p g n = record { state = s; does = does_none c call (record { row = r; element = i }) s; agrees = g; held = λ a v h. absurd (true≢false (sym a ∙ n)); other = λ k ne. refl }

  read_array : (made : ℕ → Bool) (s : CState) (e : State) (d p : ℕ) (w : ℕ) (a : ℕ → ℕ) → first_free f.vars ≤ d → variables_of (SetV d (bytes_of f.vars p 0 ((var_at f.vars p).size - 1)) ∷ []) ≤ c.temps → IsArray f p → Agrees f made s e → go_on (read_cell f call r i p e) (λ v. okay (sub_lane w v)) ≡ okay a
      → HasRead f c call r i made d (operand.Var p) (SetV d (bytes_of f.vars p 0 ((var_at f.vars p).size - 1)) ∷ []) s e
  read_array made s e d p w a l room is g h =
      let x = go_on_ok (read_cell f call r i p e) (λ v. okay (sub_lane w v)) a h in
      let v = cell_gives made s e p x.0 is g x.1 in
      record {
        state = counting (with_v s d x.0);
        does = does_v c call (record { row = r; element = i }) s d x.0 (bytes_of f.vars p 0 ((var_at f.vars p).size - 1)) (set_room d c.temps (bytes_of f.vars p 0 ((var_at f.vars p).size - 1)) [] room).0 v.0;
        agrees = agrees_v d x.0 l g;
        held = λ k u q. let same = ok_same x.0 u (sym x.1 ∙ q) in (change_same s.v d (Some x.0) ∙ ap Some same, subst (λ n. n < 2 ^ (8 * (var_at f.vars p).size)) same v.1);
        other = λ k ne. change_other s.v d k (Some x.0) ne;
      }

  read_kind : (made : ℕ → Bool) (s : CState) (e : State) (d p w : ℕ) (a : ℕ → ℕ) (k : VarKind) → (var_at f.vars p).kind ≡ k → first_free f.vars ≤ d → variables_of (reads_var f.vars d p k) ≤ c.temps → p < length f.vars → Agrees f made s e → read_var f call r i w e p k ≡ okay a → HasRead f c call r i made d (operand.Var p) (reads_var f.vars d p k) s e
  read_kind made s e d p w a kind.Source n l room m g h = read_array made s e d p w a l room (m, ap is_array_kind n) g h
  read_kind made s e d p w a kind.Dest n l room m g h = read_array made s e d p w a l room (m, ap is_array_kind n) g h
  read_kind made s e d p w a kind.Temp n l room m g h = read_nothing made s e d p g (ap is_array_kind n)
  read_kind made s e d p w a kind.Param n l room m g h = read_nothing made s e d p g (ap is_array_kind n)
  read_kind made s e d p w a kind.Const n l room m g h = read_nothing made s e d p g (ap is_array_kind n)
  read_kind made s e d p w a kind.Accumulator n l room m g h = read_nothing made s e d p g (ap is_array_kind n)

  read_operand : (made : ℕ → Bool) (earlier : List Insn) (o : Op) (prefix k : ℕ) (s : CState) (e : State) (d w : ℕ) (a : ℕ → ℕ) (x : Operand) → first_free f.vars ≤ d → variables_of (reads_one f.vars d x) ≤ c.temps → IsRead f.vars earlier o prefix k x → Agrees f made s e → read_source f call r i w e x ≡ okay a → HasRead f c call r i made d x (reads_one f.vars d x) s e
  read_operand made earlier o prefix k s e d w a (operand.Var p) l room q g h = read_kind made s e d p w a (var_at f.vars p).kind refl l room q.0 g h
  read_operand made earlier o prefix k s e d w a (operand.Number n) l room q g h = record { state = s; does = does_none c call (record { row = r; element = i }) s; agrees = g; held = tt; other = λ k ne. refl }

  pub reads_do : (made : ℕ → Bool) (earlier : List Insn) (o : Op) (prefix : ℕ) (s : CState) (e : State) (xs : List Operand) (a b : ℕ → ℕ) → variables_of (reads f.vars (first_free f.vars) xs) ≤ c.temps → AreRead f.vars earlier o prefix xs → Agrees f made s e → read_sources f call r i o e xs ≡ both_okay a b → HasReads f c call r i made xs (reads f.vars (first_free f.vars) xs) s e
  reads_do made earlier o prefix s e [] a b room q g h = record { state = s; does = does_none c call (record { row = r; element = i }) s; agrees = g; held = tt }
  reads_do made earlier o prefix s e (x ∷ []) a b room q g h =
      let u = go_on_ok (read_source f call r i (8 * size_of_source o 0) e x) (λ g. both_okay g (λ q. 0)) (a, b) h in
      let y = read_operand made earlier o prefix 0 s e (first_free f.vars) (8 * size_of_source o 0) u.0 x (omega arith) room q g u.1 in
      record { state = y.state; does = y.does; agrees = y.agrees; held = y.held }
  reads_do made earlier o prefix s e (x ∷ y ∷ more) a b room q g h =
      let d : ℕ = first_free f.vars in
      let rooms = room_both (reads_one f.vars d x) (reads_one f.vars (d + cells f.vars x) y) c.temps room in
      let u = go_on_ok (read_source f call r i (8 * size_of_source o 0) e x) (λ g. go_on (read_source f call r i (8 * size_of_source o 1) e y) (λ m. both_okay g m)) (a, b) h in
      let v = go_on_ok (read_source f call r i (8 * size_of_source o 1) e y) (λ m. both_okay u.0 m) (a, b) u.2 in
      let m = read_operand made earlier o prefix 0 s e d (8 * size_of_source o 0) u.0 x (omega arith) rooms.0 q.0 g u.1 in
      let n = read_operand made earlier o prefix 1 m.state e (d + cells f.vars x) (8 * size_of_source o 1) v.0 y (omega arith) rooms.1 q.1 m.agrees v.1 in
      record {
        state = n.state;
        does = does_both {e = m.state} {g = n.state} m.does n.does;
        agrees = n.agrees;
        held = (held_still f call r i m.state n.state e d x (λ one. n.other d (λ z. omega (arith, z, one))) m.held, n.held);
      }

  -- ---- what the sources need

  param_there : (p : ℕ) → p < length f.vars → (var_at f.vars p).kind ≡ kind.Param → count_before kind.Param f.vars p < length call.params.items
  param_there p l k = let b = before_all kind.Param f.vars p l (ap (same_kind kind.Param) k) in let n = counts.params in omega (arith, b, n)

  ready_one : (earlier : List Insn) (o : Op) (prefix k : ℕ) (s : CState) (e : State) (q d : ℕ) (x : Operand) → q < prefix → IsRead f.vars earlier o prefix k x → Agrees f (λ p. is_set earlier p) s e → Held f call r i s e d x → IsReady f call r i s e (8 * size_of_source o k) q d x
  ready_one earlier o prefix k s e q d (operand.Var p) l m g h =
      (record { cell = h; temp = λ t. g.temps p m.0 t (m.2 t); param = λ t. (slice_get-get_or call.params.items (count_before kind.Param f.vars p) 0 (param_there p m.0 t), is.params (count_before kind.Param f.vars p)); few = size_low f kept p m.0 }, m.1 q l)
  ready_one earlier o prefix k s e q d (operand.Number n) l m g h = tt

  ready_all : (earlier : List Insn) (o : Op) (prefix : ℕ) (s : CState) (e : State) (q d : ℕ) (xs : List Operand) → q < prefix → AreRead f.vars earlier o prefix xs → Agrees f (λ p. is_set earlier p) s e → AreHeld f call r i s e d xs → AreReady f call r i s e o q d xs
  ready_all earlier o prefix s e q d [] l m g h = tt
  ready_all earlier o prefix s e q d (x ∷ []) l m g h = ready_one earlier o prefix 0 s e q d x l m g h
  ready_all earlier o prefix s e q d (x ∷ y ∷ more) l m g h = (ready_one earlier o prefix 0 s e q d x l m.0 g h.0, ready_one earlier o prefix 1 s e q (d + cells f.vars x) y l m.1 g h.1)

  -- ---- copies

  -- what is copied is the result of emulation
  pub copied_gives : (earlier : List Insn) (insn : Insn) (s : CState) (e : State) (a b : ℕ → ℕ) (x : CExpr) → IsChecked f.vars earlier insn → Agrees f (λ p. is_set earlier p) s e → read_sources f call r i insn.op e insn.sources.items ≡ both_okay a b → copied f.vars insn ≡ Some x → Gives (scene call (record { row = r; element = i }) s) x (lanewise insn.op insn.prefix a b).0
  copied_gives earlier insn s e a b x ok g h c = let d = if_some (is_whole insn) (whole_of_all f.vars insn.sources.items) x c in all insn.sources.items ok.reads h d.1
    where
      z : Scene
      z = scene call (record { row = r; element = i }) s

      w : ℕ
      w = 8 * size_of_source insn.op 0

      whole : is_whole insn ≡ true
      whole = (if_some (is_whole insn) (whole_of_all f.vars insn.sources.items) x c).0

      lanes : (v : ℕ) (y : CExpr) → v < 2 ^ (8 * (size_of_source insn.op 0 * insn.prefix)) → y ≡ x → Gives z y v → okay (sub_lane w v) ≡ okay a → Gives z x (lanewise insn.op insn.prefix a b).0
      lanes v y small is gives q = subst (λ (y : CExpr). Gives z y (lanewise insn.op insn.prefix a b).0) is (same (lanewise insn.op insn.prefix a b).0 gives (sym (ap (λ (a : ℕ → ℕ). (lanewise insn.op insn.prefix a b).0) (sym (ok_same (sub_lane w v) a q)) ∙ whole_lanes insn v b whole small)))

      array : (p : ℕ) → IsArray f p → (var_at f.vars p).size ≡ size_of_source insn.op 0 * insn.prefix → go_on (read_cell f call r i p e) (λ v. okay (sub_lane w v)) ≡ okay a → bytes_of f.vars p 0 ((var_at f.vars p).size - 1) ≡ x → Gives z x (lanewise insn.op insn.prefix a b).0
      array p is size q y =
          let v = go_on_ok (read_cell f call r i p e) (λ v. okay (sub_lane w v)) a q in
          let gives = cell_gives (λ p. is_set earlier p) s e p v.0 is g v.1 in
          lanes v.0 (bytes_of f.vars p 0 ((var_at f.vars p).size - 1)) (subst (λ n. v.0 < 2 ^ (8 * n)) size gives.1) y gives.0 v.2

      kinds : (p : ℕ) (k : VarKind) → (var_at f.vars p).kind ≡ k → IsRead f.vars earlier insn.op insn.prefix 0 (operand.Var p) → read_var f call r i w e p k ≡ okay a → whole_of_var f.vars p k ≡ Some x → Gives z x (lanewise insn.op insn.prefix a b).0
      kinds p kind.Source n m q y = array p (m.0, ap is_array_kind n) (m.3 (ap has_lanes n)) q (some_one _ x y)
      kinds p kind.Dest n m q y = array p (m.0, ap is_array_kind n) (m.3 (ap has_lanes n)) q (some_one _ x y)
      kinds p kind.Temp n m q y =
          let t = g.temps p m.0 n (m.2 n) in
          lanes (e.temps p) (V (temp_of f.vars p)) (subst (λ k. e.temps p < 2 ^ (8 * k)) (m.3 (ap has_lanes n)) t.1) (some_one _ x y) (v_gives call (record { row = r; element = i }) s (temp_of f.vars p) (e.temps p) t.0) q
      kinds p kind.Param n m q y = absurd (none_some y)
      kinds p kind.Const n m q y = absurd (none_some y)
      kinds p kind.Accumulator n m q y = absurd (none_some y)

      one : (o : Operand) → IsRead f.vars earlier insn.op insn.prefix 0 o → read_source f call r i w e o ≡ okay a → whole_of f.vars o ≡ Some x → Gives z x (lanewise insn.op insn.prefix a b).0
      one (operand.Var p) m q y = kinds p (var_at f.vars p).kind refl m q y
      one (operand.Number n) m q y = absurd (none_some y)

      all : (xs : List Operand) → AreRead f.vars earlier insn.op insn.prefix xs → read_sources f call r i insn.op e xs ≡ both_okay a b → whole_of_all f.vars xs ≡ Some x → Gives z x (lanewise insn.op insn.prefix a b).0
      all [] m q y = absurd (none_some y)
      all (o ∷ []) m q y =
          let u = go_on_ok (read_source f call r i w e o) (λ g. both_okay g (λ q. 0)) (a, b) q in
          one o m (u.1 ∙ ap okay (ap (λ (v : (ℕ → ℕ) × (ℕ → ℕ)). v.0) (ok_same (u.0, (λ q. 0)) (a, b) u.2))) y
      all (o ∷ y ∷ more) m q n = absurd (none_some n)

  -- ---- results

  module _ (earlier : List Insn) (insn : Insn) (ok : IsChecked f.vars earlier insn) (e : State) (a b : ℕ → ℕ) (h : read_sources f call r i insn.op e insn.sources.items ≡ both_okay a b) where
    k : ℕ
    k = insn.prefix - 1

    prefix_is : insn.prefix ≡ suc (insn.prefix - 1)
    prefix_is = let l = ok.some in omega (arith, l)

    pub first_gives : (s : CState) → Agrees f (λ p. is_set earlier p) s e → AreHeld f call r i s e (first_free f.vars) insn.sources.items → AreSummed f s insn a b → Gives (scene call (record { row = r; element = i }) s) (first_of f.vars insn) (lanewise insn.op insn.prefix a b).0
    first_gives s g held sums = same (lanewise insn.op insn.prefix a b).0
        (first_result f call r i s e insn (insn.prefix - 1) a b prefix_is ok.first (subst (λ n. 8 * size_of_result insn.op 0 * n ≤ 64) prefix_is ok.first_fits) sums
        (λ q l. ready_all earlier insn.op insn.prefix s e q (first_free f.vars) insn.sources.items (omega (arith, l, ok.some)) ok.reads g held) h)
        (ap (λ n. (lanewise insn.op n a b).0) (sym prefix_is))

    pub second_gives : (s : CState) → 0 < size_of_result insn.op 1 → Agrees f (λ p. is_set earlier p) s e → AreHeld f call r i s e (first_free f.vars) insn.sources.items → Gives (scene call (record { row = r; element = i }) s) (second_of f.vars insn) (lanewise insn.op insn.prefix a b).1
    second_gives s z g held = same (lanewise insn.op insn.prefix a b).1
        (second_result f call r i s e insn (insn.prefix - 1) a b prefix_is z (subst (λ n. 8 * size_of_result insn.op 1 * n ≤ 64) prefix_is ok.second_fits)
        (λ q l. ready_all earlier insn.op insn.prefix s e q (first_free f.vars) insn.sources.items (omega (arith, l, ok.some)) ok.reads g held) h)
        (ap (λ n. (lanewise insn.op n a b).1) (sym prefix_is))

    sums_do : (n : ℕ) (s : CState) → n ≤ insn.prefix → is_summed insn ≡ true → variables_of (sums f.vars insn n) ≤ c.temps → Agrees f (λ p. is_set earlier p) s e → AreHeld f call r i s e (first_free f.vars) insn.sources.items → HasSums f c call r i (λ p. is_set earlier p) insn n a b (sums f.vars insn n) s e
    sums_do zero s l t room g held = record { state = s; does = does_none c call (record { row = r; element = i }) s; agrees = g; held = held; sums = λ q m. absurd (omega (arith, m)) }
    sums_do (suc n) s l t room g held =
        let d : ℕ = sums_from f.vars insn + n in
        let v : ℕ = sum_of insn.op (a n) (b n) in
        let rooms = room_both (sums f.vars insn n) (SetV d (sum_at f.vars insn n) ∷ []) c.temps room in
        let x = sums_do n s (omega (arith, l)) t rooms.0 g held in
        let gives = sum_lane f call r i x.state e insn n a b t (ready_all earlier insn.op insn.prefix x.state e n (first_free f.vars) insn.sources.items (omega (arith, l)) ok.reads x.agrees x.held) h in
        let end : CState = counting (with_v x.state d v) in
        record {
          state = end;
          does = does_both {e = x.state} {g = end} x.does (does_v c call (record { row = r; element = i }) x.state d v (sum_at f.vars insn n) (set_room d c.temps (sum_at f.vars insn n) [] rooms.1).0 gives);
          agrees = agrees_v d v (omega arith) x.agrees;
          held = are_held_still f call r i x.state end e (first_free f.vars) insn.sources.items (λ k m. change_other x.state.v d k (Some v) (λ z. omega (arith, m, z))) x.held;
          sums = λ q m. one x.state.v d v q m x.sums (cases_eq q n);
        }
      where
        one : (g : ℕ → Option ℕ) (d v q : ℕ) → q < suc n → ((q : ℕ) → q < n → g (sums_from f.vars insn + q) ≡ Some (sum_of insn.op (a q) (b q))) → (q ≡ n) ⊎ (q ≢ n)
            → change g (sums_from f.vars insn + n) (Some (sum_of insn.op (a n) (b n))) (sums_from f.vars insn + q) ≡ Some (sum_of insn.op (a q) (b q))
        one g d v q m old (inl z) = subst (λ (p : ℕ). change g (sums_from f.vars insn + n) (Some (sum_of insn.op (a n) (b n))) (sums_from f.vars insn + p) ≡ Some (sum_of insn.op (a p) (b p))) (sym z) (change_same g (sums_from f.vars insn + n) (Some (sum_of insn.op (a n) (b n))))
        one g d v q m old (inr ne) = change_other g (sums_from f.vars insn + n) (sums_from f.vars insn + q) (Some (sum_of insn.op (a n) (b n))) (λ z. ne (omega (arith, z))) ∙ old q (omega (arith, m, ne))

    -- those of a stem that has sums
    pub all_sums_do : (s : CState) → variables_of (sums f.vars insn (sum_count insn)) ≤ c.temps → Agrees f (λ p. is_set earlier p) s e → AreHeld f call r i s e (first_free f.vars) insn.sources.items → HasSums f c call r i (λ p. is_set earlier p) insn (sum_count insn) a b (sums f.vars insn (sum_count insn)) s e
    all_sums_do s room g held = by (is_summed insn) refl room
      where
        by : (t : Bool) → is_summed insn ≡ t → variables_of (sums f.vars insn (if t then insn.prefix else 0)) ≤ c.temps → HasSums f c call r i (λ p. is_set earlier p) insn (if t then insn.prefix else 0) a b (sums f.vars insn (if t then insn.prefix else 0)) s e
        by true t room = sums_do insn.prefix s (omega arith) t room g held
        by false t room = record { state = s; does = does_none c call (record { row = r; element = i }) s; agrees = g; held = held; sums = λ q m. absurd (omega (arith, m)) }

    pub count_is : is_summed insn ≡ true → sum_count insn ≡ insn.prefix
    count_is t = ap (λ t. if t then insn.prefix else 0) t
