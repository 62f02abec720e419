-- The loops of a function in C and in emulation, with their statements.
use Rattle.std.proofs.Common.{◌≡◌, ℕ, zero, suc, ◌+◌, ◌*◌, ◌<◌, ◌≤◌, ◌&&◌, ◌==◌, ⊎_elim, nat_lt, if◌then◌else◌, Bool, true, false, List, [], ◌∷◌, ◌++◌, length, length-append, get_or, Option, Some, None, Result, Ok, Err, refl, sym, ap, ◌∙◌, subst, arith, true≢false}
use Rattle.std.proofs.lemmas.Bool.{cases_lt}
use Rattle.std.proofs.lemmas.Bool.Decides.{nat_tests}
use Rattle.std.proofs.lemmas.List.{get_or_past}
use Rattle.orc_bits.specs.Memory.{Memory}
use Rattle.orc_ops.specs.Table.{row}
use Rattle.orc_program.specs.declared.program.Var.{Var}
use Rattle.orc_program.specs.declared.program.VarKind.{VarKind}
use Rattle.orc_program.specs.declared.program.VarKind.TheVariants as kind
use Rattle.orc_program.specs.declared.program.Operand.{Operand}
use Rattle.orc_program.specs.declared.program.Operand.TheVariants as operand
use Rattle.orc_program.specs.declared.program.Insn.{Insn}
use Rattle.orc_program.specs.declared.call.Call.{Call}
use Rattle.orc_program.specs.Program.{FunctionValue, var_at, no_var, count_of, array_number, has_far, is_far}
use Rattle.orc_program.specs.Kept.{is_function, is_shaped, has_no_fault, all_pass}
use Rattle.orc_program.specs.Checks.{is_set, insn_fault}
use Rattle.orc_program.specs.Good.{GoodArrays}
use Rattle.orc_program.specs.Meaning as emulation
use Rattle.orc_program.specs.Meaning.{State, Gap, act, row_of, rows_of, rows}
use Rattle.orc_program.proofs.Sizes.{both, kept_of}
use Rattle.orc_program.proofs.Steps.{go_on_ok, ok_same}
use Rattle.orc_emul.specs.State.{HasCounts}
use Rattle.orc_emul.proofs.Functions.{size_low}
use Rattle.orc_program.proofs.Near.{near_parts}
use Rattle.std.specs.List.{list_any}
use Rattle.c_run.specs.declared.tree.CExpr.{CExpr}
use Rattle.c_run.specs.declared.tree.CExpr.TheVariants.{V}
use Rattle.c_run.specs.declared.tree.CStmt.{CStmt}
use Rattle.c_run.specs.declared.tree.CStmt.TheVariants.{SetV, SetByte}
use Rattle.c_run.specs.Tree.{CFunctionValue}
use Rattle.c_run.specs.Meaning as meaning
use Rattle.c_run.specs.Meaning.{CState, Turn, Stop, Budget, go_on, counted, count, begin_turn, times}
use Rattle.c_emit.specs.CAs.{IsCall}
use Rattle.c_emit.specs.Expressions.{variable_of, has_sum}
use Rattle.c_emit.specs.Body.{first_free, cells, sums_from, sum_count, sums, index_of, reads_var, reads_one, reads, first_of, stores, stores_by, writes_var, writes_one, writes, copied, copies, works, copies_or_works, insn_body, body_of, variables_of}
use Rattle.c_emit.proofs.Doing.{Does, does_none, does_both, counting}
use Rattle.c_emit.proofs.Passes.{checked}
use Rattle.c_emit.proofs.Agree.{Agrees, agrees_less}
use Rattle.c_emit.proofs.Insns.{insn_fits}
use Rattle.c_emit.proofs.Reading.{room_both}
use Rattle.c_emit.proofs.Writing.{HasDone, insn_does}

-- ---- the statements of an element

any_size : (f : FunctionValue) → is_function f ≡ true → (q : ℕ) → (var_at f.vars q).size ≤ 8
any_size f h q = ⊎_elim
    (λ l. size_low f h q l)
    (λ g. omega (arith, ap (λ (v : Var). v.size) (get_or_past f.vars q no_var g)))
    (cases_lt q (length f.vars))

reads_var_few : (vars : List Var) (d p : ℕ) (k : VarKind) → length (reads_var vars d p k) ≤ 1
reads_var_few vars d p kind.Source = omega arith
reads_var_few vars d p kind.Dest = omega arith
reads_var_few vars d p k = omega arith

reads_one_few : (vars : List Var) (d : ℕ) (x : Operand) → length (reads_one vars d x) ≤ 1
reads_one_few vars d (operand.Var p) = reads_var_few vars d p (var_at vars p).kind
reads_one_few vars d (operand.Number n) = omega arith

reads_few : (vars : List Var) (d : ℕ) (xs : List Operand) → length (reads vars d xs) ≤ 2
reads_few vars d [] = omega arith
reads_few vars d (x ∷ []) = let a = reads_one_few vars d x in omega (arith, a)
reads_few vars d (x ∷ y ∷ more) = let a = reads_one_few vars d x in let b = reads_one_few vars (d + cells vars x) y in let n = length-append (reads_one vars d x) (reads_one vars (d + cells vars x) y) in omega (arith, a, b, n)

stores_few : (vars : List Var) (p d n : ℕ) → length (stores vars p d n) ≡ n
stores_few vars p d zero = refl
stores_few vars p d (suc n) = length-append (stores vars p d n) _ ∙ (let r = stores_few vars p d n in omega (arith, r))

stores_by_few : (vars : List Var) (d p : ℕ) (x : CExpr) (o : Option ℕ) → (var_at vars p).size ≤ 8 → length (stores_by vars d p x o) ≤ 9
stores_by_few vars d p x (Some k) h = let n = stores_few vars p k (var_at vars p).size in omega (arith, n, h)
stores_by_few vars d p x None h = by ((var_at vars p).size == 1)
  where
    by : (b : Bool) → length (if b then SetByte (array_number vars p) (index_of vars p 0) x ∷ [] else SetV d x ∷ stores vars p d (var_at vars p).size) ≤ 9
    by true = omega arith
    by false = let n = stores_few vars p d (var_at vars p).size in omega (arith, n, h)

writes_var_few : (vars : List Var) (d p : ℕ) (x : CExpr) (k : VarKind) → (var_at vars p).size ≤ 8 → length (writes_var vars d p x k) ≤ 9
writes_var_few vars d p x kind.Dest h = stores_by_few vars d p x (variable_of x) h
writes_var_few vars d p x kind.Temp h = omega arith
writes_var_few vars d p x kind.Accumulator h = omega arith
writes_var_few vars d p x k h = omega arith

writes_one_few : (vars : List Var) (d : ℕ) (e : CExpr) (x : Operand) → ((q : ℕ) → (var_at vars q).size ≤ 8) → length (writes_one vars d e x) ≤ 9
writes_one_few vars d e (operand.Var p) h = writes_var_few vars d p e (var_at vars p).kind (h p)
writes_one_few vars d e (operand.Number n) h = omega arith

writes_few : (vars : List Var) (d : ℕ) (insn : Insn) (xs : List Operand) → ((q : ℕ) → (var_at vars q).size ≤ 8) → length (writes vars d insn xs) ≤ 19
writes_few vars d insn [] h = omega arith
writes_few vars d insn (x ∷ []) h = let a = writes_one_few vars d (first_of vars insn) x h in omega (arith, a)
writes_few vars d insn (x ∷ y ∷ more) h =
    let a = writes_one_few vars (d + 1) (first_of vars insn) x h in
    let b = writes_one_few vars (d + 1) (V d) y h in
    let n = length-append (writes_one vars (d + 1) (first_of vars insn) x) (writes_one vars (d + 1) (V d) y) in
    omega (arith, a, b, n)

sums_few : (vars : List Var) (insn : Insn) (n : ℕ) → length (sums vars insn n) ≡ n
sums_few vars insn zero = refl
sums_few vars insn (suc n) = length-append (sums vars insn n) _ ∙ (let r = sums_few vars insn n in omega (arith, r))

count_few : (t : Bool) (n : ℕ) → n ≤ 4 → (if t then n else 0) ≤ 4
count_few true n h = h
count_few false n h = omega arith

works_few : (vars : List Var) (insn : Insn) → ((q : ℕ) → (var_at vars q).size ≤ 8) → insn.prefix ≤ 4 → length (works vars insn) ≤ 25
unfolding works
works_few vars insn h l =
    let d : ℕ = sums_from vars insn + sum_count insn in
    let a = reads_few vars (first_free vars) insn.sources.items in
    let b = sums_few vars insn (sum_count insn) in
    let k : sum_count insn ≤ 4 = count_few (has_sum (row insn.op).stem) insn.prefix l in
    let c = writes_few vars d insn insn.results.items h in
    let m = length-append (reads vars (first_free vars) insn.sources.items) (sums vars insn (sum_count insn) ++ writes vars d insn insn.results.items) in
    let n = length-append (sums vars insn (sum_count insn)) (writes vars d insn insn.results.items) in
    omega (arith, a, b, k, c, m, n)

copies_few : (vars : List Var) (e : CExpr) (xs : List Operand) → ((q : ℕ) → (var_at vars q).size ≤ 8) → length (copies vars e xs) ≤ 25
copies_few vars e [] h = omega arith
copies_few vars e (x ∷ more) h = let a = writes_one_few vars (first_free vars) e x h in omega (arith, a)

insn_few : (vars : List Var) (insn : Insn) → ((q : ℕ) → (var_at vars q).size ≤ 8) → insn.prefix ≤ 4 → length (insn_body vars insn) ≤ 25
unfolding insn_body
insn_few vars insn h l = by (copied vars insn)
  where
    by : (o : Option CExpr) → length (copies_or_works vars insn o) ≤ 25
    by (Some e) = copies_few vars e insn.results.items h
    by None = works_few vars insn h l

body_few : (vars : List Var) (insns : List Insn) → ((q : ℕ) → (var_at vars q).size ≤ 8) → ((k : ℕ) (d : Insn) → k < length insns → (get_or insns k d).prefix ≤ 4) → length (body_of vars insns) ≤ 25 * length insns
body_few vars [] h l = omega arith
body_few vars (x ∷ xs) h l =
    let a = insn_few vars x h (l 0 x (omega arith)) in
    let b = body_few vars xs h (λ k d m. l (suc k) d (omega (arith, m))) in
    let n = length-append (insn_body vars x) (body_of vars xs) in
    omega (arith, a, b, n)

-- at most twenty-five statements an instruction
pub statements_few : (f : FunctionValue) → is_function f ≡ true → length (body_of f.vars f.insns) ≤ 25 * length f.insns
statements_few f h = body_few f.vars f.insns (any_size f h) (λ k d l. (insn_fits f h k d l).few)

-- ---- steps of so many statements

-- from one state to another by n statements, within every budget that has room for them
pub record Steps (go : ℕ → CState → Result CState Stop) (n : ℕ) (s e : CState) : Type 0 where
  pub runs : (budget : ℕ) → s.done + n ≤ budget → go budget s ≡ Ok e
  pub done : e.done ≡ s.done + n

pub steps_both : {a b : ℕ → CState → Result CState Stop} {m n : ℕ} {s t u : CState} → Steps a m s t → Steps b n t u → Steps (λ budget s. go_on (a budget s) (b budget)) (m + n) s u
steps_both {a} {b} {m} {n} {s} {t} {u} p q = record {
  runs = λ budget l. ap (λ (r : Result CState Stop). go_on r (b budget)) (p.runs budget (omega (arith, l))) ∙ q.runs budget (let d = p.done in omega (arith, l, d));
  done = (let d = p.done in let g = q.done in omega (arith, d, g));
}

pub steps_same : {a : ℕ → CState → Result CState Stop} {m : ℕ} {s t : CState} (n : ℕ) → m ≡ n → Steps a m s t → Steps a n s t
steps_same {a} {m} {s} {t} n e p = subst (λ n. Steps a n s t) e p

-- one statement
pub steps_one : (go : CState → Option CState) (s e : CState) → go s ≡ Some e → e.done ≡ s.done → Steps (λ budget. count budget go) 1 s (counting e)
steps_one go s e p d = record { runs = λ budget l. by budget l; done = ap (λ n. n + 1) d }
  where
    by : (budget : ℕ) → s.done + 1 ≤ budget → count budget go s ≡ Ok (counting e)
    by budget l =
        let r : nat_lt s.done budget ≡ true = grind (arith, nat_tests) in
        ap (λ b. if b then counted s (go s) else Err (Budget s.memory)) r
        ∙ ap (counted s) p
        ∙ ap (λ n. let r : Result CState Stop = Ok (record e { done = n + 1 }) in r) (sym d)

pub agrees_count : {f : FunctionValue} {made : ℕ → Bool} {s : CState} {e : State} → Agrees f made s e → Agrees f made (counting s) e
agrees_count a = record { memory = a.memory; bytes = a.bytes; temps = a.temps; sums = a.sums; g = a.g }

-- ---- elements and rows

abbrev done : State → Result State Gap
done e = Ok e

abbrev pub none : ℕ → Bool
none p = false

-- the state after steps at the end of which both states agree
pub record Went (f : FunctionValue) (go : ℕ → CState → Result CState Stop) (n : ℕ) (s : CState) (e : State) : Type 0 where
  pub state : CState
  pub steps : Steps go n s state
  pub agrees : Agrees f none state e

module _ (f : FunctionValue) (call : Call) (mem : Memory) (kept : is_function f ≡ true) (near : has_far f ≡ false) (counts : HasCounts f call) (is : IsCall call) (good : GoodArrays f call mem) (c : CFunctionValue) (temps : c.temps ≡ variables_of (body_of f.vars f.insns)) (accs : c.accs ≡ count_of kind.Accumulator f.vars) where
  insns_do : (r i : ℕ) → r < rows f call → i < call.n → (earlier insns : List Insn) (s : CState) (e e1 : State) → list_any is_far insns ≡ false → all_pass f.vars earlier insns ≡ true → variables_of (body_of f.vars insns) ≤ c.temps → Agrees f (λ p. is_set earlier p) s e → emulation.element f call r i insns e ≡ done e1 → HasDone f c call r i none (body_of f.vars insns) s e1
  insns_do r i row low earlier [] s e e1 far p room g h = record { state = s; does = does_none c call (record { row = r; element = i }) s; agrees = subst (λ e. Agrees f none s e) (ok_same e e1 h) (agrees_less none (λ p k n. absurd (true≢false (sym n))) g) }
  insns_do r i row low earlier (insn ∷ insns) s e e1 far p room g h =
      let n = near_parts insn insns far in
      let rooms = room_both (insn_body f.vars insn) (body_of f.vars insns) c.temps room in
      let a = both (is_shaped f.vars insn) (has_no_fault (insn_fault f.vars earlier insn) && all_pass f.vars (earlier ++ insn ∷ []) insns) p in
      let b = both (has_no_fault (insn_fault f.vars earlier insn)) (all_pass f.vars (earlier ++ insn ∷ []) insns) a.1 in
      let u = go_on_ok (act f call r i insn e) (emulation.element f call r i insns) e1 h in
      let x = insn_does f call mem kept near counts is good c accs r i row low earlier insn s e u.0 (checked f.vars earlier insn n.0 a.0 b.0) rooms.0 g u.1 in
      let y = insns_do r i row low (earlier ++ insn ∷ []) insns x.state u.0 e1 n.1 b.1 rooms.1 x.agrees u.2 in
      record { state = y.state; does = does_both {e = x.state} {g = y.state} x.does y.does; agrees = y.agrees }

  module _ (body : c.body ≡ body_of f.vars f.insns) where
    element_goes : (r i : ℕ) → r < rows f call → i < call.n → (s : CState) (e e1 : State) → Agrees f none s e → emulation.element f call r i f.insns e ≡ done e1 → Went f (λ budget. meaning.element c call budget r i) (1 + length c.body) s e1
    element_goes r i row low s e e1 g h =
        let t : Turn = record { row = r; element = i } in
        let x = insns_do r i row low [] f.insns (counting s) e e1 near (kept_of f kept).insns (omega (arith, temps)) (agrees_less (λ p. is_set [] p) (λ p k n. absurd (true≢false (sym n))) (agrees_count g)) h in
        let d : Does c call t c.body (counting s) x.state = subst (λ (b : List CStmt). Does c call t b (counting s) x.state) (sym body) x.does in
        let begin : Steps begin_turn 1 s (counting s) = steps_one (λ s. Some s) s s refl refl in
        let rest : Steps (λ budget. meaning.body_of c call budget t c.body) (length c.body) (counting s) x.state = record { runs = d.runs; done = d.done } in
        record { state = x.state; steps = steps_both begin rest; agrees = x.agrees }

    elements_go : (r : ℕ) → r < rows f call → (n : ℕ) → n ≤ call.n → (s : CState) (e e1 : State) → Agrees f none s e → row_of f call r n e ≡ done e1 → Went f (λ budget. times n (meaning.element c call budget r)) (n * (1 + length c.body)) s e1
    elements_go r row zero l s e e1 g h = record { state = s; steps = record { runs = λ budget l. refl; done = omega arith }; agrees = subst (λ e. Agrees f none s e) (ok_same e e1 h) g }
    elements_go r row (suc n) l s e e1 g h =
        let u = go_on_ok (row_of f call r n e) (emulation.element f call r n f.insns) e1 h in
        let x = elements_go r row n (omega (arith, l)) s e u.0 g u.1 in
        let y = element_goes r n row (omega (arith, l)) x.state u.0 e1 x.agrees u.2 in
        let m : n * (1 + length c.body) + (1 + length c.body) ≡ suc n * (1 + length c.body) = grind arith in
        record { state = y.state; steps = steps_same (suc n * (1 + length c.body)) m (steps_both x.steps y.steps); agrees = y.agrees }

    row_goes : (r : ℕ) → r < rows f call → (s : CState) (e e1 : State) → Agrees f none s e → row_of f call r call.n e ≡ done e1 → Went f (λ budget. meaning.row c call budget r) (1 + call.n * (1 + length c.body)) s e1
    row_goes r row s e e1 g h =
        let x = elements_go r row call.n (omega arith) (counting s) e e1 (agrees_count g) h in
        let begin : Steps begin_turn 1 s (counting s) = steps_one (λ s. Some s) s s refl refl in
        record { state = x.state; steps = steps_both begin x.steps; agrees = x.agrees }

    -- rows, each with its elements
    pub rows_go : (m : ℕ) → m ≤ rows f call → (s : CState) (e e1 : State) → Agrees f none s e → rows_of f call m e ≡ done e1 → Went f (λ budget. times m (meaning.row c call budget)) (m * (1 + call.n * (1 + length c.body))) s e1
    rows_go zero l s e e1 g h = record { state = s; steps = record { runs = λ budget l. refl; done = omega arith }; agrees = subst (λ e. Agrees f none s e) (ok_same e e1 h) g }
    rows_go (suc m) l s e e1 g h =
        let u = go_on_ok (rows_of f call m e) (row_of f call m call.n) e1 h in
        let x = rows_go m (omega (arith, l)) s e u.0 g u.1 in
        let y = row_goes m (omega (arith, l)) x.state u.0 e1 x.agrees u.2 in
        let n : m * (1 + call.n * (1 + length c.body)) + (1 + call.n * (1 + length c.body)) ≡ suc m * (1 + call.n * (1 + length c.body)) = grind arith in
        record { state = y.state; steps = steps_same (suc m * (1 + call.n * (1 + length c.body))) n (steps_both x.steps y.steps); agrees = y.agrees }
