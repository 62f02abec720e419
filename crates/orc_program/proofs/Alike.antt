-- One element of two calls whose cells for it are the same: on memories that agree there it does the same.
use Rattle.std.proofs.Common.{◌≡◌, ◌≢◌, ℕ, zero, suc, ◌+◌, ◌*◌, ◌%◌, ◌^◌, ◌<◌, ◌==◌, ◌&&◌, ◌||◌, Bool, true, false, not, arith, List, [], ◌∷◌, ◌++◌, Option, Some, None, Ok, is_some, refl, sym, ap, ◌∙◌, subst, length, if◌then◌else◌, true≢false, ◌⊎◌, inl, inr}
use Rattle.std.specs.List.{list_any}
use Rattle.std.proofs.Math.Nat.{mod-add-mod, mod-mod, mod-lt}
use Rattle.std.proofs.lemmas.Nat.{pow_pos}
use Rattle.std.proofs.lemmas.Bool.{cases_eq, eqb-true}
use Rattle.std.proofs.lemmas.List.Folds.{list_any-append}
use Rattle.orc_bits.specs.Memory.{Memory, bind, put, read, number, value, fill, store, all_mapped}
use Rattle.orc_bits.specs.Lanes.{byte_of, change}
use Rattle.orc_bits.proofs.Memories.{none_some, store_fills, store_there}
use Rattle.orc_bits.proofs.LaneLaws.{eq_false, eq_true}
use Rattle.orc_ops.specs.declared.opcode.Op.{Op}
use Rattle.orc_ops.specs.Table.{row, size_of_result, size_of_source}
use Rattle.orc_program.specs.declared.program.Var.{Var}
use Rattle.orc_program.specs.declared.program.VarKind.{VarKind}
use Rattle.orc_program.specs.declared.program.VarKind.TheVariants as kind
use Rattle.orc_program.specs.declared.program.Operand.{Operand}
use Rattle.orc_program.specs.declared.program.Operand.TheVariants as operand
use Rattle.orc_program.specs.declared.program.Insn.{Insn}
use Rattle.orc_program.specs.declared.fault.Fault.{Fault}
use Rattle.orc_program.specs.declared.fault.Fault.TheVariants as fault
use Rattle.orc_program.specs.declared.call.Call.{Call}
use Rattle.orc_program.specs.Program.{FunctionValue, var_at, same_kind, is_of, is_array, is_array_kind, is_place, operand_kind, is_far}
use Rattle.orc_program.specs.Checks.{check, or_else, is_set, is_unset, is_wrong_size, is_bad_prefix, is_too_many, source_kind_fault, source_fault, sources_fault, results_fault, insn_fault}
use Rattle.orc_program.specs.Kept.{is_shaped, has_no_fault, all_pass, count_sizes, result_count}
use Rattle.orc_program.specs.Meaning.{State, go_on, or_gap, cell, gap_at, param_at, sub_lane, lanewise, read_cell, read_var, read_source, read_sources, write_cell, write_var, write_result, write_results, act, element}
use Rattle.orc_program.specs.Good.{byte_at}
use Rattle.orc_program.proofs.Sizes.{both}
use Rattle.orc_program.proofs.Near.{act_near, near_parts}
use Rattle.orc_program.proofs.Steps.{go_on_ok, or_gap_ok, ok_same}

-- ---- memories that agree at some bytes

abbrev AgreeAt : ℕ → Memory → Memory → ℕ → Type 0
AgreeAt n m b a = (j : ℕ) → j < n → m ((a + j) % 2 ^ 64) ≡ b ((a + j) % 2 ^ 64)

agree_rest : (n : ℕ) (m b : Memory) (a : ℕ) → AgreeAt (suc n) m b a → AgreeAt n m b (a + 1)
agree_rest n m b a h j l = subst (λ x. m (x % 2 ^ 64) ≡ b (x % 2 ^ 64)) (let e : a + suc j ≡ a + 1 + j = omega arith in e) (h (suc j) (omega (arith, l)))

agree_first : (n : ℕ) (m b : Memory) (a : ℕ) → AgreeAt (suc n) m b a → m (a % 2 ^ 64) ≡ b (a % 2 ^ 64)
agree_first n m b a h = subst (λ x. m (x % 2 ^ 64) ≡ b (x % 2 ^ 64)) (let e : a + 0 ≡ a = omega arith in e) (h 0 (omega arith))

read_agrees : (n : ℕ) (m b : Memory) (a : ℕ) → AgreeAt n m b a → read n m a ≡ read n b a
read_agrees zero m b a h = refl
read_agrees (suc n) m b a h =
    ap (λ o. bind o (λ x. bind (read n m (a + 1)) (λ xs. Some (x ∷ xs)))) (agree_first n m b a h)
    ∙ ap (λ o. bind (b (a % 2 ^ 64)) (λ x. bind o (λ xs. Some (x ∷ xs)))) (read_agrees n m b (a + 1) (agree_rest n m b a h))

value_agrees : (n : ℕ) (m b : Memory) (a : ℕ) → AgreeAt n m b a → value n m a ≡ value n b a
value_agrees n m b a h = ap (λ o. bind o (λ bs. Some (number bs))) (read_agrees n m b a h)

mapped_agrees : (n : ℕ) (m b : Memory) (a : ℕ) → AgreeAt n m b a → all_mapped n m a ≡ all_mapped n b a
mapped_agrees zero m b a h = refl
mapped_agrees (suc n) m b a h =
    ap (λ o. is_some o && all_mapped n m (a + 1)) (agree_first n m b a h)
    ∙ ap (λ t. is_some (b (a % 2 ^ 64)) && t) (mapped_agrees n m b (a + 1) (agree_rest n m b a h))

put_agrees : (m b : Memory) (a v x : ℕ) → m x ≡ b x → put m a v x ≡ put b a v x
unfolding put
put_agrees m b a v x e = ap (λ o. if x == a then Some v else o) e

fill_agrees : (n : ℕ) (m b : Memory) (a : ℕ) (f : ℕ → ℕ) (x : ℕ) → m x ≡ b x → fill n m a f x ≡ fill n b a f x
unfolding fill
fill_agrees zero m b a f x e = e
fill_agrees (suc n) m b a f x e = put_agrees (fill n m a f) (fill n b a f) ((a + n) % 2 ^ 64) (f n) x (fill_agrees n m b a f x e)

all_stored : (n : ℕ) (m : Memory) (a : ℕ) (f : ℕ → ℕ) (end : Memory) → store n m a f ≡ Some end → all_mapped n m a ≡ true
all_stored n m a f end e = go (all_mapped n m a) e
  where
    go : (t : Bool) → (if t then Some (fill n m a f) else None) ≡ Some end → t ≡ true
    go true h = refl
    go false h = absurd (none_some h)

store_agrees : (n : ℕ) (m b : Memory) (a : ℕ) (f : ℕ → ℕ) (end : Memory) → AgreeAt n m b a → store n m a f ≡ Some end → store n b a f ≡ Some (fill n b a f)
store_agrees n m b a f end h e = store_there n b a f (sym (mapped_agrees n m b a h) ∙ all_stored n m a f end e)

-- ---- sums that grow alike

-- modulo m, y is x with d added, and y is below m where x is
abbrev pub Grows : ℕ → ℕ → ℕ → ℕ → Type 0
Grows m d x y = (y % m ≡ (x + d) % m) × (x < m → y < m)

grows_none : (m x : ℕ) → Grows m 0 x x
grows_none m x = (ap (λ y. y % m) (let e : x ≡ x + 0 = omega arith in e), λ l. l)

grows_by : (m d x : ℕ) → 0 < m → Grows m d x ((x + d) % m)
grows_by m d x l = (mod-mod (x + d) m, λ h. mod-lt (x + d) l)

grows_more : (m d e x y z : ℕ) → Grows m d x y → Grows m e y z → Grows m (d + e) x z
grows_more m d e x y z a b = (
  b.0 ∙ sym (mod-add-mod y m e) ∙ ap (λ w. (w + e) % m) a.0 ∙ mod-add-mod (x + d) m e
      ∙ ap (λ w. w % m) (let q : x + d + e ≡ x + (d + e) = omega arith in q),
  λ l. b.1 (a.1 l),
)

-- ---- temps that are set

first_none : (x y : Option Fault) → has_no_fault (or_else x y) ≡ true → has_no_fault x ≡ true
first_none None y h = refl
first_none (Some f) y h = absurd (true≢false (sym h))

later_none : (x y : Option Fault) → has_no_fault (or_else x y) ≡ true → has_no_fault y ≡ true
later_none None y h = h
later_none (Some f) y h = absurd (true≢false (sym h))

unmet : (b : Bool) (f : Fault) → has_no_fault (check b f) ≡ true → b ≡ false
unmet true f h = absurd (true≢false (sym h))
unmet false f h = refl

not_unset : (vars : List Var) (earlier : List Insn) (op : Op) (prefix position : ℕ) (o : Operand) → has_no_fault (source_fault vars earlier op prefix position o) ≡ true → is_unset vars earlier o ≡ false
not_unset vars earlier op prefix position o h =
    let kinds = source_kind_fault (row op).kind position (operand_kind vars o) in
    let size = check (is_wrong_size vars (size_of_source op position * prefix) o) fault.SizeMismatch in
    let unset = check (is_unset vars earlier o) fault.Unset in
    unmet (is_unset vars earlier o) fault.Unset (later_none size unset (later_none kinds (or_else size unset) h))

sources_pass : (vars : List Var) (earlier : List Insn) (insn : Insn) → has_no_fault (insn_fault vars earlier insn) ≡ true → has_no_fault (sources_fault vars earlier insn.op insn.prefix 0 insn.sources.items) ≡ true
unfolding insn_fault
sources_pass vars earlier insn h =
    let last = or_else (check (is_too_many vars earlier insn) fault.TooMany) None in
    let sources = sources_fault vars earlier insn.op insn.prefix 0 insn.sources.items in
    let results = results_fault vars insn.op insn.prefix 0 insn.results.items in
    let prefix = check (is_bad_prefix insn.op insn.prefix) fault.BadPrefix in
    first_none sources last (later_none results (or_else sources last) (later_none prefix (or_else results (or_else sources last)) h))

-- no source is a temp that isn't set
abbrev AllSet : List Var → List Insn → List Operand → Type 0
AllSet vars earlier [] = Unit {0}
AllSet vars earlier (o ∷ os) = (is_unset vars earlier o ≡ false) × AllSet vars earlier os

all_set : (vars : List Var) (earlier : List Insn) (op : Op) (prefix position : ℕ) (os : List Operand) → has_no_fault (sources_fault vars earlier op prefix position os) ≡ true → AllSet vars earlier os
all_set vars earlier op prefix position [] h = tt
all_set vars earlier op prefix position (o ∷ os) h =
    let one = source_fault vars earlier op prefix position o in
    let rest = sources_fault vars earlier op prefix (position + 1) os in
    (not_unset vars earlier op prefix position o (first_none one rest h), all_set vars earlier op prefix (position + 1) os (later_none one rest h))

-- at most two results
abbrev AtMostTwo : List Operand → Type 0
AtMostTwo (x ∷ y ∷ z ∷ more) = ⊥
AtMostTwo _ = Unit {0}

few_sizes : (a b : ℕ) → count_sizes a b < 3
few_sizes a b = go (a == 0) (b == 0)
  where
    go : (s t : Bool) → (if s then 0 else (if t then 1 else 2)) < 3
    go true t = omega arith
    go false true = omega arith
    go false false = omega arith

at_most_two : (os : List Operand) → length os < 3 → AtMostTwo os
at_most_two [] l = tt
at_most_two (x ∷ []) l = tt
at_most_two (x ∷ y ∷ []) l = tt
at_most_two (x ∷ y ∷ z ∷ more) l = absurd (omega (arith, l))

two_results : (vars : List Var) (insn : Insn) → is_shaped vars insn ≡ true → AtMostTwo insn.results.items
two_results vars insn h =
    let prefix = insn.prefix == 1 || (insn.prefix == 2 || insn.prefix == 4) in
    let a = both prefix _ h in
    let b = both (length insn.results.items == result_count insn.op) _ a.1 in
    let few = few_sizes (size_of_result insn.op 0) (size_of_result insn.op 1) in
    let e = b.0 in
    at_most_two insn.results.items (subst (λ n. n < 3) (sym (eqb-true (length insn.results.items) (result_count insn.op) e)) few)

-- ---- one element of two calls

eq_yes : (x y : ℕ) → x ≡ y → (x == y) ≡ true
eq_yes x y e = grind (arith, e)

-- two memories agree at the addresses with C
abbrev pub Agree : (ℕ → Type 0) → Memory → Memory → Type 0
Agree C m b = (a : ℕ) → C a → m a ≡ b a

-- temps of two states agree where they are set
abbrev pub SameTemps : FunctionValue → (ℕ → Type 0) → State → State → Type 0
SameTemps f T s u = (p : ℕ) → is_of kind.Temp (var_at f.vars p) ≡ true → T p → s.temps p ≡ u.temps p

-- sums of two states grow by the same
abbrev pub SameGrowth : FunctionValue → (ℕ → ℕ) → State → State → State → State → Type 0
SameGrowth f d s t u v = (p : ℕ) → Grows (2 ^ (8 * (var_at f.vars p).size)) (d p) (s.sums p) (t.sums p) × Grows (2 ^ (8 * (var_at f.vars p).size)) (d p) (u.sums p) (v.sums p)

-- the places with T and those of these results
abbrev Among : (ℕ → Type 0) → List Operand → ℕ → Type 0
Among T os q = T q ⊎ (list_any (is_place q) os ≡ true)

module _ (f : FunctionValue) (call part : Call) (r i r2 i2 : ℕ) (C : ℕ → Type 0)
    (same : (p : ℕ) → is_array (var_at f.vars p) ≡ true → cell f call p r i ≡ cell f part p r2 i2)
    (params : (p : ℕ) → (var_at f.vars p).kind ≡ kind.Param → param_at f part p ≡ param_at f call p)
    (inside : (p j : ℕ) → is_array (var_at f.vars p) ≡ true → j < (var_at f.vars p).size → C (byte_at f call p r i j)) where
  -- what a step from s to t leaves in the other call, from u
  pub record Beside (T : ℕ → Type 0) (s t u v : State) : Type 0 where
    pub agree : Agree C t.memory v.memory
    pub temps : SameTemps f T t v
    pub adds : ℕ → ℕ
    pub sums : SameGrowth f adds s t u v

  array_of : (p : ℕ) (k : VarKind) → (var_at f.vars p).kind ≡ k → is_array_kind k ≡ true → is_array (var_at f.vars p) ≡ true
  array_of p k e a = ap is_array_kind e ∙ a

  cell_agrees : (p : ℕ) (m b : Memory) → is_array (var_at f.vars p) ≡ true → Agree C m b → AgreeAt (var_at f.vars p).size m b (cell f call p r i)
  cell_agrees p m b a h j l = h (byte_at f call p r i j) (inside p j a l)

  read_cell_alike : (p x : ℕ) (s u : State) → is_array (var_at f.vars p) ≡ true → Agree C s.memory u.memory → read_cell f call r i p s ≡ Ok x → read_cell f part r2 i2 p u ≡ Ok x
  read_cell_alike p x s u a h e =
      let n = (var_at f.vars p).size in
      let v : value n s.memory (cell f call p r i) ≡ Some x = or_gap_ok (value n s.memory (cell f call p r i)) (gap_at f call r i p s) x e in
      ap (λ c. or_gap (value n u.memory c) (gap_at f part r2 i2 p u)) (sym (same p a))
      ∙ ap (λ o. or_gap o (gap_at f part r2 i2 p u)) (sym (value_agrees n s.memory u.memory (cell f call p r i) (cell_agrees p s.memory u.memory a h)) ∙ v)

  module _ (T : ℕ → Type 0) (s u : State) (h : Agree C s.memory u.memory) (temps : SameTemps f T s u) where
    array_alike : (w p : ℕ) (g : ℕ → ℕ) → is_array (var_at f.vars p) ≡ true → go_on (read_cell f call r i p s) (λ v. Ok (sub_lane w v)) ≡ Ok g → go_on (read_cell f part r2 i2 p u) (λ v. Ok (sub_lane w v)) ≡ Ok g
    array_alike w p g a e =
        let x = go_on_ok (read_cell f call r i p s) (λ v. Ok (sub_lane w v)) g e in
        ap (λ o. go_on o (λ v. Ok (sub_lane w v))) (read_cell_alike p x.0 s u a h x.1) ∙ x.2

    read_var_alike : (w p : ℕ) (k : VarKind) (g : ℕ → ℕ) → (var_at f.vars p).kind ≡ k → (is_of kind.Temp (var_at f.vars p) ≡ true → T p) → read_var f call r i w s p k ≡ Ok g → read_var f part r2 i2 w u p k ≡ Ok g
    read_var_alike w p kind.Source g q set e = array_alike w p g (array_of p kind.Source q refl) e
    read_var_alike w p kind.Dest g q set e = array_alike w p g (array_of p kind.Dest q refl) e
    read_var_alike w p kind.Temp g q set e =
        let temp : is_of kind.Temp (var_at f.vars p) ≡ true = ap (same_kind kind.Temp) q in
        ap (λ v. Ok (sub_lane w v)) (sym (temps p temp (set temp))) ∙ e
    read_var_alike w p kind.Param g q set e = ap (λ n. Ok (λ j. n)) (params p q) ∙ e
    read_var_alike w p kind.Const g q set e = e
    read_var_alike w p kind.Accumulator g q set e = e

    module _ (earlier : List Insn) (known : (p : ℕ) → is_set earlier p ≡ true → T p) where
      set_temp : (p : ℕ) → is_unset f.vars earlier (operand.Var p) ≡ false → is_of kind.Temp (var_at f.vars p) ≡ true → T p
      set_temp p e temp = known p (go (is_set earlier p) refl)
        where
          go : (b : Bool) → is_set earlier p ≡ b → b ≡ true
          go true q = refl
          go false q = absurd (true≢false (sym (ap (λ t. t && true) temp) ∙ ap (λ b. is_of kind.Temp (var_at f.vars p) && not b) (sym q) ∙ e))

      read_source_alike : (w : ℕ) (o : Operand) (g : ℕ → ℕ) → is_unset f.vars earlier o ≡ false → read_source f call r i w s o ≡ Ok g → read_source f part r2 i2 w u o ≡ Ok g
      read_source_alike w (operand.Var p) g n e = read_var_alike w p (var_at f.vars p).kind g refl (set_temp p n) e
      read_source_alike w (operand.Number m) g n e = e

      read_sources_alike : (op : Op) (os : List Operand) (g : (ℕ → ℕ) × (ℕ → ℕ)) → AllSet f.vars earlier os → read_sources f call r i op s os ≡ Ok g → read_sources f part r2 i2 op u os ≡ Ok g
      read_sources_alike op [] g n e = e
      read_sources_alike op (x ∷ []) g n e =
          let a = go_on_ok (read_source f call r i (8 * size_of_source op 0) s x) (λ a. Ok (a, (λ q. 0))) g e in
          ap (λ o. go_on o (λ a. Ok (a, (λ q. 0)))) (read_source_alike (8 * size_of_source op 0) x a.0 n.0 a.1) ∙ a.2
      read_sources_alike op (x ∷ y ∷ more) g n e =
          let a = go_on_ok (read_source f call r i (8 * size_of_source op 0) s x) (λ a. go_on (read_source f call r i (8 * size_of_source op 1) s y) (λ b. Ok (a, b))) g e in
          let b = go_on_ok (read_source f call r i (8 * size_of_source op 1) s y) (λ b. Ok (a.0, b)) g a.2 in
          ap (λ o. go_on o (λ a. go_on (read_source f part r2 i2 (8 * size_of_source op 1) u y) (λ b. Ok (a, b)))) (read_source_alike (8 * size_of_source op 0) x a.0 n.0 a.1)
          ∙ ap (λ o. go_on o (λ b. Ok (a.0, b))) (read_source_alike (8 * size_of_source op 1) y b.0 n.1.0 b.1) ∙ b.2

    -- ---- a number is written

    abbrev With : ℕ → ℕ → Type 0
    With p = λ q. T q ⊎ (q ≡ p)

    -- a result that is no temp leaves the temps
    other_temps : (p : ℕ) (k : VarKind) → (var_at f.vars p).kind ≡ k → same_kind kind.Temp k ≡ false → SameTemps f (With p) s u
    other_temps p k e n q temp (inl h) = temps q temp h
    other_temps p k e n q temp (inr h) = absurd (true≢false (sym temp ∙ ap (λ x. is_of kind.Temp (var_at f.vars x)) h ∙ ap (same_kind kind.Temp) e ∙ n))

    none_added : SameGrowth f (λ q. 0) s s u u
    none_added q = (grows_none (2 ^ (8 * (var_at f.vars q).size)) (s.sums q), grows_none (2 ^ (8 * (var_at f.vars q).size)) (u.sums q))

    abbrev Written : ℕ → ℕ → VarKind → State → Type 0
    Written p v k t = (x : State) × (write_var f part r2 i2 v u p k ≡ Ok x) × Beside (With p) s t u x

    untouched : (p v : ℕ) (k : VarKind) (t : State) → (var_at f.vars p).kind ≡ k → same_kind kind.Temp k ≡ false → s ≡ t → write_var f part r2 i2 v u p k ≡ Ok u → Written p v k t
    untouched p v k t q n e w =
        (u, w, subst (λ x. Beside (With p) s x u u) e (record { agree = h; temps = other_temps p k q n; adds = λ j. 0; sums = none_added }))

    dest_alike : (p v : ℕ) (t : State) → (var_at f.vars p).kind ≡ kind.Dest → write_var f call r i v s p kind.Dest ≡ Ok t → Written p v kind.Dest t
    dest_alike p v t q e =
        let n = (var_at f.vars p).size in
        let at = cell f call p r i in
        let z : ℕ → ℕ = byte_of n v in
        let a : is_array (var_at f.vars p) ≡ true = array_of p kind.Dest q refl in
        let x = go_on_ok (write_cell f call r i p v s) (λ mem. Ok (record s { memory = mem })) t e in
        let stored : store n s.memory at z ≡ Some x.0 = or_gap_ok (store n s.memory at z) (gap_at f call r i p s) x.0 x.1 in
        let filled : fill n s.memory at z ≡ x.0 = store_fills n s.memory at z x.0 stored in
        let there : store n u.memory at z ≡ Some (fill n u.memory at z) = store_agrees n s.memory u.memory at z x.0 (cell_agrees p s.memory u.memory a h) stored in
        let after : State = record u { memory = fill n u.memory at z } in (
          after,
          ap (λ c. go_on (or_gap (store n u.memory c z) (gap_at f part r2 i2 p u)) (λ mem. Ok (record u { memory = mem }))) (sym (same p a))
              ∙ ap (λ o. go_on (or_gap o (gap_at f part r2 i2 p u)) (λ mem. Ok (record u { memory = mem }))) there,
          subst (λ y. Beside (With p) s y u after) (ap (λ m. record s { memory = m }) filled ∙ ok_same (record s { memory = x.0 }) t x.2) (record {
            agree = λ b c. fill_agrees n s.memory u.memory at z b (h b c);
            temps = other_temps p kind.Dest q refl;
            adds = λ j. 0;
            sums = none_added;
          }),
        )

    temp_alike : (p v : ℕ) (t : State) → write_var f call r i v s p kind.Temp ≡ Ok t → Written p v kind.Temp t
    temp_alike p v t e =
        let after : State = record u { temps = change u.temps p v } in (
          after,
          refl,
          subst (λ y. Beside (With p) s y u after) (ok_same (record s { temps = change s.temps p v }) t e) (record {
            agree = h;
            temps = changed;
            adds = λ j. 0;
            sums = none_added;
          }),
        )
      where
        changed : (q : ℕ) → is_of kind.Temp (var_at f.vars q) ≡ true → With p q → change s.temps p v q ≡ change u.temps p v q
        changed q temp (inl t) = ap (λ x. if q == p then v else x) (temps q temp t)
        changed q temp (inr e) = ap (λ b. if b then v else s.temps q) (eq_yes q p e) ∙ sym (ap (λ b. if b then v else u.temps q) (eq_yes q p e))

    sum_alike : (p v : ℕ) (t : State) → (var_at f.vars p).kind ≡ kind.Accumulator → write_var f call r i v s p kind.Accumulator ≡ Ok t → Written p v kind.Accumulator t
    sum_alike p v t q e =
        let m = 2 ^ (8 * (var_at f.vars p).size) in
        let after : State = record u { sums = change u.sums p ((u.sums p + v) % m) } in (
          after,
          refl,
          subst (λ y. Beside (With p) s y u after) (ok_same (record s { sums = change s.sums p ((s.sums p + v) % m) }) t e) (record {
            agree = h;
            temps = other_temps p kind.Accumulator q refl;
            adds = change (λ j. 0) p v;
            sums = λ j. (grown s.sums j, grown u.sums j);
          }),
        )
      where
        grown : (g : ℕ → ℕ) (j : ℕ) → Grows (2 ^ (8 * (var_at f.vars j).size)) (change (λ x. 0) p v j) (g j) (change g p ((g p + v) % 2 ^ (8 * (var_at f.vars p).size)) j)
        grown g j = go (cases_eq j p)
          where
            go : (j ≡ p) ⊎ (j ≢ p) → Grows (2 ^ (8 * (var_at f.vars j).size)) (change (λ x. 0) p v j) (g j) (change g p ((g p + v) % 2 ^ (8 * (var_at f.vars p).size)) j)
            go (inl e) = subst (λ x. Grows (2 ^ (8 * (var_at f.vars x).size)) (change (λ x. 0) p v x) (g x) (change g p ((g p + v) % 2 ^ (8 * (var_at f.vars p).size)) x)) (sym e)
                (subst (λ b. Grows (2 ^ (8 * (var_at f.vars p).size)) (if b then v else 0) (g p) (if b then (g p + v) % 2 ^ (8 * (var_at f.vars p).size) else g p)) (sym (eq_true p)) (grows_by (2 ^ (8 * (var_at f.vars p).size)) v (g p) (pow_pos (8 * (var_at f.vars p).size))))
            go (inr ne) = subst (λ b. Grows (2 ^ (8 * (var_at f.vars j).size)) (if b then v else 0) (g j) (if b then (g p + v) % 2 ^ (8 * (var_at f.vars p).size) else g j)) (sym (eq_false j p ne)) (grows_none (2 ^ (8 * (var_at f.vars j).size)) (g j))

    write_var_alike : (p v : ℕ) (k : VarKind) (t : State) → (var_at f.vars p).kind ≡ k → write_var f call r i v s p k ≡ Ok t → Written p v k t
    write_var_alike p v kind.Dest t q e = dest_alike p v t q e
    write_var_alike p v kind.Temp t q e = temp_alike p v t e
    write_var_alike p v kind.Accumulator t q e = sum_alike p v t q e
    write_var_alike p v kind.Source t q e = untouched p v kind.Source t q refl (ok_same s t e) refl
    write_var_alike p v kind.Param t q e = untouched p v kind.Param t q refl (ok_same s t e) refl
    write_var_alike p v kind.Const t q e = untouched p v kind.Const t q refl (ok_same s t e) refl

    write_result_alike : (v : ℕ) (o : Operand) (t : State) → write_result f call r i v s o ≡ Ok t → (x : State) × (write_result f part r2 i2 v u o ≡ Ok x) × Beside (Among T (o ∷ [])) s t u x
    write_result_alike v (operand.Var p) t e =
        let w = write_var_alike p v (var_at f.vars p).kind t refl e in
        (w.0, w.1, record { agree = w.2.agree; temps = λ q temp a. w.2.temps q temp (placed q a); adds = w.2.adds; sums = w.2.sums })
      where
        only : (b : Bool) → (b || false) ≡ true → b ≡ true
        only true h = refl
        only false h = h

        placed : (q : ℕ) → Among T (operand.Var p ∷ []) q → With p q
        placed q (inl h) = inl h
        placed q (inr h) = inr (eqb-true q p (only (q == p) h))
    write_result_alike v (operand.Number n) t e = (u, refl, subst (λ x. Beside (Among T (operand.Number n ∷ [])) s x u u) (ok_same s t e) (record { agree = h; temps = kept; adds = λ j. 0; sums = none_added }))
      where
        kept : SameTemps f (Among T (operand.Number n ∷ [])) s u
        kept q temp (inl h) = temps q temp h
        kept q temp (inr h) = absurd (true≢false (sym h))

  -- two steps, one after the other
  beside_more : (T U : ℕ → Type 0) (s t w u v x : State) → Beside T s t u v → Beside U t w v x → Beside U s w u x
  beside_more T U s t w u v x a b = record {
    agree = b.agree;
    temps = b.temps;
    adds = λ p. a.adds p + b.adds p;
    sums = λ p. (
      grows_more (2 ^ (8 * (var_at f.vars p).size)) (a.adds p) (b.adds p) (s.sums p) (t.sums p) (w.sums p) (a.sums p).0 (b.sums p).0,
      grows_more (2 ^ (8 * (var_at f.vars p).size)) (a.adds p) (b.adds p) (u.sums p) (v.sums p) (x.sums p) (a.sums p).1 (b.sums p).1,
    );
  }

  abbrev Results : (ℕ → Type 0) → ℕ × ℕ → List Operand → State → State → State → Type 0
  Results T v os s t u = (x : State) × (write_results f part r2 i2 v u os ≡ Ok x) × Beside (Among T os) s t u x

  write_results_alike : (T : ℕ → Type 0) (v : ℕ × ℕ) (os : List Operand) (s t u : State) → Agree C s.memory u.memory → SameTemps f T s u → AtMostTwo os → write_results f call r i v s os ≡ Ok t → Results T v os s t u
  write_results_alike T v [] s t u h temps few e =
      (u, refl, subst (λ x. Beside (Among T []) s x u u) (ok_same s t e) (record { agree = h; temps = kept; adds = λ j. 0; sums = none_added T s u h temps }))
    where
      kept : SameTemps f (Among T []) s u
      kept q temp (inl h) = temps q temp h
      kept q temp (inr h) = absurd (true≢false (sym h))
  write_results_alike T v (x ∷ []) s t u h temps few e = write_result_alike T s u h temps v.0 x t e
  write_results_alike T v (x ∷ y ∷ z ∷ more) s t u h temps few e = absurd few
  write_results_alike T v (x ∷ y ∷ []) s t u h temps few e =
      let a = go_on_ok (write_result f call r i v.0 s x) (λ w. write_result f call r i v.1 w y) t e in
      let one = write_result_alike T s u h temps v.0 x a.0 a.1 in
      let two = write_result_alike (Among T (x ∷ [])) a.0 one.0 one.2.agree one.2.temps v.1 y t a.2 in
      let both = beside_more (Among T (x ∷ [])) (Among (Among T (x ∷ [])) (y ∷ [])) s a.0 t u one.0 two.0 one.2 two.2 in (
        two.0,
        ap (λ o. go_on o (λ w. write_result f part r2 i2 v.1 w y)) one.1 ∙ two.1,
        record { agree = both.agree; temps = λ q temp m. both.temps q temp (joined q m); adds = both.adds; sums = both.sums },
      )
    where
      go : (q : ℕ) (a b : Bool) → (a || (b || false)) ≡ true → ((T q ⊎ ((a || false) ≡ true)) ⊎ ((b || false) ≡ true))
      go q true b h = inl (inr refl)
      go q false b h = inr h

      joined : (q : ℕ) → Among T (x ∷ y ∷ []) q → Among (Among T (x ∷ [])) (y ∷ []) q
      joined q (inl h) = inl (inl h)
      joined q (inr h) = go q (is_place q x) (is_place q y) h

  -- ---- instructions

  abbrev Set : List Insn → ℕ → Type 0
  Set earlier p = is_set earlier p ≡ true

  abbrev Acts : List Insn → Insn → State → State → State → Type 0
  Acts earlier insn s t u = (x : State) × (act f part r2 i2 insn u ≡ Ok x) × Beside (Set (earlier ++ insn ∷ [])) s t u x

  act_alike : (earlier : List Insn) (insn : Insn) (s t u : State) → is_far insn ≡ false → is_shaped f.vars insn ≡ true → has_no_fault (insn_fault f.vars earlier insn) ≡ true → Agree C s.memory u.memory → SameTemps f (Set earlier) s u
      → act f call r i insn s ≡ Ok t → Acts earlier insn s t u
  act_alike earlier insn s t u near shaped pass h temps e =
      let x = go_on_ok (read_sources f call r i insn.op s insn.sources.items) (λ x. write_results f call r i (lanewise insn.op insn.prefix x.0 x.1) s insn.results.items) t (sym (act_near f call r i insn s near) ∙ e) in
      let set = all_set f.vars earlier insn.op insn.prefix 0 insn.sources.items (sources_pass f.vars earlier insn pass) in
      let reads = read_sources_alike (Set earlier) s u h temps earlier (λ p q. q) insn.op insn.sources.items x.0 set x.1 in
      let w = write_results_alike (Set earlier) (lanewise insn.op insn.prefix x.0.0 x.0.1) insn.results.items s t u h temps (two_results f.vars insn shaped) x.2 in (
        w.0,
        act_near f part r2 i2 insn u near ∙ ap (λ o. go_on o (λ x. write_results f part r2 i2 (lanewise insn.op insn.prefix x.0 x.1) u insn.results.items)) reads ∙ w.1,
        record { agree = w.2.agree; temps = λ q temp m. w.2.temps q temp (before q m); adds = w.2.adds; sums = w.2.sums },
      )
    where
      only : (a b : Bool) → (a || (b || false)) ≡ true → (a ≡ true) ⊎ (b ≡ true)
      only true b h = inl refl
      only false true h = inr refl
      only false false h = inr h

      before : (q : ℕ) → Set (earlier ++ insn ∷ []) q → Among (Set earlier) insn.results.items q
      before q m = only (is_set earlier q) (list_any (is_place q) insn.results.items) (sym (list_any-append (λ (n : Insn). list_any (is_place q) n.results.items) earlier (insn ∷ [])) ∙ m)

  pub insns_alike : (earlier insns : List Insn) (s t u : State) → list_any is_far insns ≡ false → all_pass f.vars earlier insns ≡ true → Agree C s.memory u.memory → SameTemps f (Set earlier) s u
      → element f call r i insns s ≡ Ok t → (x : State) × (element f part r2 i2 insns u ≡ Ok x) × Beside (λ q. ⊥) s t u x
  insns_alike earlier [] s t u near pass h temps e =
      (u, refl, subst (λ x. Beside (λ q. ⊥) s x u u) (ok_same s t e) (record { agree = h; temps = λ q temp m. absurd m; adds = λ j. 0; sums = none_added (Set earlier) s u h temps }))
  insns_alike earlier (insn ∷ insns) s t u near pass h temps e =
      let n = near_parts insn insns near in
      let a = both (is_shaped f.vars insn) (has_no_fault (insn_fault f.vars earlier insn) && all_pass f.vars (earlier ++ insn ∷ []) insns) pass in
      let b = both (has_no_fault (insn_fault f.vars earlier insn)) (all_pass f.vars (earlier ++ insn ∷ []) insns) a.1 in
      let x = go_on_ok (act f call r i insn s) (element f call r i insns) t e in
      let one = act_alike earlier insn s x.0 u n.0 a.0 b.0 h temps x.1 in
      let rest = insns_alike (earlier ++ insn ∷ []) insns x.0 t one.0 n.1 b.1 one.2.agree one.2.temps x.2 in (
        rest.0,
        ap (λ o. go_on o (element f part r2 i2 insns)) one.1 ∙ rest.1,
        beside_more (Set (earlier ++ insn ∷ [])) (λ q. ⊥) s x.0 t u one.0 rest.0 one.2 rest.2,
      )

  -- all of an element, whatever the temps before it
  pub element_alike : (insns : List Insn) (s t u : State) → list_any is_far insns ≡ false → all_pass f.vars [] insns ≡ true → Agree C s.memory u.memory → element f call r i insns s ≡ Ok t → (x : State) × (element f part r2 i2 insns u ≡ Ok x) × Beside (λ q. ⊥) s t u x
  element_alike insns s t u near pass h e = insns_alike [] insns s t u near pass h (λ q temp m. absurd (true≢false (sym m))) e
