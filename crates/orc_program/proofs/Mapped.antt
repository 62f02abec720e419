-- A call whose cells are all mapped has no gap.
use Rattle.std.proofs.Common.{◌≡◌, ℕ, zero, suc, ◌*◌, ◌<◌, ◌≤◌, ◌==◌, true, List, [], ◌∷◌, Option, Some, None, false, not, ◌&&◌, ◌||◌, is_some, inl, inr, ℤ, Result, Ok, Err, refl, sym, ap, ◌∙◌, subst, arith, length, true≢false}
use Rattle.std.specs.Prelude.{Contains}
use Rattle.std.specs.List.{list_any}
use Rattle.orc_bits.specs.Numbers.{wrap}
use Rattle.orc_bits.specs.Memory.{Memory, store, fill, missing, IsMapped}
use Rattle.orc_bits.specs.Lanes.{byte_of}
use Rattle.orc_bits.proofs.Memories.{fill_mapped, value_there, store_mapped}
use Rattle.orc_ops.specs.declared.opcode.Op.{Op}
use Rattle.orc_ops.specs.Table.{size_of_source}
use Rattle.orc_ops.specs.declared.far.Far.{Far}
use Rattle.orc_ops.specs.declared.elements.Reach.{Reach}
use Rattle.orc_ops.specs.Far.{far_of, far_blend}
use Rattle.orc_program.specs.declared.program.Var.{Var}
use Rattle.orc_program.specs.declared.program.VarKind.{VarKind}
use Rattle.orc_program.specs.declared.program.VarKind.TheVariants as kind
use Rattle.orc_program.specs.declared.program.Operand.{Operand}
use Rattle.orc_program.specs.declared.program.Operand.TheVariants as operand
use Rattle.orc_program.specs.declared.program.Insn.{Insn}
use Rattle.orc_program.specs.declared.call.Call.{Call}
use Rattle.orc_program.specs.Program.{FunctionValue, var_at, is_of, is_array, is_array_kind, is_place, far_array}
use Rattle.orc_program.specs.Meaning.{State, Gap, go_on, or_gap, cell, cell_at, gap_at, lanewise, read_cell, read_var, read_source, read_sources, write_var, write_result, write_results, reach_of, read_far, read_second, load_far, act, act_as, element, row_of, rows_of, rows, start, ended, emulate, sub_lane}
use Rattle.orc_program.specs.Good.{IsByte, IsReached, Reads, GoodArrays, byte_at, is_near, reads_near, reads_far}
use Rattle.orc_program.proofs.Near.{or_right, any_at, dest_near, far_array_is}

eq_yes : (x y : ℕ) → x ≡ y → (x == y) ≡ true
eq_yes x y e = grind (arith, e)

-- an array's place is among the variables
pub in_range : (vars : List Var) (p : ℕ) → is_array (var_at vars p) ≡ true → p < length vars
in_range [] p h = absurd (true≢false (sym h))
in_range (v ∷ vars) zero h = omega arith
in_range (v ∷ vars) (suc p) h = let l = in_range vars p h in omega (arith, l)

abbrev pub AllMapped : FunctionValue → Call → Memory → Type 0
AllMapped f call mem = (p r i j : ℕ) → IsByte f call p r i j → IsMapped mem (byte_at f call p r i j)

-- no gap, and all cells are still mapped
abbrev pub IsFine : FunctionValue → Call → Result State Gap → Type 0
IsFine f call (Ok t) = AllMapped f call t.memory
IsFine f call (Err g) = ⊥

abbrev pub HasNoGap : {A : Type 0} → Result A Gap → Type 0
HasNoGap (Ok x) = Unit {0}
HasNoGap (Err g) = ⊥

module _ (f : FunctionValue) (call : Call) where
  go_on_fine : (x : Result State Gap) (go : State → Result State Gap) → IsFine f call x → ((t : State) → AllMapped f call t.memory → IsFine f call (go t)) → IsFine f call (go_on x go)
  go_on_fine (Ok t) go h next = next t h
  go_on_fine (Err g) go h next = absurd h

  no_gap : {A : Type 0} (x : Result A Gap) (y : A) → x ≡ Ok y → HasNoGap x
  no_gap x y e = subst HasNoGap (sym e) tt

  go_on_gapless : {A : Type 0} (x : Result A Gap) (go : A → Result State Gap) → HasNoGap x → ((a : A) → IsFine f call (go a)) → IsFine f call (go_on x go)
  go_on_gapless (Ok a) go h next = next a
  go_on_gapless (Err g) go h next = absurd h

  go_on_free : {A B : Type 0} (x : Result A Gap) (go : A → Result B Gap) → HasNoGap x → ((a : A) → HasNoGap (go a)) → HasNoGap (go_on x go)
  go_on_free (Ok a) go h next = next a
  go_on_free (Err g) go h next = absurd h

  -- these operands are no arrays but ones with a cell for each element
  abbrev AreNear : List Operand → Type 0
  AreNear os = (p : ℕ) → list_any (is_place p) os ≡ true → is_near f p ≡ true

  module _ (r i : ℕ) (row : r < rows f call) (low : i < call.n) where
    byte_of_array : (p j : ℕ) → is_near f p ≡ true → is_array (var_at f.vars p) ≡ true → j < (var_at f.vars p).size → IsByte f call p r i j
    byte_of_array p j n a l = record { array = (in_range f.vars p a, a); row = row; element = inl (n, low); inside = l }

    is_array_of : (p : ℕ) (k : VarKind) → (var_at f.vars p).kind ≡ k → is_array_kind k ≡ true → is_array (var_at f.vars p) ≡ true
    is_array_of p k e a = ap is_array_kind e ∙ a

    read_cell_free : (p : ℕ) (s : State) → is_near f p ≡ true → is_array (var_at f.vars p) ≡ true → AllMapped f call s.memory → HasNoGap (read_cell f call r i p s)
    read_cell_free p s n a m =
        let x = value_there (var_at f.vars p).size s.memory (cell f call p r i) (λ j l. m p r i j (byte_of_array p j n a l)) in
        subst (λ o. HasNoGap (or_gap o (gap_at f call r i p s))) (sym x.1) tt

    read_var_free : (w : ℕ) (s : State) (p : ℕ) (k : VarKind) → (var_at f.vars p).kind ≡ k → is_near f p ≡ true → AllMapped f call s.memory → HasNoGap (read_var f call r i w s p k)
    read_var_free w s p kind.Source e n m = go_on_free (read_cell f call r i p s) (λ v. Ok (sub_lane w v)) (read_cell_free p s n (is_array_of p kind.Source e refl) m) (λ v. tt)
    read_var_free w s p kind.Dest e n m = go_on_free (read_cell f call r i p s) (λ v. Ok (sub_lane w v)) (read_cell_free p s n (is_array_of p kind.Dest e refl) m) (λ v. tt)
    read_var_free w s p kind.Temp e n m = tt
    read_var_free w s p kind.Param e n m = tt
    read_var_free w s p kind.Const e n m = tt
    read_var_free w s p kind.Accumulator e n m = tt

    read_source_free : (w : ℕ) (s : State) (o : Operand) → ((p : ℕ) → is_place p o ≡ true → is_near f p ≡ true) → AllMapped f call s.memory → HasNoGap (read_source f call r i w s o)
    read_source_free w s (operand.Var p) n m = read_var_free w s p (var_at f.vars p).kind refl (n p (eq_yes p p refl)) m
    read_source_free w s (operand.Number k) n m = tt

    read_sources_free : (op : Op) (s : State) (os : List Operand) → AreNear os → AllMapped f call s.memory → HasNoGap (read_sources f call r i op s os)
    read_sources_free op s [] n m = tt
    read_sources_free op s (x ∷ []) n m = go_on_free (read_source f call r i (8 * size_of_source op 0) s x) (λ a. Ok (a, (λ q. 0))) (read_source_free (8 * size_of_source op 0) s x (λ p h. n p (ap (λ b. b || false) h)) m) (λ a. tt)
    read_sources_free op s (x ∷ y ∷ more) n m =
        go_on_free (read_source f call r i (8 * size_of_source op 0) s x) (λ a. go_on (read_source f call r i (8 * size_of_source op 1) s y) (λ b. Ok (a, b))) (read_source_free (8 * size_of_source op 0) s x (λ p h. n p (ap (λ b. b || list_any (is_place p) (y ∷ more)) h)) m)
        (λ a. go_on_free (read_source f call r i (8 * size_of_source op 1) s y) (λ b. Ok (a, b)) (read_source_free (8 * size_of_source op 1) s y (λ p h. n p (or_right (is_place p x) (list_any (is_place p) (y ∷ more)) (ap (λ b. b || list_any (is_place p) more) h))) m) (λ b. tt))

    write_var_fine : (v : ℕ) (s : State) (p : ℕ) (k : VarKind) → (var_at f.vars p).kind ≡ k → AllMapped f call s.memory → IsFine f call (write_var f call r i v s p k)
    write_var_fine v s p kind.Dest e m =
        let size = (var_at f.vars p).size in
        let at = cell f call p r i in
        let a = is_array_of p kind.Dest e refl in
        let n = dest_near f p e in
        let there : store size s.memory at (byte_of size v) ≡ Some (fill size s.memory at (byte_of size v)) = store_mapped size s.memory at (byte_of size v) (λ j l. m p r i j (byte_of_array p j n a l)) in
        subst (λ o. IsFine f call (go_on (or_gap o (gap_at f call r i p s)) (λ mem. Ok (record s { memory = mem })))) (sym there)
        (λ q r2 i2 j b. fill_mapped size s.memory at (byte_of size v) (byte_at f call q r2 i2 j) (m q r2 i2 j b))
    write_var_fine v s p kind.Temp e m = m
    write_var_fine v s p kind.Accumulator e m = m
    write_var_fine v s p kind.Source e m = m
    write_var_fine v s p kind.Param e m = m
    write_var_fine v s p kind.Const e m = m

    write_result_fine : (v : ℕ) (s : State) (o : Operand) → AllMapped f call s.memory → IsFine f call (write_result f call r i v s o)
    write_result_fine v s (operand.Var p) m = write_var_fine v s p (var_at f.vars p).kind refl m
    write_result_fine v s (operand.Number n) m = m

    write_results_fine : (v : ℕ × ℕ) (s : State) (os : List Operand) → AllMapped f call s.memory → IsFine f call (write_results f call r i v s os)
    write_results_fine v s [] m = m
    write_results_fine v s (x ∷ []) m = write_result_fine v.0 s x m
    write_results_fine v s (x ∷ y ∷ more) m = go_on_fine (write_result f call r i v.0 s x) (λ t. write_result f call r i v.1 t y) (write_result_fine v.0 s x m) (λ t n. write_result_fine v.1 t y n)

    -- the elements that a far load reads are mapped
    module _ (insn : Insn) (far : Far) (stands : Contains f.insns insn) (loads : far_of insn.op ≡ Some far) (s : State) (m : AllMapped f call s.memory) where
      abbrev at : Reach
      at = reach_of f call far insn.sources.items i

      read_far_free : (p : ℕ) → far_array f.vars insn.sources.items ≡ Some p → (k : ℤ) → Reads at (wrap 64 k) → HasNoGap (read_far f call r i p s k)
      read_far_free p e k reads =
          let a = far_array_is f.vars insn.sources.items p e in
          let size = (var_at f.vars p).size in
          let reached : IsReached f call p (wrap 64 k) = record { insn = insn; far = far; element = i; stands = stands; loads = loads; array = e; within = low; reads = reads } in
          let x = value_there size s.memory (cell_at f call p r k) (λ j l. m p r (wrap 64 k) j (record { array = (in_range f.vars p a, a); row = row; element = inr reached; inside = l })) in
          subst (λ o. HasNoGap (or_gap o (record { row = r; element = i; at = missing size s.memory (cell_at f call p r k); memory = s.memory }))) (sym x.1) tt

      second_free : (p x : ℕ) → far_array f.vars insn.sources.items ≡ Some p → (o : Option ℤ) → at.second ≡ o → HasNoGap (read_second f call r i p s x o)
      second_free p x e None h = tt
      second_free p x e (Some k) h = read_far_free p e k (inr (k, h, refl))

      load_far_free : (o : Option ℕ) → far_array f.vars insn.sources.items ≡ o → HasNoGap (load_far f call r i far at s o)
      load_far_free (Some p) e =
          go_on_free (read_far f call r i p s at.first) (λ x. go_on (read_second f call r i p s x at.second) (λ y. Ok (far_blend far x y at.part))) (read_far_free p e at.first (inl refl))
          (λ x. go_on_free (read_second f call r i p s x at.second) (λ y. Ok (far_blend far x y at.part)) (second_free p x e at.second refl) (λ y. tt))
      load_far_free None e = tt

    act_as_fine : (insn : Insn) (s : State) → Contains f.insns insn → (o : Option Far) → far_of insn.op ≡ o → AllMapped f call s.memory → IsFine f call (act_as f call r i insn s o)
    act_as_fine insn s stands None e m =
        go_on_gapless (read_sources f call r i insn.op s insn.sources.items) (λ x. write_results f call r i (lanewise insn.op insn.prefix x.0 x.1) s insn.results.items)
        (read_sources_free insn.op s insn.sources.items near m)
        (λ x. write_results_fine (lanewise insn.op insn.prefix x.0 x.1) s insn.results.items m)
      where
        near : AreNear insn.sources.items
        near p h =
            let reads : reads_near p insn ≡ true = ap (λ o. not (is_some o) && list_any (is_place p) insn.sources.items) e ∙ h in
            or_right (is_of kind.Dest (var_at f.vars p)) (list_any (reads_near p) f.insns || not (list_any (reads_far p) f.insns))
            (ap (λ b. b || not (list_any (reads_far p) f.insns)) (any_at (reads_near p) f.insns insn stands reads))
    act_as_fine insn s stands (Some far) e m =
        go_on_gapless (load_far f call r i far (reach_of f call far insn.sources.items i) s (far_array f.vars insn.sources.items)) (λ v. write_results f call r i (v, 0) s insn.results.items)
        (load_far_free insn far stands e s m (far_array f.vars insn.sources.items) refl)
        (λ v. write_results_fine (v, 0) s insn.results.items m)

    pub act_fine : (insn : Insn) (s : State) → Contains f.insns insn → AllMapped f call s.memory → IsFine f call (act f call r i insn s)
    unfolding act
    act_fine insn s stands m = act_as_fine insn s stands (far_of insn.op) refl m

    pub element_fine : (insns : List Insn) (s : State) → ((x : Insn) → Contains insns x → Contains f.insns x) → AllMapped f call s.memory → IsFine f call (element f call r i insns s)
    element_fine [] s all m = m
    element_fine (insn ∷ insns) s all m =
        go_on_fine (act f call r i insn s) (element f call r i insns) (act_fine insn s (all insn (0, omega arith, refl)) m)
        (λ t n. element_fine insns t (λ x c. all x (suc c.0, (let l = c.1 in omega (arith, l)), c.2)) n)

  pub row_fine : (r : ℕ) → r < rows f call → (n : ℕ) → n ≤ call.n → (s : State) → AllMapped f call s.memory → IsFine f call (row_of f call r n s)
  row_fine r row zero l s m = m
  row_fine r row (suc n) l s m = go_on_fine (row_of f call r n s) (element f call r n f.insns) (row_fine r row n (omega (arith, l)) s m) (λ t k. element_fine r n row (omega (arith, l)) f.insns t (λ x c. c) k)

  pub rows_fine : (m : ℕ) → m ≤ rows f call → (s : State) → AllMapped f call s.memory → IsFine f call (rows_of f call m s)
  rows_fine zero l s h = h
  rows_fine (suc m) l s h = go_on_fine (rows_of f call m s) (row_of f call m call.n) (rows_fine m (omega (arith, l)) s h) (λ t k. row_fine m (omega (arith, l)) call.n (omega arith) t k)

  fine_ends : (x : Result State Gap) → IsFine f call x → HasNoGap (go_on x (ended f))
  fine_ends (Ok t) h = tt
  fine_ends (Err g) h = absurd h

  pub emulate_fine : (mem : Memory) → AllMapped f call mem → HasNoGap (emulate f call mem)
  emulate_fine mem h = fine_ends (rows_of f call (rows f call) (start mem)) (rows_fine (rows f call) (omega arith) (start mem) h)

  -- emulation of a good call never ends at a byte that isn't mapped
  pub good_has_no_gap : (mem : Memory) → GoodArrays f call mem → HasNoGap (emulate f call mem)
  good_has_no_gap mem good = emulate_fine mem good.mapped
