-- Emulation that ends does the same in a larger memory.
use Rattle.std.proofs.Common.{◌≡◌, ℕ, zero, suc, ◌+◌, ◌*◌, ◌%◌, ◌^◌, Bool, true, false, ◌&&◌, if◌then◌else◌, List, [], ◌∷◌, Option, Some, None, Result, Ok, Err, is_some, refl, sym, ap, ◌∙◌, subst, arith, ⊎_elim, true≢false, ℤ, slice_index}
use Rattle.std.proofs.lemmas.Bool.{cases_eq}
use Rattle.orc_bits.specs.Lanes.{byte_of, change}
use Rattle.orc_bits.specs.Memory.{Memory, IsMapped, put, value, fill, store, all_mapped, missing}
use Rattle.orc_bits.proofs.Memories.{put_other, put_same, none_some, some_one, store_there, store_fills, mapped_value}
use Rattle.orc_ops.specs.declared.opcode.Op.{Op}
use Rattle.orc_ops.specs.Table.{size_of_source}
use Rattle.orc_ops.specs.declared.far.Far.{Far}
use Rattle.orc_ops.specs.declared.elements.Reach.{Reach}
use Rattle.orc_ops.specs.Far.{far_of, far_blend}
use Rattle.orc_program.specs.declared.program.VarKind.{VarKind}
use Rattle.orc_program.specs.declared.program.VarKind.TheVariants as kind
use Rattle.orc_program.specs.declared.program.Operand.{Operand}
use Rattle.orc_program.specs.declared.program.Operand.TheVariants as operand
use Rattle.orc_program.specs.declared.program.Insn.{Insn}
use Rattle.orc_program.specs.declared.call.Call.{Call}
use Rattle.orc_program.specs.Program.{FunctionValue, var_at, far_array}
use Rattle.orc_program.specs.Meaning.{State, Gap, go_on, or_gap, cell, cell_at, gap_at, sub_lane, lanewise, read_cell, read_var, read_source, read_sources, write_cell, write_var, write_result, write_results, reach_of, read_far, read_second, load_far, act, act_as, element, row_of, rows_of, rows, start, sums_of, ended, emulate}
use Rattle.orc_program.proofs.Steps.{go_on_ok, or_gap_ok, ok_same}
use Rattle.orc_program.proofs.Mapped.{AllMapped, IsFine, HasNoGap, rows_fine, emulate_fine}
use Rattle.orc_program.specs.Slots.{call_of}
use Rattle.x86_flow.proofs.Larger.{Sub, value_larger}
use Rattle.orc_frame.specs.Subject.{End}
use Rattle.orc_frame.specs.Subject.{Call as Arguments}
use Rattle.orc_frame.specs.Function.{subject_of, end_of}

-- ---- stores in a larger memory

put_larger : (m b : Memory) (a v : ℕ) → Sub m b → Sub (put m a v) (put b a v)
put_larger m b a v s x w h = ⊎_elim
    (λ e. subst (λ y. put m a v y ≡ Some w → put b a v y ≡ Some w) (sym e) (λ p. put_same b a v ∙ sym (put_same m a v) ∙ p) h)
    (λ ne. put_other b a v x ne ∙ s x w (sym (put_other m a v x ne) ∙ h)) (cases_eq x a)

fill_larger : (n : ℕ) (m b : Memory) (a : ℕ) (f : ℕ → ℕ) → Sub m b → Sub (fill n m a f) (fill n b a f)
unfolding fill
fill_larger zero m b a f s = s
fill_larger (suc n) m b a f s = put_larger (fill n m a f) (fill n b a f) ((a + n) % 2 ^ 64) (f n) (fill_larger n m b a f s)

one_mapped : (m b : Memory) (x : ℕ) → Sub m b → IsMapped m x → IsMapped b x
one_mapped m b x s h = let v = mapped_value m x h in ap is_some (s x v.0 v.1)

both_true : (a b : Bool) → (a && b) ≡ true → (a ≡ true) × (b ≡ true)
both_true true b e = (refl, e)
both_true false b e = absurd (true≢false (sym e))

mapped_larger : (n : ℕ) (m b : Memory) (a : ℕ) → Sub m b → all_mapped n m a ≡ true → all_mapped n b a ≡ true
mapped_larger zero m b a s e = refl
mapped_larger (suc n) m b a s e =
    let x = both_true (is_some (m (a % 2 ^ 64))) (all_mapped n m (a + 1)) e in
    ap (λ t. t && all_mapped n b (a + 1)) (one_mapped m b (a % 2 ^ 64) s x.0) ∙ mapped_larger n m b (a + 1) s x.1

was_mapped : (n : ℕ) (m : Memory) (a : ℕ) (f : ℕ → ℕ) (end : Memory) → store n m a f ≡ Some end → all_mapped n m a ≡ true
was_mapped n m a f end e = go (all_mapped n m a) e
  where
    go : (t : Bool) → (if t then Some (fill n m a f) else None) ≡ Some end → t ≡ true
    go true h = refl
    go false h = absurd (none_some h)

-- ---- states

-- the state with another memory
abbrev with : State → Memory → State
with s b = record s { memory = b }

-- the step from s to t, in a larger memory
abbrev Goes : (State → Result State Gap) → State → Memory → State → Type 0
Goes step s b t = (after : Memory) × (step (with s b) ≡ Ok (with t after)) × Sub t.memory after

-- one step after the other
two_steps : (one two : State → Result State Gap) (s t : State) (b : Memory) → ((u : State) → one s ≡ Ok u → Goes one s b u) → ((u : State) (c : Memory) → Sub u.memory c → two u ≡ Ok t → Goes two u c t) → go_on (one s) two ≡ Ok t → Goes (λ x. go_on (one x) two) s b t
two_steps one two s t b first rest e =
    let u = go_on_ok (one s) two t e in
    let x = first u.0 u.1 in
    let y = rest u.0 x.0 x.2 u.2 in
    (y.0, ap (λ o. go_on o two) x.1 ∙ y.1, y.2)

module _ (f : FunctionValue) (call : Call) where
  module _ (r i : ℕ) where
    -- ---- reads

    read_cell_larger : (p x : ℕ) (s : State) (b : Memory) → Sub s.memory b → read_cell f call r i p s ≡ Ok x → read_cell f call r i p (with s b) ≡ Ok x
    read_cell_larger p x s b h e =
        let n = (var_at f.vars p).size in
        let a = cell f call p r i in
        ap (λ o. or_gap o (gap_at f call r i p (with s b))) (value_larger n s.memory b a x h (or_gap_ok (value n s.memory a) (gap_at f call r i p s) x e))

    lanes_larger : (w p : ℕ) (g : ℕ → ℕ) (s : State) (b : Memory) → Sub s.memory b → go_on (read_cell f call r i p s) (λ v. Ok (sub_lane w v)) ≡ Ok g → go_on (read_cell f call r i p (with s b)) (λ v. Ok (sub_lane w v)) ≡ Ok g
    lanes_larger w p g s b h e =
        let x = go_on_ok (read_cell f call r i p s) (λ v. Ok (sub_lane w v)) g e in
        ap (λ o. go_on o (λ v. Ok (sub_lane w v))) (read_cell_larger p x.0 s b h x.1) ∙ x.2

    read_var_larger : (w p : ℕ) (k : VarKind) (g : ℕ → ℕ) (s : State) (b : Memory) → Sub s.memory b → read_var f call r i w s p k ≡ Ok g → read_var f call r i w (with s b) p k ≡ Ok g
    read_var_larger w p kind.Source g s b h e = lanes_larger w p g s b h e
    read_var_larger w p kind.Dest g s b h e = lanes_larger w p g s b h e
    read_var_larger w p kind.Temp g s b h e = e
    read_var_larger w p kind.Param g s b h e = e
    read_var_larger w p kind.Const g s b h e = e
    read_var_larger w p kind.Accumulator g s b h e = e

    read_source_larger : (w : ℕ) (o : Operand) (g : ℕ → ℕ) (s : State) (b : Memory) → Sub s.memory b → read_source f call r i w s o ≡ Ok g → read_source f call r i w (with s b) o ≡ Ok g
    read_source_larger w (operand.Var p) g s b h e = read_var_larger w p (var_at f.vars p).kind g s b h e
    read_source_larger w (operand.Number n) g s b h e = e

    read_sources_larger : (op : Op) (os : List Operand) (g : (ℕ → ℕ) × (ℕ → ℕ)) (s : State) (b : Memory) → Sub s.memory b → read_sources f call r i op s os ≡ Ok g → read_sources f call r i op (with s b) os ≡ Ok g
    read_sources_larger op [] g s b h e = e
    read_sources_larger op (x ∷ []) g s b h e =
        let w = 8 * size_of_source op 0 in
        let y = go_on_ok (read_source f call r i w s x) (λ a. Ok (a, (λ q. 0))) g e in
        ap (λ o. go_on o (λ a. Ok (a, (λ q. 0)))) (read_source_larger w x y.0 s b h y.1) ∙ y.2
    read_sources_larger op (x ∷ y ∷ more) g s b h e =
        let w = 8 * size_of_source op 0 in
        let v = 8 * size_of_source op 1 in
        let m = go_on_ok (read_source f call r i w s x) (λ a. go_on (read_source f call r i v s y) (λ c. Ok (a, c))) g e in
        let n = go_on_ok (read_source f call r i v s y) (λ c. Ok (m.0, c)) g m.2 in
        ap (λ o. go_on o (λ a. go_on (read_source f call r i v (with s b) y) (λ c. Ok (a, c)))) (read_source_larger w x m.0 s b h m.1)
        ∙ ap (λ o. go_on o (λ c. Ok (m.0, c))) (read_source_larger v y n.0 s b h n.1) ∙ n.2

    -- ---- writes

    kept : (s u t : State) (b : Memory) → u.memory ≡ s.memory → Sub s.memory b → u ≡ t → (after : Memory) × (with u b ≡ with t after) × Sub t.memory after
    kept s u t b m h e = (b, ap (λ x. with x b) e, subst (λ x. Sub x b) (sym m ∙ ap (λ (x : State). x.memory) e) h)

    write_var_larger : (v p : ℕ) (k : VarKind) (s t : State) (b : Memory) → Sub s.memory b → write_var f call r i v s p k ≡ Ok t → Goes (λ x. write_var f call r i v x p k) s b t
    write_var_larger v p kind.Dest s t b h e =
        let n = (var_at f.vars p).size in
        let at = cell f call p r i in
        let z : ℕ → ℕ = byte_of n v in
        let x = go_on_ok (write_cell f call r i p v s) (λ mem. Ok (record s { memory = mem })) t e in
        let stored : store n s.memory at z ≡ Some x.0 = or_gap_ok (store n s.memory at z) (gap_at f call r i p s) x.0 x.1 in
        let filled : fill n s.memory at z ≡ x.0 = store_fills n s.memory at z x.0 stored in
        let there : store n b at z ≡ Some (fill n b at z) = store_there n b at z (mapped_larger n s.memory b at h (was_mapped n s.memory at z x.0 stored)) in
        let is : record s { memory = x.0 } ≡ t = ok_same (record s { memory = x.0 }) t x.2 in (
          fill n b at z,
          ap (λ o. go_on (or_gap o (gap_at f call r i p (with s b))) (λ mem. Ok (record s { memory = mem }))) there ∙ ap (λ y. Ok (with y (fill n b at z))) is,
          subst (λ m. Sub m (fill n b at z)) (filled ∙ ap (λ (y : State). y.memory) is) (fill_larger n s.memory b at z h),
        )
    write_var_larger v p kind.Temp s t b h e =
        let x = kept s (record s { temps = change s.temps p v }) t b refl h (ok_same (record s { temps = change s.temps p v }) t e) in
        (x.0, ap (λ y. Ok y) x.1, x.2)
    write_var_larger v p kind.Accumulator s t b h e =
        let u : State = record s { sums = change s.sums p ((s.sums p + v) % 2 ^ (8 * (var_at f.vars p).size)) } in
        let x = kept s u t b refl h (ok_same u t e) in
        (x.0, ap (λ y. Ok y) x.1, x.2)
    write_var_larger v p kind.Source s t b h e = let x = kept s s t b refl h (ok_same s t e) in (x.0, ap (λ y. Ok y) x.1, x.2)
    write_var_larger v p kind.Param s t b h e = let x = kept s s t b refl h (ok_same s t e) in (x.0, ap (λ y. Ok y) x.1, x.2)
    write_var_larger v p kind.Const s t b h e = let x = kept s s t b refl h (ok_same s t e) in (x.0, ap (λ y. Ok y) x.1, x.2)

    write_result_larger : (v : ℕ) (o : Operand) (s t : State) (b : Memory) → Sub s.memory b → write_result f call r i v s o ≡ Ok t → Goes (λ x. write_result f call r i v x o) s b t
    write_result_larger v (operand.Var p) s t b h e = write_var_larger v p (var_at f.vars p).kind s t b h e
    write_result_larger v (operand.Number n) s t b h e = let x = kept s s t b refl h (ok_same s t e) in (x.0, ap (λ y. Ok y) x.1, x.2)

    write_results_larger : (v : ℕ × ℕ) (os : List Operand) (s t : State) (b : Memory) → Sub s.memory b → write_results f call r i v s os ≡ Ok t → Goes (λ x. write_results f call r i v x os) s b t
    write_results_larger v [] s t b h e = let x = kept s s t b refl h (ok_same s t e) in (x.0, ap (λ y. Ok y) x.1, x.2)
    write_results_larger v (x ∷ []) s t b h e = write_result_larger v.0 x s t b h e
    write_results_larger v (x ∷ y ∷ more) s t b h e =
        two_steps (λ z. write_result f call r i v.0 z x) (λ z. write_result f call r i v.1 z y) s t b (λ u q. write_result_larger v.0 x s u b h q) (λ u c k q. write_result_larger v.1 y u t c k q) e

    -- ---- far loads

    read_far_larger : (p x : ℕ) (s : State) (b : Memory) (k : ℤ) → Sub s.memory b → read_far f call r i p s k ≡ Ok x → read_far f call r i p (with s b) k ≡ Ok x
    read_far_larger p x s b k h e =
        let n = (var_at f.vars p).size in
        let a = cell_at f call p r k in
        let gap : Memory → Gap = λ m. record { row = r; element = i; at = missing n m a; memory = m } in
        ap (λ o. or_gap o (gap b)) (value_larger n s.memory b a x h (or_gap_ok (value n s.memory a) (gap s.memory) x e))

    read_second_larger : (p x y : ℕ) (s : State) (b : Memory) (o : Option ℤ) → Sub s.memory b → read_second f call r i p s x o ≡ Ok y → read_second f call r i p (with s b) x o ≡ Ok y
    read_second_larger p x y s b None h e = e
    read_second_larger p x y s b (Some k) h e = read_far_larger p y s b k h e

    load_far_larger : (far : Far) (at : Reach) (v : ℕ) (s : State) (b : Memory) (o : Option ℕ) → Sub s.memory b → load_far f call r i far at s o ≡ Ok v → load_far f call r i far at (with s b) o ≡ Ok v
    load_far_larger far at v s b None h e = e
    load_far_larger far at v s b (Some p) h e =
        let x = go_on_ok (read_far f call r i p s at.first) (λ x. go_on (read_second f call r i p s x at.second) (λ y. Ok (far_blend far x y at.part))) v e in
        let y = go_on_ok (read_second f call r i p s x.0 at.second) (λ y. Ok (far_blend far x.0 y at.part)) v x.2 in
        ap (λ o. go_on o (λ x. go_on (read_second f call r i p (with s b) x at.second) (λ y. Ok (far_blend far x y at.part)))) (read_far_larger p x.0 s b at.first h x.1)
        ∙ ap (λ o. go_on o (λ y. Ok (far_blend far x.0 y at.part))) (read_second_larger p x.0 y.0 s b at.second h y.1) ∙ y.2

    -- ---- instructions

    act_as_larger : (insn : Insn) (o : Option Far) (s t : State) (b : Memory) → Sub s.memory b → act_as f call r i insn s o ≡ Ok t → Goes (λ x. act_as f call r i insn x o) s b t
    act_as_larger insn None s t b h e =
        let x = go_on_ok (read_sources f call r i insn.op s insn.sources.items) (λ x. write_results f call r i (lanewise insn.op insn.prefix x.0 x.1) s insn.results.items) t e in
        let w = write_results_larger (lanewise insn.op insn.prefix x.0.0 x.0.1) insn.results.items s t b h x.2 in
        (w.0, ap (λ o. go_on o (λ x. write_results f call r i (lanewise insn.op insn.prefix x.0 x.1) (with s b) insn.results.items)) (read_sources_larger insn.op insn.sources.items x.0 s b h x.1) ∙ w.1, w.2)
    act_as_larger insn (Some far) s t b h e =
        let at = reach_of f call far insn.sources.items i in
        let array = far_array f.vars insn.sources.items in
        let x = go_on_ok (load_far f call r i far at s array) (λ v. write_results f call r i (v, 0) s insn.results.items) t e in
        let w = write_results_larger (x.0, 0) insn.results.items s t b h x.2 in
        (w.0, ap (λ o. go_on o (λ v. write_results f call r i (v, 0) (with s b) insn.results.items)) (load_far_larger far at x.0 s b array h x.1) ∙ w.1, w.2)

    act_larger : (insn : Insn) (s t : State) (b : Memory) → Sub s.memory b → act f call r i insn s ≡ Ok t → Goes (act f call r i insn) s b t
    unfolding act
    act_larger insn s t b h e = act_as_larger insn (far_of insn.op) s t b h e

    element_larger : (insns : List Insn) (s t : State) (b : Memory) → Sub s.memory b → element f call r i insns s ≡ Ok t → Goes (element f call r i insns) s b t
    element_larger [] s t b h e = let x = kept s s t b refl h (ok_same s t e) in (x.0, ap (λ y. Ok y) x.1, x.2)
    element_larger (insn ∷ insns) s t b h e = two_steps (act f call r i insn) (element f call r i insns) s t b (λ u q. act_larger insn s u b h q) (λ u c k q. element_larger insns u t c k q) e

  row_larger : (r n : ℕ) (s t : State) (b : Memory) → Sub s.memory b → row_of f call r n s ≡ Ok t → Goes (row_of f call r n) s b t
  row_larger r zero s t b h e = let x = kept r 0 s s t b refl h (ok_same s t e) in (x.0, ap (λ y. Ok y) x.1, x.2)
  row_larger r (suc n) s t b h e = two_steps (row_of f call r n) (element f call r n f.insns) s t b (λ u q. row_larger r n s u b h q) (λ u c k q. element_larger r n f.insns u t c k q) e

  rows_larger : (m : ℕ) (s t : State) (b : Memory) → Sub s.memory b → rows_of f call m s ≡ Ok t → Goes (rows_of f call m) s b t
  rows_larger zero s t b h e = let x = kept 0 0 s s t b refl h (ok_same s t e) in (x.0, ap (λ y. Ok y) x.1, x.2)
  rows_larger (suc m) s t b h e = two_steps (rows_of f call m) (row_of f call m call.n) s t b (λ u q. rows_larger m s u b h q) (λ u c k q. row_larger m call.n u t c k q) e

  -- ---- the whole

  no_gap : {A : Type 0} (x : Result A Gap) → HasNoGap x → (y : A) × (x ≡ Ok y)
  no_gap (Ok y) h = (y, refl)
  no_gap (Err g) h = absurd h

  -- where all cells are mapped, emulation ends with all of them mapped, and in a larger memory it ends with these bytes too, and with the same sums
  pub record Twice (small large : Memory) : Type 0 where
    pub end : Memory
    pub sums : List ℕ
    pub means : emulate f call small ≡ Ok (end, sums)
    pub mapped : AllMapped f call end
    pub other : Memory
    pub besides : emulate f call large ≡ Ok (other, sums)
    pub within : Sub end other

  pub twice : (small large : Memory) → AllMapped f call small → Sub small large → Twice small large
  twice small large mapped h =
      let x = no_gap (emulate f call small) (emulate_fine f call small mapped) in
      let u = go_on_ok (rows_of f call (rows f call) (start small)) (ended f) x.0 x.1 in
      let y = rows_larger (rows f call) (start small) u.0 large h u.1 in
      let fine : IsFine f call (rows_of f call (rows f call) (start small)) = rows_fine f call (rows f call) (omega arith) (start small) mapped in
      record {
        end = u.0.memory;
        sums = sums_of f u.0;
        means = ap (λ o. go_on o (ended f)) u.1;
        mapped = subst (IsFine f call) u.1 fine;
        other = y.0;
        besides = ap (λ o. go_on o (ended f)) y.1;
        within = y.2;
      }

-- ---- good calls

-- where each mapped byte is a byte of a cell, emulation of a good call leaves these bytes the same in a larger memory, and the same sums
pub record SameEnd (f : FunctionValue) (call : Arguments) (small large : Memory) (other : End) : Type 0 where
  pub end : End
  pub means : (subject_of f).emulate call small ≡ Some end
  pub cells : (a : ℕ) → IsMapped small a → other.memory a ≡ end.memory a
  pub sums : (g : ℕ) → other.sums g ≡ end.sums g

pub same_emulation : (f : FunctionValue) (call : Arguments) (small large : Memory) (other : End) → Sub small large → (subject_of f).good call small → ((a : ℕ) → IsMapped small a → (subject_of f).cells call a) → (subject_of f).emulate call large ≡ Some other → SameEnd f call small large other
same_emulation f call small large other sub good only means =
    let c : Call = call_of f call.n call.m call.base call.stride call.param in
    let x = twice f c small large good.mapped sub in
    let end : End = record { memory = x.end; sums = slice_index x.sums } in
    let is : other ≡ record { memory = x.other; sums = slice_index x.sums } = some_one other _ (sym means ∙ ap end_of x.besides) in
    record {
      end = end;
      means = ap end_of x.means;
      cells = λ a m.
          let w = only a m in
          let still : IsMapped x.end a = subst (IsMapped x.end) (sym w.here) (x.mapped w.place w.row w.element w.byte w.cell) in
          let v = mapped_value x.end a still in
          ap (λ (y : End). y.memory a) is ∙ x.within a v.0 v.1 ∙ sym v.1;
      sums = λ g. ap (λ (y : End). y.sums g) is;
    }
