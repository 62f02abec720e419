-- An instruction's writes, and the whole of an instruction, in C and in emulation.
use Rattle.std.proofs.Common.{◌≡◌, ◌≢◌, ℕ, ◌+◌, ◌*◌, ◌/◌, ◌%◌, ◌^◌, ◌<◌, ◌≤◌, ◌==◌, ◌||◌, ◌&&◌, ◌⊎◌, inl, inr, nat_lt, if◌then◌else◌, Bool, true, false, List, [], ◌∷◌, ◌++◌, length, Option, Some, None, is_some, Result, Ok, refl, sym, ap, ◌∙◌, subst, arith, true≢false}
use Rattle.std.specs.List.{list_any, list_all}
use Rattle.std.proofs.lemmas.List.Folds.{list_any-append}
use Rattle.std.proofs.lemmas.Bool.{cases_eq}
use Rattle.std.proofs.lemmas.Bool.Decides.{nat_tests}
use Rattle.std.proofs.lemmas.Nat.{pow_pos, mod_below}
use Rattle.std.proofs.Math.Pow.{pow_mono}
use Rattle.orc_bits.specs.Memory.{Memory, fill, store, all_mapped}
use Rattle.orc_bits.specs.Lanes.{change, byte_of}
use Rattle.orc_bits.proofs.Memories.{Bytewide, fill_bytes, store_fills}
use Rattle.orc_ops.specs.Table.{size_of_result}
use Rattle.orc_program.specs.declared.program.VarKind.{VarKind}
use Rattle.orc_program.specs.declared.program.VarKind.TheVariants as kind
use Rattle.orc_program.specs.declared.program.Operand.{Operand}
use Rattle.orc_program.specs.declared.program.Operand.TheVariants as operand
use Rattle.orc_program.specs.declared.program.Insn.{Insn}
use Rattle.orc_program.specs.declared.call.Call.{Call}
use Rattle.orc_program.specs.Program.{FunctionValue, var_at, is_array_kind, same_kind, count_of, count_before, array_number, is_place, has_far}
use Rattle.orc_program.specs.Kept.{is_function, is_in_range}
use Rattle.orc_program.specs.Checks.{is_set}
use Rattle.orc_program.specs.Good.{IsArray, GoodArrays}
use Rattle.orc_program.specs.Meaning.{State, Gap, go_on, rows, cell, gap_at, write_cell, write_var, write_result, write_results, read_sources, lanewise, act}
use Rattle.orc_program.proofs.Sizes.{both}
use Rattle.orc_program.proofs.Steps.{go_on_ok, or_gap_ok, ok_same}
use Rattle.orc_emul.specs.State.{HasCounts}
use Rattle.orc_emul.proofs.Functions.{before_all, size_low}
use Rattle.orc_emul.proofs.Cells.{all_at}
use Rattle.orc_program.proofs.Near.{act_near}
use Rattle.c_run.specs.declared.tree.COp.TheVariants.{Add}
use Rattle.c_run.specs.declared.tree.CExpr.{CExpr}
use Rattle.c_run.specs.declared.tree.CExpr.TheVariants.{V, W, Two}
use Rattle.c_run.specs.declared.tree.CStmt.{CStmt}
use Rattle.c_run.specs.declared.tree.CStmt.TheVariants.{SetV, SetW, SetByte}
use Rattle.c_run.specs.Tree.{CFunctionValue}
use Rattle.c_run.specs.Meaning.{CState, Turn}
use Rattle.c_run.proofs.Trees.{value_w}
use Rattle.c_emit.specs.CAs.{IsCall}
use Rattle.c_emit.specs.Expressions.{low, variable_of}
use Rattle.c_emit.specs.Body.{temp_of, first_free, sums_from, sum_count, sums, index_of, stores, stores_by, reads, first_of, second_of, writes_var, writes_one, writes, whole_of_all, is_whole, copied, copies, works, copies_or_works, insn_body, variables_of}
use Rattle.c_emit.proofs.Values.{if_some, Gives, add_mod, low_cut}
use Rattle.c_emit.proofs.Doing.{Does, does_none, does_both, does_v, does_w, counting, with_v, with_w, scene, v_gives}
use Rattle.c_emit.proofs.Known.{variable_value}
use Rattle.c_emit.proofs.Cells.{stores_do, store_one, filled}
use Rattle.c_emit.proofs.Opcodes.{AreSummed, both_okay, whole_one}
use Rattle.c_emit.proofs.Places.{is_at, size_at}
use Rattle.c_emit.proofs.Passes.{IsChecked, IsSized, AreSized}
use Rattle.c_emit.proofs.Agree.{Agrees, agrees_less, agrees_v, change_same, change_other, numbers_apart, fill_same, store_maps, byte_small, lanewise_fits, lanewise_second_fits}
use Rattle.c_emit.proofs.Reading.{AreHeld, are_held_still, set_room, room_both, reads_do, all_sums_do, count_is, copied_gives, first_gives, second_gives}

abbrev done : State → Result State Gap
done e = Ok e

abbrev filled_by : Memory → Result Memory Gap
filled_by mem = Ok mem

-- the state after statements that write a result, where variable d is free
pub record HasWritten (f : FunctionValue) (c : CFunctionValue) (call : Call) (r i : ℕ) (made : ℕ → Bool) (d : ℕ) (xs : List CStmt) (s : CState) (e : State) : Type 0 where
  pub state : CState
  pub does : Does c call (record { row = r; element = i }) xs s state
  pub agrees : Agrees f made state e
  pub other : (k : ℕ) → first_free f.vars ≤ k → k ≢ d → state.v k ≡ s.v k

-- after statements at the end of which both states agree
pub record HasDone (f : FunctionValue) (c : CFunctionValue) (call : Call) (r i : ℕ) (made : ℕ → Bool) (xs : List CStmt) (s : CState) (e : State) : Type 0 where
  pub state : CState
  pub does : Does c call (record { row = r; element = i }) xs s state
  pub agrees : Agrees f made state e

-- a place that is made now, or was before
made_before : (m t : Bool) → m || t ≡ true → t ≡ false → m ≡ true
made_before true t h e = refl
made_before false t h e = absurd (true≢false (sym h ∙ e))

is_here : (p q : ℕ) → (p == q) ≡ true → p ≡ q
is_here p q h = grind (arith, nat_tests, h)

not_here : (p q : ℕ) → p ≢ q → (p == q) ≡ false
not_here p q h = grind (arith, nat_tests, h)

other_kind : (k : VarKind) → k ≡ kind.Temp → same_kind kind.Temp k ≡ false → ⊥
other_kind k e h = true≢false (sym (ap (same_kind kind.Temp) e) ∙ h)

module _ (f : FunctionValue) (call : Call) (mem : Memory) (kept : is_function f ≡ true) (near : has_far f ≡ false) (counts : HasCounts f call) (is : IsCall call) (good : GoodArrays f call mem) (c : CFunctionValue) (accs : c.accs ≡ count_of kind.Accumulator f.vars) (r i : ℕ) (row : r < rows f call) (low_i : i < call.n) where
  -- a place that is no temp's makes no temp
  no_temp : (made : ℕ → Bool) (p : ℕ) → same_kind kind.Temp (var_at f.vars p).kind ≡ false → (q : ℕ) → (var_at f.vars q).kind ≡ kind.Temp → made q || is_place q (operand.Var p) ≡ true → made q ≡ true
  no_temp made p n q k h = made_before (made q) (q == p) h (not_here q p (λ e. other_kind (var_at f.vars q).kind k (ap (λ p. same_kind kind.Temp (var_at f.vars p).kind) e ∙ n)))

  -- nothing is written
  write_nothing : (made : ℕ → Bool) (s : CState) (e : State) (d p : ℕ) → same_kind kind.Temp (var_at f.vars p).kind ≡ false → Agrees f made s e → (e1 : State) → done e ≡ done e1 → HasWritten f c call r i (λ q. made q || is_place q (operand.Var p)) d [] s e1
  write_nothing made s e d p n g e1 h = record {
    state = s;
    does = does_none c call (record { row = r; element = i }) s;
    agrees = subst (λ e. Agrees f (λ q. made q || is_place q (operand.Var p)) s e) (ok_same e e1 h) (agrees_less (λ q. made q || is_place q (operand.Var p)) (no_temp made p n) g);
    other = λ k l ne. refl;
  }

  -- a cell, by statements that fill it
  write_filled : (made : ℕ → Bool) (s : CState) (e : State) (d p v : ℕ) (xs : List CStmt) → (var_at f.vars p).kind ≡ kind.Dest → p < length f.vars
      → (((j : ℕ) → j < (var_at f.vars p).size → is_some (s.memory ((cell f call p r i + j) % 2 ^ 64)) ≡ true) → Does c call (record { row = r; element = i }) xs s (filled s (cell f call p r i) v (var_at f.vars p).size))
      → Agrees f made s e → (e1 : State) → go_on (write_cell f call r i p v e) (λ mem. done (record e { memory = mem })) ≡ done e1 → HasWritten f c call r i (λ q. made q || is_place q (operand.Var p)) d xs s e1
  write_filled made s e d p v xs k l go g e1 h =
      let size : ℕ = (var_at f.vars p).size in
      let at : ℕ = cell f call p r i in
      let x = go_on_ok (write_cell f call r i p v e) (λ mem. done (record e { memory = mem })) e1 h in
      let put : store size e.memory at (byte_of size v) ≡ Some x.0 = or_gap_ok (store size e.memory at (byte_of size v)) (gap_at f call r i p e) x.0 x.1 in
      let there = store_maps size e.memory at (byte_of size v) x.0 put in
      let whole : fill size e.memory at (byte_of size v) ≡ x.0 = store_fills size e.memory at (byte_of size v) x.0 put in
      let bytes : (j : ℕ) → j < size → v / 256 ^ j % 256 ≡ byte_of size v j = λ j m. sym (ap (λ b. if b then v / 256 ^ j % 256 else 0) (let t : nat_lt j size ≡ true = grind (arith, nat_tests, m) in t)) in
      let same : fill size s.memory at (λ j. v / 256 ^ j % 256) ≡ x.0 = ap (λ (m : Memory). fill size m at (λ j. v / 256 ^ j % 256)) g.memory ∙ fill_same size e.memory at (λ j. v / 256 ^ j % 256) (byte_of size v) bytes ∙ whole in
      let wide : Bytewide x.0 = subst Bytewide whole (fill_bytes size e.memory at (byte_of size v) (byte_small size v) g.bytes) in
      let mid : State = record e { memory = x.0 } in
      let agree : Agrees f (λ q. made q || is_place q (operand.Var p)) (filled s at v size) mid = record {
        memory = same;
        bytes = wide;
        temps = λ q m t h. g.temps q m t (no_temp made p (ap (same_kind kind.Temp) k) q t h);
        sums = g.sums;
        g = g.g;
      } in
      record {
        state = filled s at v size;
        does = go (λ j m. all_at size s.memory at j (subst (λ (mm : Memory). all_mapped size mm at ≡ true) (sym g.memory) there) m);
        agrees = subst (λ e. Agrees f (λ q. made q || is_place q (operand.Var p)) (filled s at v size) e) (ok_same mid e1 x.2) agree;
        other = λ k l ne. refl;
      }

  -- from a variable, byte by byte
  write_array : (made : ℕ → Bool) (s : CState) (e : State) (d p k v : ℕ) → (var_at f.vars p).kind ≡ kind.Dest → p < length f.vars → s.v k ≡ Some v → Agrees f made s e → (e1 : State) → go_on (write_cell f call r i p v e) (λ mem. done (record e { memory = mem })) ≡ done e1
      → HasWritten f c call r i (λ q. made q || is_place q (operand.Var p)) d (stores f.vars p k (var_at f.vars p).size) s e1
  write_array made s e d p k v n l sv g e1 h =
      let z = size_at f call mem kept near counts is good p (l, ap is_array_kind n) in
      write_filled made s e d p v (stores f.vars p k (var_at f.vars p).size) n l
      (λ there. stores_do c call (record { row = r; element = i }) s f.vars p (cell f call p r i) k v (var_at f.vars p).size (is_at f call mem kept near counts is good p r i (l, ap is_array_kind n) row low_i) (omega arith) z.1 there sv) g e1 h

  -- from any expression
  write_dest : (made : ℕ → Bool) (s : CState) (e : State) (d p v : ℕ) (x : CExpr) → (var_at f.vars p).kind ≡ kind.Dest → p < length f.vars → first_free f.vars ≤ d → variables_of (stores_by f.vars d p x (variable_of x)) ≤ c.temps → Gives (scene call (record { row = r; element = i }) s) x v → Agrees f made s e → (e1 : State)
      → go_on (write_cell f call r i p v e) (λ mem. done (record e { memory = mem })) ≡ done e1 → HasWritten f c call r i (λ q. made q || is_place q (operand.Var p)) d (stores_by f.vars d p x (variable_of x)) s e1
  write_dest made s e d p v x n l free room gives g e1 h = by (variable_of x) refl room
    where
      t : Turn
      t = record { row = r; element = i }

      size : ℕ
      size = (var_at f.vars p).size

      now : ℕ → Bool
      now q = made q || is_place q (operand.Var p)

      one : size ≡ 1 → HasWritten f c call r i now d (SetByte (array_number f.vars p) (index_of f.vars p 0) x ∷ []) s e1
      one q =
          write_filled made s e d p v (SetByte (array_number f.vars p) (index_of f.vars p 0) x ∷ []) n l
          (λ there. subst (λ k. Does c call t (SetByte (array_number f.vars p) (index_of f.vars p 0) x ∷ []) s (filled s (cell f call p r i) v k)) (sym q)
          (store_one c call t s f.vars p (cell f call p r i) v x (is_at f call mem kept near counts is good p r i (l, ap is_array_kind n) row low_i) (omega (arith, q)) (there 0 (omega (arith, q))) gives)) g e1 h

      many : variables_of (SetV d x ∷ stores f.vars p d size) ≤ c.temps → HasWritten f c call r i now d (SetV d x ∷ stores f.vars p d size) s e1
      many room =
          let w = write_array made (counting (with_v s d v)) e d p d v n l (change_same s.v d (Some v)) (agrees_v d v free g) e1 h in
          record {
            state = w.state;
            does = does_both (does_v c call t s d v x (set_room d c.temps x (stores f.vars p d size) room).0 gives) w.does;
            agrees = w.agrees;
            other = λ k m ne. w.other k m ne ∙ change_other s.v d k (Some v) ne;
          }

      by_size : (b : Bool) → (size == 1) ≡ b → variables_of (if b then SetByte (array_number f.vars p) (index_of f.vars p 0) x ∷ [] else SetV d x ∷ stores f.vars p d size) ≤ c.temps
          → HasWritten f c call r i now d (if b then SetByte (array_number f.vars p) (index_of f.vars p 0) x ∷ [] else SetV d x ∷ stores f.vars p d size) s e1
      by_size true q room = one (is_here size 1 q)
      by_size false q room = many room

      by : (o : Option ℕ) → variable_of x ≡ o → variables_of (stores_by f.vars d p x o) ≤ c.temps → HasWritten f c call r i now d (stores_by f.vars d p x o) s e1
      by (Some k) q room = write_array made s e d p k v n l (variable_value q gives) g e1 h
      by None q room = by_size (size == 1) refl room

  -- a temp
  write_temp : (made : ℕ → Bool) (s : CState) (e : State) (d p v : ℕ) (x : CExpr) → (var_at f.vars p).kind ≡ kind.Temp → p < length f.vars → variables_of (SetV (temp_of f.vars p) x ∷ []) ≤ c.temps → Gives (scene call (record { row = r; element = i }) s) x v → v < 2 ^ (8 * (var_at f.vars p).size) → Agrees f made s e → (e1 : State)
      → done (record e { temps = change e.temps p v }) ≡ done e1 → HasWritten f c call r i (λ q. made q || is_place q (operand.Var p)) d (SetV (temp_of f.vars p) x ∷ []) s e1
  write_temp made s e d p v x k l room gives small g e1 h =
      let t : Turn = record { row = r; element = i } in
      let b = before_all kind.Temp f.vars p l (ap (same_kind kind.Temp) k) in
      let mid : State = record e { temps = change e.temps p v } in
      let end : CState = counting (with_v s (temp_of f.vars p) v) in
      record {
        state = end;
        does = does_v c call t s (temp_of f.vars p) v x (set_room (temp_of f.vars p) c.temps x [] room).0 gives;
        agrees = subst (λ e. Agrees f (λ q. made q || is_place q (operand.Var p)) end e) (ok_same mid e1 h) (record {
          memory = g.memory;
          bytes = g.bytes;
          temps = λ q m tq h. go q m tq h (cases_eq q p);
          sums = g.sums;
          g = g.g;
        });
        other = λ k l ne. change_other s.v (temp_of f.vars p) k (Some v) (λ z. omega (arith, z, l, b));
      }
    where
      go : (q : ℕ) → q < length f.vars → (var_at f.vars q).kind ≡ kind.Temp → made q || is_place q (operand.Var p) ≡ true → (q ≡ p) ⊎ (q ≢ p) → (change s.v (temp_of f.vars p) (Some v) (temp_of f.vars q) ≡ Some (change e.temps p v q)) × (change e.temps p v q < 2 ^ (8 * (var_at f.vars q).size))
      go q m tq h (inl z) =
          let is : change e.temps p v q ≡ v = ap (change e.temps p v) z ∙ change_same e.temps p v in (
            ap (λ q. change s.v (temp_of f.vars p) (Some v) (temp_of f.vars q)) z ∙ change_same s.v (temp_of f.vars p) (Some v) ∙ ap Some (sym is),
            subst (λ n. n < 2 ^ (8 * (var_at f.vars q).size)) (sym is) (subst (λ q. v < 2 ^ (8 * (var_at f.vars q).size)) (sym z) small),
          )
      go q m tq h (inr ne) =
          let apart = numbers_apart kind.Temp f.vars q p m l (ap (same_kind kind.Temp) tq) (ap (same_kind kind.Temp) k) ne in
          let old = g.temps q m tq (made_before (made q) (q == p) h (not_here q p ne)) in
          let same : change e.temps p v q ≡ e.temps q = change_other e.temps p q v ne in
          (change_other s.v (temp_of f.vars p) (temp_of f.vars q) (Some v) apart ∙ old.0 ∙ ap Some (sym same), subst (λ n. n < 2 ^ (8 * (var_at f.vars q).size)) (sym same) old.1)

  -- a sum
  write_sum : (made : ℕ → Bool) (s : CState) (e : State) (d p v : ℕ) (x : CExpr) → (var_at f.vars p).kind ≡ kind.Accumulator → p < length f.vars → Gives (scene call (record { row = r; element = i }) s) x v → Agrees f made s e → (e1 : State) → done (record e { sums = change e.sums p ((e.sums p + v) % 2 ^ (8 * (var_at f.vars p).size)) }) ≡ done e1
      → HasWritten f c call r i (λ q. made q || is_place q (operand.Var p)) d (SetW (count_before kind.Accumulator f.vars p) (low (8 * (var_at f.vars p).size) (Two Add (W (count_before kind.Accumulator f.vars p)) x)) ∷ []) s e1
  write_sum made s e d p v x k l new g e1 h =
      let t : Turn = record { row = r; element = i } in
      let w : ℕ = count_before kind.Accumulator f.vars p in
      let bits : ℕ = 8 * (var_at f.vars p).size in
      let few : bits ≤ 64 = (let z = size_low f kept p l in omega (arith, z)) in
      let b = before_all kind.Accumulator f.vars p l (ap (same_kind kind.Accumulator) k) in
      let old : Gives (scene call t s) (W w) (e.sums p) = record { is = value_w call t s w ∙ (g.sums p l k).0 } in
      let gives = low_cut (e.sums p + v) bits (add_mod old new) few in
      let mid : State = record e { sums = change e.sums p ((e.sums p + v) % 2 ^ bits) } in
      let end : CState = counting (with_w s w ((e.sums p + v) % 2 ^ bits)) in
      let small : (e.sums p + v) % 2 ^ bits < 2 ^ 64 = (let a = mod_below (e.sums p + v) (2 ^ bits) (pow_pos bits) in let m : 2 ^ bits ≤ 2 ^ 64 = pow_mono {i = bits} {j = 64} few in omega (arith, a, m)) in
      record {
        state = end;
        does = does_w c call t s w ((e.sums p + v) % 2 ^ bits) (low bits (Two Add (W w) x)) (omega (arith, b, accs)) gives;
        agrees = subst (λ e. Agrees f (λ q. made q || is_place q (operand.Var p)) end e) (ok_same mid e1 h) (record {
          memory = g.memory;
          bytes = g.bytes;
          temps = λ q m t h. g.temps q m t (no_temp made p (ap (same_kind kind.Temp) k) q t h);
          sums = λ q m aq. go ((e.sums p + v) % 2 ^ bits) small q m aq (cases_eq q p);
          g = g.g;
        });
        other = λ k l ne. refl;
      }
    where
      go : (x : ℕ) → x < 2 ^ 64 → (q : ℕ) → q < length f.vars → (var_at f.vars q).kind ≡ kind.Accumulator → (q ≡ p) ⊎ (q ≢ p) → (change s.w (count_before kind.Accumulator f.vars p) (Some x) (count_before kind.Accumulator f.vars q) ≡ Some (change e.sums p x q)) × (change e.sums p x q < 2 ^ 64)
      go x small q m aq (inl z) = (
        ap (λ q. change s.w (count_before kind.Accumulator f.vars p) (Some x) (count_before kind.Accumulator f.vars q)) z ∙ change_same s.w (count_before kind.Accumulator f.vars p) (Some x) ∙ ap Some (sym (ap (change e.sums p x) z ∙ change_same e.sums p x)),
        subst (λ n. n < 2 ^ 64) (sym (ap (change e.sums p x) z ∙ change_same e.sums p x)) small,
      )
      go x small q m aq (inr ne) =
          let apart = numbers_apart kind.Accumulator f.vars q p m l (ap (same_kind kind.Accumulator) aq) (ap (same_kind kind.Accumulator) k) ne in
          let old = g.sums q m aq in
          let same : change e.sums p x q ≡ e.sums q = change_other e.sums p q x ne in
          (change_other s.w (count_before kind.Accumulator f.vars p) (count_before kind.Accumulator f.vars q) (Some x) apart ∙ old.0 ∙ ap Some (sym same), subst (λ n. n < 2 ^ 64) (sym same) old.1)

  write_kind : (made : ℕ → Bool) (s : CState) (e : State) (d p v : ℕ) (x : CExpr) (k : VarKind) → (var_at f.vars p).kind ≡ k → p < length f.vars → first_free f.vars ≤ d → variables_of (writes_var f.vars d p x k) ≤ c.temps → Gives (scene call (record { row = r; element = i }) s) x v → ((var_at f.vars p).kind ≡ kind.Temp → v < 2 ^ (8 * (var_at f.vars p).size)) → Agrees f made s e → (e1 : State)
      → write_var f call r i v e p k ≡ done e1 → HasWritten f c call r i (λ q. made q || is_place q (operand.Var p)) d (writes_var f.vars d p x k) s e1
  write_kind made s e d p v x kind.Dest k l free room gives small g e1 h = write_dest made s e d p v x k l free room gives g e1 h
  write_kind made s e d p v x kind.Temp k l free room gives small g e1 h = write_temp made s e d p v x k l room gives (small k) g e1 h
  write_kind made s e d p v x kind.Accumulator k l free room gives small g e1 h = write_sum made s e d p v x k l gives g e1 h
  write_kind made s e d p v x kind.Source k l free room gives small g e1 h = write_nothing made s e d p (ap (same_kind kind.Temp) k) g e1 h
  write_kind made s e d p v x kind.Param k l free room gives small g e1 h = write_nothing made s e d p (ap (same_kind kind.Temp) k) g e1 h
  write_kind made s e d p v x kind.Const k l free room gives small g e1 h = write_nothing made s e d p (ap (same_kind kind.Temp) k) g e1 h

  write_operand : (made : ℕ → Bool) (s : CState) (e : State) (d v n : ℕ) (x : CExpr) (o : Operand) → is_in_range f.vars o ≡ true → first_free f.vars ≤ d → variables_of (writes_one f.vars d x o) ≤ c.temps → Gives (scene call (record { row = r; element = i }) s) x v → IsSized f.vars n o → v < 2 ^ (8 * n) → Agrees f made s e → (e1 : State)
      → write_result f call r i v e o ≡ done e1 → HasWritten f c call r i (λ q. made q || is_place q o) d (writes_one f.vars d x o) s e1
  write_operand made s e d v n x (operand.Var p) m free room gives sized small g e1 h = write_kind made s e d p v x (var_at f.vars p).kind refl (grind (arith, nat_tests, m)) free room gives (λ t. subst (λ n. v < 2 ^ (8 * n)) (sym (sized t)) small) g e1 h
  write_operand made s e d v n x (operand.Number k) m free room gives sized small g e1 h = record {
    state = s;
    does = does_none c call (record { row = r; element = i }) s;
    agrees = subst (λ e. Agrees f (λ q. made q || false) s e) (ok_same e e1 h) (agrees_less (λ q. made q || false) (λ q k h. made_before (made q) false h refl) g);
    other = λ k l ne. refl;
  }

  -- ---- the results

  or_assoc : (a b c : Bool) → a || (b || (c || false)) ≡ true → (a || b) || c ≡ true
  or_assoc true b c h = refl
  or_assoc false true c h = refl
  or_assoc false false true h = refl
  or_assoc false false false h = h

  or_one : (a b : Bool) → a || (b || false) ≡ true → a || (b || (false || false)) ≡ true
  or_one true b h = refl
  or_one false true h = refl
  or_one false false h = h

  sizes_same : (r k : ℕ) → 8 * r * k ≡ 8 * (r * k)
  sizes_same r k = grind arith

  module _ (earlier : List Insn) (insn : Insn) (ok : IsChecked f.vars earlier insn) (e e1 : State) (a b : ℕ → ℕ) (read : read_sources f call r i insn.op e insn.sources.items ≡ both_okay a b) where
    abbrev v : ℕ × ℕ
    v = lanewise insn.op insn.prefix a b

    abbrev made : ℕ → Bool
    made p = is_set earlier p

    abbrev free : ℕ
    free = sums_from f.vars insn + sum_count insn

    small : v.0 < 2 ^ (8 * (size_of_result insn.op 0 * insn.prefix))
    small = subst (λ n. v.0 < 2 ^ n) (sizes_same (size_of_result insn.op 0) insn.prefix) (lanewise_fits insn.op insn.prefix a b)

    second_small : v.1 < 2 ^ (8 * (size_of_result insn.op 1 * insn.prefix))
    second_small = subst (λ n. v.1 < 2 ^ n) (sizes_same (size_of_result insn.op 1) insn.prefix) (lanewise_second_fits insn.op insn.prefix a b)

    writes_do : (s : CState) (xs : List Operand) → length xs ≤ 2 → (1 < length xs → 0 < size_of_result insn.op 1) → list_all (is_in_range f.vars) xs ≡ true → AreSized f.vars insn.op insn.prefix 0 xs → variables_of (writes f.vars free insn xs) ≤ c.temps → Agrees f made s e → AreHeld f call r i s e (first_free f.vars) insn.sources.items → AreSummed f s insn a b
        → write_results f call r i v e xs ≡ done e1 → HasDone f c call r i (λ q. made q || list_any (is_place q) xs) (writes f.vars free insn xs) s e1
    writes_do s [] l two n sized room g held sums h = record {
      state = s;
      does = does_none c call (record { row = r; element = i }) s;
      agrees = subst (λ e. Agrees f (λ q. made q || false) s e) (ok_same e e1 h) (agrees_less (λ q. made q || false) (λ q k h. made_before (made q) false h refl) g);
    }
    writes_do s (x ∷ []) l two n sized room g held sums h =
        let gives = first_gives f call mem kept near counts is good c r i row low_i earlier insn ok e a b read s g held sums in
        let w = write_operand made s e free v.0 (size_of_result insn.op 0 * insn.prefix) (first_of f.vars insn) x (both (is_in_range f.vars x) true n).0 (omega arith) room gives sized.0 small g e1 h in
        record { state = w.state; does = w.does; agrees = agrees_less (λ q. made q || (is_place q x || false)) (λ q k h. or_assoc (made q) (is_place q x) false (or_one (made q) (is_place q x) h)) (agrees_less (λ q. (made q || is_place q x) || false) (λ q k h. made_before (made q || is_place q x) false h refl) w.agrees) }
    writes_do s (x ∷ y ∷ []) l two n sized room g held sums h =
        let d : ℕ = free in
        let t : Turn = record { row = r; element = i } in
        let rooms = set_room d c.temps (second_of f.vars insn) (writes_one f.vars (d + 1) (first_of f.vars insn) x ++ writes_one f.vars (d + 1) (V d) y) room in
        let both_rooms = room_both (writes_one f.vars (d + 1) (first_of f.vars insn) x) (writes_one f.vars (d + 1) (V d) y) c.temps rooms.1 in
        let m = both (is_in_range f.vars x) (is_in_range f.vars y && true) n in
        let last = second_gives f call mem kept near counts is good c r i row low_i earlier insn ok e a b read s (two (omega arith)) g held in
        let s1 : CState = counting (with_v s d v.1) in
        let one = does_v c call t s d v.1 (second_of f.vars insn) rooms.0 last in
        let g1 : Agrees f made s1 e = agrees_v d v.1 (omega arith) g in
        let held1 : AreHeld f call r i s1 e (first_free f.vars) insn.sources.items = are_held_still f call r i s s1 e (first_free f.vars) insn.sources.items (λ k m. change_other s.v d k (Some v.1) (λ z. omega (arith, m, z))) held in
        let sums1 : AreSummed f s1 insn a b = λ q m t. change_other s.v d (sums_from f.vars insn + q) (Some v.1) (λ z. let k = count_is f call mem kept near counts is good c r i row low_i earlier insn ok e a b read t in omega (arith, m, z, k)) ∙ sums q m t in
        let gives = first_gives f call mem kept near counts is good c r i row low_i earlier insn ok e a b read s1 g1 held1 sums1 in
        let u = go_on_ok (write_result f call r i v.0 e x) (λ t. write_result f call r i v.1 t y) e1 h in
        let w = write_operand made s1 e (d + 1) v.0 (size_of_result insn.op 0 * insn.prefix) (first_of f.vars insn) x m.0 (omega arith) both_rooms.0 gives sized.0 small g1 u.0 u.1 in
        let kept_last : w.state.v d ≡ Some v.1 = w.other d (omega arith) (λ z. omega (arith, z)) ∙ change_same s.v d (Some v.1) in
        let z = write_operand (λ q. made q || is_place q x) w.state u.0 (d + 1) v.1 (size_of_result insn.op 1 * insn.prefix) (V d) y (both (is_in_range f.vars y) true m.1).0 (omega arith) both_rooms.1 (v_gives call t w.state d v.1 kept_last) sized.1.0 second_small w.agrees e1 u.2 in
        record { state = z.state; does = does_both {e = s1} {g = z.state} one (does_both {e = w.state} {g = z.state} w.does z.does); agrees = agrees_less (λ q. made q || (is_place q x || (is_place q y || false))) (λ q k h. or_assoc (made q) (is_place q x) (is_place q y) h) z.agrees }
    writes_do s (x ∷ y ∷ z ∷ more) l two n sized room g held sums h = absurd (omega (arith, l))

  -- ---- one instruction

  -- a place that an instruction sets, or one before it
  set_more : (earlier : List Insn) (insn : Insn) (p : ℕ) → is_set earlier p || (list_any (is_place p) insn.results.items || false) ≡ true → is_set earlier p || list_any (is_place p) insn.results.items ≡ true
  set_more earlier insn p h = go (is_set earlier p) (list_any (is_place p) insn.results.items) h
    where
      go : (a b : Bool) → a || (b || false) ≡ true → a || b ≡ true
      go true b h = refl
      go false true h = refl
      go false false h = h

  works_do : (earlier : List Insn) (insn : Insn) (s : CState) (e e1 : State) → IsChecked f.vars earlier insn → variables_of (works f.vars insn) ≤ c.temps → Agrees f (λ p. is_set earlier p) s e → act f call r i insn e ≡ done e1 → HasDone f c call r i (λ p. is_set (earlier ++ insn ∷ []) p) (works f.vars insn) s e1
  unfolding works
  works_do earlier insn s e e1 ok room g h =
      let d : ℕ = first_free f.vars in
      let d1 : ℕ = sums_from f.vars insn + sum_count insn in
      let rooms = room_both (reads f.vars d insn.sources.items) (sums f.vars insn (sum_count insn) ++ writes f.vars d1 insn insn.results.items) c.temps room in
      let later = room_both (sums f.vars insn (sum_count insn)) (writes f.vars d1 insn insn.results.items) c.temps rooms.1 in
      let x = go_on_ok (read_sources f call r i insn.op e insn.sources.items) (λ x. write_results f call r i (lanewise insn.op insn.prefix x.0 x.1) e insn.results.items) e1 (sym (act_near f call r i insn e ok.near) ∙ h) in
      let m = reads_do f call mem kept near counts is good c r i row low_i (λ p. is_set earlier p) earlier insn.op insn.prefix s e insn.sources.items x.0.0 x.0.1 rooms.0 ok.reads g x.1 in
      let n = all_sums_do f call mem kept near counts is good c r i row low_i earlier insn ok e x.0.0 x.0.1 x.1 m.state later.0 m.agrees m.held in
      let summed : AreSummed f n.state insn x.0.0 x.0.1 = λ q l t. n.sums q (let k = count_is f call mem kept near counts is good c r i row low_i earlier insn ok e x.0.0 x.0.1 x.1 t in omega (arith, l, k)) in
      let w = writes_do earlier insn ok e e1 x.0.0 x.0.1 x.1 n.state insn.results.items ok.few ok.second ok.results ok.sizes later.1 n.agrees n.held summed x.2 in
      record {
        state = w.state;
        does = does_both {e = m.state} {g = w.state} m.does (does_both {e = n.state} {g = w.state} n.does w.does);
        agrees = agrees_less (λ p. is_set (earlier ++ insn ∷ []) p) (λ p k h. set_more earlier insn p (sym (list_any-append (λ (insn : Insn). list_any (is_place p) insn.results.items) earlier (insn ∷ [])) ∙ h)) w.agrees;
      }

  copies_do : (earlier : List Insn) (insn : Insn) (s : CState) (e e1 : State) (x : CExpr) → IsChecked f.vars earlier insn → copied f.vars insn ≡ Some x → variables_of (copies f.vars x insn.results.items) ≤ c.temps → Agrees f (λ p. is_set earlier p) s e → act f call r i insn e ≡ done e1 → HasDone f c call r i (λ p. is_set (earlier ++ insn ∷ []) p) (copies f.vars x insn.results.items) s e1
  copies_do earlier insn s e e1 x ok found room g h =
      let u = go_on_ok (read_sources f call r i insn.op e insn.sources.items) (λ x. write_results f call r i (lanewise insn.op insn.prefix x.0 x.1) e insn.results.items) e1 (sym (act_near f call r i insn e ok.near) ∙ h) in
      let gives = copied_gives f call mem kept near counts is good c r i row low_i earlier insn s e u.0.0 u.0.1 x ok g u.1 found in
      let w = to_all insn.results.items ok.second ok.results ok.sizes room u.0.0 u.0.1 gives u.1 u.2 in
      record { state = w.state; does = w.does; agrees = agrees_less (λ p. is_set (earlier ++ insn ∷ []) p) (λ p k h. set_more earlier insn p (sym (list_any-append (λ (insn : Insn). list_any (is_place p) insn.results.items) earlier (insn ∷ [])) ∙ h)) w.agrees }
    where
      to_all : (xs : List Operand) → (1 < length xs → 0 < size_of_result insn.op 1) → list_all (is_in_range f.vars) xs ≡ true → AreSized f.vars insn.op insn.prefix 0 xs → variables_of (copies f.vars x xs) ≤ c.temps → (a b : ℕ → ℕ) → Gives (scene call (record { row = r; element = i }) s) x (lanewise insn.op insn.prefix a b).0 → read_sources f call r i insn.op e insn.sources.items ≡ both_okay a b
          → write_results f call r i (lanewise insn.op insn.prefix a b) e xs ≡ done e1 → HasDone f c call r i (λ q. is_set earlier q || list_any (is_place q) xs) (copies f.vars x xs) s e1
      to_all [] two n sized room a b gives read h = record {
        state = s;
        does = does_none c call (record { row = r; element = i }) s;
        agrees = subst (λ e. Agrees f (λ q. is_set earlier q || false) s e) (ok_same e e1 h) (agrees_less (λ q. is_set earlier q || false) (λ q k h. made_before (is_set earlier q) false h refl) g);
      }
      to_all (y ∷ []) two n sized room a b gives read h =
          let w = write_operand (λ q. is_set earlier q) s e (first_free f.vars) (lanewise insn.op insn.prefix a b).0 (size_of_result insn.op 0 * insn.prefix) x y (both (is_in_range f.vars y) true n).0 (omega arith) room gives sized.0 (small earlier insn ok e e1 a b read) g e1 h in
          record { state = w.state; does = w.does; agrees = agrees_less (λ q. is_set earlier q || (is_place q y || false)) (λ q k h. or_assoc (is_set earlier q) (is_place q y) false (or_one (is_set earlier q) (is_place q y) h)) (agrees_less (λ q. (is_set earlier q || is_place q y) || false) (λ q k h. made_before (is_set earlier q || is_place q y) false h refl) w.agrees) }
      to_all (y ∷ z ∷ more) two n sized room a b gives read h = absurd (whole_one insn (if_some (is_whole insn) (whole_of_all f.vars insn.sources.items) x found).0 (two (omega arith)))

  pub insn_does : (earlier : List Insn) (insn : Insn) (s : CState) (e e1 : State) → IsChecked f.vars earlier insn → variables_of (insn_body f.vars insn) ≤ c.temps → Agrees f (λ p. is_set earlier p) s e → act f call r i insn e ≡ done e1 → HasDone f c call r i (λ p. is_set (earlier ++ insn ∷ []) p) (insn_body f.vars insn) s e1
  unfolding insn_body
  insn_does earlier insn s e e1 ok room g h = by (copied f.vars insn) refl room
    where
      by : (o : Option CExpr) → copied f.vars insn ≡ o → variables_of (copies_or_works f.vars insn o) ≤ c.temps → HasDone f c call r i (λ p. is_set (earlier ++ insn ∷ []) p) (copies_or_works f.vars insn o) s e1
      by (Some x) found room = copies_do earlier insn s e e1 x ok found room g h
      by None found room = works_do earlier insn s e e1 ok room g h
