-- The list behind a function's code finds the sums and their pointers.
use Rattle.std.proofs.Common.{◌≡◌, ℕ, zero, suc, ◌+◌, ◌-◌, ◌*◌, ◌<◌, ◌≤◌, ◌⊎◌, ◌==◌, Bool, true, false, if◌then◌else◌, List, [], ◌∷◌, length, slice_index, map, Option, Some, None, is_some, pos, refl, sym, ap, ◌∙◌, subst, arith, ⊎_elim, length-append}
use Rattle.orc_bits.specs.Memory.{Memory, word}
use Rattle.orc_ops.specs.declared.target.Target.{Target}
use Rattle.orc_program.specs.declared.program.Var.{Var}
use Rattle.orc_program.specs.declared.program.VarKind.TheVariants as kind
use Rattle.orc_program.specs.Program.{FunctionValue, var_at, count_of, places_of}
use Rattle.orc_program.specs.Kept.{is_function}
use Rattle.orc_program.specs.Need.{steps}
use Rattle.orc_program.proofs.Places.{length-places_of}
use Rattle.x86_ins.specs.declared.ins.AluOp.TheVariants.{Add}
use Rattle.x86_ins.specs.declared.ins.MoveOp.TheVariants.{Movd}
use Rattle.x86_ins.specs.declared.ins.Ins.{Ins}
use Rattle.x86_ins.specs.declared.ins.Ins.TheVariants.{VecLoad, VecStore, Load, Load16, Store16, AluImm}
use Rattle.x86_flow.specs.Moves.{away, here}
use Rattle.x86_ins.specs.Machine.{Core, Point, Touches}
use Rattle.x86_ins.specs.Way.{Placed, Each}
use Rattle.x86_flow.specs.Flow.{size}
use Rattle.x86_flow.specs.Does.{Line}
use Rattle.x86_flow.proofs.Frame.{word_same}
use Rattle.orc_frame.specs.Layout.{frame_size}
use Rattle.orc_frame.specs.Parts.{sum_word}
use Rattle.orc_frame.specs.Code.{joined}
use Rattle.orc_frame.specs.GoodCall.{GoodCall}
use Rattle.orc_frame.specs.Subject.{Call, Subject}
use Rattle.orc_frame.specs.Function.{subject_of}
use Rattle.orc_frame.proofs.Facts.{sizes_are}
use Rattle.orc_region.specs.Stores.{IsMovdquStore}
use Rattle.orc_asm.specs.RunsAs.{fully}
use Rattle.orc_asm.specs.Passing.{Passes}
use Rattle.orc_prototype.specs.Arguments.{IsSmall, shape_of, sum_size, sum_argument}
use Rattle.orc_entry.specs.Arguments.{call_by}
use Rattle.orc_entry.specs.Code.{entry_code, exit_code, sum_code, stack_size, block_at, pointer_at}
use Rattle.orc_entry.specs.Entry.{GoodEntry, InSums}
use Rattle.orc_entry.proofs.Front.{Led}
use Rattle.orc_entry.proofs.Bounds.{way_bounded}
use Rattle.orc_entry.proofs.Leaving.{Found, Left, exit_line}

-- ---- accumulators have 2 or 4 bytes

size_among : (P : ℕ → Type 0) (vars : List Var) (ps : List ℕ) (g : ℕ) → g < length ps → Each P (map (λ p. (var_at vars p).size) ps) → P (var_at vars (slice_index ps g)).size
size_among P vars [] g l h = absurd (omega (arith, l))
size_among P vars (p ∷ ps) zero l h = h.0
size_among P vars (p ∷ ps) (suc g) l h = size_among P vars ps g (omega (arith, l)) h.1

pub sum_sizes : (f : FunctionValue) → is_function f ≡ true → (g : ℕ) → g < count_of kind.Accumulator f.vars → (sum_size f g ≡ 2) ⊎ (sum_size f g ≡ 4)
sum_sizes f is g l = size_among (λ n. (n ≡ 2) ⊎ (n ≡ 4)) f.vars (places_of kind.Accumulator f.vars) g (subst (λ n. g < n) (sym (length-places_of kind.Accumulator f.vars)) l) (sizes_are f is)

-- ---- the exit list's length

sum_length : (n g : ℕ) → length (sum_code n g) ≡ 3
sum_length n g = go (n == 2)
  where
    go : (b : Bool) → length (Load 1 (away 4 (pointer_at g)) ∷ (if b then Load16 0 (away 4 (block_at + sum_word g)) ∷ Store16 0 (here 1) ∷ [] else VecLoad Movd 0 (away 4 (block_at + sum_word g)) ∷ VecStore Movd 0 (here 1) ∷ [])) ≡ 3
    go true = refl
    go false = refl

sums_length : (size_of : ℕ → ℕ) (n : ℕ) → length (joined (λ g. sum_code (size_of g) g) n) ≡ 3 * n
sums_length size_of zero = refl
sums_length size_of (suc n) = omega (arith, length-append (joined (λ g. sum_code (size_of g) g) n) (sum_code (size_of n) n), sums_length size_of n, sum_length (size_of n) n)

pub exit_length : (f : FunctionValue) → length (exit_code f) ≡ 3 * count_of kind.Accumulator f.vars + 1
exit_length f =
    let n = count_of kind.Accumulator f.vars in
    omega (arith, length-append (joined (λ g. sum_code (sum_size f g) g) n) (AluImm Add 4 (pos stack_size) ∷ []), sums_length (sum_size f) n)

-- ---- behind the code

module _ (f : FunctionValue) (is : is_function f ≡ true) (few : IsSmall (shape_of f)) (longs : List Bool) (target : Target) (code : Placed) (s : Point) (arg : ℕ → ℕ) (cells : Memory) (back : ℕ) (good : GoodEntry f longs code s arg cells back) (d : Core) (led : Led f longs code s arg d)
    (small : Memory) (body : List ℕ) (any : ℕ) (called : GoodCall (subject_of f) (record { bytes = body; start = s.rip + size (entry_code f longs) }) (record { core = record d { memory = small }; rip = s.rip + size (entry_code f longs) }) (call_by f longs arg) any)
    (b : Passes (subject_of f) (steps f target) (fully (subject_of f) (record { core = d; rip = s.rip + size (entry_code f longs) }) small (call_by f longs arg)) code (record { core = d; rip = s.rip + size (entry_code f longs) }) small (call_by f longs arg) (s.rip + size (entry_code f longs) + length body)) where
  abbrev subject : Subject
  subject = subject_of f

  abbrev call : Call
  call = call_by f longs arg

  -- the core behind the body
  abbrev pub e : Core
  e = b.t.core

  abbrev pub count : ℕ
  count = count_of kind.Accumulator f.vars

  abbrev pub pointer : ℕ → ℕ
  pointer g = arg (sum_argument (shape_of f) g)

  -- a byte that is no cell, nor in the body's frame, its return word or the block
  pub not_small : (a : ℕ) → (subject.cells call a → ⊥) → ((d.gpr 4 - frame_size ≤ a) × (a < d.gpr 4 + 312) → ⊥) → small a ≡ None
  not_small a none out = go (small a) refl
    where
      go : (o : Option ℕ) → small a ≡ o → small a ≡ None
      go None q = q
      go (Some v) q = absurd (⊎_elim none (λ w. ⊎_elim (λ x. out (omega (arith, x.0, led.block), omega (arith, x.1, led.block))) (λ y. ⊎_elim (λ x. out (omega (arith, x.0), omega (arith, x.1))) (λ x. out (x.0, omega (arith, x.1, room))) y) w) (called.no_more a (ap is_some q)))
        where
          room : frame_size ≤ d.gpr 4
          room = called.frame_room

  pub body_keeps : (a : ℕ) → (subject.cells call a → ⊥) → ((d.gpr 4 - frame_size ≤ a) × (a < d.gpr 4 + 312) → ⊥) → e.memory a ≡ d.memory a
  body_keeps a none out = b.rest a (not_small a none out)

  -- the integers of the accumulators are as at the entry
  pub sums_keep : (a : ℕ) → InSums f arg a → e.memory a ≡ s.core.memory a
  sums_keep a w =
      let own = (good.apart.sums a w).0 in
      let room = good.stack_room in
      body_keeps a (λ c. (good.apart.cells a c).0 w) (λ x. own (omega (arith, x.0, led.stack), omega (arith, x.1, led.stack, room)))
      ∙ led.outside a (λ x. own (omega (arith, x.0), x.1))

  module _ (Q : Core → Ins → Type 0) where
    pub found : Found Q e count (sum_size f) pointer b.end.sums
    found =
        let stack = b.stack in
        let room = good.stack_room in
        let low = good.stack_low in
        record {
          few = few.sums;
          low = omega (arith, stack, led.stack, low);
          sizes = sum_sizes f is;
          pointers = λ g l.
              let at : e.gpr 4 + pointer_at g ≡ d.gpr 4 + pointer_at g = ap (λ r. r + pointer_at g) stack in
              let l4 = few.sums in
              ap (λ r. word e.memory r) at
              ∙ word_same e.memory d.memory (d.gpr 4 + pointer_at g) (omega (arith, led.stack, low, l, l4))
              (λ x lo hi. body_keeps x (λ c. (good.apart.cells x c).1 (omega (arith, lo, led.stack), omega (arith, hi, led.stack, l, l4))) (λ w. omega (arith, w.1, lo)))
              ∙ led.sums g l;
          sums = λ g l. ap (λ r. word e.memory r) (let at : e.gpr 4 + (block_at + sum_word g) ≡ d.gpr 7 + sum_word g = omega (arith, stack, led.block) in at) ∙ b.sums g l;
          mapped = λ x w. subst (λ o. is_some o ≡ true) (sym (sums_keep x w)) (good.sums x w);
          pointers_low = good.sums_low;
          own = λ x w i. (good.apart.sums x w).0 (omega (arith, i.0, stack, led.stack), omega (arith, i.1, stack, led.stack));
          apart = good.apart.each;
          bytes = (way_bounded code b.way (record { core = d; rip = s.rip + size (entry_code f longs) }) b.t b.runs led.bounded).memory;
        }

  -- what holds at each step of the list
  pub record Fine (u : Core) (i : Ins) : Type 0 where
    pub stack : u.gpr 4 ≡ d.gpr 4
    pub quiet : (a : ℕ) → (InSums f arg a → ⊥) → u.memory a ≡ e.memory a
    pub untouched : (a : ℕ) → subject.cells call a → Touches i u a → ⊥
    pub unstored : IsMovdquStore i → ⊥

  pub leaves : (x : Core) × Line Fine (exit_code f) e x × Left Fine e count (sum_size f) pointer b.end.sums x
  leaves =
      let stack = b.stack in
      let room = good.stack_room in
      exit_line Fine e count (sum_size f) pointer b.end.sums (found Fine) (λ u i h touched no. record {
        stack = h.others 4 (λ q. omega (arith, q)) (λ q. omega (arith, q)) ∙ stack;
        quiet = h.outside;
        untouched = λ a c t. ⊎_elim (λ w. (good.apart.cells a c).1 (omega (arith, w.0, stack, led.stack), omega (arith, w.1, stack, led.stack))) (λ w. (good.apart.cells a c).0 w) (touched a t);
        unstored = no;
      })
