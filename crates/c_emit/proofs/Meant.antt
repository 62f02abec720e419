-- The function of C that is made means what emulation means.
use Rattle.std.proofs.Common.{◌≡◌, ℕ, ◌+◌, ◌*◌, ◌≤◌, true, List, length, Result, Ok, Err, refl, sym, ap, ◌∙◌, subst, arith, false}
use Rattle.std.proofs.Math.Nat.{mul-le-mul_left}
use Rattle.std.proofs.Math.Seq.{take-length}
use Rattle.orc_bits.specs.Memory.{Memory}
use Rattle.orc_program.specs.declared.program.Var.{Var}
use Rattle.orc_program.specs.declared.program.VarKind.TheVariants as kind
use Rattle.orc_program.specs.declared.call.Call.{Call}
use Rattle.orc_program.specs.Program.{FunctionValue, count_of, has_far}
use Rattle.orc_program.specs.Kept.{is_function}
use Rattle.orc_program.specs.Meaning as emulation
use Rattle.orc_program.specs.Meaning.{State, Gap, rows, rows_of, sums_of, emulate, ended}
use Rattle.orc_program.specs.Good.{GoodArrays}
use Rattle.orc_program.proofs.Mapped.{HasNoGap, good_has_no_gap}
use Rattle.orc_program.proofs.Steps.{go_on_ok}
use Rattle.orc_emul.specs.State.{HasCounts}
use Rattle.orc_emul.proofs.Functions.{limits_kept}
use Rattle.c_run.specs.Meaning as meaning
use Rattle.c_run.specs.Meaning.{CState, Stop, Ended, times, clear, finish, run_from}
use Rattle.c_emit.specs.Body.{body_of, emitted}
use Rattle.c_emit.specs.CAs.{CAs, HasShape, EndsAs, IsCall, HoldsBytes, budget}
use Rattle.c_emit.proofs.Agree.{Agrees}
use Rattle.c_emit.proofs.Loops.{Steps, steps_both, rows_go, none, statements_few}
use Rattle.c_emit.proofs.Summing.{cleared, clears, agree_first, stored, stores_sums}

gapless : {A : Type 0} (x : Result A Gap) → HasNoGap x → (y : A) × (x ≡ Ok y)
gapless (Ok y) h = (y, refl)
gapless (Err g) h = absurd h

-- the statements are within the budget
enough : (m n k body accs : ℕ) → body ≤ 25 * k → accs ≤ 4 → accs + (m * (1 + n * (1 + body)) + accs) ≤ 8 + m * (4 + n * (8 + 32 * k))
enough m n k body accs b a =
    let x : n * (1 + body) ≤ n * (8 + 32 * k) = mul-le-mul_left n (omega (arith, b)) in
    let y : m * (1 + n * (1 + body)) ≤ m * (4 + n * (8 + 32 * k)) = mul-le-mul_left m (omega (arith, x)) in
    omega (arith, y, a)

-- all sums are stored
all_sums : (f : FunctionValue) (s : CState) (e : State) → Agrees f none s e → Steps (λ budget. times (count_of kind.Accumulator f.vars) (finish budget)) (count_of kind.Accumulator f.vars) s (stored f s e (length f.vars))
all_sums f s e g =
    subst (λ n. Steps (λ budget. times n (finish budget)) n s (stored f s e (length f.vars))) (ap (λ (vs : List Var). count_of kind.Accumulator vs) (take-length f.vars)) (stores_sums f s e g (length f.vars) (omega arith))

module _ (f : FunctionValue) (kept : is_function f ≡ true) (near : has_far f ≡ false) (call : Call) (mem : Memory) (counts : HasCounts f call) (is : IsCall call) (wide : HoldsBytes mem) (good : GoodArrays f call mem) where
  ends_as : EndsAs f (emitted f) call mem
  unfolding emitted
  ends_as =
      let y = gapless (emulate f call mem) (good_has_no_gap f call mem good) in
      let u = go_on_ok (rows_of f call (rows f call) (emulation.start mem)) (ended f) y.0 y.1 in
      let n : ℕ = count_of kind.Accumulator f.vars in
      let first = clears n (meaning.start mem) in
      let x = rows_go f call mem kept near counts is good (emitted f) refl refl refl (rows f call) (omega arith) (cleared (meaning.start mem) n) (emulation.start mem) u.0 (agree_first f mem wide) u.1 in
      let last = all_sums f x.state u.0 x.agrees in
      let whole = steps_both first (steps_both x.steps last) in
      let room = enough (rows f call) call.n (length f.insns) (length (body_of f.vars f.insns)) n (statements_few f kept) (limits_kept f kept).accumulators in
      let end : CState = stored f x.state u.0 (length f.vars) in
      record {
        end = record { memory = end.memory; sums = end.g; statements = end.done };
        runs = ap (λ (r : Result CState Stop). meaning.go_on r meaning.ended) (whole.runs (budget f call) (omega (arith, room)));
        same = ap (λ (r : Result State Gap). emulation.go_on r (ended f)) u.1 ∙ ap (λ (m : Memory). let r : Result (Memory × List ℕ) Gap = Ok (m, sums_of f u.0) in r) (sym x.agrees.memory);
      }

-- what is made means what emulation means
pub emitted_as : (f : FunctionValue) → is_function f ≡ true → has_far f ≡ false → CAs f (emitted f)
emitted_as f kept near = record { ends = λ call mem counts is wide good alone. ends_as f kept near call mem counts is wide good }

pub emitted_shape : (f : FunctionValue) → HasShape f (emitted f)
unfolding emitted
emitted_shape f = record { name = refl; two_d = refl; arrays = refl; params = refl; accs = refl }
