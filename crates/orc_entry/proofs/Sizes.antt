-- The instructions around a function's code are allowed, have few bytes, and each target has them.
use Rattle.std.proofs.Common.{ℕ, zero, suc, ◌+◌, ◌*◌, ◌^◌, ◌<◌, ◌≤◌, ◌==◌, Bool, true, false, nat_lt, if◌then◌else◌, pos, List, [], ◌∷◌, ◌++◌, length, refl, arith, length-append}
use Rattle.std.specs.Int.{w32, w64, to_le_bytes}
use Rattle.orc_ops.specs.declared.target.Target.{Target}
use Rattle.orc_program.specs.Program.{FunctionValue, array_count}
use Rattle.orc_program.specs.Facts.{facts_of}
use Rattle.orc_program.proofs.FactLaws.{kept_count, kept_facts, facts_kept}
use Rattle.x86_ins.specs.declared.ins.AluOp.TheVariants.{Sub, Add, And}
use Rattle.x86_ins.specs.declared.ins.ShiftOp.TheVariants.{Shl, Shr, Sar}
use Rattle.x86_ins.specs.declared.ins.MoveOp.TheVariants.{Movd}
use Rattle.x86_ins.specs.declared.ins.Ins.{Ins}
use Rattle.x86_ins.specs.declared.ins.Ins.TheVariants.{VecLoad, VecStore, Move, Load, Store, Load16, Store16, MovImm, AluImm, Lea}
use Rattle.x86_ins.specs.Spelling.{IsAllowed, spelling, plus_form, mem_form}
use Rattle.x86_ins.specs.Way.{Each}
use Rattle.x86_flow.specs.Flow.{size}
use Rattle.x86_flow.specs.Moves.{away, here}
use Rattle.x86_flow.proofs.Spelled.{IsFine, fits_up, each_both, all_allowed, size_within, fine_vec_load, fine_vec_store, fine_load, fine_store, fine_load_16, fine_store_16, fine_alu_imm, fine_alu, fine_move, fine_shift}
use Rattle.sse_laws.specs.Targets.{IsCodeFor}
use Rattle.sse_laws.proofs.Targeted.{behind_for, either_for}
use Rattle.orc_frame.specs.Parts.{sum_word}
use Rattle.orc_frame.specs.Code.{joined}
use Rattle.orc_prototype.specs.declared.arguments.Class.{Class}
use Rattle.orc_prototype.specs.declared.arguments.Class.TheVariants as class
use Rattle.orc_prototype.specs.Arguments.{IsSmall, shape_of, sum_size, argument_count}
use Rattle.orc_entry.specs.declared.sources.Source.{Source}
use Rattle.orc_entry.specs.declared.sources.Source.TheVariants as source
use Rattle.orc_entry.specs.Arguments.{in_registers, register_of, stack_word}
use Rattle.orc_entry.specs.Code.{fetch_code, class_code, source_code, fill_code, fills_code, Ascend, stack_size, block_at, pointer_at, fills_of, entry_code, sum_code, exit_code}
use Rattle.orc_entry.proofs.Ascending.{fills_ascend}
use Rattle.orc_entry.proofs.Known.{Known, AllKnown, fills_known, count_few}
use Rattle.orc_entry.proofs.Listed.{entry_length}

-- ---- numbers of elements and rows

pub stated_small : (f : FunctionValue) → ((shape_of f).elements < 2 ^ 32) × ((shape_of f).rows < 2 ^ 32)
stated_small f =
    let kept = kept_facts f.two_d (array_count f.vars) (facts_of f) (facts_kept f) in
    let n = (kept_count (facts_of f).n kept.n).exact in
    let m = (kept_count (facts_of f).m kept.m).exact in
    (omega (arith, n), omega (arith, m))

-- ---- one word

fine_number : (n : ℕ) → n < 2 ^ 32 → IsFine (MovImm 0 n)
unfolding spelling plus_form
fine_number n h = record { allowed = ((omega arith, omega (arith, h)), refl); short = go (nat_lt n (2 ^ 32)) }
  where
    go : (b : Bool) → length (if b then plus_form false 0xb8 0 ++ to_le_bytes w32 n else plus_form true 0xb8 0 ++ to_le_bytes w64 n) ≤ 11
    go true = omega arith
    go false = omega arith

fine_block : IsFine (Lea 7 (away 4 block_at))
unfolding spelling mem_form
fine_block = record { allowed = ((omega arith, (omega arith, fits_up block_at (omega arith))), refl); short = omega arith }

register_few : (i : ℕ) → register_of i < 16
register_few zero = omega arith
register_few (suc zero) = omega arith
register_few (suc (suc zero)) = omega arith
register_few (suc (suc (suc zero))) = omega arith
register_few (suc (suc (suc (suc zero)))) = omega arith
register_few (suc (suc (suc (suc (suc i))))) = omega arith

low : 0 < 16
low = omega arith

stack : 4 < 16
stack = omega arith

fine_class : (k : Class) → Each IsFine (class_code k)
fine_class class.Word = tt
fine_class class.Int = (fine_shift Shl 0 32 low (omega arith), (fine_shift Sar 0 32 low (omega arith), tt))
fine_class class.Count =
    let sign : 11 < 16 = omega arith in
    (fine_shift Shl 0 32 low (omega arith), (fine_move 11 0 sign low, (fine_shift Shr 0 32 low (omega arith), (fine_shift Shr 11 63 sign (omega arith), (fine_alu_imm Sub 11 (pos 1) sign (fits_up 1 (omega arith)), (fine_alu And 0 11 low sign, tt))))))

fine_fetch : (i : ℕ) → i < 64 → Each IsFine (fetch_code i)
fine_fetch i few = go (nat_lt i in_registers)
  where
    go : (b : Bool) → Each IsFine (if b then Move 0 (register_of i) ∷ [] else Load 0 (away 4 (stack_size + stack_word i)) ∷ [])
    go true = (fine_move 0 (register_of i) low (register_few i), tt)
    go false = (fine_load 0 (away 4 (stack_size + stack_word i)) low stack (fits_up (stack_size + stack_word i) (omega (arith, few))), tt)

module _ (count : ℕ) (few : count < 64) where
  fine_source : (from : Source) → Known count from → Each IsFine (source_code from)
  fine_source (source.Argument k i) h = each_both IsFine (fetch_code i) (class_code k) (fine_fetch i (omega (arith, h, few))) (fine_class k)
  fine_source (source.Number n) h = (fine_number n h, tt)

  fine_fill : (from : Source) (to : ℕ) → Known count from → to ≤ stack_size → Each IsFine (fill_code from to)
  fine_fill from to h room = each_both IsFine (source_code from) (Store 0 (away 4 to) ∷ []) (fine_source from h) (fine_store 0 (away 4 to) low stack (fits_up to (omega (arith, room))), tt)

  ends_low : (from : ℕ) (xs : List (Source × ℕ)) → Ascend from xs → from ≤ stack_size
  ends_low from [] h = h
  ends_low from (x ∷ xs) h = omega (arith, h.0, ends_low (x.1 + 8) xs h.1)

  fine_fills : (from : ℕ) (xs : List (Source × ℕ)) → Ascend from xs → AllKnown count xs → Each IsFine (fills_code xs)
  fine_fills from [] up h = tt
  fine_fills from (x ∷ xs) up h = each_both IsFine (fill_code x.0 x.1) (fills_code xs) (fine_fill x.0 x.1 h.0 (omega (arith, ends_low (x.1 + 8) xs up.1))) (fine_fills (x.1 + 8) xs up.1 h.1)

-- ---- the list before a function's code

pub fine_entry : (f : FunctionValue) (longs : List Bool) → IsSmall (shape_of f) → Each IsFine (entry_code f longs)
fine_entry f longs small =
    let few = count_few (shape_of f) small in
    let stated = stated_small f in
    let known = fills_known f longs small stated.0 (λ e. stated.1) in (
      fine_alu_imm Sub 4 (pos stack_size) stack (fits_up stack_size (omega arith)),
      each_both IsFine (fills_code (fills_of f longs)) (Lea 7 (away 4 block_at) ∷ []) (fine_fills (argument_count (shape_of f)) few 0 (fills_of f longs) (fills_ascend f longs small) known) (fine_block, tt),
    )

pub entry_allowed : (f : FunctionValue) (longs : List Bool) → IsSmall (shape_of f) → Each IsAllowed (entry_code f longs)
entry_allowed f longs small = all_allowed (entry_code f longs) (fine_entry f longs small)

pub entry_size : (f : FunctionValue) (longs : List Bool) → IsSmall (shape_of f) → size (entry_code f longs) ≤ 1500
entry_size f longs small = omega (arith, size_within (entry_code f longs) (fine_entry f longs small), entry_length f longs, small.dests, small.sources, small.params, small.sums)

-- ---- the list behind it

fine_sum : (n g : ℕ) → g < 4 → Each IsFine (sum_code n g)
fine_sum n g l = (
  fine_load 1 (away 4 (pointer_at g)) one stack (fits_up (pointer_at g) (omega (arith, l))),
  go (n == 2),
)
  where
    one : 1 < 16
    one = omega arith

    go : (b : Bool) → Each IsFine (if b then Load16 0 (away 4 (block_at + sum_word g)) ∷ Store16 0 (here 1) ∷ [] else VecLoad Movd 0 (away 4 (block_at + sum_word g)) ∷ VecStore Movd 0 (here 1) ∷ [])
    go true = (fine_load_16 0 (away 4 (block_at + sum_word g)) low stack (fits_up (block_at + sum_word g) (omega (arith, l))), (fine_store_16 0 (here 1) low one (fits_up 0 (omega arith)), tt))
    go false = (fine_vec_load Movd 0 (away 4 (block_at + sum_word g)) low stack (fits_up (block_at + sum_word g) (omega (arith, l))), (fine_vec_store Movd 0 (here 1) low one (fits_up 0 (omega arith)), tt))

sum_few : (n g : ℕ) → length (sum_code n g) ≤ 3
sum_few n g = go (n == 2)
  where
    go : (b : Bool) → length (Load 1 (away 4 (pointer_at g)) ∷ (if b then Load16 0 (away 4 (block_at + sum_word g)) ∷ Store16 0 (here 1) ∷ [] else VecLoad Movd 0 (away 4 (block_at + sum_word g)) ∷ VecStore Movd 0 (here 1) ∷ [])) ≤ 3
    go true = omega arith
    go false = omega arith

fine_joined : (code : ℕ → List Ins) (n : ℕ) → ((k : ℕ) → k < n → Each IsFine (code k)) → Each IsFine (joined code n)
fine_joined code zero h = tt
fine_joined code (suc n) h = each_both IsFine (joined code n) (code n) (fine_joined code n (λ k l. h k (omega (arith, l)))) (h n (omega arith))

joined_few : (code : ℕ → List Ins) (n : ℕ) → ((k : ℕ) → length (code k) ≤ 3) → length (joined code n) ≤ 3 * n
joined_few code zero h = omega arith
joined_few code (suc n) h = omega (arith, h n, joined_few code n h, length-append (joined code n) (code n))

pub fine_exit : (f : FunctionValue) → IsSmall (shape_of f) → Each IsFine (exit_code f)
fine_exit f small =
    let n = (shape_of f).sums in
    let code = λ (g : ℕ). sum_code (sum_size f g) g in
    each_both IsFine (joined code n) (AluImm Add 4 (pos stack_size) ∷ []) (fine_joined code n (λ g l. fine_sum (sum_size f g) g (omega (arith, l, small.sums)))) (fine_alu_imm Add 4 (pos stack_size) stack (fits_up stack_size (omega arith)), tt)

pub exit_allowed : (f : FunctionValue) → IsSmall (shape_of f) → Each IsAllowed (exit_code f)
exit_allowed f small = all_allowed (exit_code f) (fine_exit f small)

pub exit_size : (f : FunctionValue) → IsSmall (shape_of f) → size (exit_code f) ≤ 150
exit_size f small =
    let n = (shape_of f).sums in
    let code = λ (g : ℕ). sum_code (sum_size f g) g in
    omega (arith, size_within (exit_code f) (fine_exit f small), joined_few code n (λ g. sum_few (sum_size f g) g), length-append (joined code n) (AluImm Add 4 (pos stack_size) ∷ []), small.sums)

-- ---- each target has them

module _ (t : Target) where
  class_for : (k : Class) → IsCodeFor t (class_code k)
  class_for class.Word = refl
  class_for class.Int = refl
  class_for class.Count = refl

  fetch_for : (i : ℕ) → IsCodeFor t (fetch_code i)
  fetch_for i = either_for t (nat_lt i in_registers) (Move 0 (register_of i) ∷ []) (Load 0 (away 4 (stack_size + stack_word i)) ∷ []) refl refl

  source_for : (from : Source) → IsCodeFor t (source_code from)
  source_for (source.Argument k i) = behind_for t (fetch_code i) (class_code k) (fetch_for i) (class_for k)
  source_for (source.Number n) = refl

  fills_for : (xs : List (Source × ℕ)) → IsCodeFor t (fills_code xs)
  fills_for [] = refl
  fills_for (x ∷ xs) = behind_for t (fill_code x.0 x.1) (fills_code xs) (behind_for t (source_code x.0) (Store 0 (away 4 x.1) ∷ []) (source_for x.0) refl) (fills_for xs)

  pub entry_for : (f : FunctionValue) (longs : List Bool) → IsCodeFor t (entry_code f longs)
  entry_for f longs = behind_for t (fills_code (fills_of f longs)) (Lea 7 (away 4 block_at) ∷ []) (fills_for (fills_of f longs)) refl

  sum_for : (n g : ℕ) → IsCodeFor t (sum_code n g)
  sum_for n g = either_for t (n == 2) (Load16 0 (away 4 (block_at + sum_word g)) ∷ Store16 0 (here 1) ∷ []) (VecLoad Movd 0 (away 4 (block_at + sum_word g)) ∷ VecStore Movd 0 (here 1) ∷ []) refl refl

  sums_for : (size_at : ℕ → ℕ) (n : ℕ) → IsCodeFor t (joined (λ g. sum_code (size_at g) g) n)
  sums_for size_at zero = refl
  sums_for size_at (suc n) = behind_for t (joined (λ g. sum_code (size_at g) g) n) (sum_code (size_at n) n) (sums_for size_at n) (sum_for (size_at n) n)

  pub exit_for : (f : FunctionValue) → IsCodeFor t (exit_code f)
  exit_for f = behind_for t (joined (λ g. sum_code (sum_size f g) g) (shape_of f).sums) (AluImm Add 4 (pos stack_size) ∷ []) (sums_for (sum_size f) (shape_of f).sums) refl
