-- The code before and after the rows has instructions of SSE2 alone.
use Rattle.std.proofs.Common.{◌≡◌, ℕ, zero, suc, ◌==◌, pos, ℤ, false, if◌then◌else◌, List, [], ◌∷◌, ◌++◌, length, refl, sym, subst}
use Rattle.x86_ins.specs.declared.ins.VecOp.TheVariants.{Punpcklbw, Paddw, Paddd}
use Rattle.x86_ins.specs.declared.ins.ShuffleOp.TheVariants.{Pshufd, Pshuflw}
use Rattle.x86_ins.specs.declared.ins.MoveOp.TheVariants.{Movdqu}
use Rattle.x86_ins.specs.declared.ins.AluOp.TheVariants.{Add, And}
use Rattle.x86_ins.specs.declared.ins.Ins.{Ins}
use Rattle.x86_ins.specs.declared.ins.Ins.TheVariants.{Vec, Shuffle, VecStore, ToGpr, Store, AluImm}
use Rattle.x86_flow.specs.Moves.{away}
use Rattle.orc_ops.specs.declared.target.Target.TheVariants.{Sse2}
use Rattle.orc_program.specs.declared.program.Operand.{Operand}
use Rattle.orc_program.specs.declared.program.Operand.TheVariants as operand
use Rattle.sse_laws.specs.Targets.{IsCodeFor}
use Rattle.sse_laws.proofs.Targeted.{behind_for, either_for}
use Rattle.orc_frame.specs.declared.frame.Layout.{Layout}
use Rattle.orc_frame.specs.Layout.{index_in, frame_size}
use Rattle.orc_frame.specs.Frame.{pattern_at, acc_size}
use Rattle.orc_frame.specs.Parts.{sum_word}
use Rattle.orc_frame.specs.Code.{joined, nth, slot, twice_code, repeated, constant_code, spread_code, spread_to_code, is_narrow, param_code, fill_code, pattern_code, save_code, clear_code, prologue_code, add_down_code, total_code, to_rax_code, sum_code, store_code, restore_code, epilogue_code}

joined_for : (code : ℕ → List Ins) (n : ℕ) → ((k : ℕ) → IsCodeFor Sse2 (code k)) → IsCodeFor Sse2 (joined code n)
joined_for code zero h = refl
joined_for code (suc n) h = behind_for Sse2 (joined code n) (code n) (joined_for code n h) (h n)

-- ---- before the rows

spread_for : (way : ℕ) → IsCodeFor Sse2 (spread_code way)
spread_for way = either_for Sse2 (way == 1) (Vec Punpcklbw 0 0 ∷ Shuffle Pshuflw 0 0 0 ∷ Shuffle Pshufd 0 0 0 ∷ []) (if way == 2 then Shuffle Pshuflw 0 0 0 ∷ Shuffle Pshufd 0 0 0 ∷ [] else Shuffle Pshufd 0 0 0 ∷ []) refl
    (either_for Sse2 (way == 2) (Shuffle Pshuflw 0 0 0 ∷ Shuffle Pshufd 0 0 0 ∷ []) (Shuffle Pshufd 0 0 0 ∷ []) refl refl)

param_for : (way j : ℕ) (z : ℤ) → IsCodeFor Sse2 (param_code way j z)
param_for way j z = either_for Sse2 (is_narrow way) (spread_to_code way z) (twice_code z) (behind_for Sse2 (spread_code way) (VecStore Movdqu 0 (slot z) ∷ []) (spread_for way) refl) refl

fill_for : (params : List ℕ) (way : ℕ) (n : Operand) (z : ℤ) → IsCodeFor Sse2 (fill_code params way n z)
fill_for params way (operand.Number n) z = refl
fill_for params way (operand.Var p) z = param_for way (index_in params p) z

prologue_is : (l : Layout) → IsCodeFor Sse2 (prologue_code l)
prologue_is l =
    let fills = joined (pattern_code l) (length l.patterns.items) in
    let clears = joined (clear_code l) (length l.acc_sizes.items) in
    let filled = joined_for (pattern_code l) (length l.patterns.items) (λ k. fill_for l.params.items (pattern_at l k).way (pattern_at l k).number (nth l.pattern_at.items k)) in
    let cleared = joined_for (clear_code l) (length l.acc_sizes.items) (λ k. refl) in
    behind_for Sse2 (joined (save_code l) 6) (Store 7 (slot l.block_at) ∷ (fills ++ clears)) (joined_for (save_code l) 6 (λ j. refl)) (behind_for Sse2 fills clears filled cleared)

-- ---- after the rows

total_for : (size : ℕ) → IsCodeFor Sse2 (total_code size)
total_for size = either_for Sse2 (size == 2) (add_down_code Paddw 8 ++ (add_down_code Paddw 4 ++ add_down_code Paddw 2)) (add_down_code Paddd 8 ++ add_down_code Paddd 4) refl refl

to_rax_for : (size : ℕ) → IsCodeFor Sse2 (to_rax_code size)
to_rax_for size = either_for Sse2 (size == 2) (ToGpr false 0 0 ∷ AluImm And 0 (pos 65535) ∷ []) (ToGpr false 0 0 ∷ []) refl refl

sum_for : (size : ℕ) (z : ℤ) (g : ℕ) → IsCodeFor Sse2 (sum_code size z g)
sum_for size z g =
    behind_for Sse2 (total_code size) (to_rax_code size ++ Store 0 (away 7 (sum_word g)) ∷ []) (total_for size)
    (behind_for Sse2 (to_rax_code size) (Store 0 (away 7 (sum_word g)) ∷ []) (to_rax_for size) refl)

epilogue_is : (l : Layout) → IsCodeFor Sse2 (epilogue_code l)
epilogue_is l =
    let stores = joined (store_code l) (length l.acc_sizes.items) in
    let restores = joined (restore_code l) 6 in
    behind_for Sse2 stores (restores ++ AluImm Add 4 (pos frame_size) ∷ []) (joined_for (store_code l) (length l.acc_sizes.items) (λ g. sum_for (acc_size l g) (nth l.sum_at.items g) g))
    (behind_for Sse2 restores (AluImm Add 4 (pos frame_size) ∷ []) (joined_for (restore_code l) 6 (λ j. refl)) refl)

pub prologue_for : (l : Layout) (list : List Ins) → list ≡ prologue_code l → IsCodeFor Sse2 list
prologue_for l list e = subst (IsCodeFor Sse2) (sym e) (prologue_is l)

pub epilogue_for : (l : Layout) (list : List Ins) → list ≡ epilogue_code l → IsCodeFor Sse2 list
epilogue_for l list e = subst (IsCodeFor Sse2) (sym e) (epilogue_is l)
