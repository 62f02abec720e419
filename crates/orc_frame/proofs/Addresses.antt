-- The code before and after the rows touches memory by RSP and RDI alone.
use Rattle.std.proofs.Common.{◌≡◌, ℕ, zero, suc, ◌==◌, pos, ℤ, Bool, true, false, if◌then◌else◌, List, [], ◌∷◌, ◌++◌, length, refl, sym, ap, subst}
use Rattle.x86_ins.specs.declared.ins.VecOp.{VecOp}
use Rattle.x86_ins.specs.declared.ins.VecOp.TheVariants.{Punpcklbw, Paddw, Paddd}
use Rattle.x86_ins.specs.declared.ins.ShuffleOp.TheVariants.{Pshufd, Pshuflw}
use Rattle.x86_ins.specs.declared.ins.MoveOp.TheVariants.{Movdqu}
use Rattle.x86_ins.specs.declared.ins.AluOp.TheVariants.{Add, And}
use Rattle.x86_ins.specs.declared.ins.Ins.{Ins}
use Rattle.x86_ins.specs.declared.ins.Ins.TheVariants.{Vec, Shuffle, VecStore, ToGpr, Store, AluImm}
use Rattle.x86_ins.specs.Way.{Each}
use Rattle.x86_flow.specs.Moves.{away}
use Rattle.x86_flow.specs.Touching.{touch_weight, AreOwn}
use Rattle.x86_flow.proofs.Spelled.{each_both}
use Rattle.orc_program.specs.declared.program.Operand.{Operand}
use Rattle.orc_program.specs.declared.program.Operand.TheVariants as operand
use Rattle.orc_frame.specs.declared.frame.Layout.{Layout}
use Rattle.orc_frame.specs.Layout.{index_in, frame_size}
use Rattle.orc_frame.specs.Frame.{pattern_at, acc_size}
use Rattle.orc_frame.specs.Parts.{sum_word}
use Rattle.orc_frame.specs.Code.{joined, nth, slot, twice_code, repeated, constant_code, spread_code, spread_to_code, is_narrow, param_code, fill_code, pattern_code, save_code, clear_code, prologue_code, add_down_code, total_code, to_rax_code, sum_code, store_code, restore_code, epilogue_code}

module _ (by : ℕ → Bool) (by_stack : by 4 ≡ false) (by_block : by 7 ≡ false) where
  abbrev IsFree : Ins → Type 0
  IsFree i = touch_weight by i ≡ 0

  abbrev one : Bool → ℕ
  one b = if b then 1 else 0

  none_4 : one (by 4) ≡ 0
  none_4 = ap one by_stack

  none_7 : one (by 7) ≡ 0
  none_7 = ap one by_block

  joined_free : (code : ℕ → List Ins) (n : ℕ) → ((k : ℕ) → Each IsFree (code k)) → Each IsFree (joined code n)
  joined_free code zero h = tt
  joined_free code (suc n) h = each_both IsFree (joined code n) (code n) (joined_free code n h) (h n)

  either : (b : Bool) (x y : List Ins) → Each IsFree x → Each IsFree y → Each IsFree (if b then x else y)
  either true x y h g = h
  either false x y h g = g

  twice_free : (z : ℤ) → Each IsFree (twice_code z)
  twice_free z = (none_4, (none_4, tt))

  constant_free : (n : ℕ) (z : ℤ) → Each IsFree (constant_code n z)
  constant_free n z = (refl, twice_free z)

  spread_free : (way : ℕ) → Each IsFree (spread_code way)
  spread_free way = either (way == 1) (Vec Punpcklbw 0 0 ∷ Shuffle Pshuflw 0 0 0 ∷ Shuffle Pshufd 0 0 0 ∷ []) (if way == 2 then Shuffle Pshuflw 0 0 0 ∷ Shuffle Pshufd 0 0 0 ∷ [] else Shuffle Pshufd 0 0 0 ∷ []) (refl, (refl, (refl, tt)))
      (either (way == 2) (Shuffle Pshuflw 0 0 0 ∷ Shuffle Pshufd 0 0 0 ∷ []) (Shuffle Pshufd 0 0 0 ∷ []) (refl, (refl, tt)) (refl, tt))

  spread_to_free : (way : ℕ) (z : ℤ) → Each IsFree (spread_to_code way z)
  spread_to_free way z = (refl, each_both IsFree (spread_code way) (VecStore Movdqu 0 (slot z) ∷ []) (spread_free way) (none_4, tt))

  param_free : (way j : ℕ) (z : ℤ) → Each IsFree (param_code way j z)
  param_free way j z = (none_7, either (is_narrow way) (spread_to_code way z) (twice_code z) (spread_to_free way z) (twice_free z))

  fill_free : (params : List ℕ) (way : ℕ) (n : Operand) (z : ℤ) → Each IsFree (fill_code params way n z)
  fill_free params way (operand.Number n) z = constant_free (repeated way n) z
  fill_free params way (operand.Var p) z = param_free way (index_in params p) z

  prologue_free : (l : Layout) → Each IsFree (prologue_code l)
  prologue_free l =
      let fills = joined (pattern_code l) (length l.patterns.items) in
      let clears = joined (clear_code l) (length l.acc_sizes.items) in
      let filled = joined_free (pattern_code l) (length l.patterns.items) (λ k. fill_free l.params.items (pattern_at l k).way (pattern_at l k).number (nth l.pattern_at.items k)) in
      let cleared = joined_free (clear_code l) (length l.acc_sizes.items) (λ k. constant_free 0 (nth l.sum_at.items k)) in
      (refl, each_both IsFree (joined (save_code l) 6) (Store 7 (slot l.block_at) ∷ (fills ++ clears)) (joined_free (save_code l) 6 (λ j. (none_4, tt))) (none_4, each_both IsFree fills clears filled cleared))

  add_down_free : (op : VecOp) (far : ℕ) → Each IsFree (add_down_code op far)
  add_down_free op far = (refl, (refl, (refl, tt)))

  total_free : (size : ℕ) → Each IsFree (total_code size)
  total_free size = either (size == 2) (add_down_code Paddw 8 ++ (add_down_code Paddw 4 ++ add_down_code Paddw 2)) (add_down_code Paddd 8 ++ add_down_code Paddd 4)
      (each_both IsFree (add_down_code Paddw 8) (add_down_code Paddw 4 ++ add_down_code Paddw 2) (add_down_free Paddw 8) (each_both IsFree (add_down_code Paddw 4) (add_down_code Paddw 2) (add_down_free Paddw 4) (add_down_free Paddw 2)))
      (each_both IsFree (add_down_code Paddd 8) (add_down_code Paddd 4) (add_down_free Paddd 8) (add_down_free Paddd 4))

  to_rax_free : (size : ℕ) → Each IsFree (to_rax_code size)
  to_rax_free size = either (size == 2) (ToGpr false 0 0 ∷ AluImm And 0 (pos 65535) ∷ []) (ToGpr false 0 0 ∷ []) (refl, (refl, tt)) (refl, tt)

  sum_free : (size : ℕ) (z : ℤ) (g : ℕ) → Each IsFree (sum_code size z g)
  sum_free size z g = (none_4, each_both IsFree (total_code size) (to_rax_code size ++ Store 0 (away 7 (sum_word g)) ∷ []) (total_free size) (each_both IsFree (to_rax_code size) (Store 0 (away 7 (sum_word g)) ∷ []) (to_rax_free size) (none_7, tt)))

  epilogue_free : (l : Layout) → Each IsFree (epilogue_code l)
  epilogue_free l =
      let stores = joined (store_code l) (length l.acc_sizes.items) in
      let restores = joined (restore_code l) 6 in
      each_both IsFree stores (restores ++ AluImm Add 4 (pos frame_size) ∷ []) (joined_free (store_code l) (length l.acc_sizes.items) (λ g. sum_free (acc_size l g) (nth l.sum_at.items g) g))
      (each_both IsFree restores (AluImm Add 4 (pos frame_size) ∷ []) (joined_free (restore_code l) 6 (λ j. (none_4, tt))) (refl, tt))

pub prologue_own : (l : Layout) (list : List Ins) → list ≡ prologue_code l → AreOwn list
prologue_own l list e = subst AreOwn (sym e) (λ by s b. prologue_free by s b l)

pub epilogue_own : (l : Layout) (list : List Ins) → list ≡ epilogue_code l → AreOwn list
epilogue_own l list e = subst AreOwn (sym e) (λ by s b. epilogue_free by s b l)
