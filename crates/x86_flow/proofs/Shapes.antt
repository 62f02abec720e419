-- Sequences, choices and loops are allowed where their parts are, and have few bytes more.
use Rattle.std.proofs.Common.{◌≡◌, ◌+◌, ◌≤◌, pos, negsuc, List, [], ◌∷◌, ◌++◌, length, refl, ap, ◌∙◌, arith, length-append}
use Rattle.x86_ins.specs.declared.ins.Cond.{Cond}
use Rattle.x86_ins.specs.declared.ins.Ins.{Ins}
use Rattle.x86_ins.specs.declared.ins.Ins.TheVariants.{Jump, JumpIf}
use Rattle.x86_ins.specs.Spelling.{IsAllowed, spelling}
use Rattle.x86_ins.specs.Way.{Each}
use Rattle.x86_flow.specs.Flow.{spell_all, size, opposite, enter_jump, again_jump, loop_code, choice_code}
use Rattle.x86_flow.proofs.Ways.{spell_append, jump_size, jump_if_size}
use Rattle.x86_flow.proofs.Spelled.{fits_up, fits_down, each_both}

pub size_both : (a b : List Ins) → size (a ++ b) ≡ size a + size b
size_both a b = ap length (spell_append a b) ∙ length-append (spell_all a) (spell_all b)

size_more : (i : Ins) (is : List Ins) → size (i ∷ is) ≡ length (spelling i) + size is
size_more i is = length-append (spelling i) (spell_all is)

pub loop_size : (q : Cond) (body : List Ins) → size (loop_code q body) ≡ size body + 12
loop_size q body =
    let again = again_jump q (size body) in
    let enter = enter_jump q (size body) in
    omega (arith, size_more enter (body ++ again ∷ []), size_both body (again ∷ []), size_more again [], jump_if_size q (negsuc (size body + 5)), jump_if_size (opposite q) (pos (size body + 6)))

pub choice_size : (q : Cond) (one two : List Ins) → size (choice_code q one two) ≡ size one + size two + 11
choice_size q one two =
    let past = Jump (pos (size one)) in
    let first = JumpIf q (pos (size two + 5)) in
    omega (arith, size_more first (two ++ past ∷ one), size_both two (past ∷ one), size_more past one, jump_size (pos (size one)), jump_if_size q (pos (size two + 5)))

pub loop_fine : (q : Cond) (body : List Ins) → size body ≤ 1000000000 → Each IsAllowed body → Each IsAllowed (loop_code q body)
loop_fine q body few h = (
  (fits_up (size body + 6) (omega (arith, few)), refl),
  each_both IsAllowed body (again_jump q (size body) ∷ []) h ((fits_down (size body + 5) (omega (arith, few)), refl), tt),
)

pub choice_fine : (q : Cond) (one two : List Ins) → size one ≤ 1000000000 → size two ≤ 1000000000 → Each IsAllowed one → Each IsAllowed two → Each IsAllowed (choice_code q one two)
choice_fine q one two few_one few_two h g = (
  (fits_up (size two + 5) (omega (arith, few_two)), refl),
  each_both IsAllowed two (Jump (pos (size one)) ∷ one) g ((fits_up (size one) (omega (arith, few_one)), refl), h),
)
