-- The first instruction that needs too many values is that of the first step that does.
use Rattle.std.proofs.Common.{◌≡◌, ℕ, zero, suc, ◌+◌, ◌<◌, ◌≤◌, List, [], ◌∷◌, Some, None, refl, ap, ◌∙◌, arith, length, map, slice_index}
use Rattle.orc_program.specs.declared.program.Insn.{Insn}
use Rattle.orc_program.specs.Program.{FunctionValue}
use Rattle.orc_program.specs.Need.{need_of, places}
use Rattle.orc_plan.specs.declared.steps.Pressure.{Pressure}
use Rattle.orc_plan.specs.declared.steps.Step.{Step}
use Rattle.orc_plan.specs.Lowered.{steps_of}
use Rattle.orc_plan.specs.Need.{need_in}
use Rattle.orc_plan.specs.Places.{NeedsFew, IsPressure, line_at}
use Rattle.orc_plan.proofs.SameNeed.{same_count, same_line}
use Rattle.orc_asm.specs.Function.{pressure_from, first_pressure}

-- ---- of instructions, the first of which has the number j

-- the first one needs too many
here : (f : FunctionValue) (j : ℕ) (insn : Insn) (insns : List Insn) → places < need_of f.vars f.insns j → pressure_from f j (insn ∷ insns) ≡ Some (record { line = insn.line; need = need_of f.vars f.insns j })
here f j insn insns h = grind (arith, h)

-- it doesn't
later : (f : FunctionValue) (j : ℕ) (insn : Insn) (insns : List Insn) → need_of f.vars f.insns j ≤ places → pressure_from f j (insn ∷ insns) ≡ pressure_from f (suc j) insns
later f j insn insns h = grind (arith, h)

-- none of them does
none_from : (f : FunctionValue) (j : ℕ) (insns : List Insn) → ((k : ℕ) → j ≤ k → k < j + length insns → need_of f.vars f.insns k ≤ places) → pressure_from f j insns ≡ None
none_from f j [] few = refl
none_from f j (insn ∷ insns) few = later f j insn insns (few j (omega arith) (omega arith)) ∙ none_from f (suc j) insns (λ k low high. few k (omega (arith, low)) (omega (arith, high)))

-- that with the number k, which is i numbers on, is the first that does
pressed_from : (f : FunctionValue) (j i k : ℕ) (insns : List Insn) → k ≡ j + i → i < length insns → ((h : ℕ) → j ≤ h → h < k → need_of f.vars f.insns h ≤ places) → places < need_of f.vars f.insns k
    → pressure_from f j insns ≡ Some (record { line = slice_index (map (λ (x : Insn). x.line) insns) i; need = need_of f.vars f.insns k })
pressed_from f j i k [] is inside few above = absurd (omega (arith, inside))
pressed_from f j zero k (insn ∷ insns) is inside few above =
    let same : k ≡ j = omega (arith, is) in
    rw same (here f j insn insns (rw same at above))
pressed_from f j (suc i) k (insn ∷ insns) is inside few above =
    later f j insn insns (few j (omega arith) (omega (arith, is))) ∙ pressed_from f (suc j) i k insns (omega (arith, is)) (omega (arith, inside)) (λ h low high. few h (omega (arith, low)) high) above

-- ---- of a function's steps

-- no step needs too many
pub none_pressed : (f : FunctionValue) (steps : List Step) → steps ≡ steps_of f → ((j : ℕ) → need_in steps j ≡ need_of f.vars f.insns j) → NeedsFew steps → first_pressure f ≡ None
none_pressed f steps is needs few = none_from f 0 f.insns (λ k low high. omega (arith, needs k, few k (omega (arith, high, count))))
  where
    count : length steps ≡ length f.insns
    count = ap length is ∙ same_count f

-- the first one that does
pub first_pressed : (f : FunctionValue) (steps : List Step) (e : Pressure) → steps ≡ steps_of f → ((j : ℕ) → need_in steps j ≡ need_of f.vars f.insns j) → IsPressure steps e → first_pressure f ≡ Some (record { line = e.line; need = e.need })
first_pressed f steps e is needs h =
    pressed_from f 0 h.step h.step f.insns (omega arith) (omega (arith, h.inside, count)) (λ k low high. omega (arith, needs k, h.first k high)) (omega (arith, needs h.step, h.above))
    ∙ cc (line, need)
  where
    count : length steps ≡ length f.insns
    count = ap length is ∙ same_count f

    line : e.line ≡ slice_index (map (λ (x : Insn). x.line) f.insns) h.step
    line = h.line ∙ ap (λ (ss : List Step). line_at ss h.step) is ∙ same_line f h.step

    need : e.need ≡ need_of f.vars f.insns h.step
    need = h.need ∙ needs h.step
