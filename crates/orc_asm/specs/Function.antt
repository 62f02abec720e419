-- What is promised of a function's code, and which functions have none.
use Rattle.std.specs.Prelude.{◌≡◌, ℕ, suc, nat_lt, if◌then◌else◌, List, [], ◌∷◌, ◌++◌, Option, Some, None}
use Rattle.orc_ops.specs.declared.target.Target.{Target}
use Rattle.orc_program.specs.declared.program.Insn.{Insn}
use Rattle.orc_program.specs.Program.{FunctionValue}
use Rattle.orc_program.specs.Need.{need_of, places, steps}
use Rattle.orc_plan.specs.declared.steps.Pressure.{Pressure}
use Rattle.x86_ins.specs.declared.ins.Ins.{Ins}
use Rattle.x86_ins.specs.declared.ins.Ins.TheVariants.{Ret}
use Rattle.x86_ins.specs.Spelling.{IsAllowed, spelling}
use Rattle.x86_ins.specs.Way.{Each}
use Rattle.x86_flow.specs.Flow.{spell_all}
use Rattle.sse_laws.specs.Targets.{IsCodeFor}
use Rattle.orc_frame.specs.Function.{subject_of}
use Rattle.orc_asm.specs.declared.refusal.AsmError.{AsmError}
use Rattle.orc_asm.specs.declared.refusal.AsmError.TheVariants as refusal
use Rattle.orc_asm.specs.RunsAs as runs
use Rattle.orc_asm.specs.Passing as passing

-- each good call of the code returns as the function means, in at most as many steps as are stated for the target
abbrev pub RunsAs : FunctionValue → Target → List ℕ → Type 0
RunsAs f target bytes = runs.RunsAs (subject_of f) (steps f target) bytes

-- so does each call of the code whose memory, cut down to the parts, makes a good call, and in every state on the way all bytes but those of dests' cells, of accumulators' words and of the frame are as at the start
abbrev pub RunsQuietly : FunctionValue → Target → List ℕ → Type 0
RunsQuietly f target bytes = runs.RunsQuietly (subject_of f) (steps f target) bytes

-- and besides, at most rows times turns times operands that are arrays of the steps touch cells, and where in every row a register of the first dest can be stored at a multiple of 16, and no other dest is that very array, no movdqu stores to it
abbrev pub RunsFully : FunctionValue → Target → List ℕ → Type 0
RunsFully f target bytes = runs.RunsFully (subject_of f) (steps f target) bytes

-- the code is instructions of the target, one behind another, and nothing else (Intel SDM, volume 2A, chapter 2): code for SSE2 has none with an opcode of the map 0F 38, which came with SSSE3 and SSE4.1 (CPUID, leaf 1, bits 9 and 19 of ECX)
abbrev pub HasOnly : Target → List ℕ → Type 0
HasOnly target bytes = (list : List Ins) × (bytes ≡ spell_all list) × Each IsAllowed list × IsCodeFor target list

-- the code ends with a return, and what stands before it, instructions of the target too, does all the rest: wherever that stands in code, each call whose memory, cut down to the parts, makes a good call leads to the place behind it, in at most one step less than is stated, with all that is promised of the way
abbrev pub EndsByReturn : FunctionValue → Target → List ℕ → Type 0
EndsByReturn f target bytes = (body : List ℕ) × (bytes ≡ body ++ spelling Ret) × passing.PassesFully (subject_of f) (steps f target) body × HasOnly target body

-- ---- functions that need too many values at once

-- of these instructions, the first of which has the number j, the first that needs more values than there are places: its line and its need
abbrev pub pressure_from : FunctionValue → ℕ → List Insn → Option Pressure
pressure_from f j [] = None
pressure_from f j (insn ∷ insns) =
    if nat_lt places (need_of f.vars f.insns j) then Some (record { line = insn.line; need = need_of f.vars f.insns j }) else pressure_from f (suc j) insns

abbrev pub first_pressure : FunctionValue → Option Pressure
first_pressure f = pressure_from f 0 f.insns

-- why a function has no code: its first instruction that needs too many values, or, where there is none, want of memory
abbrev pub IsRefusal : FunctionValue → AsmError → Type 0
IsRefusal f (refusal.Pressure line need) = first_pressure f ≡ Some (record { line = line; need = need })
IsRefusal f refusal.Memory = first_pressure f ≡ None
