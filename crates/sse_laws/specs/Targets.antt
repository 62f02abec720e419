-- Which instructions a target has.
use Rattle.std.specs.Prelude.{◌≡◌, Bool, true, false, not, ◌||◌, List}
use Rattle.std.specs.List.{list_all}
use Rattle.orc_ops.specs.declared.target.Target.{Target}
use Rattle.orc_ops.specs.declared.target.Target.TheVariants as target
use Rattle.x86_ins.specs.declared.ins.Ins.{Ins}
use Rattle.x86_ins.specs.declared.ins.Ins.TheVariants.{Vec}
use Rattle.x86_ins.specs.Spelling.{has_38}

-- the opcode map whose opcodes begin with the bytes 0F 38 (Intel SDM, volume 2A, section 2.1.2): its instructions came with SSSE3 and SSE4.1, which a processor need not have (volume 2A, CPUID, leaf 1: bits 9 and 19 of ECX)
abbrev pub has_map_38 : Target → Bool
has_map_38 target.Sse2 = false
has_map_38 target.Sse41 = true

-- whether the target has an instruction: all others are of SSE2 or older, and each x86-64 processor has them
abbrev pub is_of : Target → Ins → Bool
is_of for_target (Vec op dst src) = not (has_38 op) || has_map_38 for_target
is_of for_target i = true

-- a list of the target's instructions alone
abbrev pub IsCodeFor : Target → List Ins → Type 0
IsCodeFor for_target list = list_all (is_of for_target) list ≡ true
