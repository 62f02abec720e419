-- Spellings, accesses and traps of single instructions, by computation.
use Rattle.std.proofs.Common.{◌≡◌, [], ◌∷◌, ◌^◌, ◌-◌, ◌==◌, if◌then◌else◌, refl, Some, None, Ok, Err, pos, negsuc}
use Rattle.x86_ins.specs.declared.ins.VecOp.TheVariants as vec
use Rattle.x86_ins.specs.declared.ins.AluOp.TheVariants as alu
use Rattle.x86_ins.specs.declared.ins.MoveOp.TheVariants as move
use Rattle.x86_ins.specs.declared.ins.Cond.TheVariants as conds
use Rattle.x86_ins.specs.declared.ins.Ins.TheVariants.{Vec, VecLoad, Load, Store8, Load8, Load16, AluImm, JumpIf}
use Rattle.x86_ins.specs.declared.state.Why.TheVariants as why
use Rattle.x86_ins.specs.Spelling.{spelling, reg_form, mem_form}
use Rattle.x86_ins.specs.Machine.{Core, effect, work, address}

paddb_bytes : spelling (Vec vec.Paddb 9 0) ≡ 0x66 ∷ 0x44 ∷ 0x0f ∷ 0xfc ∷ 0xc8 ∷ []
unfolding spelling reg_form
paddb_bytes = refl

load_bytes : spelling (Load 0 (record { base = 4; disp = pos 8 })) ≡ 0x48 ∷ 0x8b ∷ 0x44 ∷ 0x24 ∷ 0x08 ∷ []
unfolding spelling mem_form
load_bytes = refl

-- RSI as the source of a byte wants an empty REX
store8_bytes : spelling (Store8 6 (record { base = 7; disp = pos 0 })) ≡ 0x40 ∷ 0x88 ∷ 0x77 ∷ 0x00 ∷ []
unfolding spelling mem_form
store8_bytes = refl

add_bytes : spelling (AluImm alu.Add 1 (pos 127)) ≡ 0x48 ∷ 0x83 ∷ 0xc1 ∷ 0x7f ∷ []
unfolding spelling reg_form
add_bytes = refl

add_long_bytes : spelling (AluImm alu.Add 1 (pos 128)) ≡ 0x48 ∷ 0x81 ∷ 0xc1 ∷ 0x80 ∷ 0x00 ∷ 0x00 ∷ 0x00 ∷ []
unfolding spelling reg_form
add_long_bytes = refl

-- ---- instructions on a core

abbrev core : Core
core = record { gpr = λ r. if r == 4 then 4096 else if r == 2 then 65537 else 9; xmm = λ r. []; flags = None; memory = λ x. if x == 65537 then Some 77 else None }

load8 : (work (Load8 0 (record { base = 2; disp = pos 0 })) core ≡ Ok (record core { gpr = λ r. if r == 0 then 77 else core.gpr r }))
load8 = refl

-- the second of the two bytes isn't mapped
load16 : work (Load16 0 (record { base = 2; disp = pos 0 })) core ≡ Err (record { at = 65538; why = why.Unmapped })
load16 = refl

misaligned : work (VecLoad move.Movdqa 3 (record { base = 2; disp = pos 0 })) core ≡ Err (record { at = 65537; why = why.Misaligned })
misaligned = refl

-- an address below 0 comes round
around : address core (record { base = 0; disp = negsuc 9 }) ≡ 2 ^ 64 - 1
around = refl

no_flags : effect (JumpIf conds.E (pos 4)) core 100 ≡ Err (record { at = 100; why = why.NoFlags })
no_flags = refl
