-- What each instruction does to registers, flags and memory, or why it has no effect (Intel SDM, volumes 2A and 2B, narrowed to what is used; the page of each row is named at its line in `work`).
use Rattle.std.specs.Prelude.{◌≡◌, ℕ, ◌+◌, ◌-◌, ◌%◌, ◌^◌, ◌<◌, ◌==◌, Bool, true, false, not, ◌||◌, if◌then◌else◌, nat_lt, nat_le, ℤ, pos, negsuc, ◌+ℤ◌, ◌-ℤ◌, int_lt, List, [], get_or, length, Option, Some, None, Result, Ok, Err, bit_and}
use Rattle.orc_bits.specs.Numbers.{signed, wrap}
use Rattle.orc_bits.specs.Lanes.{lane, from_bytes, byte_of, change, AreBytes}
use Rattle.orc_bits.specs.Memory.{Memory, read, value, word, store, missing}
use Rattle.x86_ins.specs.Vectors.{shape, result_of, imm_shape, imm_result, shuffle_result, add_wrap, sub_wrap, mul_low, shl, shr, sar}
use Rattle.x86_ins.specs.declared.ins.Addr.{Addr}
use Rattle.x86_ins.specs.declared.ins.MoveOp.{MoveOp}
use Rattle.x86_ins.specs.declared.ins.MoveOp.TheVariants as move
use Rattle.x86_ins.specs.declared.ins.AluOp.{AluOp}
use Rattle.x86_ins.specs.declared.ins.AluOp.TheVariants as alu
use Rattle.x86_ins.specs.declared.ins.ShiftOp.{ShiftOp}
use Rattle.x86_ins.specs.declared.ins.ShiftOp.TheVariants as shift
use Rattle.x86_ins.specs.declared.ins.Cond.{Cond}
use Rattle.x86_ins.specs.declared.ins.Cond.TheVariants as conds
use Rattle.x86_ins.specs.declared.ins.Ins.{Ins}
use Rattle.x86_ins.specs.declared.ins.Ins.TheVariants.{Vec, VecImm, Shuffle, VecLoad, VecStore, FromGpr, ToGpr, Move, Load, Store, Store8, Store16, Load8, Load16, MovImm, Alu, AluImm, Test, Shift, Imul, Lea, Push, Pop, Jump, JumpIf, Ret}
use Rattle.x86_ins.specs.declared.state.Flags.{Flags}
use Rattle.x86_ins.specs.declared.state.State.{State}
use Rattle.x86_ins.specs.declared.state.Trap.{Trap}
use Rattle.x86_ins.specs.declared.state.Why.TheVariants as why

-- ---- the state

-- the machine but for the place in the code: registers by their numbers, a vector register as its bytes, memory as a function
pub record Core : Type 0 where
  pub gpr : ℕ → ℕ
  pub xmm : ℕ → List ℕ
  pub flags : Option Flags
  pub memory : Memory

-- a core and the place in the code
pub record Point : Type 0 where
  pub core : Core
  pub rip : ℕ

-- the program's state, with a memory, as a core and as a point
abbrev pub core_of : State → Memory → Core
core_of s mem = record { gpr = λ r. get_or s.gpr r 0; xmm = λ r. get_or s.xmm r []; flags = s.flags; memory = mem }

abbrev pub point_of : State → Memory → Point
point_of s mem = record { core = core_of s mem; rip = s.rip }

-- registers and memory hold what a machine's can
pub record Bounded (c : Core) : Type 0 where
  pub gpr : (r : ℕ) → c.gpr r < 2 ^ 64
  pub xmm : (r : ℕ) → AreBytes (c.xmm r)
  pub size : (r : ℕ) → r < 16 → length (c.xmm r) ≡ 16
  pub memory : (a v : ℕ) → c.memory a ≡ Some v → v < 256

-- one part changed: a register, all vector registers, flags or memory
abbrev pub with_gpr : Core → ℕ → ℕ → Core
with_gpr c r v = record c { gpr = change c.gpr r v }

abbrev pub with_xmm : Core → ℕ → List ℕ → Core
with_xmm c r v = record c { xmm = change c.xmm r v }

abbrev pub with_lanes : Core → (ℕ → List ℕ) → Core
with_lanes c x = record c { xmm = x }

abbrev pub with_flags : Core → Option Flags → Core
with_flags c f = record c { flags = f }

abbrev pub with_memory : Core → Memory → Core
with_memory c mem = record c { memory = mem }

-- ---- addresses, and accesses that may trap

-- a number moved by a signed one, modulo 2^64
abbrev pub moved : ℕ → ℤ → ℕ
moved a (pos n) = (a + n) % 2 ^ 64
moved a (negsuc n) = (a + (2 ^ 64 - 1 - n % 2 ^ 64)) % 2 ^ 64

-- base + disp, modulo 2^64
abbrev pub address : Core → Addr → ℕ
address c at = moved (c.gpr at.base) at.disp

-- goes on with what an access of so many bytes gave, or traps at its first byte that isn't mapped
abbrev pub access : {A : Type 0} → ℕ → Memory → ℕ → Option A → (A → Core) → Result Core Trap
access n mem a (Some x) go = Ok (go x)
access n mem a None go = Err (record { at = missing n mem a; why = why.Unmapped })

-- a load of so many bytes as a number, and a store of so many bytes
abbrev pub load : ℕ → Core → ℕ → (ℕ → Core) → Result Core Trap
load n c a go = access n c.memory a (value n c.memory a) go

abbrev pub save : ℕ → Core → ℕ → (ℕ → ℕ) → (Memory → Core) → Result Core Trap
save n c a f go = access n c.memory a (store n c.memory a f) go

-- MOVDQA has to stand at a multiple of 16, which is asked before the bytes are
abbrev pub aligned : MoveOp → ℕ → Result Core Trap → Result Core Trap
aligned move.Movdqa a r = if a % 16 == 0 then r else Err (record { at = a; why = why.Misaligned })
aligned move.Movdqu a r = r
aligned move.Movq a r = r
aligned move.Movd a r = r

-- the bytes that a vector load or store moves
abbrev pub move_size : MoveOp → ℕ
move_size move.Movdqa = 16
move_size move.Movdqu = 16
move_size move.Movq = 8
move_size move.Movd = 4

-- ---- flags and conditions

-- outside the signed range of 64 bits
abbrev pub is_out : ℤ → Bool
is_out z = int_lt z (pos 0 -ℤ pos (2 ^ 63)) || int_lt (pos (2 ^ 63 - 1)) z

-- SF is bit 63 of the result
abbrev pub flags_of : Bool → Bool → ℕ → Flags
flags_of carry overflow r = record { carry = carry; zero = r == 0; sign = nat_le (2 ^ 63) r; overflow = overflow }

-- ADD, AND, CMP (volume 2A), SUB (volume 2B)
abbrev pub alu_result : AluOp → ℕ → ℕ → ℕ
alu_result alu.Add a b = add_wrap 64 a b
alu_result alu.Sub a b = sub_wrap 64 a b
alu_result alu.And a b = bit_and a b
alu_result alu.Cmp a b = sub_wrap 64 a b

-- the carry is that out of 64 bits, or a borrow; overflow is a result outside the signed range
abbrev pub alu_flags : AluOp → ℕ → ℕ → Flags
alu_flags alu.Add a b = flags_of (nat_le (2 ^ 64) (a + b)) (is_out (signed 64 a +ℤ signed 64 b)) (add_wrap 64 a b)
alu_flags alu.Sub a b = flags_of (nat_lt a b) (is_out (signed 64 a -ℤ signed 64 b)) (sub_wrap 64 a b)
alu_flags alu.And a b = flags_of false false (bit_and a b)
alu_flags alu.Cmp a b = flags_of (nat_lt a b) (is_out (signed 64 a -ℤ signed 64 b)) (sub_wrap 64 a b)

-- a comparison keeps its register
abbrev pub keeps_dst : AluOp → Bool
keeps_dst alu.Cmp = true
keeps_dst _ = false

-- arithmetic on a register and a number
abbrev pub alu_core : AluOp → Core → ℕ → ℕ → Core
alu_core op c d b = record c {
  gpr = if keeps_dst op then c.gpr else change c.gpr d (alu_result op (c.gpr d) b);
  flags = Some (alu_flags op (c.gpr d) b);
}

-- SAL/SAR/SHL/SHR (volume 2B)
abbrev pub shift_result : ShiftOp → ℕ → ℕ → ℕ
shift_result shift.Shl a c = shl 64 a c
shift_result shift.Shr a c = shr 64 a c
shift_result shift.Sar a c = sar 64 a c

-- the flags are equal
abbrev pub same : Bool → Bool → Bool
same true b = b
same false b = not b

-- Jcc (volume 2A)
abbrev pub holds : Cond → Flags → Bool
holds conds.B f = f.carry
holds conds.Ae f = not f.carry
holds conds.E f = f.zero
holds conds.Ne f = not f.zero
holds conds.Be f = f.carry || f.zero
holds conds.A f = not (f.carry || f.zero)
holds conds.S f = f.sign
holds conds.Ns f = not f.sign
holds conds.L f = not (same f.sign f.overflow)
holds conds.Ge f = same f.sign f.overflow
holds conds.Le f = f.zero || not (same f.sign f.overflow)
holds conds.G f = not (f.zero || not (same f.sign f.overflow))

-- whether a condition holds, none on unset flags
abbrev pub test : Cond → Option Flags → Option Bool
test q (Some f) = Some (holds q f)
test q None = None

-- ---- instructions

-- 8 below RSP
abbrev pub below_stack : Core → ℕ
below_stack c = moved (c.gpr 4) (negsuc 7)

-- where `work` isn't asked
abbrev pub no_work : Result Core Trap
no_work = Err (record { at = 0; why = why.NoRow })

-- an instruction that is no jump and no return; `effect` doesn't ask it of those
-- the vector rows are those of Vectors
abbrev pub work : Ins → Core → Result Core Trap
work (Vec op d s) c = Ok (with_xmm c d (result_of (shape op) (c.xmm d) (c.xmm s)))
work (VecImm op d n) c = Ok (with_xmm c d (imm_result (imm_shape op) n (c.xmm d)))
work (Shuffle op d s o) c = Ok (with_xmm c d (shuffle_result op o (c.xmm s)))
-- MOVDQA,VMOVDQA32/64; MOVDQU,VMOVDQU8/16/32/64; MOVQ; MOVD/MOVQ (volume 2B). A load of 4 or 8 bytes clears the rest
work (VecLoad op d at) c = aligned op (address c at)
    (access (move_size op) c.memory (address c at) (read (move_size op) c.memory (address c at)) (λ bs. with_xmm c d (from_bytes (λ j. get_or bs j 0))))
work (VecStore op s at) c = aligned op (address c at) (save (move_size op) c (address c at) (λ j. get_or (c.xmm s) j 0) (λ mem. with_memory c mem))
-- MOVD/MOVQ (volume 2B)
work (FromGpr wide d s) c = Ok (with_xmm c d (from_bytes (byte_of (if wide then 8 else 4) (c.gpr s))))
work (ToGpr wide d s) c = Ok (with_gpr c d (lane (if wide then 8 else 4) 0 (c.xmm s)))
-- MOV (volume 2B)
work (Move d s) c = Ok (with_gpr c d (c.gpr s))
work (Load d at) c = load 8 c (address c at) (λ v. with_gpr c d v)
work (Store s at) c = save 8 c (address c at) (byte_of 8 (c.gpr s)) (λ mem. with_memory c mem)
work (Store8 s at) c = save 1 c (address c at) (byte_of 1 (c.gpr s)) (λ mem. with_memory c mem)
work (Store16 s at) c = save 2 c (address c at) (byte_of 2 (c.gpr s)) (λ mem. with_memory c mem)
-- MOVZX (volume 2B)
work (Load8 d at) c = load 1 c (address c at) (λ v. with_gpr c d v)
work (Load16 d at) c = load 2 c (address c at) (λ v. with_gpr c d v)
-- MOV (volume 2B)
work (MovImm d v) c = Ok (with_gpr c d v)
-- ADD; AND; CMP (volume 2A); SUB (volume 2B). A number is sign-extended
work (Alu op d s) c = Ok (alu_core op c d (c.gpr s))
work (AluImm op d v) c = Ok (alu_core op c d (wrap 64 v))
-- TEST (volume 2B)
work (Test a b) c = Ok (with_flags c (Some (flags_of false false (bit_and (c.gpr a) (c.gpr b)))))
-- SAL/SAR/SHL/SHR (volume 2B). The flags are unset, for the count 0 too
work (Shift op d n) c = Ok (with_flags (with_gpr c d (shift_result op (c.gpr d) n)) None)
-- IMUL (volume 2A). The flags are unset
work (Imul d s) c = Ok (with_flags (with_gpr c d (mul_low 64 (c.gpr d) (c.gpr s))) None)
-- LEA (volume 2A)
work (Lea d at) c = Ok (with_gpr c d (address c at))
-- PUSH; POP (volume 2B)
work (Push s) c = save 8 c (below_stack c) (byte_of 8 (c.gpr s)) (λ mem. with_memory (with_gpr c 4 (below_stack c)) mem)
work (Pop d) c = load 8 c (c.gpr 4) (λ v. with_gpr (with_gpr c 4 (moved (c.gpr 4) (pos 8))) d v)
-- these have no place here
work (Jump rel) c = no_work
work (JumpIf q rel) c = no_work
work Ret c = no_work

-- a core that goes on at a place
abbrev pub at : Result Core Trap → ℕ → Result Point Trap
at (Ok c) rip = Ok (record { core = c; rip = rip })
at (Err t) rip = Err t

-- a jump that is taken or not, or no flags to tell
abbrev pub jump_if : Option Bool → ℤ → Core → ℕ → Result Point Trap
jump_if (Some taken) rel c rip = Ok (record { core = c; rip = if taken then moved rip rel else rip })
jump_if None rel c rip = Err (record { at = rip; why = why.NoFlags })

-- goes on at the word that was read at RSP, and raises RSP by 8
abbrev pub return_to : Option ℕ → Core → Result Point Trap
return_to (Some r) c = Ok (record { core = with_gpr c 4 (moved (c.gpr 4) (pos 8)); rip = r })
return_to None c = Err (record { at = missing 8 c.memory (c.gpr 4); why = why.Unmapped })

-- an instruction, with the place behind it: JMP, Jcc (volume 2A), RET (volume 2B), and the rows of `work`
abbrev pub effect : Ins → Core → ℕ → Result Point Trap
effect (Jump rel) c rip = Ok (record { core = c; rip = moved rip rel })
effect (JumpIf q rel) c rip = jump_if (test q c.flags) rel c rip
effect Ret c rip = return_to (word c.memory (c.gpr 4)) c
effect ins c rip = at (work ins c) rip

-- an instruction that is no jump and no return
abbrev pub is_plain : Ins → Bool
is_plain (Jump rel) = false
is_plain (JumpIf q rel) = false
is_plain Ret = false
is_plain _ = true

-- ---- the bytes of memory that an instruction reads or writes as data: from an address on, so many

abbrev pub span : Ins → Core → ℕ × ℕ
span (VecLoad op d at) c = (address c at, move_size op)
span (VecStore op s at) c = (address c at, move_size op)
span (Load d at) c = (address c at, 8)
span (Store s at) c = (address c at, 8)
span (Store8 s at) c = (address c at, 1)
span (Store16 s at) c = (address c at, 2)
span (Load8 d at) c = (address c at, 1)
span (Load16 d at) c = (address c at, 2)
span (Push s) c = (below_stack c, 8)
span (Pop d) c = (c.gpr 4, 8)
span Ret c = (c.gpr 4, 8)
span _ c = (0, 0)

abbrev pub Touches : Ins → Core → ℕ → Type 0
Touches i c a = (j : ℕ) × (j < (span i c).1) × (a ≡ ((span i c).0 + j) % 2 ^ 64)
