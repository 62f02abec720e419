-- Each instruction that is allowed has few bytes.
use Rattle.std.proofs.Common.{ℕ, ◌+◌, ◌%◌, ◌^◌, ◌<◌, ◌≤◌, nat_lt, Bool, true, false, if◌then◌else◌, List, [], ◌∷◌, ◌++◌, length, refl, arith, length-append}
use Rattle.std.proofs.lemmas.Bool.{ltb-true}
use Rattle.std.specs.Int.{w32, w64, to_le_bytes}
use Rattle.x86_ins.specs.declared.ins.Addr.{Addr}
use Rattle.x86_ins.specs.declared.ins.Ins.{Ins}
use Rattle.x86_ins.specs.declared.ins.Ins.TheVariants.{Vec, VecImm, Shuffle, VecLoad, VecStore, FromGpr, ToGpr, Move, Load, Store, Store8, Store16, Load8, Load16, MovImm, Alu, AluImm, Test, Shift, Imul, Lea, Push, Pop, Jump, JumpIf, Ret}
use Rattle.x86_ins.specs.Spelling.{IsAllowed, spelling, reg_form, mem_form, plus_form, rex, top, m_reg, m_mem}
use Rattle.x86_ins.specs.Way.{Each}
use Rattle.x86_flow.proofs.Spelled.{IsFine, fine_vec, fine_vec_load, fine_vec_store, fine_from_gpr, fine_to_gpr, fine_move, fine_load, fine_store, fine_load_8, fine_load_16, fine_store_8, fine_store_16, fine_alu, fine_alu_imm, fine_test, fine_shift}
use Rattle.orc_frame.proofs.Counted.{rex_short, fine_vec_imm, fine_shuffle}

plus_short : (wide : Bool) (opcode rm : ℕ) → length (plus_form wide opcode rm) ≤ 2
unfolding plus_form
plus_short wide opcode rm = omega (arith, rex_short wide (top 0) (top rm), length-append (rex wide 0 rm) ((opcode + rm % 8) ∷ []))

-- a product is a byte longer than the move of a register, and an address has the length of a load
fine_imul : (d s : ℕ) → d < 16 → s < 16 → IsFine (Imul d s)
unfolding spelling reg_form
fine_imul d s h g = record {
  allowed = ((h, g), refl);
  short = omega (arith, rex_short true (top d) (top s), length-append (rex true d s) (0x0f ∷ 0xaf ∷ m_reg d s));
}

fine_lea : (d : ℕ) (at : Addr) → IsAllowed (Lea d at) → IsFine (Lea d at)
unfolding spelling mem_form
fine_lea d at h =
    let load = (fine_load d at h.0.0 h.0.1.0 h.0.1.1).short in
    record {
      allowed = h;
      short = omega (arith, load, length-append (rex true d at.base) (0x8d ∷ m_mem d at), length-append (rex true d at.base) (0x8b ∷ m_mem d at));
    }

fine_mov_imm : (d v : ℕ) → IsAllowed (MovImm d v) → IsFine (MovImm d v)
unfolding spelling
fine_mov_imm d v h = record { allowed = h; short = go (nat_lt v (2 ^ 32)) }
  where
    go : (b : Bool) → length (if b then plus_form false 0xb8 d ++ to_le_bytes w32 v else plus_form true 0xb8 d ++ to_le_bytes w64 v) ≤ 11
    go true = omega (arith, plus_short false 0xb8 d, length-append (plus_form false 0xb8 d) (to_le_bytes w32 v))
    go false = omega (arith, plus_short true 0xb8 d, length-append (plus_form true 0xb8 d) (to_le_bytes w64 v))

fine_any : (i : Ins) → IsAllowed i → IsFine i
unfolding spelling
fine_any (Vec op d s) h = fine_vec op d s h.0.0 h.0.1
fine_any (VecImm op d n) h = fine_vec_imm op d n h.0.0 h.0.1
fine_any (Shuffle op d s n) h = fine_shuffle op d s n h.0.0 h.0.1 h.0.2
fine_any (VecLoad op d at) h = fine_vec_load op d at h.0.0 h.0.1.0 h.0.1.1
fine_any (VecStore op s at) h = fine_vec_store op s at h.0.0 h.0.1.0 h.0.1.1
fine_any (FromGpr wide d s) h = fine_from_gpr wide d s h.0.0 h.0.1
fine_any (ToGpr wide d s) h = fine_to_gpr wide d s h.0.0 h.0.1
fine_any (Move d s) h = fine_move d s h.0.0 h.0.1
fine_any (Load d at) h = fine_load d at h.0.0 h.0.1.0 h.0.1.1
fine_any (Store s at) h = fine_store s at h.0.0 h.0.1.0 h.0.1.1
fine_any (Store8 s at) h = fine_store_8 s at h.0.0 h.0.1.0 h.0.1.1
fine_any (Store16 s at) h = fine_store_16 s at h.0.0 h.0.1.0 h.0.1.1
fine_any (Load8 d at) h = fine_load_8 d at h.0.0 h.0.1.0 h.0.1.1
fine_any (Load16 d at) h = fine_load_16 d at h.0.0 h.0.1.0 h.0.1.1
fine_any (MovImm d v) h = fine_mov_imm d v h
fine_any (Alu op d s) h = fine_alu op d s h.0.0 h.0.1
fine_any (AluImm op d v) h = fine_alu_imm op d v h.0.0 h.0.1
fine_any (Test a b) h = fine_test a b h.0.0 h.0.1
fine_any (Shift op d n) h = fine_shift op d n h.0.0 (ltb-true n 64 h.1)
fine_any (Imul d s) h = fine_imul d s h.0.0 h.0.1
fine_any (Lea d at) h = fine_lea d at h
fine_any (Push s) h = record { allowed = h; short = omega (arith, plus_short false 0x50 s) }
fine_any (Pop d) h = record { allowed = h; short = omega (arith, plus_short false 0x58 d) }
fine_any (Jump rel) h = record { allowed = h; short = omega arith }
fine_any (JumpIf q rel) h = record { allowed = h; short = omega arith }
fine_any Ret h = record { allowed = h; short = omega arith }

pub fine_each : (is : List Ins) → Each IsAllowed is → Each IsFine is
fine_each [] h = tt
fine_each (i ∷ is) h = (fine_any i h.0, fine_each is h.1)
