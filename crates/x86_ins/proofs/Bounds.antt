-- Each instruction keeps registers below 2^64 and bytes below 256.
use Rattle.std.proofs.Common.{◌≡◌, ℕ, ◌-◌, ◌%◌, ◌/◌, ◌^◌, ◌<◌, ◌==◌, Bool, true, false, if◌then◌else◌, ℤ, pos, negsuc, List, get_or, length, Option, Some, None, Result, Ok, Err, refl, ap, subst, arith, lit<}
use Rattle.std.specs.Prelude.{nat_lt, cond}
use Rattle.std.proofs.lemmas.Nat.{and_le_l, shr_le}
use Rattle.orc_bits.specs.Numbers.{wrap}
use Rattle.orc_bits.specs.Lanes.{AreBytes, change, byte_of, lane}
use Rattle.orc_bits.proofs.LaneLaws.{AreBytes-from_bytes, length-from_bytes, lane-lt}
use Rattle.x86_ins.specs.declared.ins.MoveOp.{MoveOp}
use Rattle.x86_ins.specs.declared.ins.MoveOp.TheVariants as move
use Rattle.x86_ins.specs.declared.ins.AluOp.{AluOp}
use Rattle.x86_ins.specs.declared.ins.AluOp.TheVariants as alu
use Rattle.x86_ins.specs.declared.ins.ShiftOp.{ShiftOp}
use Rattle.x86_ins.specs.declared.ins.ShiftOp.TheVariants as shift
use Rattle.x86_ins.specs.declared.ins.Ins.{Ins}
use Rattle.x86_ins.specs.declared.ins.Ins.TheVariants.{Vec, VecImm, Shuffle, VecLoad, VecStore, FromGpr, ToGpr, Move, Load, Store, Store8, Store16, Load8, Load16, MovImm, Alu, AluImm, Test, Shift, Imul, Lea, Push, Pop, Jump, JumpIf, Ret}
use Rattle.x86_ins.specs.declared.state.Flags.{Flags}
use Rattle.x86_ins.specs.declared.state.Trap.{Trap}
use Rattle.x86_ins.specs.declared.state.Why.TheVariants as why
use Rattle.orc_bits.specs.Memory.{Memory}
use Rattle.x86_ins.specs.Spelling.{IsIns}
use Rattle.x86_ins.specs.Vectors.{shape, imm_shape, sar_by}
use Rattle.x86_ins.specs.Machine.{Core, Bounded, with_gpr, with_xmm, with_flags, with_memory, moved, address, access, load, save, aligned, move_size, alu_result, alu_core, shift_result, below_stack, work}
use Rattle.orc_bits.proofs.Memories.{Bytewide, fill_bytes, read_bytes, value_small, store_fills}
use Rattle.x86_ins.proofs.Registers.{bytes_result, bytes_imm, bytes_shuffle, size_result, size_imm, size_shuffle, change_all}

pub ok_err : {A E : Type 0} {x : A} {e : E} → Err e ≡ Ok x → ⊥
ok_err h = subst IsBad h tt
  where
    IsBad : {A E : Type 0} → Result A E → Type 0
    IsBad (Err e) = Unit {0}
    IsBad (Ok x) = ⊥

abbrev ok : Core → Result Core Trap
ok x = Ok x

pub ok_one : (x y : Core) → ok x ≡ Ok y → x ≡ y
ok_one x y h = ap (value_or x) h
  where
    value_or : Core → Result Core Trap → Core
    value_or d (Ok v) = v
    value_or d (Err e) = d

pub access_ok : {A : Type 0} (n : ℕ) (mem : Memory) (a : ℕ) (o : Option A) (go : A → Core) (d : Core) → access n mem a o go ≡ Ok d → (x : A) × (o ≡ Some x) × (go x ≡ d)
access_ok n mem a None go d e = absurd (ok_err e)
access_ok n mem a (Some x) go d e = (x, refl, ok_one (go x) d e)

pub aligned_ok : (op : MoveOp) (a : ℕ) (r : Result Core Trap) (d : Core) → aligned op a r ≡ Ok d → r ≡ Ok d
aligned_ok move.Movdqa a r d e = go (a % 16 == 0) e
  where
    go : (t : Bool) → (if t then r else Err (record { at = a; why = why.Misaligned })) ≡ Ok d → r ≡ Ok d
    go true e = e
    go false e = absurd (ok_err e)
aligned_ok move.Movdqu a r d e = e
aligned_ok move.Movq a r d e = e
aligned_ok move.Movd a r d e = e

gpr_bounded : (c : Core) (r v : ℕ) → v < 2 ^ 64 → Bounded c → Bounded (with_gpr c r v)
gpr_bounded c r v l h = record { gpr = change_all (λ n. n < 2 ^ 64) c.gpr r v l h.gpr; xmm = h.xmm; size = h.size; memory = h.memory }

xmm_bounded : (c : Core) (r : ℕ) (v : List ℕ) → AreBytes v → length v ≡ 16 → Bounded c → Bounded (with_xmm c r v)
xmm_bounded c r v b n h = record {
  gpr = h.gpr;
  xmm = change_all AreBytes c.xmm r v b h.xmm;
  size = λ k l. sized k l;
  memory = h.memory;
}
  where
    sized : (k : ℕ) → k < 16 → length (change c.xmm r v k) ≡ 16
    sized k l = change_at (k == r)
      where
        change_at : (t : Bool) → length (if t then v else c.xmm k) ≡ 16
        change_at true = n
        change_at false = h.size k l

flags_bounded : (c : Core) (f : Option Flags) → Bounded c → Bounded (with_flags c f)
flags_bounded c f h = record { gpr = h.gpr; xmm = h.xmm; size = h.size; memory = h.memory }

memory_bounded : (c : Core) (mem : Memory) → Bytewide mem → Bounded c → Bounded (with_memory c mem)
memory_bounded c mem b h = record { gpr = h.gpr; xmm = h.xmm; size = h.size; memory = b }

moved_small : (a : ℕ) (z : ℤ) → moved a z < 2 ^ 64
moved_small a (pos n) = omega arith
moved_small a (negsuc n) = omega arith

wrap_small : (z : ℤ) → wrap 64 z < 2 ^ 64
wrap_small (pos n) = omega arith
wrap_small (negsuc n) = omega arith

byte_small : (n v j : ℕ) → byte_of n v j < 256
byte_small n v j = go (nat_lt j n)
  where
    go : (t : Bool) → (if t then v / 256 ^ j % 256 else 0) < 256
    go true = omega arith
    go false = lit< tt

lane_small : (wide : Bool) (x : List ℕ) → AreBytes x → lane (if wide then 8 else 4) 0 x < 2 ^ 64
lane_small true x h = lane-lt x h 8 0
lane_small false x h = let l : lane 4 0 x < 2 ^ 32 = lane-lt x h 4 0 in omega (arith, l)

alu_small : (op : AluOp) (a b : ℕ) → a < 2 ^ 64 → alu_result op a b < 2 ^ 64
alu_small alu.Add a b h = omega arith
alu_small alu.Sub a b h = omega arith
alu_small alu.And a b h = omega (arith, h, and_le_l a b)
alu_small alu.Cmp a b h = omega arith

alu_bounded : (op : AluOp) (c : Core) (d b : ℕ) → Bounded c → Bounded (alu_core op c d b)
alu_bounded alu.Add c d b h = flags_bounded _ _ (gpr_bounded c d _ (alu_small alu.Add (c.gpr d) b (h.gpr d)) h)
alu_bounded alu.Sub c d b h = flags_bounded _ _ (gpr_bounded c d _ (alu_small alu.Sub (c.gpr d) b (h.gpr d)) h)
alu_bounded alu.And c d b h = flags_bounded _ _ (gpr_bounded c d _ (alu_small alu.And (c.gpr d) b (h.gpr d)) h)
alu_bounded alu.Cmp c d b h = flags_bounded _ _ h

cond-lt : (t : Bool) (a b m : ℕ) → a < m → b < m → cond t a b < m
cond-lt true a b m p q = p
cond-lt false a b m p q = q

shift_small : (op : ShiftOp) (a n : ℕ) → a < 2 ^ 64 → shift_result op a n < 2 ^ 64
shift_small shift.Shl a n h = cond-lt (nat_lt n 64) _ 0 (2 ^ 64) (omega arith) (lit< tt)
shift_small shift.Shr a n h = cond-lt (nat_lt n 64) (a / 2 ^ n) 0 (2 ^ 64) (omega (arith, h, shr_le a n)) (lit< tt)
shift_small shift.Sar a n h = cond-lt (nat_lt n 64) (sar_by 64 a n) (sar_by 64 a 63) (2 ^ 64) (by_small n) (by_small 63)
  where
    by_small : (k : ℕ) → sar_by 64 a k < 2 ^ 64
    by_small k = cond-lt (nat_lt a (2 ^ 63)) (a / 2 ^ k) (2 ^ 64 - 1 - (2 ^ 64 - 1 - a) / 2 ^ k) (2 ^ 64) (omega (arith, h, shr_le a k)) (omega arith)

load_bounded : (n : ℕ) (c : Core) (a : ℕ) (go : ℕ → Core) (d : Core) → Bounded c → ((v : ℕ) → v < 256 ^ n → Bounded (go v)) → load n c a go ≡ Ok d → Bounded d
load_bounded n c a go d h k e =
    let x = access_ok n c.memory a _ go d e in
    subst Bounded x.2 (k x.0 (value_small n c.memory a x.0 h.memory x.1))

save_bounded : (n : ℕ) (c : Core) (a : ℕ) (f : ℕ → ℕ) (go : Memory → Core) (d : Core) → Bounded c → ((j : ℕ) → f j < 256) → ((mem : Memory) → Bytewide mem → Bounded (go mem)) → save n c a f go ≡ Ok d → Bounded d
save_bounded n c a f go d h l k e =
    let x = access_ok n c.memory a _ go d e in
    let b : Bytewide x.0 = subst Bytewide (store_fills n c.memory a f x.0 x.1) (fill_bytes n c.memory a f l h.memory) in
    subst Bounded x.2 (k x.0 b)

pub work_bounded : (i : Ins) (c d : Core) → IsIns i → Bounded c → work i c ≡ Ok d → Bounded d
work_bounded (Vec op r s) c d is h e = subst Bounded (ok_one _ d e) (xmm_bounded c r _ (bytes_result (shape op) (c.xmm r) (c.xmm s)) (size_result (shape op) (c.xmm r) (c.xmm s)) h)
work_bounded (VecImm op r n) c d is h e = subst Bounded (ok_one _ d e) (xmm_bounded c r _ (bytes_imm (imm_shape op) n (c.xmm r)) (size_imm (imm_shape op) n (c.xmm r)) h)
work_bounded (Shuffle op r s o) c d is h e = subst Bounded (ok_one _ d e) (xmm_bounded c r _ (bytes_shuffle op o (c.xmm s)) (size_shuffle op o (c.xmm s)) h)
work_bounded (VecLoad op r at) c d is h e =
    let x = access_ok (move_size op) c.memory (address c at) _ _ d (aligned_ok op (address c at) _ d e) in
    let small : (j : ℕ) → get_or x.0 j 0 < 256 = read_bytes (move_size op) c.memory (address c at) x.0 h.memory x.1 in
    subst Bounded x.2 (xmm_bounded c r _ (AreBytes-from_bytes (λ j. get_or x.0 j 0) (λ j l. small j)) (length-from_bytes (λ j. get_or x.0 j 0)) h)
work_bounded (VecStore op s at) c d is h e =
    save_bounded (move_size op) c (address c at) _ _ d h (λ j. h.xmm s j) (λ mem b. memory_bounded c mem b h) (aligned_ok op (address c at) _ d e)
work_bounded (FromGpr wide r s) c d is h e =
    subst Bounded (ok_one _ d e) (xmm_bounded c r _ (AreBytes-from_bytes (byte_of (if wide then 8 else 4) (c.gpr s)) (λ j l. byte_small (if wide then 8 else 4) (c.gpr s) j)) (length-from_bytes _) h)
work_bounded (ToGpr wide r s) c d is h e = subst Bounded (ok_one _ d e) (gpr_bounded c r _ (lane_small wide (c.xmm s) (h.xmm s)) h)
work_bounded (Move r s) c d is h e = subst Bounded (ok_one _ d e) (gpr_bounded c r _ (h.gpr s) h)
work_bounded (Load r at) c d is h e = load_bounded 8 c (address c at) _ d h (λ v l. gpr_bounded c r v l h) e
work_bounded (Store s at) c d is h e = save_bounded 8 c (address c at) _ _ d h (byte_small 8 (c.gpr s)) (λ mem b. memory_bounded c mem b h) e
work_bounded (Store8 s at) c d is h e = save_bounded 1 c (address c at) _ _ d h (byte_small 1 (c.gpr s)) (λ mem b. memory_bounded c mem b h) e
work_bounded (Store16 s at) c d is h e = save_bounded 2 c (address c at) _ _ d h (byte_small 2 (c.gpr s)) (λ mem b. memory_bounded c mem b h) e
work_bounded (Load8 r at) c d is h e = load_bounded 1 c (address c at) _ d h (λ v l. gpr_bounded c r v (omega (arith, l)) h) e
work_bounded (Load16 r at) c d is h e = load_bounded 2 c (address c at) _ d h (λ v l. gpr_bounded c r v (omega (arith, l)) h) e
work_bounded (MovImm r v) c d is h e = subst Bounded (ok_one _ d e) (gpr_bounded c r v is.1 h)
work_bounded (Alu op r s) c d is h e = subst Bounded (ok_one _ d e) (alu_bounded op c r (c.gpr s) h)
work_bounded (AluImm op r v) c d is h e = subst Bounded (ok_one _ d e) (alu_bounded op c r (wrap 64 v) h)
work_bounded (Test a b) c d is h e = subst Bounded (ok_one _ d e) (flags_bounded c _ h)
work_bounded (Shift op r n) c d is h e = subst Bounded (ok_one _ d e) (flags_bounded _ _ (gpr_bounded c r _ (shift_small op (c.gpr r) n (h.gpr r)) h))
work_bounded (Imul r s) c d is h e = subst Bounded (ok_one _ d e) (flags_bounded _ _ (gpr_bounded c r _ (omega arith) h))
work_bounded (Lea r at) c d is h e = subst Bounded (ok_one _ d e) (gpr_bounded c r _ (moved_small (c.gpr at.base) at.disp) h)
work_bounded (Push s) c d is h e =
    save_bounded 8 c (below_stack c) _ _ d h (byte_small 8 (c.gpr s)) (λ mem b. memory_bounded _ mem b (gpr_bounded c 4 _ (moved_small (c.gpr 4) (negsuc 7)) h)) e
work_bounded (Pop r) c d is h e = load_bounded 8 c (c.gpr 4) _ d h (λ v l. gpr_bounded _ r v l (gpr_bounded c 4 _ (moved_small (c.gpr 4) (pos 8)) h)) e
work_bounded (Jump rel) c d is h e = absurd (ok_err e)
work_bounded (JumpIf q rel) c d is h e = absurd (ok_err e)
work_bounded Ret c d is h e = absurd (ok_err e)
