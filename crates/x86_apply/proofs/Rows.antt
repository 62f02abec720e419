-- Rows of the table, from what the code's parts give.
use Rattle.std.proofs.Common.{◌≡◌, ℕ, ◌+◌, ◌%◌, ◌^◌, Bool, true, false, if◌then◌else◌, List, get_or, Some, None, Result, Ok, Err, refl, sym, ap, ap₂, ◌∙◌}
use Rattle.std.specs.Prelude.{OnOk, OnErr, IfErr}
use Rattle.orc_bits.specs.Lanes.{from_bytes}
use Rattle.orc_bits.specs.Memory.{Memory, read, value, store, missing}
use Rattle.x86_ins.specs.declared.ins.MoveOp.{MoveOp}
use Rattle.x86_ins.specs.declared.ins.Ins.{Ins}
use Rattle.x86_ins.specs.declared.ins.Ins.TheVariants.{Ret}
use Rattle.x86_ins.specs.declared.state.State.{State}
use Rattle.x86_ins.specs.declared.state.Trap.{Trap}
use Rattle.x86_ins.specs.declared.state.Why.TheVariants as why
use Rattle.x86_ins.specs.Machine.{Core, Point, core_of, with_gpr, with_xmm, with_memory, with_flags, access, load, save, aligned, at, return_to, effect}
use Rattle.x86_apply.specs.Access.{IsRead}
use Rattle.x86_apply.specs.Applied.{HasOutcome}
use Rattle.x86_apply.specs.Steps.{IsDone}
use Rattle.x86_apply.proofs.Accesses.{unmapped_at}

abbrev pub ok_point : Core → ℕ → Result Point Trap
ok_point c rip = Ok (record { core = c; rip = rip })

abbrev pub bad : Trap → Result Core Trap
bad t = Err t

abbrev pub misaligned_at : ℕ → Trap
misaligned_at a = record { at = a; why = why.Misaligned }

-- ---- registers

pub gpr_set : (d v w : ℕ) (c e : Core) (rip end : ℕ) → v ≡ w → e ≡ with_gpr c d v → end ≡ rip → ok_point (with_gpr c d w) rip ≡ ok_point e end
gpr_set d v w c e rip end q h z = sym (ap₂ ok_point (h ∙ ap (with_gpr c d) q) z)

pub xmm_set : (d : ℕ) (v w : List ℕ) (c e : Core) (rip end : ℕ) → v ≡ w → e ≡ with_xmm c d v → end ≡ rip → ok_point (with_xmm c d w) rip ≡ ok_point e end
xmm_set d v w c e rip end q h z = sym (ap₂ ok_point (h ∙ ap (with_xmm c d) q) z)

-- a register set, and the flags unset
pub gpr_set_unset : (d v w : ℕ) (c e : Core) (rip end : ℕ) → v ≡ w → e ≡ with_flags (with_gpr c d v) None → end ≡ rip → ok_point (with_flags (with_gpr c d w) None) rip ≡ ok_point e end
gpr_set_unset d v w c e rip end q h z = sym (ap₂ ok_point (h ∙ ap (λ v. with_flags (with_gpr c d v) None) q) z)

-- ---- a load of a number

pub load_ok : (n : ℕ) (c e : Core) (go : ℕ → Core) (rip end x a v : ℕ) → a ≡ x → value n c.memory a ≡ Some v → e ≡ go v → end ≡ rip → at (load n c x go) rip ≡ ok_point e end
load_ok n c e go rip end x a v q h w z =
    ap (λ i. at (load n c i go) rip) (sym q) ∙ ap (λ o. at (access n c.memory a o go) rip) h ∙ ap₂ ok_point (sym w) (sym z)

pub load_unmapped : (n : ℕ) (c : Core) (go : ℕ → Core) (rip x a : ℕ) (trap : Trap) → a ≡ x → value n c.memory a ≡ None → trap ≡ unmapped_at (missing n c.memory a) → at (load n c x go) rip ≡ Err trap
load_unmapped n c go rip x a trap q h w =
    ap (λ i. at (load n c i go) rip) (sym q) ∙ ap (λ o. at (access n c.memory a o go) rip) h ∙ ap (λ t. at (bad t) rip) (sym w)

-- ---- a store

pub save_ok : (n : ℕ) (c e : Core) (f g : ℕ → ℕ) (go : Memory → Core) (rip next x a : ℕ) (end : Memory) → a ≡ x → g ≡ f → store n c.memory a g ≡ Some end → e ≡ go end → next ≡ rip → at (save n c x f go) rip ≡ ok_point e next
save_ok n c e f g go rip next x a end q k h w z =
    ap₂ (λ i j. at (save n c i j go) rip) (sym q) (sym k) ∙ ap (λ o. at (access n c.memory a o go) rip) h ∙ ap₂ ok_point (sym w) (sym z)

pub save_unmapped : (n : ℕ) (c : Core) (f g : ℕ → ℕ) (go : Memory → Core) (rip x a : ℕ) (trap : Trap) → a ≡ x → g ≡ f → store n c.memory a g ≡ None → trap ≡ unmapped_at (missing n c.memory a) → at (save n c x f go) rip ≡ Err trap
save_unmapped n c f g go rip x a trap q k h w =
    ap₂ (λ i j. at (save n c i j go) rip) (sym q) (sym k) ∙ ap (λ o. at (access n c.memory a o go) rip) h ∙ ap (λ t. at (bad t) rip) (sym w)

-- a store that changes nothing but memory
pub saved : {U : Type 0} (n : ℕ) (s : State) (m end : Memory) (f g : ℕ → ℕ) (x a : ℕ) (result : Result U Trap) → a ≡ x → g ≡ f →
    OnOk result (store n m a g ≡ Some end) → IfErr result (λ t. (store n m a g ≡ None) × (t ≡ unmapped_at (missing n m a))) → OnErr result (end ≡ m) →
    HasOutcome (at (save n (core_of s m) x f (λ mem. with_memory (core_of s m) mem)) s.rip) s m s end result
saved n s m end f g x a (Ok u) q k h i j = save_ok n (core_of s m) (with_memory (core_of s m) end) f g (λ mem. with_memory (core_of s m) mem) s.rip s.rip x a end q k h refl refl
saved n s m end f g x a (Err t) q k h i j = (save_unmapped n (core_of s m) f g (λ mem. with_memory (core_of s m) mem) s.rip x a t q k i.0 i.1, (refl, j))

-- ---- what has to stand at a multiple of 16

pub refused : (op : MoveOp) (x a rip : ℕ) (t : Bool) (r : Result Core Trap) → a ≡ x → t ≡ true →
    ((r : Result Core Trap) → aligned op a r ≡ (if t then bad (misaligned_at a) else r)) → at (aligned op x r) rip ≡ Err (misaligned_at a)
refused op x a rip t r q h k =
    ap (λ i. at (aligned op i r) rip) (sym q) ∙ ap (λ r. at r rip) (k r ∙ ap (λ b. if b then bad (misaligned_at a) else r) h)

pub passed : (op : MoveOp) (x a rip : ℕ) (t : Bool) (r : Result Core Trap) → a ≡ x → t ≡ false →
    ((r : Result Core Trap) → aligned op a r ≡ (if t then bad (misaligned_at a) else r)) → at (aligned op x r) rip ≡ at r rip
passed op x a rip t r q h k =
    ap (λ i. at (aligned op i r) rip) (sym q) ∙ ap (λ r. at r rip) (k r ∙ ap (λ b. if b then bad (misaligned_at a) else r) h)

-- ---- a load of a register

abbrev pub reads : ℕ → Core → ℕ → ℕ → Result Core Trap
reads n c d a = access n c.memory a (read n c.memory a) (λ bs. with_xmm c d (from_bytes (λ j. get_or bs j 0)))

pub read_ok : (i n d : ℕ) (c e : Core) (rip end x a : ℕ) (v : List ℕ) → i ≡ n → a ≡ x → IsRead i c.memory a v → e ≡ with_xmm c d v → end ≡ rip → at (reads n c d x) rip ≡ ok_point e end
read_ok i n d c e rip end x a v p q r w z =
    ap₂ (λ i j. at (reads i c d j) rip) (sym p) (sym q)
    ∙ ap (λ o. at (access i c.memory a o (λ bs. with_xmm c d (from_bytes (λ j. get_or bs j 0)))) rip) r.1
    ∙ ap (λ x. ok_point (with_xmm c d x) rip) (sym r.2) ∙ ap₂ ok_point (sym w) (sym z)

pub read_unmapped : (i n d : ℕ) (c : Core) (rip x a : ℕ) (trap : Trap) → i ≡ n → a ≡ x → read i c.memory a ≡ None → trap ≡ unmapped_at (missing i c.memory a) → at (reads n c d x) rip ≡ Err trap
read_unmapped i n d c rip x a trap p q r w =
    ap₂ (λ i j. at (reads i c d j) rip) (sym p) (sym q)
    ∙ ap (λ o. at (access i c.memory a o (λ bs. with_xmm c d (from_bytes (λ j. get_or bs j 0)))) rip) r
    ∙ ap (λ x. at (bad x) rip) (sym w)

-- ---- a return

pub ret_ok : (c e : Core) (rip a v : ℕ) → a ≡ c.gpr 4 → value 8 c.memory a ≡ Some v → e ≡ with_gpr c 4 ((a + 8) % 2 ^ 64) → effect Ret c rip ≡ ok_point e v
ret_ok c e rip a v q h w = ap (λ o. return_to o c) (ap (value 8 c.memory) (sym q) ∙ h) ∙ ap (λ x. ok_point x v) (ap (λ x. with_gpr c 4 ((x + 8) % 2 ^ 64)) (sym q) ∙ sym w)

-- ---- an instruction that is done

pub done : (i j : Ins) (s t : State) (m : Memory) → i ≡ j → IsDone j s t → effect i (core_of s m) s.rip ≡ ok_point (core_of t m) t.rip
done i j s t m e h = ap (λ i. effect i (core_of s m) s.rip) e ∙ h m

-- the same outcome, in other words
pub with_outcome : {U : Type 0} (o p : Result Point Trap) (s : State) (m : Memory) (t : State) (end : Memory) (result : Result U Trap) → p ≡ o → HasOutcome o s m t end result → HasOutcome p s m t end result
with_outcome o p s m t end (Ok u) e h = e ∙ h
with_outcome o p s m t end (Err x) e h = (e ∙ h.0, h.1)
