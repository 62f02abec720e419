-- The machine under a renaming of its vector registers.
use Rattle.std.proofs.Common.{◌≡◌, ℕ, ◌%◌, ◌==◌, Bool, true, false, if◌then◌else◌, List, get_or, Option, Some, None, Result, Ok, Err, refl, sym, ap, ap₂, ◌∙◌, subst}
use Rattle.orc_bits.specs.Lanes.{lane, change}
use Rattle.orc_bits.specs.Memory.{Memory, read, word, store}
use Rattle.x86_ins.specs.declared.ins.Ins.{Ins}
use Rattle.x86_ins.specs.declared.ins.Ins.TheVariants.{Vec, VecImm, Shuffle, VecLoad, VecStore, FromGpr, ToGpr, Move, Load, Store, Store8, Store16, Load8, Load16, MovImm, Alu, AluImm, Test, Shift, Imul, Lea, Push, Pop, Jump, JumpIf, Ret}
use Rattle.x86_ins.specs.declared.ins.MoveOp.{MoveOp}
use Rattle.x86_ins.specs.declared.ins.MoveOp.TheVariants as move
use Rattle.x86_ins.specs.declared.state.Flags.{Flags}
use Rattle.x86_ins.specs.declared.state.Trap.{Trap}
use Rattle.x86_ins.specs.declared.state.Why.TheVariants as why
use Rattle.x86_ins.specs.Vectors.{shape, result_of, imm_shape, imm_result, shuffle_result}
use Rattle.x86_ins.specs.Machine.{Core, with_xmm, with_lanes, with_memory, address, access, aligned, move_size, save, below_stack, work, at, test, jump_if, return_to, effect}
use Rattle.x86_ins.specs.Renaming.{renamed, renaming, Renames, RenamesPoint}
use Rattle.x86_ins.specs.Laws.{EffectsRenamed, RenamingKeeps}
use Rattle.x86_ins.proofs.Permutations.{renaming_one}
use Rattle.x86_ins.proofs.Renamed.{change_alike, change_renamed}

-- ---- both go on, to values of a kind, or both trap alike

abbrev Both : {A : Type 0} → (A → A → Type 0) → Result A Trap → Result A Trap → Type 0
Both R (Ok x) (Ok y) = R x y
Both R (Err s) (Err t) = t ≡ s
Both R _ _ = ⊥

both_ok : {A : Type 0} (R : A → A → Type 0) (a b : Result A Trap) → Both R a b → (x : A) → a ≡ Ok x → (y : A) × (b ≡ Ok y) × R x y
both_ok {A = A} R a b h x e = go b (subst (λ r. Both R r b) e h)
  where
    go : (r : Result A Trap) → Both R (Ok x) r → (y : A) × (r ≡ Ok y) × R x y
    go (Ok y) k = (y, refl, k)
    go (Err t) k = absurd k

both_err : {A : Type 0} (R : A → A → Type 0) (a b : Result A Trap) → Both R a b → (t : Trap) → a ≡ Err t → b ≡ Err t
both_err {A = A} R a b h t e = go b (subst (λ r. Both R r b) e h)
  where
    go : (r : Result A Trap) → Both R (Err t) r → r ≡ Err t
    go (Ok y) k = absurd k
    go (Err u) k = ap (λ v. Err v) k

both_access : {A : Type 0} (R : Core → Core → Type 0) (n : ℕ) (mem : Memory) (a : ℕ) (o : Option A) (one two : A → Core) → ((x : A) → R (one x) (two x)) → Both R (access n mem a o one) (access n mem a o two)
both_access R n mem a (Some x) one two h = h x
both_access R n mem a None one two h = refl

both_aligned : (R : Core → Core → Type 0) (op : MoveOp) (a : ℕ) (one two : Result Core Trap) → Both R one two → Both R (aligned op a one) (aligned op a two)
both_aligned R move.Movdqa a one two h = go (a % 16 == 0)
  where
    go : (t : Bool) → Both R (if t then one else Err (record { at = a; why = why.Misaligned })) (if t then two else Err (record { at = a; why = why.Misaligned }))
    go true = h
    go false = refl
both_aligned R move.Movdqu a one two h = h
both_aligned R move.Movq a one two h = h
both_aligned R move.Movd a one two h = h

-- ---- the machine on the registers x, and on the registers y, which hold at f r what x holds at r

module _ (f : ℕ → ℕ) (one : (a b : ℕ) → f a ≡ f b → a ≡ b) where
  -- a core and the same with other vector registers
  here : (c : Core) (y : ℕ → List ℕ) → ((r : ℕ) → y (f r) ≡ c.xmm r) → Renames f c (with_lanes c y)
  here c y h = record { gpr = refl; xmm = h; flags = refl; memory = refl }

  written : (c : Core) (y : ℕ → List ℕ) → ((r : ℕ) → y (f r) ≡ c.xmm r) → (d : ℕ) (v w : List ℕ) → w ≡ v → Renames f (with_xmm c d v) (with_xmm (with_lanes c y) (f d) w)
  written c y h d v w e = record {
    gpr = refl;
    xmm = λ r. change_renamed f one y d w r ∙ change_alike (λ k. y (f k)) c.xmm d w v e h r;
    flags = refl;
    memory = refl;
  }

  work_renamed : (i : Ins) (c : Core) (y : ℕ → List ℕ) → ((r : ℕ) → y (f r) ≡ c.xmm r) → Both (Renames f) (work i c) (work (renamed f i) (with_lanes c y))
  work_renamed (Vec op d s) c y h = written c y h d _ _ (ap₂ (result_of (shape op)) (h d) (h s))
  work_renamed (VecImm op d n) c y h = written c y h d _ _ (ap (imm_result (imm_shape op) n) (h d))
  work_renamed (Shuffle op d s o) c y h = written c y h d _ _ (ap (shuffle_result op o) (h s))
  work_renamed (VecLoad op d at) c y h =
      both_aligned (Renames f) op (address c at) _ _ (both_access (Renames f) (move_size op) c.memory (address c at) (read (move_size op) c.memory (address c at)) _ _ (λ bs. written c y h d _ _ refl))
  work_renamed (VecStore op s at) c y h =
      let saved : List ℕ → Result Core Trap = λ z. save (move_size op) (with_lanes c y) (address c at) (λ j. get_or z j 0) (λ mem. with_memory (with_lanes c y) mem) in
      let same = both_access (Renames f) (move_size op) c.memory (address c at) (store (move_size op) c.memory (address c at) (λ j. get_or (c.xmm s) j 0)) _ _ (λ mem. here (with_memory c mem) y h) in
      both_aligned (Renames f) op (address c at) _ _ (subst (λ z. Both (Renames f) (save (move_size op) c (address c at) (λ j. get_or (c.xmm s) j 0) (λ mem. with_memory c mem)) (saved z)) (sym (h s)) same)
  work_renamed (FromGpr wide d s) c y h = written c y h d _ _ refl
  work_renamed (ToGpr wide d s) c y h = record {
    gpr = ap (λ z. change c.gpr d (lane (if wide then 8 else 4) 0 z)) (h s);
    xmm = h;
    flags = refl;
    memory = refl;
  }
  work_renamed (Move d s) c y h = here _ y h
  work_renamed (Load d at) c y h = both_access (Renames f) 8 c.memory (address c at) _ _ _ (λ v. here _ y h)
  work_renamed (Store s at) c y h = both_access (Renames f) 8 c.memory (address c at) _ _ _ (λ mem. here _ y h)
  work_renamed (Store8 s at) c y h = both_access (Renames f) 1 c.memory (address c at) _ _ _ (λ mem. here _ y h)
  work_renamed (Store16 s at) c y h = both_access (Renames f) 2 c.memory (address c at) _ _ _ (λ mem. here _ y h)
  work_renamed (Load8 d at) c y h = both_access (Renames f) 1 c.memory (address c at) _ _ _ (λ v. here _ y h)
  work_renamed (Load16 d at) c y h = both_access (Renames f) 2 c.memory (address c at) _ _ _ (λ v. here _ y h)
  work_renamed (MovImm d v) c y h = here _ y h
  work_renamed (Alu op d s) c y h = here _ y h
  work_renamed (AluImm op d v) c y h = here _ y h
  work_renamed (Test a b) c y h = here _ y h
  work_renamed (Shift op d n) c y h = here _ y h
  work_renamed (Imul d s) c y h = here _ y h
  work_renamed (Lea d at) c y h = here _ y h
  work_renamed (Push s) c y h = both_access (Renames f) 8 c.memory (below_stack c) _ _ _ (λ mem. here _ y h)
  work_renamed (Pop d) c y h = both_access (Renames f) 8 c.memory (c.gpr 4) _ _ _ (λ v. here _ y h)
  work_renamed (Jump rel) c y h = refl
  work_renamed (JumpIf q rel) c y h = refl
  work_renamed Ret c y h = refl

  both_at : (a b : Result Core Trap) (rip : ℕ) → Both (Renames f) a b → Both (RenamesPoint f) (at a rip) (at b rip)
  both_at (Ok c) (Ok d) rip h = (h, refl)
  both_at (Err s) (Err t) rip h = h
  both_at (Ok c) (Err t) rip h = h
  both_at (Err s) (Ok d) rip h = h

  effect_lanes : (i : Ins) (c : Core) (y : ℕ → List ℕ) → ((r : ℕ) → y (f r) ≡ c.xmm r) → (rip : ℕ) → Both (RenamesPoint f) (effect i c rip) (effect (renamed f i) (with_lanes c y) rip)
  effect_lanes (Jump rel) c y h rip = (here c y h, refl)
  effect_lanes (JumpIf q rel) c y h rip = go (test q c.flags)
    where
      go : (o : Option Bool) → Both (RenamesPoint f) (jump_if o rel c rip) (jump_if o rel (with_lanes c y) rip)
      go (Some taken) = (here c y h, refl)
      go None = refl
  effect_lanes Ret c y h rip = go (word c.memory (c.gpr 4))
    where
      go : (o : Option ℕ) → Both (RenamesPoint f) (return_to o c) (return_to o (with_lanes c y))
      go (Some r) = (here _ y h, refl)
      go None = refl
  effect_lanes i c y h rip = both_at (work i c) (work (renamed f i) (with_lanes c y)) rip (work_renamed i c y h)

  -- a renamed core is the old one with its own vector registers
  lanes_only : (c d : Core) → Renames f c d → with_lanes c d.xmm ≡ d
  lanes_only c d h =
      let make : (ℕ → ℕ) → Option Flags → Memory → Core = λ g k m. record { gpr = g; xmm = d.xmm; flags = k; memory = m } in
      ap (λ g. make g c.flags c.memory) (sym h.gpr) ∙ ap (λ k. make d.gpr k c.memory) (sym h.flags) ∙ ap (λ m. make d.gpr d.flags m) (sym h.memory)

  effect_renamed : (i : Ins) (c d : Core) (rip : ℕ) → Renames f c d → EffectsRenamed f i c d rip
  effect_renamed i c d rip h =
      let both : Both (RenamesPoint f) (effect i c rip) (effect (renamed f i) d rip) = subst (λ u. Both (RenamesPoint f) (effect i c rip) (effect (renamed f i) u rip)) (lanes_only c d h) (effect_lanes i c d.xmm h.xmm rip) in
      record { goes_on = both_ok (RenamesPoint f) _ _ both; traps = both_err (RenamesPoint f) _ _ both }

pub renaming_keeps : (map : List ℕ) (i : Ins) (c d : Core) (rip : ℕ) → RenamingKeeps map i c d rip
renaming_keeps map i c d rip p h = effect_renamed (renaming map) (renaming_one map p) i c d rip h
