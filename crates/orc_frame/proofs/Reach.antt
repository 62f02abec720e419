-- Instructions that read and write bytes of the frame and the block alone.
use Rattle.std.proofs.Common.{◌≡◌, ℕ, zero, suc, ◌+◌, ◌%◌, ◌^◌, ◌<◌, ◌≤◌, pos, List, [], ◌∷◌, refl, ap, ap₂, ◌∙◌, arith, ◌⊎◌, inl, inr}
use Rattle.x86_ins.specs.declared.ins.Addr.{Addr}
use Rattle.x86_ins.specs.declared.ins.Ins.{Ins}
use Rattle.x86_ins.specs.declared.ins.Ins.TheVariants.{Vec, VecImm, Shuffle, VecLoad, VecStore, FromGpr, ToGpr, Move, Load, Store, Store8, Store16, Load8, Load16, MovImm, Alu, AluImm, Test, Shift, Imul, Lea, Push, Pop, Jump, JumpIf, Ret}
use Rattle.x86_ins.specs.Machine.{Core, Touches, address, moved, move_size}
use Rattle.x86_ins.specs.Way.{Each}
use Rattle.x86_flow.specs.Does.{Line}
use Rattle.orc_frame.specs.Layout.{frame_size}
use Rattle.x86_flow.specs.Moves.{away}
use Rattle.orc_frame.specs.Parts.{InFrame, InBlock, block_size}
use Rattle.orc_frame.specs.Frame.{saved}
use Rattle.orc_frame.specs.Code.{slot}

-- so many bytes at an address are of the frame or of the block
pub record At (base room n : ℕ) (at : Addr) : Type 0 where
  pub far : ℕ
  pub base_is : at.base ≡ base
  pub far_is : at.disp ≡ pos far
  pub within : far + n ≤ room

abbrev pub Near : Addr → ℕ → Type 0
Near at n = At 4 frame_size n at ⊎ At 7 block_size n at

abbrev pub Reaches : Ins → Type 0
Reaches (VecLoad op d at) = Near at (move_size op)
Reaches (VecStore op s at) = Near at (move_size op)
Reaches (Load d at) = Near at 8
Reaches (Store s at) = Near at 8
Reaches (Store8 s at) = Near at 1
Reaches (Store16 s at) = Near at 2
Reaches (Load8 d at) = Near at 1
Reaches (Load16 d at) = Near at 2
Reaches (Push s) = ⊥
Reaches (Pop d) = ⊥
Reaches Ret = ⊥
Reaches _ = Unit {0}

pub nothing : {A : Type 0} (x : ℕ) → (j : ℕ) × (j < 0) × (x ≡ (0 + j) % 2 ^ 64) → A
nothing x t = let l = t.1 in absurd (omega (arith, l))

module _ (c : Core) (rsp rdi : ℕ) (stack : c.gpr 4 ≡ rsp) (block : c.gpr 7 ≡ rdi) (stack_low : rsp + frame_size ≤ 2 ^ 47) (block_low : rdi + block_size ≤ 2 ^ 47) where
  place : (base room n : ℕ) (at : Addr) (h : At base room n at) → address c at ≡ (c.gpr base + h.far) % 2 ^ 64
  place base room n at h = ap₂ (λ b z. moved (c.gpr b) z) h.base_is h.far_is

  near : (n : ℕ) (at : Addr) → Near at n → (x : ℕ) → (j : ℕ) × (j < n) × (x ≡ (address c at + j) % 2 ^ 64) → InFrame rsp x ⊎ InBlock rdi x
  near n at (inl h) x t =
      let e = place 4 frame_size n at h in
      let w = h.within in
      let l = t.1 in
      let is : x ≡ ((c.gpr 4 + h.far) % 2 ^ 64 + t.0) % 2 ^ 64 = t.2 ∙ ap (λ a. (a + t.0) % 2 ^ 64) e in
      inl (omega (arith, is, stack, stack_low, w, l), omega (arith, is, stack, stack_low, w, l))
  near n at (inr h) x t =
      let e = place 7 block_size n at h in
      let w = h.within in
      let l = t.1 in
      let is : x ≡ ((c.gpr 7 + h.far) % 2 ^ 64 + t.0) % 2 ^ 64 = t.2 ∙ ap (λ a. (a + t.0) % 2 ^ 64) e in
      inr (omega (arith, is, block, block_low, w, l), omega (arith, is, block, block_low, w, l))

  pub touched : (i : Ins) → Reaches i → (x : ℕ) → Touches i c x → InFrame rsp x ⊎ InBlock rdi x
  touched (VecLoad op d at) h x t = near (move_size op) at h x t
  touched (VecStore op s at) h x t = near (move_size op) at h x t
  touched (Load d at) h x t = near 8 at h x t
  touched (Store s at) h x t = near 8 at h x t
  touched (Store8 s at) h x t = near 1 at h x t
  touched (Store16 s at) h x t = near 2 at h x t
  touched (Load8 d at) h x t = near 1 at h x t
  touched (Load16 d at) h x t = near 2 at h x t
  touched (Push s) h x t = absurd h
  touched (Pop d) h x t = absurd h
  touched Ret h x t = absurd h
  touched (Vec op d s) h x t = nothing x t
  touched (VecImm op d n) h x t = nothing x t
  touched (Shuffle op d s o) h x t = nothing x t
  touched (FromGpr wide d s) h x t = nothing x t
  touched (ToGpr wide d s) h x t = nothing x t
  touched (Move d s) h x t = nothing x t
  touched (MovImm d v) h x t = nothing x t
  touched (Alu op d s) h x t = nothing x t
  touched (AluImm op d v) h x t = nothing x t
  touched (Test a b) h x t = nothing x t
  touched (Shift op d n) h x t = nothing x t
  touched (Imul d s) h x t = nothing x t
  touched (Lea d at) h x t = nothing x t
  touched (Jump rel) h x t = nothing x t
  touched (JumpIf q rel) h x t = nothing x t

-- a line, with what holds of each of its instructions
pub line_with : (P Q : Core → Ins → Type 0) (R : Ins → Type 0) → ((c : Core) (i : Ins) → P c i → R i → Q c i) → (is : List Ins) → Each R is → (c d : Core) → Line P is c d → Line Q is c d
line_with P Q R f [] each c d h = h
line_with P Q R f (i ∷ is) each c d h = (f c i h.0 each.0, (h.1.0, h.1.1, line_with P Q R f is each.1 h.1.0 d h.1.2))

-- a slot of so many bytes, and bytes of the block
pub in_frame : (n d : ℕ) → d + n ≤ frame_size → Near (slot (pos d)) n
in_frame n d h = inl (record { far = d; base_is = refl; far_is = refl; within = h })

pub in_block : (n d : ℕ) → d + n ≤ block_size → Near (away 7 d) n
in_block n d h = inr (record { far = d; base_is = refl; far_is = refl; within = h })

pub saved_small : (j : ℕ) → j < 6 → saved j < 16
saved_small zero l = omega arith
saved_small (suc zero) l = omega arith
saved_small (suc (suc j)) l = omega (arith, l)
