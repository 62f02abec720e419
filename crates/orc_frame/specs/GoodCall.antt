-- Good calls of a function's code.
use Rattle.std.specs.Prelude.{◌≡◌, ℕ, ◌+◌, ◌-◌, ◌^◌, ◌<◌, ◌≤◌, ◌⊎◌, true, length, Some}
use Rattle.orc_bits.specs.Memory.{IsMapped, word}
use Rattle.x86_ins.specs.Machine.{Core, Point, Bounded}
use Rattle.x86_ins.specs.Way.{Placed}
use Rattle.orc_frame.specs.Layout.{frame_size}
use Rattle.orc_frame.specs.Parts.{InFrame, InReturn, InBlock, InCode, block_size, rows_word, base_word, stride_word, param_word}
use Rattle.orc_frame.specs.Subject.{Call, Subject, IsArray}

-- RSP, lowered by the bytes of the frame
abbrev pub lowered : Core → ℕ
lowered c = c.gpr 4 - frame_size

-- the block has the call's words
pub record ReadsCall (f : Subject) (c : Core) (call : Call) : Type 0 where
  pub n : word c.memory (c.gpr 7) ≡ Some call.n
  pub m : word c.memory (c.gpr 7 + rows_word) ≡ Some call.m
  pub bases : (k : ℕ) → IsArray f k → word c.memory (c.gpr 7 + base_word k) ≡ Some (call.base k)
  pub strides : (k : ℕ) → IsArray f k → word c.memory (c.gpr 7 + stride_word k) ≡ Some (call.stride k)
  pub params : (j : ℕ) → j < f.params → word c.memory (c.gpr 7 + param_word j) ≡ Some (call.param j)

-- no byte is in two of the parts
pub record Disjoint (f : Subject) (code : Placed) (c : Core) (call : Call) : Type 0 where
  pub cells : (a : ℕ) → f.cells call a → (InBlock (c.gpr 7) a → ⊥) × (InReturn (c.gpr 4) a → ⊥) × (InFrame (lowered c) a → ⊥) × (InCode code a → ⊥)
  pub block : (a : ℕ) → InBlock (c.gpr 7) a → (InReturn (c.gpr 4) a → ⊥) × (InFrame (lowered c) a → ⊥) × (InCode code a → ⊥)
  pub return : (a : ℕ) → InReturn (c.gpr 4) a → InCode code a → ⊥
  pub frame : (a : ℕ) → InFrame (lowered c) a → InCode code a → ⊥

pub record GoodCall (f : Subject) (code : Placed) (s : Point) (call : Call) (back : ℕ) : Type 0 where
  pub first : s.rip ≡ code.start
  pub reads : ReadsCall f s.core call
  pub returns : word s.core.memory (s.core.gpr 4) ≡ Some back
  pub arrays : f.good call s.core.memory
  pub facts : f.facts call ≡ true
  pub block : (a : ℕ) → InBlock (s.core.gpr 7) a → IsMapped s.core.memory a
  pub return : (a : ℕ) → InReturn (s.core.gpr 4) a → IsMapped s.core.memory a
  pub frame : (a : ℕ) → InFrame (lowered s.core) a → IsMapped s.core.memory a
  pub no_more : (a : ℕ) → IsMapped s.core.memory a → f.cells call a ⊎ (InBlock (s.core.gpr 7) a ⊎ (InReturn (s.core.gpr 4) a ⊎ InFrame (lowered s.core) a))
  pub disjoint : Disjoint f code s.core call
  pub block_low : s.core.gpr 7 + block_size ≤ 2 ^ 47
  pub return_low : s.core.gpr 4 + 8 ≤ 2 ^ 47
  pub frame_room : frame_size ≤ s.core.gpr 4
  pub code_low : code.start + length code.bytes ≤ 2 ^ 47
  pub bounded : Bounded s.core
