-- Structured code: lines, sequences, choices and loops, and the instructions that they stand for.
use Rattle.std.specs.Prelude.{ℕ, ◌+◌, pos, negsuc, List, [], ◌∷◌, ◌++◌, length}
use Rattle.x86_ins.specs.declared.ins.Ins.{Ins}
use Rattle.x86_ins.specs.declared.ins.Ins.TheVariants.{JumpIf, Jump, Ret}
use Rattle.x86_ins.specs.declared.ins.Cond.{Cond}
use Rattle.x86_ins.specs.declared.ins.Cond.TheVariants as conds
use Rattle.x86_ins.specs.Spelling.{spelling}

-- the bytes of a list of instructions
abbrev pub spell_all : List Ins → List ℕ
spell_all [] = []
spell_all (i ∷ is) = spelling i ++ spell_all is

abbrev pub size : List Ins → ℕ
size is = length (spell_all is)

pub data Flow : Type 0 where
  Plain : List Ins → Flow
  Chain : Flow → Flow → Flow
  Choice : Cond → Flow → Flow → Flow
  Repeat : Cond → Flow → Flow

abbrev pub opposite : Cond → Cond
opposite conds.B = conds.Ae
opposite conds.Ae = conds.B
opposite conds.E = conds.Ne
opposite conds.Ne = conds.E
opposite conds.Be = conds.A
opposite conds.A = conds.Be
opposite conds.S = conds.Ns
opposite conds.Ns = conds.S
opposite conds.L = conds.Ge
opposite conds.Ge = conds.L
opposite conds.Le = conds.G
opposite conds.G = conds.Le

-- the test before a loop around so many bytes: a jump past its end where the condition doesn't hold
abbrev pub enter_jump : Cond → ℕ → Ins
enter_jump q bytes = JumpIf (opposite q) (pos (bytes + 6))

-- the test behind each turn: a jump back to its first byte where the condition holds
abbrev pub again_jump : Cond → ℕ → Ins
again_jump q bytes = JumpIf q (negsuc (bytes + 5))

-- a loop, with the one test before the body and the other behind it
abbrev pub loop_code : Cond → List Ins → List Ins
loop_code q body = enter_jump q (size body) ∷ (body ++ again_jump q (size body) ∷ [])

abbrev pub choice_code : Cond → List Ins → List Ins → List Ins
choice_code q one two = JumpIf q (pos (size two + 5)) ∷ (two ++ (Jump (pos (size one)) ∷ one))

abbrev pub flat : Flow → List Ins
flat (Plain is) = is
flat (Chain a b) = flat a ++ flat b
flat (Choice q one two) = choice_code q (flat one) (flat two)
flat (Repeat q body) = loop_code q (flat body)

-- and a return behind it
abbrev pub with_return : Flow → List Ins
with_return t = flat t ++ Ret ∷ []
