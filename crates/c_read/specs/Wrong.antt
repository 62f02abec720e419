-- Bytes that are no text of the grammar, and where they leave it.
use Rattle.std.specs.Prelude.{◌≡◌, ◌≤◌, ℕ, List, ◌++◌, length, take, Result, Ok, Err}
use Rattle.c_run.specs.declared.tree.CTree.{CTree}
use Rattle.c_run.specs.Whole.{IsTree}
use Rattle.c_emit.specs.Text.{c_text}
use Rattle.c_read.specs.declared.error.CError.{CError}
use Rattle.c_read.specs.declared.error.CError.TheVariants.{Syntax, Memory}

-- p is a prefix of the text
abbrev pub Begins : List ℕ → List ℕ → Type 0
Begins p text = (rest : List ℕ) × (text ≡ p ++ rest)

-- some text of the grammar begins with p
abbrev pub BeginsSome : List ℕ → Type 0
BeginsSome p = (t : CTree) × IsTree t × Begins p (c_text t)

-- the length of the longest prefix of the bytes that some text of the grammar begins with
pub record FirstWrong (bytes : List ℕ) (at : ℕ) : Type 0 where
  pub within : at ≤ length bytes
  pub begins : BeginsSome (take at bytes)
  pub longest : (n : ℕ) → n ≤ length bytes → BeginsSome (take n bytes) → n ≤ at

-- the bytes are wrong there
abbrev pub IsWrong : List ℕ → CError → Type 0
IsWrong bytes (Syntax at) = FirstWrong bytes at
IsWrong bytes Memory = Unit {0}

-- the answer is this tree, unless memory is wanting
abbrev pub GivesTree : Result CTree CError → CTree → Type 0
GivesTree (Ok u) t = u ≡ t
GivesTree (Err (Syntax at)) t = ⊥
GivesTree (Err Memory) t = Unit {0}
