-- Bytes that are the text of a tree.
use Rattle.std.specs.Prelude.{◌≡◌, ℕ, List}
use Rattle.c_run.specs.declared.tree.CTree.{CTree}
use Rattle.c_run.specs.Whole.{IsTree}
use Rattle.c_emit.specs.Text.{c_text}

-- the bytes are the text of this tree, which is within the limits of the grammar
pub record CText (bytes : List ℕ) (t : CTree) : Type 0 where
  pub tree : IsTree t
  pub text : bytes ≡ c_text t
