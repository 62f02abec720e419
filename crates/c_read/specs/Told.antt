-- What the reader's private functions say.
use Rattle.std.specs.Prelude.{◌≡◌, ◌≢◌, ℕ, nat_eq, List, Result, Ok, Err}
use Rattle.std.specs.List.{common_prefix_len}
use Rattle.c_run.specs.declared.tree.CTree.{CTree}
use Rattle.c_emit.specs.Text.{c_text}
use Rattle.c_read.specs.declared.error.CError.{CError}
use Rattle.c_read.specs.declared.error.CError.TheVariants.{Syntax, Memory}
use Rattle.c_read.specs.Guess.{tree_at}

-- the tree that the bytes suggest
abbrev pub suggested : List ℕ → CTree
suggested bytes = record { functions = tree_at bytes }

-- its text is compared with the bytes
abbrev pub Compares : List ℕ → Result CTree CError → Type 0
Compares bytes (Ok t) = (t ≡ suggested bytes) × (bytes ≡ c_text t)
Compares bytes (Err (Syntax at)) = (at ≡ common_prefix_len nat_eq bytes (c_text (suggested bytes))) × (bytes ≢ c_text (suggested bytes))
Compares bytes (Err Memory) = Unit {0}
