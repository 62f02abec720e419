use Rattle.std.proofs.Common.{◌≡◌, ◌++◌}
use Rattle.orc_frame.specs.Code.{joined, save_code}
use Rattle.orc_frame.proofs.lists.push_saves.Given as goal

abbrev pub invariant-loop-place : goal.invariant-loop-place
invariant-loop-place l = l.list ≡ l.initial.list ++ joined (save_code l.layout) l.place
