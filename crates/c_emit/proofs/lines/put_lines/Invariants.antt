use Rattle.std.proofs.Common.{◌≡◌, ◌++◌, ◌≤◌, ◌-◌}
use Rattle.c_emit.specs.Text.{line_text, numbered}
use Rattle.c_emit.proofs.lines.put_lines.Given as goal

abbrev pub invariant-lines : goal.invariant-lines
invariant-lines l = (l.k ≤ l.n) × (l.out.items ++ numbered (line_text l.part) l.k (l.n - l.k) ≡ l.initial.out.items ++ numbered (line_text l.part) 0 l.n)

abbrev pub decreases-lines : goal.decreases-lines
decreases-lines l = l.n - l.k
