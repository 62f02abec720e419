use Rattle.std.proofs.Common.{ℕ, ◌%◌, List, Option, Some, None, drop, subst, sym}
use Rattle.std.proofs.lemmas.List.Elements.{All-set}
use Rattle.x86_ins.specs.Spelling.{Decode}
use Rattle.x86_machine.specs.declared.fetching.Fetched.{Fetched}
use Rattle.x86_machine.specs.Fetching.{Stands, IsFetched, AreFetched}
use Rattle.x86_machine.proofs.fetching.fetch.Goals as goal
use Rattle.x86_machine.proofs.fetching.fetch.Goals.{then-not-has, else-not-has}

is_fetched : (code : List ℕ) (place : ℕ) (f : Option Fetched) → Stands code place f → IsFetched code f
is_fetched code place None h = tt
is_fetched code place (Some f) h = subst (λ p. Decode (drop p code) f.ins f.size) (sym h.0) h.1

pub returns-clause-table : goal.returns-clause-table
returns-clause-table c = elim c.if-not-has.branch [
  | then-not-has w ↦ subst (AreFetched c.args.code.now) (sym w.table-is)
      (All-set (IsFetched c.args.code.now) c.args.table.now (c.args.place % 4096) w.decoded.result (is_fetched _ _ _ w.decoded.ensures) c.requires.table)
  | else-not-has w ↦ subst (AreFetched c.args.code.now) (sym w.table-is) c.requires.table
]
