use Rattle.std.specs.Prelude.{None}
use Rattle.std.proofs.lemmas.List.Elements.{All-replicate}
use Rattle.x86_machine.specs.Fetching.{IsFetched}
use Rattle.x86_machine.proofs.fetching.empty.Goals as goal

pub returns : goal.returns
returns c code = All-replicate (IsFetched code) 4096 None tt
