use Rattle.std.proofs.Common.{rules}
use Rattle.orc_bits.specs.Parts.{layout}
use Rattle.std.proofs.lemmas.List.Sorted.{IsNonDecreasingBy-from_sort_by_key}
use Rattle.orc_memory.specs.declared.extents.Extent.{Extent}
use Rattle.orc_memory.proofs.Gathered.{sorted_too}
use Rattle.orc_memory.proofs.extents.sorted.Goals as goal

pub returns-clause-extents : goal.returns-clause-extents
returns-clause-extents c = sorted_too (layout c.args.parts.now) c.in_ok-extents.extents.items c.sort_by_key.new.self.items c.in_ok-sort_by_key.ensures.permutation c.in_ok-extents.ensures

pub returns-clause-order : goal.returns-clause-order
returns-clause-order c = IsNonDecreasingBy-from_sort_by_key (λ (e : Extent). e.at) _ c.in_ok-sort_by_key.ensures.sorted (λ a r f' k. search rules)
