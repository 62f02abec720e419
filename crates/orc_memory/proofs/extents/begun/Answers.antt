use Rattle.std.proofs.Common.{rules, ◌≡◌, true, false, leb}
use Rattle.std.specs.List.Sorted.{IsPartitionPoint}
use Rattle.std.proofs.lemmas.List.Sorted.{IsPartitionPoint-from_clause, IsPartitionedBy-leb}
use Rattle.orc_memory.specs.declared.extents.Extent.{Extent}
use Rattle.orc_memory.proofs.Places.{in_order, begun_before, begun_behind}
use Rattle.orc_memory.proofs.extents.begun.Goals as goal

pub returns-clause-before : goal.returns-clause-before
returns-clause-before c =
    let es = c.args.extents.now in
    let point : IsPartitionPoint (λ (e : Extent). leb e.at c.args.at ≡ true) (λ (e : Extent). leb e.at c.args.at ≡ false) es c.partition_point.result =
    IsPartitionPoint-from_clause (λ (e : Extent). leb e.at c.args.at) es c.partition_point.result c.partition_point.ensures.partitioned (IsPartitionedBy-leb (λ (e : Extent). e.at) es c.args.at (in_order es c.requires)) (λ a r f' k. search rules) in
    begun_before es c.args.at c.partition_point.result c.partition_point.ensures.bound point

pub returns-clause-behind : goal.returns-clause-behind
returns-clause-behind c =
    let es = c.args.extents.now in
    let point : IsPartitionPoint (λ (e : Extent). leb e.at c.args.at ≡ true) (λ (e : Extent). leb e.at c.args.at ≡ false) es c.partition_point.result =
    IsPartitionPoint-from_clause (λ (e : Extent). leb e.at c.args.at) es c.partition_point.result c.partition_point.ensures.partitioned (IsPartitionedBy-leb (λ (e : Extent). e.at) es c.args.at (in_order es c.requires)) (λ a r f' k. search rules) in
    begun_behind es c.args.at c.partition_point.result point
