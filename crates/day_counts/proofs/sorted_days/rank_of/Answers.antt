use Rattle.std.proofs.Common.{ltb, rules}
use Rattle.std.proofs.lemmas.List.Sorted.{IsPartitionPoint-from_clause, IsPartitionedBy-ltb}
use Rattle.day_counts.proofs.Ranks.{counted}
use Rattle.day_counts.proofs.Searching.{ordered}
use Rattle.day_counts.proofs.sorted_days.rank_of.Goals as goal

pub returns-clause-count : goal.returns-clause-count
returns-clause-count c =
    let parted = IsPartitionedBy-ltb (λ d. d) c.args.days.now c.args.day (ordered (λ d. d) (λ a b h. h) c.args.days.now c.requires) in
    let point =
    IsPartitionPoint-from_clause (λ d. ltb d c.args.day) c.args.days.now c.partition_point.result
    c.partition_point.ensures.partitioned parted (λ a r q k. search rules) in
    counted (λ d. ltb d c.args.day) c.args.days.now c.partition_point.result c.partition_point.ensures.bound point.0 point.1
