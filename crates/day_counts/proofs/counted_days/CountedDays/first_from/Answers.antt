use Rattle.std.proofs.Common.{ltb, ltb-false, ltb-true, slice_index_or, arith, rules}
use Rattle.std.proofs.lemmas.List.Sorted.{IsPartitionPoint-from_clause, IsPartitionedBy-ltb}
use Rattle.day_counts.specs.Counts.{place_of}
use Rattle.day_counts.proofs.Nths.{places_rise}
use Rattle.day_counts.proofs.Searching.{ordered}
use Rattle.day_counts.proofs.counted_days.CountedDays.first_from.Goals as goal

pub returns : goal.returns
returns c =
    let place = place_of c.args.self.now c.args.step.now in
    let parted =
    IsPartitionedBy-ltb place c.args.dates.now c.args.low
    (ordered place (λ a b h. places_rise c.args.self.now c.args.step.now a b h) c.args.dates.now c.requires) in
    let point =
    IsPartitionPoint-from_clause (λ d. ltb (place d) c.args.low) c.args.dates.now c.partition_point.result
    c.partition_point.ensures.partitioned parted (λ a r q k. search rules) in
    record {
      bound = c.partition_point.ensures.bound;
      below = λ k d low. ltb-true (place (slice_index_or c.args.dates.now k d)) c.args.low (point.0 k d (omega arith) low);
      from = λ k d least low. ltb-false (place (slice_index_or c.args.dates.now k d)) c.args.low (point.1 k d least low);
    }
