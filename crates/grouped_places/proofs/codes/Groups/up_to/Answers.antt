use Rattle.std.proofs.Common.{List, leb, rules, subst, sym, ℕ, ◌<◌, ◌∙◌, ◌≤◌}
use Rattle.std.proofs.lemmas.List.Sorted.{IsPartitionPoint-from_clause, IsPartitionedBy-leb}
use Rattle.std.specs.List.Sorted.{IsPartitionPoint}
use borrow.Author.Tests.{leb-false, leb-true}
use Rattle.grouped_places.specs.Codes.{RisesFrom}
use Rattle.grouped_places.proofs.Rising.{never_falls}
use Rattle.grouped_places.proofs.codes.Groups.up_to.Goals as goal

pub returns-clause-point : goal.returns-clause-point
returns-clause-point c =
    let rises : RisesFrom 0 c.as_slice.result.now = subst (RisesFrom 0) (sym c.as_slice.ensures.value) c.self.invariant in
    let parted = IsPartitionedBy-leb (λ n. n) c.as_slice.result.now c.args.code (never_falls 0 c.as_slice.result.now rises) in
    let point =
    IsPartitionPoint-from_clause (λ n. leb n c.args.code) _ _ c.partition_point.ensures.partitioned parted
    (λ a r q k. search rules) in
    let told : IsPartitionPoint (λ n. n ≤ c.args.code) (λ n. c.args.code < n) c.as_slice.result.now c.partition_point.result =
    (λ k d l h. leb-true _ _ (point.0 k d l h), λ k d l h. leb-false _ _ (point.1 k d l h)) in
    subst (λ (l : List ℕ). IsPartitionPoint (λ n. n ≤ c.args.code) (λ n. c.args.code < n) l c.partition_point.result)
    (c.as_slice.ensures.value ∙ c.self.view_is) told
