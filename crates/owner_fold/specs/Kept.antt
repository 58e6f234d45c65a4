-- What `Owners` keeps beside the entries.
use Rattle.std.specs.Prelude.{ℕ, ◌≡◌, Bool, List}
use Rattle.model.specs.Types.{Entry}
use Rattle.owner_fold.specs.Ordered.{has_orders}
use Rattle.owner_fold.specs.Pairs.{ArePairsOf, AreWorksOf}
use Rattle.owner_fold.specs.Plans.{IsPlanOf}
use Rattle.owner_fold.specs.Sets.{AreSetsOf}
use Rattle.owner_fold.specs.declared.plans.Plan.{Plan}
use Rattle.owner_fold.specs.declared.sets.Sets.{Sets}

-- the plan, the sets, the pairs and who works on whom, of these entries, and whether there is an order
pub record IsKeptBeside (kept : List Entry) (its_plan : Plan) (its_sets : Sets) (its_pairs its_works : List ℕ)
    (its_ordered : Bool) : Type 0 where
  pub plan : IsPlanOf kept its_plan
  pub sets : AreSetsOf kept its_sets
  pub pairs : ArePairsOf kept its_pairs
  pub works : AreWorksOf kept its_works
  pub ordered : its_ordered ≡ has_orders kept
