use Rattle.std.proofs.Common.{[], false}
use Rattle.owner_fold.proofs.Beside.{beside_same}
use Rattle.owner_fold.proofs.Ordering.{orders_of_none}
use Rattle.owner_fold.proofs.Pairing.{pairs_of_none}
use Rattle.owner_fold.proofs.Working.{works_of_none}
use Rattle.owner_fold.proofs.holdings.Owners.new.Goals as goal

pub invariant_of-result : goal.invariant_of-result
invariant_of-result c =
    beside_same [] c.new.result c.new-2.result c.new-3.result c.new-4.result c.new-5.result false c.new.ensures
    (record { plan = c.new-2.ensures; sets = c.new-3.ensures; pairs = pairs_of_none c.new-4.result; works = works_of_none c.new-5.result c.new-5.ensures; ordered = orders_of_none })
