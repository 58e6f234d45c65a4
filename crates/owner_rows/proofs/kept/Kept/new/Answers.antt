use Rattle.owner_rows.proofs.kept.Kept.new.Goals as goal
use Rattle.owner_rows.proofs.Nothing.{kept_of_none}

pub invariant_of-result : goal.invariant_of-result
invariant_of-result c =
    kept_of_none c.new.result.items c.new-2.result c.new-3.result c.new.ensures c.new-2.ensures c.new-3.ensures
