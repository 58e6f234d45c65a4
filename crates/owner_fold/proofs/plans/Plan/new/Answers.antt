use Rattle.owner_fold.proofs.Further.{plan_of_none}
use Rattle.owner_fold.proofs.plans.Plan.new.Goals as goal

pub returns : goal.returns
returns c = plan_of_none c.new.result c.new-2.result c.new-3.result c.new-4.result c.new.ensures.streams c.new.ensures.jobs
    c.new-2.ensures c.new-3.ensures c.new-4.ensures
