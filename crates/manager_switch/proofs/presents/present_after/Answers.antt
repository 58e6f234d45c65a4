use Rattle.manager_switch.proofs.Further.{followed}
use Rattle.manager_switch.proofs.presents.present_after.Goals as goal

pub returns-clause-after : goal.returns-clause-after
returns-clause-after c = followed c.args.present.now c.args.e.now c.after_entry.result c.after_entry.ensures.after
