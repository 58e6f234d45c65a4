use Rattle.manager_switch.proofs.Accepted.{present_accepted, switched_accepted}
use Rattle.manager_switch.proofs.laws.present_networks_are_accepted.Goals as goal

pub returns-clause-switch : goal.returns-clause-switch
returns-clause-switch c = switched_accepted

pub returns-clause-present : goal.returns-clause-present
returns-clause-present c = present_accepted
