use Rattle.std.proofs.Common.{◌∙◌}
use Rattle.record_runs.proofs.Named.{advice_here}
use Rattle.record_runs.proofs.orders.advised.Goals as goal

pub returns : goal.returns
returns c = λ x s.
    c.advice.ensures
    ∙ advice_here c.args.world.now.net x c.args.w c.node-node.result.now c.owners.result.now
    (c.node-node.ensures.stands x s) c.owners.ensures
