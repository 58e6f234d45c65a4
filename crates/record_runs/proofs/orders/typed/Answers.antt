use Rattle.record_runs.proofs.Named.{typed_nothing, typed_order}
use Rattle.record_runs.proofs.orders.typed.Goals as goal

pub returns-in-Ok-clause-made : goal.returns-in-Ok-clause-made
returns-in-Ok-clause-made c = λ x s.
    typed_order c.args.world.now.net x c.args.w c.in-Ok.order c.ordered.result c.args.line.now c.node-node.result.now
    c.net.result.now c.owners.result.now (c.node-node.ensures.stands x s) c.net.ensures.value c.owners.ensures
    c.in-Ok.ensures.answer c.ordered.ensures

pub returns-in-Err-clause-not_made : goal.returns-in-Err-clause-not_made
returns-in-Err-clause-not_made c =
    typed_nothing c.args.world.now c.args.w c.in-Err.fault c.order_halt.result c.args.line.now c.node-node.result.now
    c.net.result.now c.owners.result.now c.node-node.ensures.stands c.net.ensures.value c.owners.ensures
    c.in-Err.ensures.answer c.order_halt.ensures
