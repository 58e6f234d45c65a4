use Rattle.std.proofs.Common.{◌∙◌, sym}
use Rattle.agent_core.proofs.Causes.{outside_net}
use Rattle.agent_core.proofs.OwnEntries.{order, order_kept}
use Rattle.agent_core.proofs.agents.Agent.order_entry.Goals as goal

pub returns-then-not-has_command : goal.returns-then-not-has_command
returns-then-not-has_command c =
    outside_net c.args.self.now (order c.args.to c.args.cmd.now)
    (sym c.has_command.ensures ∙ c.if-not-has_command.true)

pub returns-in-Ok : goal.returns-in-Ok
returns-in-Ok c =
    order_kept c.args.self.now c.args.to c.args.cmd.now c.in-Ok.order c.own_order.result
    (sym c.has_command.ensures ∙ c.if-not-has_command.false) c.in-Ok.ensures c.own_order.ensures
