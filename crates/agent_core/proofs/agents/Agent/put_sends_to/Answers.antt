use Rattle.std.proofs.Common.{◌∙◌, sym}
use Rattle.agent_core.proofs.Turning.{one_passed, one_reached}
use Rattle.agent_core.proofs.agents.Agent.put_sends_to.Goals as goal

pub returns-then-not-is_reached-clause-items : goal.returns-then-not-is_reached-clause-items
returns-then-not-is_reached-clause-items c =
    one_passed c.args.self.now c.args.m c.args.outs.now.items (sym c.is_reached.ensures ∙ c.if-not-is_reached.true)

pub returns-clause-items : goal.returns-clause-items
returns-clause-items c =
    one_reached c.args.self.now c.args.m c.args.outs.now.items c.put_batch.new.outs.items
    (sym c.is_reached.ensures ∙ c.if-not-is_reached.false) c.put_batch.ensures.items
