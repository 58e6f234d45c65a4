use Rattle.std.proofs.Common.{◌∙◌, sym}
use Rattle.agent_core.proofs.Mailing.{no_answer, one_answer}
use Rattle.agent_core.proofs.agents.Agent.put_answer.Goals as goal

pub returns-then-not-is_linked : goal.returns-then-not-is_linked
returns-then-not-is_linked c =
    no_answer c.args.self.now c.args.from c.args.e.now c.args.outs.now.items
    (sym c.is_linked.ensures ∙ c.if-not-is_linked.true)

pub returns : goal.returns
returns c =
    one_answer c.args.self.now c.args.from c.args.e.now c.args.outs.now.items c.put.new.self.items
    c.acknowledged.result (sym c.is_linked.ensures ∙ c.if-not-is_linked.false) c.acknowledged.ensures
    c.put.ensures.items
