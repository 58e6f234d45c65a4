use Rattle.std.proofs.Common.{◌∙◌}
use Rattle.agent_core.specs.Sending.{answer_to}
use Rattle.agent_core.proofs.Mailing.{accepted_taken, only}
use Rattle.agent_core.proofs.agents.Agent.accepted.Goals as goal

pub returns : goal.returns
returns c =
    accepted_taken c.args.self.now c.hold.new.self c.args.from c.args.e.now c.in_ok-kept.kept c.into_items.result
    c.requires.made c.in_ok-kept.ensures c.in_ok-hold.ensures.ok
    (c.into_items.ensures
    ∙ only c.in_ok-outs.outs.items c.put_answer.new.outs.items (answer_to c.hold.new.self c.args.from c.args.e.now)
    c.in_ok-outs.ensures.items c.put_answer.ensures)
