use Rattle.std.proofs.Common.{sym}
use Rattle.agent_core.proofs.OwnEntries.{start_kept, start_lacks, start_told}
use Rattle.agent_core.proofs.agents.Agent.start_entry.Goals as goal

pub returns-in_default : goal.returns-in_default
returns-in_default c =
    start_lacks c.args.self.now c.args.j c.live_launch.ensures.inside (sym c.in_default.ensures.value)

pub returns-then-launch : goal.returns-then-launch
returns-then-launch c =
    start_told c.args.self.now c.args.j c.in-Some.launch c.live_launch.ensures.inside (sym c.in-Some.ensures.value)
    c.if-launch.true

pub returns : goal.returns
returns c =
    start_kept c.args.self.now c.args.j c.in-Some.launch c.own_event.result c.live_launch.ensures.inside
    (sym c.in-Some.ensures.value) c.if-launch.false c.own_event.ensures
