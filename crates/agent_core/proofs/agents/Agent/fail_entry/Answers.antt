use Rattle.std.proofs.Common.{sym}
use Rattle.agent_core.proofs.OwnEntries.{fail_kept, fail_lacks, fail_told}
use Rattle.agent_core.proofs.agents.Agent.fail_entry.Goals as goal

pub returns-in_default : goal.returns-in_default
returns-in_default c =
    fail_lacks c.args.self.now c.args.j c.live_launch.ensures.inside (sym c.in_default.ensures.value)

pub returns-then-launch : goal.returns-then-launch
returns-then-launch c =
    fail_told c.args.self.now c.args.j c.in-Some.launch c.live_launch.ensures.inside (sym c.in-Some.ensures.value)
    c.if-launch.true

pub returns : goal.returns
returns c =
    fail_kept c.args.self.now c.args.j c.in-Some.launch c.own_event.result c.live_launch.ensures.inside
    (sym c.in-Some.ensures.value) c.if-launch.false c.own_event.ensures
