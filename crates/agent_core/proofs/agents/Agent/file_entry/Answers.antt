use Rattle.std.proofs.Common.{◌∙◌, ◌<◌, subst, sym}
use Rattle.model.specs.Types.{Net}
use Rattle.model.specs.Network.{node_count}
use Rattle.agent_core.proofs.OwnEntries.{file_kept, file_lacks}
use Rattle.agent_core.proofs.agents.Agent.file_entry.Goals as goal

pub returns-then-lacks_dep : goal.returns-then-lacks_dep
returns-then-lacks_dep c =
    file_lacks c.args.self.now c.args.object.now c.args.i
    (subst (λ (net : Net). c.args.self.now.me < node_count net) c.net-net.ensures.value c.net-net.ensures.inside)
    (sym c.lacks_dep.ensures ∙ c.if-lacks_dep.true)

pub returns : goal.returns
returns c =
    file_kept c.args.self.now c.args.object.now c.args.i c.own_event.result
    (subst (λ (net : Net). c.args.self.now.me < node_count net) c.net-net.ensures.value c.net-net.ensures.inside)
    (sym c.lacks_dep.ensures ∙ c.if-lacks_dep.false) c.own_event.ensures
