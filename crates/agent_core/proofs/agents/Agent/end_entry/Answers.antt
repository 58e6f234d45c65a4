use Rattle.std.proofs.Common.{◌∙◌, ap, subst, sym}
use Rattle.std.proofs.lemmas.Int.{to_z-of_z}
use Rattle.std.specs.Int.{w32}
use Rattle.model.specs.Types.{Ended, Events}
use Rattle.model.specs.NewEntry.{ends_well}
use Rattle.agent_core.specs.Nodes.{view_in}
use Rattle.agent_core.specs.Steps.{IsOwnEntry}
use Rattle.agent_core.proofs.OwnEntries.{end_kept, end_lacks}
use Rattle.agent_core.proofs.agents.Agent.end_entry.Goals as goal

pub returns-in_default : goal.returns-in_default
returns-in_default c =
    end_lacks c.args.self.now c.args.j c.args.rc c.live_launch.ensures.inside (sym c.in_default.ensures.value)

pub returns : goal.returns
returns c =
    let n = c.args.self.now in
    let same = to_z-of_z w32 c.args.rc c.ranges.rc in
    end_kept n c.args.j c.args.rc c.ends_well-good.result c.in-Some.launch c.own_event.result
    c.live_launch.ensures.inside (sym c.in-Some.ensures.value)
    (c.ends_well-good.ensures ∙ ap (ends_well (view_in n) c.args.j) same)
    (subst (λ rc. IsOwnEntry (view_in n) (Events n.me)
    (Ended c.args.j c.in-Some.launch.number rc c.ends_well-good.result) c.own_event.result) same c.own_event.ensures)
