use Rattle.std.proofs.Common.{◌≡◌, ◌∙◌, Some, ap, arith, subst, sym}
use Rattle.std.specs.Prelude.{slice_get}
use Rattle.model.specs.Types.{Net}
use Rattle.model.specs.History.{view_of}
use Rattle.mailman_core.specs.Listed.{IsListed}
use Rattle.agent_core.specs.Nodes.{NodeState, present_in, view_in}
use Rattle.agent_core.proofs.agents.Agent.listed_for.Goals as goal

pub returns-in-Some-row : goal.returns-in-Some-row
returns-in-Some-row c =
    let state = c.self.inside in
    let ws = c.in-Some-row.listed in
    let place : c.args.m ≡ c.from.result = omega (arith, c.from.ensures, c.m.view_is) in
    let row : slice_get state.listed c.args.m ≡ Some (Some ws) =
    ap (slice_get state.listed) place ∙ sym c.in-Some.ensures.item ∙ ap Some c.in-Some-row.is in
    subst (λ (n : NodeState). IsListed (present_in n) (view_in n) n.me c.args.m ws) c.self.view_is
    (subst (λ (net : Net). IsListed net (view_of state.owners) state.me c.args.m ws) c.self.invariant.0.here
    (c.self.invariant.1 c.args.m ws row))
