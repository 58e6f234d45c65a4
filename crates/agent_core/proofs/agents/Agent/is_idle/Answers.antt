use Rattle.std.proofs.Common.{◌∙◌, ◌≤◌, ℕ, Option, ap, arith, subst}
use Rattle.std.specs.Prelude.{IfSome}
use Rattle.agent_core.specs.Nodes.{NodeState}
use Rattle.agent_core.specs.Standing.{Idles}
use Rattle.agent_core.proofs.Idling.{earlier_idle}
use Rattle.agent_core.proofs.Turning.{body_at}
use Rattle.agent_core.proofs.agents.Agent.is_idle.Goals as goal

pub returns-then-t-until : goal.returns-then-t-until
returns-then-t-until c =
    let state = c.self.inside in
    let earlier : c.args.t ≤ c.in-Some.until = omega (arith, c.if-t-until.true, c.t.view_is, c.until.view_is) in
    λ _. earlier_idle state.net state.me state.owners state.live c.in-Some.until c.args.t
    (subst (λ (o : Option ℕ). IfSome o (Idles state.net state.me state.owners state.live)) c.in-Some.is
    c.self.invariant.0.idles) earlier
    ∙ ap (λ (n : NodeState). body_at n c.args.t) c.self.view_is
