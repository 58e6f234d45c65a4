use Rattle.std.proofs.Common.{◌∙◌, refl, subst, sym}
use Rattle.agent_core.specs.Steps.{IsTaken}
use Rattle.agent_core.proofs.Causes.{not_near, outside_net}
use Rattle.agent_core.proofs.Linking.{down, down_taken}
use Rattle.agent_core.proofs.agents.Agent.unlinked.Goals as goal

pub returns-then-not-has : goal.returns-then-not-has
returns-then-not-has c = (outside_net c.args.self.now (down c.args.x) (sym c.has.ensures ∙ c.if-not-has.true), refl)

pub returns-then-is_itself : goal.returns-then-is_itself
returns-then-is_itself c = (
  not_near c.args.self.now (down c.args.x) (sym c.has.ensures ∙ c.if-not-has.false)
      (sym c.is_itself.ensures ∙ c.if-is_itself.true),
  refl,
)

pub returns : goal.returns
returns c =
    subst (λ s. IsTaken c.args.self.now (down c.args.x) s c.link_down.new.self) (sym c.quiet.ensures)
    (down_taken c.args.self.now c.link_down.new.self c.args.x (sym c.has.ensures ∙ c.if-not-has.false)
    (sym c.is_itself.ensures ∙ c.if-is_itself.false) c.link_down.ensures.links c.link_down.ensures.acked c.link_down.ensures.same)
