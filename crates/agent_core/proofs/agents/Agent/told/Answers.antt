use Rattle.std.proofs.Common.{◌∙◌, refl, subst, sym}
use Rattle.agent_core.specs.Steps.{IsTaken}
use Rattle.agent_core.proofs.Causes.{not_near, outside_net}
use Rattle.agent_core.proofs.Linking.{ack, ack_taken}
use Rattle.agent_core.proofs.agents.Agent.told.Goals as goal

pub returns-then-not-has_feed : goal.returns-then-not-has_feed
returns-then-not-has_feed c = (outside_net c.args.self.now (ack c.args.x c.args.feed.now c.args.count) (sym c.has_feed.ensures ∙ c.if-not-has_feed.true), refl)

pub returns-then-is_itself : goal.returns-then-is_itself
returns-then-is_itself c = (
  not_near c.args.self.now (ack c.args.x c.args.feed.now c.args.count) (sym c.has_feed.ensures ∙ c.if-not-has_feed.false)
      (sym c.is_itself.ensures ∙ c.if-is_itself.true),
  refl,
)

pub returns : goal.returns
returns c =
    subst (λ s. IsTaken c.args.self.now (ack c.args.x c.args.feed.now c.args.count) s c.note_ack.new.self) (sym c.quiet.ensures)
    (ack_taken c.args.self.now c.note_ack.new.self c.args.x c.args.feed.now c.args.count (sym c.has_feed.ensures ∙ c.if-not-has_feed.false)
    (sym c.is_itself.ensures ∙ c.if-is_itself.false) c.in_ok-note_ack.ensures.acked c.in_ok-note_ack.ensures.links c.in_ok-note_ack.ensures.same)
