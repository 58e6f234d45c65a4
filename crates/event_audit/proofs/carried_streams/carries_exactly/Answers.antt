use Rattle.lemmas.proofs.Booleans.{contrary_of}
use Rattle.model.specs.History.{view_of}
use Rattle.counted_decisions.specs.Sights.{seen_in}
use Rattle.counted_decisions.proofs.Sighted.{own_seen}
use Rattle.event_audit.proofs.Plan.{carried_told, not_in_order}
use Rattle.event_audit.proofs.carried_streams.carries_exactly.Goals as goal

pub returns-then-not-carries_in_order : goal.returns-then-not-carries_in_order
returns-then-not-carries_in_order c = (
  λ f. cc,
  λ h. absurd
      (contrary_of c.carries_in_order.result
      (c.carries_in_order.ensures.1
      (not_in_order c.args.net.now.carry (seen_in c.args.sight.now) (view_of c.args.sight.now.owners.now)
      c.args.carried.now (own_seen c.args.sight.now.owners.now c.args.sight.now.seen.now 0 c.requires.own) h))
      c.if-not-carries_in_order.true),
)

pub returns : goal.returns
returns c =
    carried_told c.args.net.now.carry (seen_in c.args.sight.now) (view_of c.args.sight.now.owners.now) c.args.carried.now
    c.carries_the_taken.result (own_seen c.args.sight.now.owners.now c.args.sight.now.seen.now 0 c.requires.own)
    (c.carries_in_order.ensures.0 c.if-not-carries_in_order.false) c.carries_the_taken.ensures
