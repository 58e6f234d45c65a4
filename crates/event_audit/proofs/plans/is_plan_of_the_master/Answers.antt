use Rattle.std.proofs.Common.{◌∙◌, ◌≡◌, Bool, false, sym, true}
use Rattle.event_audit.proofs.Plan.{begins_counts, carried_begins, carried_documents, plan_decided}
use Rattle.event_audit.proofs.Prefix.{counts_others, counts_own}
use Rattle.event_audit.proofs.plans.is_plan_of_the_master.Goals as goal

apart : {A : Type 0} {b : Bool} → b ≡ true → b ≡ false → A
apart x y = cc

pub returns-then-not-begins_right : goal.returns-then-not-begins_right
returns-then-not-begins_right c = (
  λ f. cc,
  λ h. apart
      (c.begins_right.ensures
      ∙ carried_begins c.args.net.now.carry c.args.owners.now c.args.run c.args.cut.now c.args.carried.now
      c.args.docs.now h)
      c.if-not-begins_right.true,
)

pub returns-then-not-are_right_documents : goal.returns-then-not-are_right_documents
returns-then-not-are_right_documents c = (
  λ f. cc,
  λ h. apart
      (c.are_right_documents.ensures.1
      (carried_documents c.args.net.now.carry c.args.owners.now c.args.run c.args.cut.now c.args.carried.now
      c.args.docs.now h))
      c.if-not-are_right_documents.true,
)

pub carries_exactly-requires-clause-sight : goal.carries_exactly-requires-clause-sight
carries_exactly-requires-clause-sight c =
    record {
      told = c.requires;
      there = counts_others c.args.owners.now 0 c.args.cut.now
          (begins_counts c.args.owners.now c.args.run c.args.cut.now
          (sym c.begins_right.ensures ∙ c.if-not-begins_right.false));
    }

pub carries_exactly-requires-clause-own : goal.carries_exactly-requires-clause-own
carries_exactly-requires-clause-own c =
    counts_own c.args.owners.now 0 c.args.cut.now
    (begins_counts c.args.owners.now c.args.run c.args.cut.now
    (sym c.begins_right.ensures ∙ c.if-not-begins_right.false))

pub returns : goal.returns
returns c =
    plan_decided c.args.net.now.carry c.args.owners.now c.args.run c.args.cut.now c.args.carried.now c.args.docs.now
    c.carries_exactly.result (sym c.begins_right.ensures ∙ c.if-not-begins_right.false)
    (c.are_right_documents.ensures.0 c.if-not-are_right_documents.false) c.carries_exactly.ensures
