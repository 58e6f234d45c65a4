use Rattle.std.proofs.Common.{◌∙◌, sym}
use Rattle.agent_core.proofs.OwnEntries.{not_outside, not_own, seen_already}
use Rattle.agent_core.proofs.agents.Agent.lacks_dep.Goals as goal

pub returns-then-not-is_own : goal.returns-then-not-is_own
returns-then-not-is_own c = not_own _ _ _ (sym c.is_own.ensures ∙ c.if-not-is_own.true)

pub returns-then-not-waits_for_file : goal.returns-then-not-waits_for_file
returns-then-not-waits_for_file c =
    not_outside _ _ _ (sym c.is_own.ensures ∙ c.if-not-is_own.false)
    (sym c.waits_for_file.ensures ∙ c.if-not-waits_for_file.true)

pub returns : goal.returns
returns c =
    c.has_file.ensures
    ∙ seen_already _ _ _ (sym c.is_own.ensures ∙ c.if-not-is_own.false)
    (sym c.waits_for_file.ensures ∙ c.if-not-waits_for_file.false)
