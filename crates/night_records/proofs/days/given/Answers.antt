use Rattle.std.proofs.Common.{sym, ◌∙◌}
use Rattle.night_records.specs.Days.{behind}
use Rattle.night_records.proofs.days.given.Goals as goal

pub drafts_of-requires : goal.drafts_of-requires
drafts_of-requires c = sym c.is_day.ensures ∙ c.if-is_day.true

pub returns-then-is_day-clause-drafts : goal.returns-then-is_day-clause-drafts
returns-then-is_day-clause-drafts c = c.drafts_of.ensures.drafts

pub returns-then-is_day-clause-fault : goal.returns-then-is_day-clause-fault
returns-then-is_day-clause-fault c = c.drafts_of.ensures.fault

pub returns-else-is_day-clause-drafts : goal.returns-else-is_day-clause-drafts
returns-else-is_day-clause-drafts c = tt

pub returns-else-is_day-clause-fault : goal.returns-else-is_day-clause-fault
returns-else-is_day-clause-fault c = behind (sym c.is_day.ensures ∙ c.if-is_day.false)
