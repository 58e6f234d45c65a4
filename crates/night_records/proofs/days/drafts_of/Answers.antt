use Rattle.std.proofs.Common.{ap, Err}
use Rattle.lemmas.proofs.Numbers.{le_true}
use Rattle.calendars.specs.Dates.{last_day}
use Rattle.plan_builder.specs.declared.PlanFault.TheVariants.{Limit, OutOfRange}
use Rattle.night_records.specs.Days.{full, timeless}
use Rattle.night_records.proofs.GivenDays.{drafts_given}
use Rattle.night_records.proofs.days.drafts_of.Goals as goal

pub day_docs-requires : goal.day_docs-requires
day_docs-requires c = le_true c.args.day last_day c.requires

pub returns-in-Ok-clause-drafts : goal.returns-in-Ok-clause-drafts
returns-in-Ok-clause-drafts c =
    drafts_given c.args.workload.now c.args.day c.in-Ok.drafts c.requires c.in-Ok.ensures.refused c.in-Ok.ensures.drafts

pub returns-in-Ok-clause-fault : goal.returns-in-Ok-clause-fault
returns-in-Ok-clause-fault c = tt

pub returns-in-Err-Limit-clause-drafts : goal.returns-in-Err-Limit-clause-drafts
returns-in-Err-Limit-clause-drafts c = tt

pub returns-in-Err-Limit-clause-fault : goal.returns-in-Err-Limit-clause-fault
returns-in-Err-Limit-clause-fault c =
    rw c.in-Err-Limit.most-is
    (full c.in-Err-Limit.most c.requires
    (c.in-Err-Limit.ensures.causes (Limit c.in-Err-Limit.most) (ap (λ x. Err x) c.in-Err-Limit.field-0-is) (λ e. cc)))

pub returns-in-Err-OutOfRange-clause-drafts : goal.returns-in-Err-OutOfRange-clause-drafts
returns-in-Err-OutOfRange-clause-drafts c = tt

pub returns-in-Err-OutOfRange-clause-fault : goal.returns-in-Err-OutOfRange-clause-fault
returns-in-Err-OutOfRange-clause-fault c =
    timeless c.in-Err-OutOfRange.field-0-0 c.requires
    (c.in-Err-OutOfRange.ensures.causes (OutOfRange c.in-Err-OutOfRange.field-0-0)
    (ap (λ x. Err x) c.in-Err-OutOfRange.field-0-is) (λ e. cc))

pub returns-in-Err-NoMemory-clause-drafts : goal.returns-in-Err-NoMemory-clause-drafts
returns-in-Err-NoMemory-clause-drafts c = tt

pub returns-in-Err-NoMemory-clause-fault : goal.returns-in-Err-NoMemory-clause-fault
returns-in-Err-NoMemory-clause-fault c = tt
