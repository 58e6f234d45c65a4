use Rattle.std.proofs.Common.{◌==◌, nat_lt, le-ltb, sym, ◌∙◌}
use Rattle.std.specs.List.{list_any}
use Rattle.calendars.specs.Dates.{weekday}
use Rattle.day_counts.specs.Runs.{days_between}
use Rattle.day_counts.specs.Weeks as spec
use Rattle.day_counts.proofs.Ranges.{any_between, nothing}
use Rattle.day_counts.proofs.Weekdays.{no_weekday, weeks}
use Rattle.day_counts.proofs.weeks.has_weekday.Goals as goal

pub returns-then-number-lt7 : goal.returns-then-number-lt7
returns-then-number-lt7 c =
    (λ i. nat_lt (c.weeks_before.ensures i) (c.weeks_before-then-number-lt7.ensures i))
    ∙ any_between (spec.weeks_before c.args.number) (λ day. weekday day == c.args.number)
    (weeks c.args.number c.if-number-lt7.true) c.args.from c.args.end

pub returns-else-number-lt7 : goal.returns-else-number-lt7
returns-else-number-lt7 c =
    le-ltb c.args.number 7 c.if-number-lt7.false
    ∙ sym
    ((λ i. list_any (λ day. no_weekday c.args.number c.if-number-lt7.false day i) (days_between c.args.from c.args.end))
    ∙ nothing (days_between c.args.from c.args.end))
