use Rattle.std.proofs.Common.{◌≡◌, ◌-◌, ◌∙◌, ap, arith, sym}
use Rattle.calendars.specs.Free.{is_free}
use Rattle.calendars.specs.declared.DayKind.TheVariants.{Weekdays, Workdays}
use Rattle.day_counts.specs.Counts.{count_before}
use Rattle.day_counts.proofs.Counting.{all_count, complement}
use Rattle.day_counts.proofs.Weekdays.{weekdays}
use Rattle.day_counts.proofs.counted_days.CountedDays.count_before.Goals as goal

pub returns-in-Days-clause-count : goal.returns-in-Days-clause-count
returns-in-Days-clause-count c =
    sym (all_count c.args.day) ∙ ap (λ kind. count_before c.args.self.now kind c.args.day) (sym c.in-Days.is)

pub returns-in-Weekdays-clause-count : goal.returns-in-Weekdays-clause-count
returns-in-Weekdays-clause-count c =
    let left : c.args.day - c.saturdays_before.result - c.sundays_before.result
    ≡ count_before c.args.self.now Weekdays c.args.day =
    omega (arith, weekdays c.args.day, c.saturdays_before.ensures, c.sundays_before.ensures) in
    left ∙ ap (λ kind. count_before c.args.self.now kind c.args.day) (sym c.in-Weekdays.is)

pub returns-in-Workdays-clause-count : goal.returns-in-Workdays-clause-count
returns-in-Workdays-clause-count c =
    let left : c.args.day - c.free_before.result ≡ count_before c.args.self.now Workdays c.args.day =
    omega (arith, complement (is_free c.args.self.now) c.args.day, c.free_before.ensures.count) in
    left ∙ ap (λ kind. count_before c.args.self.now kind c.args.day) (sym c.in-Workdays.is)
