use Rattle.std.proofs.Common.{◌+◌, ◌∙◌, ap, arith, cond, sym}
use Rattle.calendars.specs.Free.{is_free}
use Rattle.calendars.specs.declared.FreeDays.{FreeDays}
use Rattle.day_counts.proofs.Counting.{count}
use Rattle.day_counts.proofs.Frees.{frees, sum_few}
use Rattle.day_counts.proofs.Sets.{rises_of}
use Rattle.day_counts.proofs.counted_days.CountedDays.free_before.Goals as goal

pub overflow_add-result-2 : goal.overflow_add-result-2
overflow_add-result-2 c =
    let free = c.self.inside.free in
    let day = c.args.day in
    let few =
    sum_few free c.self.inside.extra (rises_of c.self.inside.extra c.count_before.ensures.ascending) c.self.invariant day
    c.where_free-saturdays.result c.where_free-sundays.result c.count_before.result
    (c.where_free-saturdays.ensures ∙ ap (λ n. cond free.sa n 0) c.saturdays_before.ensures)
    (c.where_free-sundays.ensures ∙ ap (λ n. cond free.su n 0) c.sundays_before.ensures) c.count_before.ensures.count in
    omega (arith, few, c.ranges.day.fits)

pub returns-clause-few : goal.returns-clause-few
returns-clause-few c =
    let free = c.self.inside.free in
    sum_few free c.self.inside.extra (rises_of c.self.inside.extra c.count_before.ensures.ascending) c.self.invariant
    c.args.day c.where_free-saturdays.result c.where_free-sundays.result c.count_before.result
    (c.where_free-saturdays.ensures ∙ ap (λ n. cond free.sa n 0) c.saturdays_before.ensures)
    (c.where_free-sundays.ensures ∙ ap (λ n. cond free.su n 0) c.sundays_before.ensures) c.count_before.ensures.count

pub returns-clause-count : goal.returns-clause-count
returns-clause-count c =
    let free = c.self.inside.free in
    let first = c.where_free-saturdays.ensures ∙ ap (λ n. cond free.sa n 0) c.saturdays_before.ensures in
    let second = c.where_free-sundays.ensures ∙ ap (λ n. cond free.su n 0) c.sundays_before.ensures in
    (λ i. first i + second i + c.count_before.ensures.count i)
    ∙ (sym
    (frees free c.self.inside.extra (rises_of c.self.inside.extra c.count_before.ensures.ascending) c.self.invariant
    c.args.day)
    ∙ ap (λ (f : FreeDays). count (is_free f) c.args.day) c.self.view_is)
