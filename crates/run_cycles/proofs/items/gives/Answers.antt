use Rattle.std.proofs.Common.{◌∙◌, ap, sym}
use Rattle.composer_parser.specs.declared.OnItem.{OnItem}
use Rattle.workload_defs.specs.Days.{days_of}
use Rattle.run_cycles.specs.Clips.{gives_within}
use Rattle.run_cycles.proofs.Clips.{any_day, no_day, one_date}
use Rattle.run_cycles.proofs.Moves.{any_order}
use Rattle.run_cycles.proofs.items.gives.Goals as goal

pub returns-in-EveryDay : goal.returns-in-EveryDay
returns-in-EveryDay c =
    any_day c.args.from c.args.end
    ∙ ap (λ (item : OnItem). gives_within c.args.w.now c.args.free.now c.args.first c.args.from c.args.end item)
    (sym c.in-EveryDay.is)

pub returns-in-Request : goal.returns-in-Request
returns-in-Request c =
    no_day c.args.from c.args.end
    ∙ ap (λ (item : OnItem). gives_within c.args.w.now c.args.free.now c.args.first c.args.from c.args.end item)
    (sym c.in-Request.is)

pub returns-in-Date : goal.returns-in-Date
returns-in-Date c =
    c.is_between.ensures
    ∙ (one_date c.in-Date.date c.args.from c.args.end
    ∙ ap (λ (item : OnItem). gives_within c.args.w.now c.args.free.now c.args.first c.args.from c.args.end item)
    (sym c.in-Date.is))

pub returns-in-Calendar : goal.returns-in-Calendar
returns-in-Calendar c =
    c.gives_calendar.ensures
    ∙ (any_order c.args.free.now c.in-Calendar.offset c.args.from c.args.end _
    (days_of c.args.w.now c.in-Calendar.name) c.sorted_days.ensures
    ∙ ap (λ (item : OnItem). gives_within c.args.w.now c.args.free.now c.args.first c.args.from c.args.end item)
    (sym c.in-Calendar.is))
