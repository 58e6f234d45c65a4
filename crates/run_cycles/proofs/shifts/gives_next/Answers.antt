use Rattle.std.proofs.Common.{◌≡◌, ◌&&◌, ◌||◌, ◌∙◌, ap, sym, true}
use Rattle.std.specs.List.{list_any}
use Rattle.calendars.specs.Free.{is_workday}
use Rattle.calendars.specs.Nth.{below}
use Rattle.calendars.specs.declared.FreeDays.{FreeDays}
use Rattle.run_cycles.specs.Items.{is_dated}
use Rattle.run_cycles.specs.Shifts.{free_run}
use Rattle.run_cycles.proofs.Beside.{before_it}
use Rattle.run_cycles.proofs.shifts.gives_next.Goals as goal

pub returns-then-is_workday : goal.returns-then-is_workday
returns-then-is_workday c =
    let free = c.args.free.now in
    let dated = is_dated c.args.w.now free c.args.on.now in
    let works : is_workday free c.args.day ≡ true =
    ap (λ (f : FreeDays). is_workday f c.args.day) (sym c.free.ensures) ∙ (sym c.is_workday.ensures ∙ c.if-is_workday.true) in
    c.is_dated_within.ensures
    ∙ (before_it free dated c.args.day c.run_before.result c.run_before.ensures
    ∙ sym (ap (λ b. b && (dated c.args.day || list_any dated (free_run free (below c.args.day)))) works))
