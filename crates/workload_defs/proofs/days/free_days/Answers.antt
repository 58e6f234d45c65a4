use Rattle.std.proofs.Common.{◌∙◌, ap}
use Rattle.model.specs.Words.{ascending}
use Rattle.day_counts.proofs.Sets.{is_ascending}
use Rattle.workload_defs.proofs.days.free_days.Goals as goal

pub returns : goal.returns
returns c =
    let made = c.in_ok-free.free in
    let dates =
    is_ascending made.dates c.days_at.result.now c.in_ok-free.ensures.dates c.in_ok-free.ensures.ascending
    ∙ ap ascending c.days_at.ensures in
    λ j. record { dates = dates j; sa = c.in_ok-free.ensures.saturdays j; su = c.in_ok-free.ensures.sundays j }
