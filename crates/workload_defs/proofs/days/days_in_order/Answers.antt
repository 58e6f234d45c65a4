use Rattle.std.proofs.Common.{◌∙◌, ap}
use Rattle.model.specs.Words.{ascending}
use Rattle.day_counts.proofs.Sets.{is_ascending}
use Rattle.workload_defs.proofs.days.days_in_order.Goals as goal

pub returns : goal.returns
returns c =
    is_ascending c.in_ok-sorted.sorted c.as_slice.result.now c.in_ok-sorted.ensures.same c.in_ok-sorted.ensures.ascending
    ∙ ap ascending c.as_slice.ensures
