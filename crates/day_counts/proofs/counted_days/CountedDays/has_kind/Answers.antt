use Rattle.std.proofs.Common.{nat_lt, ◌∙◌}
use Rattle.calendars.specs.Nth.{is_of_kind}
use Rattle.day_counts.proofs.Counting.{count, one_more}
use Rattle.day_counts.proofs.Ranges.{any_between}
use Rattle.day_counts.proofs.counted_days.CountedDays.has_kind.Goals as goal

pub returns : goal.returns
returns c =
    let kind = is_of_kind c.args.self.now c.args.kind in
    (λ i. nat_lt (c.count_before.ensures.count i) (c.count_before-2.ensures.count i))
    ∙ any_between (count kind) kind (one_more kind) c.args.from c.args.end
