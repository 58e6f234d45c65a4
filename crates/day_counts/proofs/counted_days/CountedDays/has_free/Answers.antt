use Rattle.std.proofs.Common.{nat_lt, ◌∙◌}
use Rattle.calendars.specs.Free.{is_free}
use Rattle.day_counts.proofs.Counting.{count, one_more}
use Rattle.day_counts.proofs.Ranges.{any_between}
use Rattle.day_counts.proofs.counted_days.CountedDays.has_free.Goals as goal

pub returns : goal.returns
returns c =
    let free = is_free c.args.self.now in
    (λ i. nat_lt (c.free_before.ensures.count i) (c.free_before-2.ensures.count i))
    ∙ any_between (count free) free (one_more free) c.args.from c.args.end
