use Rattle.std.proofs.Common.{ℕ, Bool, ◌&&◌, not, ap, sym, ◌∙◌}
use Rattle.calendars.specs.Sets.{has}
use Rattle.day_counts.specs.Weeks.{is_weekly}
use Rattle.day_counts.proofs.Ranks.{has_filtered}
use Rattle.day_counts.proofs.counted_days.CountedDays.of.Goals as goal

pub invariant_of-result : goal.invariant_of-result
invariant_of-result c = record {
  same =
      λ day.
      let left : ℕ → Bool = λ one. not (is_weekly c.args.sa c.args.su one) in
      c.in_ok-extra.ensures.same day
      ∙ (ap (λ days. has days day) (c.as_slice.ensures.value ∙ c.in_ok-others.ensures)
      ∙ (has_filtered left c.args.days.now day
      ∙ ap (λ t. t && left day) (sym (c.in_ok-dates.ensures.same day))));
}
