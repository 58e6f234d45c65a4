use Rattle.std.proofs.Common.{◌<◌, ◌||◌, nat_eq, length, get_or, arith, sym, ap, ◌∙◌}
use Rattle.std.proofs.lemmas.Map.Keys.{IsStrictlyIncreasing-from_sorted}
use Rattle.calendars.specs.Sets.{has}
use Rattle.calendars.proofs.Members.{has-put, has-more}
use Rattle.day_counts.proofs.sorted_days.set_of.Goals as goal

pub loop-day-preserved : goal.loop-day-preserved
loop-day-preserved c =
    let days = c.args.days.now in
    let i = c.loop-day.day-index in
    let within : i < length days = omega arith in (
      λ q. ap (λ keys. has keys q) c.in_ok-insert.ensures.keys ∙ has-put c.loop-day.set.keys (get_or days i 0) q
          ∙ ap (λ before. before || nat_eq q (get_or days i 0)) (c.loop-day.invariant.0 q) ∙ sym (has-more days i q within),
      IsStrictlyIncreasing-from_sorted _ c.insert.ensures.ordered,
    )
