use Rattle.std.proofs.Common.{◌≡◌, ◌+◌, ◌-◌, ◌&&◌, ℕ, nat_le, arith}
use Rattle.lemmas.proofs.Results.{if_ok}
use Rattle.calendars.specs.Sets.{has}
use Rattle.run_cycles.specs.Runs.{runs}
use Rattle.run_cycles.proofs.RunDates.{dates_of}
use Rattle.run_cycles.proofs.cycles.dates.Goals as goal

pub returns : goal.returns
returns c =
    let d = c.args.w.now in
    let list = c.as_slice.result.now in
    let len = c.min-end.result + 1 - c.args.from in
    if_ok (λ set. (day : ℕ) → has set day ≡ has list day)
    (λ set. (day : ℕ) → has set day ≡ (nat_le c.args.from day && (nat_le day c.args.to && runs d c.args.stream day)))
    c.of.result
    (λ set same day.
    dates_of d c.args.stream c.args.from c.args.to day set c.in_ok-days.days.items list len (omega arith)
    c.as_slice.ensures.value c.in_ok-days.ensures (same day))
    c.of.ensures.same
