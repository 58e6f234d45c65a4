use Rattle.std.proofs.Common.{Global, Vec, ℕ, ◌++◌, ◌-◌, ◌∙◌, ap, filter, sym}
use Rattle.std.specs.List.{range_with_len}
use Rattle.run_cycles.specs.Runs.{runs}
use Rattle.run_cycles.proofs.Ranges.{no_more, put_day, skip_day}
use Rattle.run_cycles.proofs.cycles.days_before.Goals as goal
use Rattle.run_cycles.proofs.cycles.days_before.Goals.{then-runs_on+in_ok-push, else-runs_on}

pub loop-day-preserved : goal.loop-day-preserved
loop-day-preserved c =
    let given = runs c.args.w.now c.args.stream in
    let all = filter given (range_with_len c.args.from (c.args.end - c.args.from)) in
    elim c.if-runs_on.branch [
      | then-runs_on+in_ok-push w ↦
          put_day given all c.loop-day.day c.args.end c.loop-day.days.items c.if-runs_on.days.items c.loop-day-test.true
          (sym c.runs_on.ensures ∙ w.if-runs_on.true)
          (ap (λ (v : Vec ℕ Global). v.items) w.days-is ∙ w.in_ok-push.ensures.items) c.loop-day.invariant
      | else-runs_on w ↦
          skip_day given all c.loop-day.day c.args.end c.if-runs_on.days.items c.loop-day-test.true
          (sym c.runs_on.ensures ∙ w.if-runs_on.false)
          (c.loop-day.invariant
          ∙ ap (λ (v : Vec ℕ Global). v.items ++ filter given (range_with_len c.loop-day.day (c.args.end - c.loop-day.day)))
          (sym w.days-is))
    ]

pub returns : goal.returns
returns c =
    let given = runs c.args.w.now c.args.stream in
    no_more given (filter given (range_with_len c.args.from (c.args.end - c.args.from))) c.loop-day.day c.args.end
    c.loop-day.days.items c.loop-day-test.false c.loop-day.invariant
