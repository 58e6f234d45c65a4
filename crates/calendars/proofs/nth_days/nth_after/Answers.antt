use Rattle.std.proofs.Common.{◌+◌, ◌-◌, arith, sym, ◌∙◌}
use Rattle.std.specs.List.{range_with_len}
use Rattle.lemmas.proofs.Numbers.{range_first}
use Rattle.calendars.specs.Dates.{last_day}
use Rattle.calendars.specs.Nth.{is_of_kind, days_after}
use Rattle.calendars.proofs.Counting.{counted_one, counted_none}
use Rattle.calendars.proofs.nth_days.nth_after.Goals as goal
use Rattle.calendars.proofs.nth_days.nth_after.Goals.{then-is_of_kind+else-left-eq0, else-is_of_kind}

pub loop-other-preserved : goal.loop-other-preserved
loop-other-preserved c =
    let p = is_of_kind c.args.free.now c.args.kind in
    let x = c.loop-other.other in
    let xs = range_with_len x (last_day + 1 - x) in
    let rest = range_with_len (x + 1) (last_day + 1 - (x + 1)) in
    let step = range_first x (last_day + 1) c.loop-other-test.true in
    elim c.if-is_of_kind.branch [
      | then-is_of_kind+else-left-eq0 w ↦
          rw w.left-is
          (counted_one p (days_after c.args.day) xs rest c.args.passed c.loop-other.left x c.loop-other.invariant step
          (sym c.is_of_kind.ensures ∙ w.if-is_of_kind.true) (omega (arith, w.if-left-eq0.false)))
      | else-is_of_kind w ↦
          rw w.left-is
          (counted_none p (days_after c.args.day) xs rest c.args.passed c.loop-other.left x c.loop-other.invariant step
          (sym c.is_of_kind.ensures ∙ w.if-is_of_kind.false))
    ]
