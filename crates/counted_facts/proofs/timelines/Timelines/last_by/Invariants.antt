use Rattle.std.proofs.Common.{◌≡◌, ◌≤◌, ◌<◌, ◌+◌, ◌-◌}
use Rattle.counted_facts.specs.Timelines.{change_in, count_in}
use Rattle.counted_facts.proofs.timelines.Timelines.last_by.Given as goal

abbrev pub invariant-loop-low : goal.invariant-loop-low
invariant-loop-low g l =
    record {
      ordered : l.low ≤ l.high;
      within : l.high ≤ count_in l.self (l.fn.w, l.fn.n);
      here : (change_in l.self (l.fn.w, (l.fn.n, 0))).0 ≡ 0
          → (change_in l.self (l.fn.w, (l.fn.n, l.low))).0 ≤ l.fn.count;
      next : l.high < count_in l.self (l.fn.w, l.fn.n)
          → l.fn.count < (change_in l.self (l.fn.w, (l.fn.n, l.high + 1))).0;
    }

abbrev pub decreases-loop-low : goal.decreases-loop-low
decreases-loop-low g l = l.high - l.low
