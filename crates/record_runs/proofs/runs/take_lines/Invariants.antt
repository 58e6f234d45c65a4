use Rattle.std.proofs.Common.{◌≡◌, drop}
use Rattle.record_runs.specs.Days.{IsPlanOf}
use Rattle.record_runs.specs.Lines.{Day}
use Rattle.record_runs.proofs.Nights.{IsAsFar}
use Rattle.record_runs.proofs.runs.take_lines.Given as goal

abbrev pub invariant-loop-line : goal.invariant-loop-line
invariant-loop-line g l =
    record {
      same : l.world.net ≡ l.fn.world.net;
      far : (day : Day) → IsPlanOf (g.D.DayPlans.gives l.days) day → IsAsFar l.fn.world day l.fn.world.net l.fn.plans l.lines l.world l.plans
          (drop l.line-index l.lines);
    }
