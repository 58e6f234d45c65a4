use Rattle.std.proofs.Common.{◌≡◌, drop}
use Rattle.std.specs.List.{list_any}
use Rattle.model.specs.Types.{Events}
use Rattle.model.specs.History.{list_of}
use Rattle.event_audit.specs.Times.{is_reading}
use Rattle.event_audit.proofs.times.has_reading.Given as goal

abbrev pub invariant-loop-passed : goal.invariant-loop-passed
invariant-loop-passed l =
    list_any is_reading (list_of l.owners (Events l.fn.w))
    ≡ list_any is_reading (drop l.passed (list_of l.owners (Events l.fn.w)))
