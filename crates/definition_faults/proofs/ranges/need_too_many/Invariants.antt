use Rattle.std.proofs.Common.{◌≡◌, drop}
use Rattle.std.specs.List.{list_any}
use Rattle.definition_faults.specs.Ranges.{needs_too_many}
use Rattle.definition_faults.proofs.ranges.need_too_many.Given as goal

abbrev pub invariant-loop-need : goal.invariant-loop-need
invariant-loop-need l =
    list_any needs_too_many l.needs ≡ list_any needs_too_many (drop l.need-index l.needs)
