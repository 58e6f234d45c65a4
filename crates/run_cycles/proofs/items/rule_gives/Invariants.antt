use Rattle.std.proofs.Common.{◌≡◌, ◌-◌}
use Rattle.std.specs.List.{list_any, range_with_len}
use Rattle.run_rules.specs.Days.{rule_has}
use Rattle.run_cycles.proofs.items.rule_gives.Given as goal

abbrev pub invariant-loop-day : goal.invariant-loop-day
invariant-loop-day l =
    list_any (rule_has l.rule l.first) (range_with_len l.from (l.end - l.from))
    ≡ list_any (rule_has l.rule l.first) (range_with_len l.day (l.end - l.day))
