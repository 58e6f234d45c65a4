use Rattle.std.proofs.Common.{◌≡◌, ◌++◌, drop, flat_map}
use Rattle.composer_print.specs.Groups.{day_text}
use Rattle.composer_print.proofs.groups.write_days.Given as goal

abbrev pub invariant-loop-day : goal.invariant-loop-day
invariant-loop-day l =
    l.initial.out.items ++ flat_map day_text l.days ≡ l.out.items ++ flat_map day_text (drop l.day-index l.days)
