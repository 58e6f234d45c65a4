use Rattle.std.proofs.Common.{◌≡◌, ◌++◌, drop, flat_map, map}
use Rattle.composer_print.specs.Normal.{normal_schedule}
use Rattle.composer_print.specs.Streams.{schedule_lines}
use Rattle.composer_print.proofs.streams.write_schedules.Given as goal

abbrev pub invariant-loop-schedule : goal.invariant-loop-schedule
invariant-loop-schedule l =
    l.initial.out.items ++ flat_map (λ s. schedule_lines s.item) (map (normal_schedule l.master) l.schedules)
    ≡ l.out.items ++ flat_map (λ s. schedule_lines s.item) (map (normal_schedule l.master) (drop l.schedule-index l.schedules))
