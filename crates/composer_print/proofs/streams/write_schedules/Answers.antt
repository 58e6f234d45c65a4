use Rattle.std.proofs.Common.{List, flat_map, map, refl}
use Rattle.composer_parser.specs.declared.definitions.Lined.{Lined}
use Rattle.composer_parser.specs.declared.schedules.ScheduleDef.{ScheduleDef}
use Rattle.composer_print.specs.Normal.{normal_schedule}
use Rattle.composer_print.specs.Streams.{schedule_lines}
use Rattle.composer_print.proofs.Lists.{part_more, parts_all}
use Rattle.composer_print.proofs.streams.write_schedules.Goals as goal

pub loop-schedule-preserved : goal.loop-schedule-preserved
loop-schedule-preserved c =
    part_more (λ (ys : List (Lined ScheduleDef)). flat_map (λ s. schedule_lines s.item) (map (normal_schedule c.args.master.now) ys))
    (λ (y : Lined ScheduleDef). schedule_lines (normal_schedule c.args.master.now y).item) (λ y ys. refl) _ _ _ c.args.schedules.now c.loop-schedule.schedule-index c.schedule-item.result
    c.loop-schedule-test.true c.schedule-item.is c.in_ok-write_schedule.ensures c.loop-schedule.invariant

pub returns : goal.returns
returns c =
    parts_all (λ (ys : List (Lined ScheduleDef)). flat_map (λ s. schedule_lines s.item) (map (normal_schedule c.args.master.now) ys)) refl
    _ _ c.args.schedules.now c.loop-schedule.schedule-index c.loop-schedule-test.false c.loop-schedule.invariant
