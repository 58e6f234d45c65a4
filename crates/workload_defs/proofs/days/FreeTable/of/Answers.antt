use Rattle.std.proofs.Common.{◌≡◌, ◌∙◌, ◌<◌, [], ◌∷◌, List, Some, ap, arith, get_or, length, length-append, slice_get, subst, sym}
use Rattle.composer_parser.specs.declared.Defs.{Defs}
use Rattle.composer_parser.specs.declared.Lined.{Lined}
use Rattle.composer_parser.specs.declared.ScheduleDef.{ScheduleDef}
use Rattle.workload_defs.specs.Days.{free_of_kind}
use Rattle.workload_defs.specs.Tables.{AreMade}
use Rattle.workload_defs.proofs.Frees.{days_more}
use Rattle.workload_defs.proofs.days.FreeTable.of.Goals as goal

pub place_of-requires : goal.place_of-requires
place_of-requires c =
    subst (λ (d : Defs). AreMade d c.loop-schedule.table.kinds.items c.loop-schedule.made.entries) (sym c.defs-defs.ensures)
    c.loop-schedule.invariant.made

pub loop-schedule-preserved : goal.loop-schedule-preserved
loop-schedule-preserved c =
    let list : c.as_slice-schedules.result.now ≡ c.args.names.now.schedules =
    c.as_slice-schedules.ensures ∙ ap (λ (d : Defs). d.schedules) c.defs-defs.ensures in
    let low : c.loop-schedule.schedule-index < length c.args.names.now.schedules =
    subst (λ (l : List (Lined ScheduleDef)). c.loop-schedule.schedule-index < length l) list c.loop-schedule-test.true in
    let stands : c.schedule-item.result ≡ get_or c.args.names.now.schedules c.loop-schedule.schedule-index c.schedule-item.result =
    c.schedule-item.is ∙ ap (λ (l : List (Lined ScheduleDef)). get_or l c.loop-schedule.schedule-index c.schedule-item.result) list in
    let there_ : slice_get c.place_of.new.kinds.items c.in_ok-place.place ≡ Some (free_of_kind c.args.names.now c.kind_of-kind.result) =
    c.in_ok-place.ensures.place ∙ ap (λ (d : Defs). Some (free_of_kind d c.kind_of-kind.result)) c.defs-defs.ensures in
    record {
      each =
          omega (
            arith,
            ap length c.in_ok-push.ensures.items,
            length-append c.loop-schedule.table.places.items (c.in_ok-place.place ∷ []),
            c.loop-schedule.invariant.each,
          );
      days =
          days_more c.args.names.now c.loop-schedule.schedule-index c.schedule-item.result c.kind_of-kind.result
          c.loop-schedule.table.kinds.items c.place_of.new.kinds.items c.loop-schedule.table.places.items
          c.push.new.self.items c.in_ok-place.place low stands c.kind_of-kind.ensures c.in_ok-place.ensures.stay there_
          c.in_ok-push.ensures.items c.loop-schedule.invariant.each c.loop-schedule.invariant.days;
      made =
          subst (λ (d : Defs). AreMade d c.place_of.new.kinds.items c.place_of.new.made.entries) c.defs-defs.ensures
          c.in_ok-place.ensures.made;
    }
