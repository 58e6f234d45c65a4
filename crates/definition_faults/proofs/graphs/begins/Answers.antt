use Rattle.std.proofs.Common.{◌≡◌, ◌<◌, ◌++◌, ◌∙◌, ◌∷◌, [], ap, arith, get_or, length, sym}
use Rattle.model_laws.proofs.Numbers.{map_below_more}
use Rattle.composer_parser.specs.declared.Defs.{Defs}
use Rattle.definition_faults.specs.Graphs.{begin_of, behind}
use Rattle.definition_faults.proofs.Places.{begin_more}
use Rattle.definition_faults.proofs.graphs.begins.Goals as goal

pub loop-schedule-preserved : goal.loop-schedule-preserved
loop-schedule-preserved c =
    let d = c.args.names.now in
    let i = c.loop-schedule.schedule-index in
    let s = c.schedule-item.result in
    let all : c.as_slice-schedules.result.now ≡ d.schedules =
    c.as_slice-schedules.ensures ∙ ap (λ (x : Defs). x.schedules) c.defs.ensures in
    let same : length c.as_slice-schedules.result.now ≡ length d.schedules = ap length all in
    let low : i < length d.schedules = omega (arith, same) in
    record {
      begun =
          c.in_ok-push.ensures.items
          ∙ ((λ j. c.loop-schedule.invariant.begun j ++ c.loop-schedule.invariant.next_ j ∷ [])
          ∙ sym (map_below_more (begin_of d) i));
      next_ =
          c.in_ok-next.ensures
          ∙ (ap (λ k. behind k s.item) c.loop-schedule.invariant.next_
          ∙ sym (begin_more d i s low (c.schedule-item.is ∙ ap (λ l. get_or l i s) all)));
    }
