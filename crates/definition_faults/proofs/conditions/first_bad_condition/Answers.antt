use Rattle.std.proofs.Common.{◌++◌, ◌∙◌, ℕ, List, ap, arith, filter_map, flat_map, subst, sym}
use Rattle.std.proofs.lemmas.List.{append-nil}
use Rattle.lemmas.proofs.Lists.{take_whole}
use Rattle.composer_parser.specs.declared.Defs.{Defs}
use Rattle.composer_parser.specs.declared.Lined.{Lined}
use Rattle.composer_parser.specs.declared.EntryDef.{EntryDef}
use Rattle.composer_parser.specs.declared.ScheduleDef.{ScheduleDef}
use Rattle.definition_faults.specs.Conditions.{HasBad, IsLeastBadLineOf, IsLeastOf, condition_of_job, conditions_of_stream}
use Rattle.definition_faults.proofs.Least.{stream_more}
use Rattle.definition_faults.proofs.conditions.first_bad_condition.Goals as goal

pub loop-schedule-init : goal.loop-schedule-init
loop-schedule-init c =
    let jobs = c.as_slice.ensures ∙ ap (λ (x : Defs). x.jobs) c.defs-2.ensures in
    subst (λ (l : List (ℕ × List ℕ)). IsLeastOf (HasBad l) c.in_ok-least.least)
    (ap (filter_map condition_of_job) jobs ∙ sym (append-nil (filter_map condition_of_job c.args.names.now.jobs)))
    c.in_ok-least.ensures

pub loop-schedule-preserved : goal.loop-schedule-preserved
loop-schedule-preserved c =
    stream_more (filter_map condition_of_job c.args.names.now.jobs) c.as_slice-schedules.result.now
    c.loop-schedule.schedule-index c.schedule-item.result c.loop-schedule.least c.in_ok-least-2.least (omega arith)
    c.schedule-item.is c.loop-schedule.invariant
    (subst (λ (l : List (Lined EntryDef)). IsLeastBadLineOf c.loop-schedule.least l c.in_ok-least-2.least)
    c.as_slice-in-loop-schedule.ensures c.in_ok-least-2.ensures)

pub returns : goal.returns
returns c =
    let all = c.as_slice-schedules.ensures ∙ ap (λ (x : Defs). x.schedules) c.defs.ensures in
    subst
    (λ (l : List (Lined ScheduleDef)). IsLeastOf
    (HasBad (filter_map condition_of_job c.args.names.now.jobs ++ flat_map conditions_of_stream l)) c.loop-schedule.least)
    (take_whole c.as_slice-schedules.result.now c.loop-schedule.schedule-index c.loop-schedule-test.false ∙ all)
    c.loop-schedule.invariant
