use Rattle.std.proofs.Common.{subst, sym}
use Rattle.std.specs.Prelude.{Err}
use Rattle.lemmas.proofs.Results.{if_err}
use Rattle.record_runs.specs.Causes.{no_moment}
use Rattle.record_runs.specs.Taken.{HaltsFor, Leads}
use Rattle.record_runs.specs.declared.stops.Halt.{Halt}
use Rattle.record_runs.specs.Days.{take_planned}
use Rattle.record_runs.specs.Runs.{take_line}
use Rattle.record_runs.proofs.Planned.{halts_too, leads_too, no_plan_halts, planned_is}
use Rattle.record_runs.proofs.Tables.{on_ok}
use Rattle.record_runs.proofs.days.take_day.Goals as goal

pub returns-in_ok-plan-in-Ok-clause-taken : goal.returns-in_ok-plan-in-Ok-clause-taken
returns-in_ok-plan-in-Ok-clause-taken g c = λ plan is.
    on_ok _ _ c.take_line.result
    (leads_too c.args.world.now c.take_line.new.world (take_planned plan c.args.world.now.net c.args.day c.args.next.now)
    (take_line plan c.args.world.now.net c.in_ok-plan-in-Ok.plan c.args.next.now)
    (planned_is plan c.args.world.now.net c.args.day c.args.next.now c.in-Ok.drafts c.in_ok-plan-in-Ok.plan
    (is c.args.day _ c.in-Ok.ensures.drafts) c.in_ok-plan-in-Ok.ensures))
    (c.take_line.ensures.taken plan)

pub returns-in_ok-plan-in-Ok-clause-stopped : goal.returns-in_ok-plan-in-Ok-clause-stopped
returns-in_ok-plan-in-Ok-clause-stopped g c = λ plan is.
    if_err _ _ c.take_line.result
    (λ t. halts_too c.args.world.now (take_planned plan c.args.world.now.net c.args.day c.args.next.now)
    (take_line plan c.args.world.now.net c.in_ok-plan-in-Ok.plan c.args.next.now) t
    (planned_is plan c.args.world.now.net c.args.day c.args.next.now c.in-Ok.drafts c.in_ok-plan-in-Ok.plan
    (is c.args.day _ c.in-Ok.ensures.drafts) c.in_ok-plan-in-Ok.ensures))
    (c.take_line.ensures.stopped plan)

pub returns-in_ok-plan-in-Ok-clause-net : goal.returns-in_ok-plan-in-Ok-clause-net
returns-in_ok-plan-in-Ok-clause-net g c =
    on_ok _ _ c.take_line.result (λ (h : Leads c.args.world.now
    (take_line (λ d. Err no_moment) c.args.world.now.net c.in_ok-plan-in-Ok.plan c.args.next.now) c.take_line.new.world). h.net_)
    (c.take_line.ensures.taken (λ d. Err no_moment))

pub returns-in-Err-clause-stopped : goal.returns-in-Err-clause-stopped
returns-in-Err-clause-stopped g c = λ plan is.
    subst (λ (h : Halt). HaltsFor c.args.world.now (take_planned plan c.args.world.now.net c.args.day c.args.next.now) h)
    (sym c.day_halt.ensures)
    (no_plan_halts _ plan c.args.world.now c.args.world.now.net c.args.day c.args.next.now c.in-Err.fault is
    c.in-Err.ensures.fault)
