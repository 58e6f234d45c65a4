use Rattle.std.specs.Prelude.{Err}
use Rattle.lemmas.proofs.Results.{if_err}
use Rattle.record_runs.specs.Causes.{no_moment}
use Rattle.record_runs.specs.Taken.{Leads}
use Rattle.record_runs.specs.Days.{take_planned}
use Rattle.record_runs.specs.Runs.{take_line}
use Rattle.record_runs.proofs.Planned.{asked_inside, asked_is, asked_next, asked_none, halts_too, leads_too}
use Rattle.record_runs.proofs.Tables.{on_ok}
use Rattle.record_runs.proofs.days.take_any_line.Goals as goal

pub take_line-requires-clause-no_day : goal.take_line-requires-clause-no_day
take_line-requires-clause-no_day g c = asked_none c.args.form.now c.in-None.ensures

pub returns-in-None-clause-taken : goal.returns-in-None-clause-taken
returns-in-None-clause-taken g c = λ plan is. c.take_line.ensures.taken plan

pub returns-in-None-clause-stopped : goal.returns-in-None-clause-stopped
returns-in-None-clause-stopped g c = λ plan is. c.take_line.ensures.stopped plan

pub returns-in-None-clause-net : goal.returns-in-None-clause-net
returns-in-None-clause-net g c =
    on_ok _ _ c.take_line.result (λ (h : Leads c.args.world.now
    (take_line (λ d. Err no_moment) c.args.world.now.net c.args.plans.now c.args.form.now) c.take_line.new.world). h.net_)
    (c.take_line.ensures.taken (λ d. Err no_moment))

pub take_day-requires-clause-inside : goal.take_day-requires-clause-inside
take_day-requires-clause-inside g c =
    asked_inside c.args.world.now.net c.args.form.now c.in-Some.day c.in-Some.next c.in-Some.ensures c.requires

pub take_day-requires-clause-no_day : goal.take_day-requires-clause-no_day
take_day-requires-clause-no_day g c = asked_next c.args.form.now c.in-Some.day c.in-Some.next c.in-Some.ensures

pub returns-in-Some-clause-taken : goal.returns-in-Some-clause-taken
returns-in-Some-clause-taken g c = λ plan is.
    on_ok _ _ c.take_day.result
    (leads_too c.args.world.now c.take_day.new.world (take_line plan c.args.world.now.net c.args.plans.now c.args.form.now)
    (take_planned plan c.args.world.now.net c.in-Some.day c.in-Some.next)
    (asked_is plan c.args.world.now.net c.args.plans.now c.args.form.now c.in-Some.day c.in-Some.next c.in-Some.ensures))
    (c.take_day.ensures.taken plan is)

pub returns-in-Some-clause-stopped : goal.returns-in-Some-clause-stopped
returns-in-Some-clause-stopped g c = λ plan is.
    if_err _ _ c.take_day.result
    (λ t. halts_too c.args.world.now (take_line plan c.args.world.now.net c.args.plans.now c.args.form.now)
    (take_planned plan c.args.world.now.net c.in-Some.day c.in-Some.next) t
    (asked_is plan c.args.world.now.net c.args.plans.now c.args.form.now c.in-Some.day c.in-Some.next c.in-Some.ensures))
    (c.take_day.ensures.stopped plan is)
