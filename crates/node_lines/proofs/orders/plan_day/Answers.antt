use Rattle.std.proofs.Common.{◌≡◌, None, Some, false, inr, rules, true}
use Rattle.std.specs.Prelude.{◌==◌, nat_le}
use Rattle.calendars.specs.Dates.{last_day}
use Rattle.plan_builder.specs.Limits.{plan_fault}
use Rattle.plan_builder.specs.declared.faults.PlanFault.TheVariants.{Limit, OutOfRange}
use Rattle.node_inputs.specs.declared.ends.NodeEnd.TheVariants.{NoMemory}
use Rattle.node_inputs.specs.Doings.{end_of}
use Rattle.node_inputs.specs.Tellings.{told_by}
use Rattle.node_inputs.proofs.Doing.{did_as, did_outside, out_as, out_stop}
use Rattle.node_lines.proofs.Serving.{in_time, no_fault, not_master, too_late, with_drafts, without_drafts}
use Rattle.node_lines.proofs.orders.plan_day.Goals as goal

pub returns-then-me-ne0-clause-does : goal.returns-then-me-ne0-clause-does
returns-then-me-ne0-clause-does g c = λ clock files.
    let other : (c.args.agent.now.me == 0) ≡ false = search rules in
    did_outside g.K.Keeper.spent c.args.keeper.now c.requires.ready
    (out_as (λ trace h. not_master c.args.workload.now c.args.day c.args.agent.now trace (end_of c.refuse.result) c.args.agent.now other h)
    (c.refuse.ensures c.args.agent.now (g.J.Spawner.calls c.args.jobs.now) clock files))

pub returns-then-day-gt-LAST_DAY-clause-does : goal.returns-then-day-gt-LAST_DAY-clause-does
returns-then-day-gt-LAST_DAY-clause-does g c = λ clock files.
    let master : (c.args.agent.now.me == 0) ≡ true = search rules in
    let late : nat_le c.args.day last_day ≡ false = search rules in
    did_outside g.K.Keeper.spent c.args.keeper.now c.requires.ready
    (out_as (λ trace h. too_late c.args.workload.now c.args.day c.args.agent.now trace _ c.args.agent.now master late h)
    (c.refuse-then-day-gt-LAST_DAY.ensures c.args.agent.now (g.J.Spawner.calls c.args.jobs.now) clock files))

pub returns-in-Ok-clause-does : goal.returns-in-Ok-clause-does
returns-in-Ok-clause-does g c = λ clock files.
    let master : (c.args.agent.now.me == 0) ≡ true = search rules in
    let fits : nat_le c.args.day last_day ≡ true = search rules in
    let none : plan_fault c.args.workload.now c.args.day ≡ None = no_fault c.day_docs.result c.in-Ok.drafts (plan_fault c.args.workload.now c.args.day) c.day_docs.ensures.refused c.in-Ok.is in
    did_as (λ trace h. in_time c.args.workload.now c.args.day c.args.agent.now trace (end_of c.make_plan.result) c.make_plan.new.agent master fits
    (with_drafts c.args.workload.now c.args.day c.in-Ok.drafts c.args.agent.now trace (end_of c.make_plan.result) c.make_plan.new.agent none c.in-Ok.ensures.drafts h))
    (c.make_plan.ensures.does clock files)

pub returns-in-Err-Limit-clause-does : goal.returns-in-Err-Limit-clause-does
returns-in-Err-Limit-clause-does g c = λ clock files.
    let master : (c.args.agent.now.me == 0) ≡ true = search rules in
    let fits : nat_le c.args.day last_day ≡ true = search rules in
    let is : plan_fault c.args.workload.now c.args.day ≡ Some (Limit c.in-Err-Limit.field-0-0) = search rules in
    did_outside g.K.Keeper.spent c.args.keeper.now c.requires.ready
    (out_as (λ trace h. in_time c.args.workload.now c.args.day c.args.agent.now trace _ c.args.agent.now master fits
    (without_drafts c.args.workload.now c.args.day (Limit c.in-Err-Limit.field-0-0) c.args.agent.now trace _ c.args.agent.now is h))
    (c.refuse-in-Err-Limit.ensures c.args.agent.now (g.J.Spawner.calls c.args.jobs.now) clock files))

pub returns-in-Err-OutOfRange-clause-does : goal.returns-in-Err-OutOfRange-clause-does
returns-in-Err-OutOfRange-clause-does g c = λ clock files.
    let master : (c.args.agent.now.me == 0) ≡ true = search rules in
    let fits : nat_le c.args.day last_day ≡ true = search rules in
    let is : plan_fault c.args.workload.now c.args.day ≡ Some (OutOfRange c.in-Err-OutOfRange.field-0-0) = search rules in
    did_outside g.K.Keeper.spent c.args.keeper.now c.requires.ready
    (out_as (λ trace h. in_time c.args.workload.now c.args.day c.args.agent.now trace _ c.args.agent.now master fits
    (without_drafts c.args.workload.now c.args.day (OutOfRange c.in-Err-OutOfRange.field-0-0) c.args.agent.now trace _ c.args.agent.now is h))
    (c.refuse-in-Err-OutOfRange.ensures c.args.agent.now (g.J.Spawner.calls c.args.jobs.now) clock files))

pub returns-in-Err-NoMemory-clause-does : goal.returns-in-Err-NoMemory-clause-does
returns-in-Err-NoMemory-clause-does g c = λ clock files.
    let master : (c.args.agent.now.me == 0) ≡ true = search rules in
    let fits : nat_le c.args.day last_day ≡ true = search rules in
    did_outside g.K.Keeper.spent c.args.keeper.now c.requires.ready
    (out_as (λ trace h. in_time c.args.workload.now c.args.day c.args.agent.now trace (Some NoMemory) c.args.agent.now master fits (inr h))
    (out_stop NoMemory c.args.agent.now (told_by (g.L.Link.calls c.args.link.now) (g.J.Spawner.calls c.args.jobs.now) clock files)))
