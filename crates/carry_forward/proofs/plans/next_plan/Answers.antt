use Rattle.std.proofs.Common.{◌∙◌, ◌≡◌, Some, ap, arith, nat_le, sym}
use Rattle.model.specs.History.{view_of}
use Rattle.model.specs.NewPlan.{documents}
use Rattle.carry_forward.specs.declared.faults.CarryFault.TheVariants.{NumbersSpent}
use Rattle.carry_forward.proofs.Causes.{carried_in, numbers_next, plan_room, plan_so, run_left, spent_so}
use Rattle.carry_forward.proofs.plans.next_plan.Goals as goal

pub returns-then-are_spent-clause-causes : goal.returns-then-are_spent-clause-causes
returns-then-are_spent-clause-causes c =
    λ f e k.
    let same : NumbersSpent ≡ f = cc in
    numbers_next c.args.net.now (view_of c.args.o.now) c.args.drafts.now
    (ap (nat_le 4294967295) (sym c.run-run.ensures) ∙ run_left c.run-run.result (omega arith))
    (spent_so (view_of c.args.o.now) c.args.drafts.now c.as_slice.result.now c.last_stream.result c.last_job.result
    c.are_spent.result c.as_slice.ensures c.last_stream.ensures c.last_job.ensures c.are_spent.ensures
    ∙ c.if-are_spent.true)
    ∙ ap Some same

pub returns-in-Some-clause-causes : goal.returns-in-Some-clause-causes
returns-in-Some-clause-causes c =
    λ f e k.
    let same : c.in-Some.fault ≡ f = cc in
    plan_room c.args.net.now (view_of c.args.o.now) c.args.drafts.now c.as_slice-3.result.now c.as_slice-2.result.now c.in_ok-full.full
    (ap (nat_le 4294967295) (sym c.run-run.ensures) ∙ run_left c.run-run.result (omega arith))
    (spent_so (view_of c.args.o.now) c.args.drafts.now c.as_slice.result.now c.last_stream.result c.last_job.result
    c.are_spent.result c.as_slice.ensures c.last_stream.ensures c.last_job.ensures c.are_spent.ensures
    ∙ c.if-are_spent.false)
    c.as_slice-3.ensures (c.as_slice-2.ensures ∙ carried_in c.args.net.now c.net.result.now (view_of c.args.o.now) c.in_ok-carried.carried c.net.ensures.value c.in_ok-carried.ensures) c.in_ok-full.ensures
    ∙ (c.in-Some.is ∙ ap Some same)

pub returns-clause-value : goal.returns-clause-value
returns-clause-value c =
    plan_so c.args.net.now (view_of c.args.o.now) c.args.drafts.now c.run-run.result c.in_ok-cut.cut
    c.in_ok-carried.carried c.in_ok-shared.shared c.run-run.ensures c.in_ok-cut.ensures (carried_in c.args.net.now c.net.result.now (view_of c.args.o.now) c.in_ok-carried.carried c.net.ensures.value c.in_ok-carried.ensures)
    (c.in_ok-shared.ensures ∙ c.in_ok-docs.ensures ∙ (λ p. documents (view_of c.args.o.now) (c.as_slice-4.ensures p) (c.as_slice-5.ensures p)))

pub returns-clause-accepted : goal.returns-clause-accepted
returns-clause-accepted c =
    λ e.
    plan_room c.args.net.now (view_of c.args.o.now) c.args.drafts.now c.as_slice-3.result.now c.as_slice-2.result.now c.in_ok-full.full
    (ap (nat_le 4294967295) (sym c.run-run.ensures) ∙ run_left c.run-run.result (omega arith))
    (spent_so (view_of c.args.o.now) c.args.drafts.now c.as_slice.result.now c.last_stream.result c.last_job.result
    c.are_spent.result c.as_slice.ensures c.last_stream.ensures c.last_job.ensures c.are_spent.ensures
    ∙ c.if-are_spent.false)
    c.as_slice-3.ensures (c.as_slice-2.ensures ∙ carried_in c.args.net.now c.net.result.now (view_of c.args.o.now) c.in_ok-carried.carried c.net.ensures.value c.in_ok-carried.ensures) c.in_ok-full.ensures
    ∙ c.in-None.is
