use Rattle.std.proofs.Common.{◌≡◌, Err, List, None, Ok, Option, Some, ap, inr, rules, subst, ℕ}
use Rattle.model.specs.Types.{Input, Next}
use Rattle.agent_core.specs.declared.faults.StepFault.{StepFault}
use Rattle.node_replies.specs.declared.replies.Refusal.{Refusal}
use Rattle.node_inputs.specs.declared.ends.NodeEnd.TheVariants.{NoMemory}
use Rattle.node_inputs.specs.Doings.{Does, DoesOutside, end_of}
use Rattle.node_inputs.specs.Stepping.{TakesTelling}
use Rattle.node_inputs.specs.Tellings.{told_by}
use Rattle.node_inputs.proofs.Doing.{did_as, did_outside, did_then, out_as, out_stop}
use Rattle.node_inputs.proofs.Taking.{did_answer}
use Rattle.node_lines.specs.Lines.{Refuse, Say, plan_text}
use Rattle.node_lines.proofs.Serving.{served, served_end, served_refused}
use Rattle.node_lines.proofs.orders.make_plan.Goals as goal

pub returns-in_err-take_or_tell-clause-does : goal.returns-in_err-take_or_tell-clause-does
returns-in_err-take_or_tell-clause-does g c = λ clock files.
    let is : c.from_residual.result ≡ Err c.in_err-take_or_tell.field-0.0 = search rules in
    did_answer c.from_residual.result (Some c.in_err-take_or_tell.field-0.0) (ap end_of is)
    (did_as (λ trace h. served_end (Input.Local (Next c.args.drafts)) plan_text c.args.agent.now trace c.in_err-take_or_tell.field-0.0 c.take_or_tell.new.agent h)
    (c.in_err-take_or_tell.ensures.does clock files))

pub returns-in_err-text-in-None-clause-does : goal.returns-in_err-text-in-None-clause-does
returns-in_err-text-in-None-clause-does g c = λ clock files.
    let is : c.from_residual-in_err-text-in-None.result ≡ Err NoMemory = search rules in
    let told = told_by (g.L.Link.calls c.take_or_tell.new.link) (g.J.Spawner.calls c.take_or_tell.new.jobs) clock files in
    did_answer c.from_residual-in_err-text-in-None.result (Some NoMemory) (ap end_of is)
    (served (Input.Local (Next c.args.drafts)) plan_text
    (subst (λ (o : Option StepFault). Does g.K.Keeper.kept g.K.Keeper.size g.K.Keeper.faults g.K.Keeper.moment g.K.Keeper.may_leave g.K.Keeper.left_since g.K.Keeper.opens_since
    (TakesTelling (Input.Local (Next c.args.drafts)) (Ok o)) c.args.agent.now c.take_or_tell.new.agent c.args.keeper.now c.take_or_tell.new.keeper
    (told_by (g.L.Link.calls c.args.link.now) (g.J.Spawner.calls c.args.jobs.now) clock files) told None) c.in-None.is (c.in_ok-take_or_tell.ensures.does clock files))
    (did_outside g.K.Keeper.spent c.take_or_tell.new.keeper c.in_ok-take_or_tell.ensures.ready (out_as (λ trace h. inr h) (out_stop NoMemory c.take_or_tell.new.agent told))))

pub returns-in-None-clause-does : goal.returns-in-None-clause-does
returns-in-None-clause-does g c = λ clock files.
    let told = told_by (g.L.Link.calls c.take_or_tell.new.link) (g.J.Spawner.calls c.take_or_tell.new.jobs) clock files in
    served (Input.Local (Next c.args.drafts)) plan_text
    (subst (λ (o : Option StepFault). Does g.K.Keeper.kept g.K.Keeper.size g.K.Keeper.faults g.K.Keeper.moment g.K.Keeper.may_leave g.K.Keeper.left_since g.K.Keeper.opens_since
    (TakesTelling (Input.Local (Next c.args.drafts)) (Ok o)) c.args.agent.now c.take_or_tell.new.agent c.args.keeper.now c.take_or_tell.new.keeper
    (told_by (g.L.Link.calls c.args.link.now) (g.J.Spawner.calls c.args.jobs.now) clock files) told None) c.in-None.is (c.in_ok-take_or_tell.ensures.does clock files))
    (did_outside g.K.Keeper.spent c.take_or_tell.new.keeper c.in_ok-take_or_tell.ensures.ready
    (subst (λ (t : List ℕ). DoesOutside (Say t) c.take_or_tell.new.agent c.take_or_tell.new.agent told (told_by (g.L.Link.calls c.say.new.link) (g.J.Spawner.calls c.take_or_tell.new.jobs) clock files) (end_of c.say.result)) c.in_ok-text-in-None.ensures
    (c.say.ensures c.take_or_tell.new.agent (g.J.Spawner.calls c.take_or_tell.new.jobs) clock files)))

pub returns-clause-does : goal.returns-clause-does
returns-clause-does g c = λ clock files.
    let told = told_by (g.L.Link.calls c.take_or_tell.new.link) (g.J.Spawner.calls c.take_or_tell.new.jobs) clock files in
    did_as (λ trace h. served_refused c.in-Some.fault (Input.Local (Next c.args.drafts)) plan_text c.args.agent.now trace (end_of c.refuse_for.result) c.take_or_tell.new.agent h)
    (did_then
    (subst (λ (o : Option StepFault). Does g.K.Keeper.kept g.K.Keeper.size g.K.Keeper.faults g.K.Keeper.moment g.K.Keeper.may_leave g.K.Keeper.left_since g.K.Keeper.opens_since
    (TakesTelling (Input.Local (Next c.args.drafts)) (Ok o)) c.args.agent.now c.take_or_tell.new.agent c.args.keeper.now c.take_or_tell.new.keeper
    (told_by (g.L.Link.calls c.args.link.now) (g.J.Spawner.calls c.args.jobs.now) clock files) told None) c.in-Some.is (c.in_ok-take_or_tell.ensures.does clock files))
    (did_outside g.K.Keeper.spent c.take_or_tell.new.keeper c.in_ok-take_or_tell.ensures.ready
    (subst (λ (w : Option Refusal). DoesOutside (Refuse w) c.take_or_tell.new.agent c.take_or_tell.new.agent told (told_by (g.L.Link.calls c.refuse_for.new.link) (g.J.Spawner.calls c.take_or_tell.new.jobs) clock files) (end_of c.refuse_for.result)) c.step_refusal.ensures
    (c.refuse_for.ensures c.take_or_tell.new.agent (g.J.Spawner.calls c.take_or_tell.new.jobs) clock files))))
