use Rattle.std.proofs.Common.{rules, ap, subst, ◌≡◌, Err, Ok, Result, Some}
use Rattle.lemmas.proofs.Results.{on_ok}
use Rattle.agent_core.specs.Steps.{IsTaken}
use Rattle.agent_core.specs.declared.faults.Step.{Step}
use Rattle.agent_core.specs.declared.faults.StepFault.{StepFault}
use Rattle.node_inputs.specs.Actions.{Nothing}
use Rattle.node_inputs.specs.Doings.{end_of}
use Rattle.node_inputs.specs.Stepping.{IsPassed, IsStepped}
use Rattle.node_inputs.proofs.Doing.{did_outside}
use Rattle.node_inputs.proofs.Keepable.{kept_keepable, taken_keepable}
use Rattle.node_inputs.proofs.Taking.{did_answer, did_quietly, passed_quietly, stepped_end}
use Rattle.node_inputs.proofs.steps.take_quietly.Goals as goal

pub returns-in_err-step-clause-does : goal.returns-in_err-step-clause-does
returns-in_err-step-clause-does g c = λ told.
    let is : c.from_residual.result ≡ Err c.in_err-step.field-0.0 = search rules in
    did_answer c.from_residual.result (Some c.in_err-step.field-0.0) (ap end_of is)
    (did_outside g.K.Keeper.spent c.args.keeper.now c.requires.ready
    (stepped_end (λ before step. Nothing) c.args.input.now c.args.agent.now c.step.new.agent c.in_err-step.field-0.0 told c.in_err-step.ensures))

pub keep_entry-requires-clause-keepable : goal.keep_entry-requires-clause-keepable
keep_entry-requires-clause-keepable g c =
    let taken : IsTaken c.args.agent.now c.args.input.now c.in-Ok.step c.step.new.agent = subst (λ (r : Result Step StepFault). IsStepped c.args.agent.now c.args.input.now (Ok r) c.step.new.agent) c.in-Ok.is c.in_ok-step.ensures in
    taken_keepable c.args.agent.now c.step.new.agent c.args.input.now c.in-Ok.step c.requires.keepable c.requires.fit taken

pub returns-in-Ok-clause-does : goal.returns-in-Ok-clause-does
returns-in-Ok-clause-does g c = λ told.
    let taken : IsTaken c.args.agent.now c.args.input.now c.in-Ok.step c.step.new.agent = subst (λ (r : Result Step StepFault). IsStepped c.args.agent.now c.args.input.now (Ok r) c.step.new.agent) c.in-Ok.is c.in_ok-step.ensures in
    did_quietly c.args.input.now c.in-Ok.step taken (c.keep_entry.ensures.does c.step.new.agent told)

pub returns-in-Ok-clause-keepable : goal.returns-in-Ok-clause-keepable
returns-in-Ok-clause-keepable g c =
    let taken : IsTaken c.args.agent.now c.args.input.now c.in-Ok.step c.step.new.agent = subst (λ (r : Result Step StepFault). IsStepped c.args.agent.now c.args.input.now (Ok r) c.step.new.agent) c.in-Ok.is c.in_ok-step.ensures in
    on_ok c.keep_entry.result
    (kept_keepable c.args.agent.now c.step.new.agent c.args.input.now c.in-Ok.step c.requires.keepable c.requires.fit taken)

pub returns-in-Err-clause-does : goal.returns-in-Err-clause-does
returns-in-Err-clause-does g c = λ told.
    let passed : IsPassed c.args.agent.now c.args.input.now c.in-Err.field-0 c.step.new.agent = subst (λ (r : Result Step StepFault). IsStepped c.args.agent.now c.args.input.now (Ok r) c.step.new.agent) c.in-Err.is c.in_ok-step.ensures in
    did_outside g.K.Keeper.spent c.args.keeper.now c.requires.ready
    (passed_quietly (λ before step. Nothing) c.args.input.now c.args.agent.now c.step.new.agent c.in-Err.field-0 told passed)
