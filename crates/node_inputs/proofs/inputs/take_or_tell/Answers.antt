use Rattle.std.proofs.Common.{◌≡◌, Err, Ok, Result, ap, inl, rules, subst, sym}
use Rattle.model.specs.Network.{node_count}
use Rattle.model.specs.Types.{Net}
use Rattle.agent_core.specs.Steps.{IsTaken}
use Rattle.agent_core.specs.declared.faults.Step.{Step}
use Rattle.agent_core.specs.declared.faults.StepFault.{StepFault}
use Rattle.node_inputs.specs.Inputs.{Follow}
use Rattle.node_inputs.specs.Stepping.{IsPassed, IsStepped}
use Rattle.node_inputs.specs.Tellings.{told_by}
use Rattle.node_inputs.proofs.Doing.{did_as, did_end, did_outside, did_then}
use Rattle.node_inputs.proofs.Keepable.{kept_keepable, taken_keepable}
use Rattle.node_inputs.proofs.Taking.{did_takes, did_telling, passed_told, stepped_end}
use Rattle.node_inputs.proofs.Within.{taken_within}
use Rattle.node_inputs.proofs.inputs.take_or_tell.Goals as goal

pub returns-in_err-step-clause-does : goal.returns-in_err-step-clause-does
returns-in_err-step-clause-does g c = λ clock files.
    let is : c.from_residual.result ≡ Err c.in_err-step.field-0.0 = search rules in
    did_telling c.args.input.now c.from_residual.result c.in_err-step.field-0.0 is
    (did_outside g.K.Keeper.spent c.args.keeper.now c.requires.ready
    (stepped_end Follow c.args.input.now c.args.agent.now c.step.new.agent c.in_err-step.field-0.0
    (told_by (g.L.Link.calls c.args.link.now) (g.J.Spawner.calls c.args.jobs.now) clock files) c.in_err-step.ensures))

pub returns-in-Err-clause-does : goal.returns-in-Err-clause-does
returns-in-Err-clause-does g c = λ clock files.
    let passed : IsPassed c.args.agent.now c.args.input.now c.in-Err.fault c.step.new.agent = subst (λ (r : Result Step StepFault). IsStepped c.args.agent.now c.args.input.now (Ok r) c.step.new.agent) c.in-Err.is c.in_ok-step.ensures in
    did_outside g.K.Keeper.spent c.args.keeper.now c.requires.ready
    (passed_told c.args.input.now c.args.agent.now c.step.new.agent c.in-Err.fault
    (told_by (g.L.Link.calls c.args.link.now) (g.J.Spawner.calls c.args.jobs.now) clock files) passed)

pub keep_entry-requires-clause-keepable : goal.keep_entry-requires-clause-keepable
keep_entry-requires-clause-keepable g c =
    let taken : IsTaken c.args.agent.now c.args.input.now c.in-Ok.step c.step.new.agent = subst (λ (r : Result Step StepFault). IsStepped c.args.agent.now c.args.input.now (Ok r) c.step.new.agent) c.in-Ok.is c.in_ok-step.ensures in
    taken_keepable c.args.agent.now c.step.new.agent c.args.input.now c.in-Ok.step c.requires.keepable c.requires.fit taken

pub returns-in_err-keep_entry-clause-does : goal.returns-in_err-keep_entry-clause-does
returns-in_err-keep_entry-clause-does g c = λ clock files.
    let taken : IsTaken c.args.agent.now c.args.input.now c.in-Ok.step c.step.new.agent = subst (λ (r : Result Step StepFault). IsStepped c.args.agent.now c.args.input.now (Ok r) c.step.new.agent) c.in-Ok.is c.in_ok-step.ensures in
    let told = told_by (g.L.Link.calls c.args.link.now) (g.J.Spawner.calls c.args.jobs.now) clock files in
    let is : c.from_residual-in_err-keep_entry.result ≡ Err c.in_err-keep_entry.field-0.0 = search rules in
    did_telling c.args.input.now c.from_residual-in_err-keep_entry.result c.in_err-keep_entry.field-0.0 is
    (did_as (λ trace h. inl (inl h)) (did_takes c.args.input.now c.in-Ok.step taken
    (did_end (Follow c.args.agent.now c.in-Ok.step) (c.in_err-keep_entry.ensures.does c.step.new.agent told))))

pub follow-requires-clause-keepable : goal.follow-requires-clause-keepable
follow-requires-clause-keepable g c =
    let taken : IsTaken c.args.agent.now c.args.input.now c.in-Ok.step c.step.new.agent = subst (λ (r : Result Step StepFault). IsStepped c.args.agent.now c.args.input.now (Ok r) c.step.new.agent) c.in-Ok.is c.in_ok-step.ensures in
    kept_keepable c.args.agent.now c.step.new.agent c.args.input.now c.in-Ok.step c.requires.keepable c.requires.fit taken

pub follow-requires-clause-within : goal.follow-requires-clause-within
follow-requires-clause-within g c =
    let taken : IsTaken c.args.agent.now c.args.input.now c.in-Ok.step c.step.new.agent = subst (λ (r : Result Step StepFault). IsStepped c.args.agent.now c.args.input.now (Ok r) c.step.new.agent) c.in-Ok.is c.in_ok-step.ensures in
    taken_within c.args.agent.now c.step.new.agent c.args.input.now c.in-Ok.step c.neighbours-before.ensures.few taken

pub returns-in_err-follow-clause-does : goal.returns-in_err-follow-clause-does
returns-in_err-follow-clause-does g c = λ clock files.
    let taken : IsTaken c.args.agent.now c.args.input.now c.in-Ok.step c.step.new.agent = subst (λ (r : Result Step StepFault). IsStepped c.args.agent.now c.args.input.now (Ok r) c.step.new.agent) c.in-Ok.is c.in_ok-step.ensures in
    let told = told_by (g.L.Link.calls c.args.link.now) (g.J.Spawner.calls c.args.jobs.now) clock files in
    let is : c.from_residual-in_err-follow.result ≡ Err c.in_err-follow.field-0.0 = search rules in
    did_telling c.args.input.now c.from_residual-in_err-follow.result c.in_err-follow.field-0.0 is
    (did_as (λ trace h. inl (inl h)) (did_takes c.args.input.now c.in-Ok.step taken
    (did_then (c.in_ok-keep_entry.ensures.does c.step.new.agent told)
    (c.in_err-follow.ensures.does c.args.agent.now clock files c.neighbours-before.ensures.told (ap (λ (n : Net). node_count n) (sym taken.net_))))))

pub returns-clause-does : goal.returns-clause-does
returns-clause-does g c = λ clock files.
    let taken : IsTaken c.args.agent.now c.args.input.now c.in-Ok.step c.step.new.agent = subst (λ (r : Result Step StepFault). IsStepped c.args.agent.now c.args.input.now (Ok r) c.step.new.agent) c.in-Ok.is c.in_ok-step.ensures in
    let told = told_by (g.L.Link.calls c.args.link.now) (g.J.Spawner.calls c.args.jobs.now) clock files in
    did_takes c.args.input.now c.in-Ok.step taken
    (did_then (c.in_ok-keep_entry.ensures.does c.step.new.agent told)
    (c.in_ok-follow.ensures.does c.args.agent.now clock files c.neighbours-before.ensures.told (ap (λ (n : Net). node_count n) (sym taken.net_))))
