use Rattle.std.proofs.Common.{◌≡◌, ◌∙◌, Err, Some, ap, rules}
use Rattle.node_inputs.specs.declared.ends.NodeEnd.TheVariants.{NoMemory}
use Rattle.node_inputs.specs.Doings.{end_of}
use Rattle.node_inputs.specs.Inputs.{LoseAll, carried_with}
use Rattle.node_inputs.specs.Tellings.{told_by}
use Rattle.node_inputs.proofs.Doing.{did_end, did_outside, did_then}
use Rattle.node_inputs.proofs.Taking.{did_answer, did_give, gave_some}
use Rattle.node_inputs.proofs.inputs.give.Goals as goal

pub returns-in_err-carried-clause-does : goal.returns-in_err-carried-clause-does
returns-in_err-carried-clause-does g c = λ clock files.
    let is : c.from_residual.result ≡ Err c.in_err-carried.field-0.0 = search rules in
    let some = c.in_err-carried.ensures.some.1 clock files in
    did_answer c.from_residual.result (Some NoMemory) (ap end_of is ∙ ap Some c.in_err-carried.ensures.some.0)
    (did_outside g.K.Keeper.spent c.args.keeper.now c.requires.ready (gave_some c.args.agent.now some.0 some.1))

pub returns-in_err-tell-clause-does : goal.returns-in_err-tell-clause-does
returns-in_err-tell-clause-does g c = λ clock files.
    let is : c.from_residual-in_err-tell.result ≡ Err c.in_err-tell.field-0.0 = search rules in
    let all = c.in_ok-carried.ensures.all clock files in
    let told = told_by (g.L.Link.calls c.carry_all.new.link) (g.J.Spawner.calls c.carry_all.new.jobs) clock files in
    did_answer c.from_residual-in_err-tell.result (Some c.in_err-tell.field-0.0) (ap end_of is)
    (did_give (carried_with all.0 c.in_ok-carried.carried.started) all.2 g.K.Keeper.spent c.requires.ready
    (did_end (LoseAll all.0) (c.in_err-tell.ensures.does told)))

pub returns-clause-does : goal.returns-clause-does
returns-clause-does g c = λ clock files.
    let all = c.in_ok-carried.ensures.all clock files in
    let told = told_by (g.L.Link.calls c.carry_all.new.link) (g.J.Spawner.calls c.carry_all.new.jobs) clock files in
    did_give (carried_with all.0 c.in_ok-carried.carried.started) all.2 g.K.Keeper.spent c.requires.ready
    (did_then (c.in_ok-tell.ensures.does told) (c.lose_all.ensures.does all.0 (g.J.Spawner.calls c.carry_all.new.jobs) clock files all.1))
