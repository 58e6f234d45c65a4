use Rattle.std.proofs.Common.{◌≡◌, Err, Ok, inr, rules}
use Rattle.agent_core.specs.Nodes.{present_in, view_in}
use Rattle.conman_orders.specs.Orders.{due_order}
use Rattle.conman_orders.specs.declared.orders.ResolveFault.TheVariants.{NotACommand, UnknownName}
use Rattle.node_inputs.specs.declared.ends.NodeEnd.TheVariants.{NoMemory}
use Rattle.node_inputs.specs.Doings.{end_of}
use Rattle.node_inputs.specs.Tellings.{told_by}
use Rattle.node_inputs.proofs.Doing.{did_as, did_outside, out_as, out_nothing, out_stop}
use Rattle.node_lines.proofs.Serving.{ordered}
use Rattle.node_lines.proofs.orders.order.Goals as goal

pub type_it-requires-clause-fit : goal.type_it-requires-clause-fit
type_it-requires-clause-fit g c = c.in-Ok.ensures.fit c.requires.fit.0 c.requires.fit.1

pub returns-in-Ok-clause-does : goal.returns-in-Ok-clause-does
returns-in-Ok-clause-does g c = λ clock files.
    let due : due_order (present_in c.args.agent.now) (view_in c.args.agent.now) c.args.agent.now.me c.args.line.now ≡ Ok (c.in-Ok.to-1-given.0.0.0, c.in-Ok.to-1-given.0.0.1) = search rules in
    did_as (λ trace h. ordered c.args.line.now (Ok (c.in-Ok.to-1-given.0.0.0, c.in-Ok.to-1-given.0.0.1)) c.args.agent.now trace (end_of c.type_it.result) c.type_it.new.agent due h)
    (c.type_it.ensures.does clock files)

pub returns-in-Err-UnknownName-clause-does : goal.returns-in-Err-UnknownName-clause-does
returns-in-Err-UnknownName-clause-does g c = λ clock files.
    let due : due_order (present_in c.args.agent.now) (view_in c.args.agent.now) c.args.agent.now.me c.args.line.now ≡ Err (UnknownName c.in-Err-UnknownName.field-0-0) = search rules in
    did_outside g.K.Keeper.spent c.args.keeper.now c.requires.ready
    (out_as (λ trace h. ordered c.args.line.now (Err (UnknownName c.in-Err-UnknownName.field-0-0)) c.args.agent.now trace (end_of c.refuse.result) c.args.agent.now due h)
    (c.refuse.ensures c.args.agent.now (g.J.Spawner.calls c.args.jobs.now) clock files))

pub returns-in-Err-NotACommand-clause-does : goal.returns-in-Err-NotACommand-clause-does
returns-in-Err-NotACommand-clause-does g c = λ clock files.
    let due : due_order (present_in c.args.agent.now) (view_in c.args.agent.now) c.args.agent.now.me c.args.line.now ≡ Err NotACommand = search rules in
    did_outside g.K.Keeper.spent c.args.keeper.now c.requires.ready
    (out_as (λ trace h. ordered c.args.line.now (Err NotACommand) c.args.agent.now trace _ c.args.agent.now due h)
    (out_nothing c.args.agent.now (told_by (g.L.Link.calls c.args.link.now) (g.J.Spawner.calls c.args.jobs.now) clock files)))

pub returns-in-Err-NoMemory-clause-does : goal.returns-in-Err-NoMemory-clause-does
returns-in-Err-NoMemory-clause-does g c = λ clock files.
    did_outside g.K.Keeper.spent c.args.keeper.now c.requires.ready
    (out_as (λ trace h. inr h) (out_stop NoMemory c.args.agent.now (told_by (g.L.Link.calls c.args.link.now) (g.J.Spawner.calls c.args.jobs.now) clock files)))
