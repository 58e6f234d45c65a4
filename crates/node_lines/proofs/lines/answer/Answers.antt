use Rattle.std.proofs.Common.{◌≡◌, Err, Ok, inr, rules}
use Rattle.conman_syntax.specs.Rows.{due_line}
use Rattle.conman_syntax.specs.declared.faults.CommandFault.TheVariants.{BadArgument, TooMany, UnknownCommand}
use Rattle.node_inputs.specs.declared.ends.NodeEnd.TheVariants.{NoMemory}
use Rattle.node_inputs.specs.Doings.{end_of}
use Rattle.node_inputs.specs.Tellings.{told_by}
use Rattle.node_inputs.proofs.Doing.{did_as, did_outside, out_as, out_stop}
use Rattle.node_lines.proofs.Serving.{answers}
use Rattle.node_lines.proofs.lines.answer.Goals as goal

pub returns-in-Ok-clause-does : goal.returns-in-Ok-clause-does
returns-in-Ok-clause-does g c = λ clock files.
    let due : due_line c.args.text.now ≡ Ok c.in-Ok.line = search rules in
    did_as (λ trace h. answers c.args.workload.now c.args.text.now (Ok c.in-Ok.line) c.args.agent.now trace (end_of c.obey.result) c.obey.new.agent due h)
    (c.obey.ensures.does clock files)

pub returns-in-Err-UnknownCommand-clause-does : goal.returns-in-Err-UnknownCommand-clause-does
returns-in-Err-UnknownCommand-clause-does g c = λ clock files.
    let due : due_line c.args.text.now ≡ Err UnknownCommand = search rules in
    did_outside g.K.Keeper.spent c.args.keeper.now c.requires.ready
    (out_as (λ trace h. answers c.args.workload.now c.args.text.now (Err UnknownCommand) c.args.agent.now trace (end_of c.refuse.result) c.args.agent.now due h)
    (c.refuse.ensures c.args.agent.now (g.J.Spawner.calls c.args.jobs.now) clock files))

pub returns-in-Err-BadArgument-clause-does : goal.returns-in-Err-BadArgument-clause-does
returns-in-Err-BadArgument-clause-does g c = λ clock files.
    let due : due_line c.args.text.now ≡ Err (BadArgument c.in-Err-BadArgument.field-0-0) = search rules in
    did_outside g.K.Keeper.spent c.args.keeper.now c.requires.ready
    (out_as (λ trace h. answers c.args.workload.now c.args.text.now (Err (BadArgument c.in-Err-BadArgument.field-0-0)) c.args.agent.now trace (end_of c.refuse-in-Err-BadArgument.result) c.args.agent.now due h)
    (c.refuse-in-Err-BadArgument.ensures c.args.agent.now (g.J.Spawner.calls c.args.jobs.now) clock files))

pub returns-in-Err-TooMany-clause-does : goal.returns-in-Err-TooMany-clause-does
returns-in-Err-TooMany-clause-does g c = λ clock files.
    let due : due_line c.args.text.now ≡ Err TooMany = search rules in
    did_outside g.K.Keeper.spent c.args.keeper.now c.requires.ready
    (out_as (λ trace h. answers c.args.workload.now c.args.text.now (Err TooMany) c.args.agent.now trace (end_of c.refuse-in-Err-TooMany.result) c.args.agent.now due h)
    (c.refuse-in-Err-TooMany.ensures c.args.agent.now (g.J.Spawner.calls c.args.jobs.now) clock files))

pub returns-in-Err-NoMemory-clause-does : goal.returns-in-Err-NoMemory-clause-does
returns-in-Err-NoMemory-clause-does g c = λ clock files.
    did_outside g.K.Keeper.spent c.args.keeper.now c.requires.ready
    (out_as (λ trace h. inr h) (out_stop NoMemory c.args.agent.now (told_by (g.L.Link.calls c.args.link.now) (g.J.Spawner.calls c.args.jobs.now) clock files)))
