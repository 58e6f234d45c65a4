use Rattle.std.proofs.Common.{refl}
use Rattle.outside.specs.Calls.{Asked}
use Rattle.node_inputs.specs.Traces.{Event}
use Rattle.node_inputs.proofs.Doing.{did_outside, did_then, out_call}
use Rattle.node_inputs.proofs.Telling.{ask_told}
use Rattle.node_inputs.specs.Tellings.{told_by}
use Rattle.node_inputs.proofs.links.lose.Goals as goal

pub returns-clause-does : goal.returns-clause-does
returns-clause-does g c = λ jobs clock files.
    did_then
    (did_outside g.K.Keeper.spent c.args.keeper.now c.requires.ready
    (out_call (Event.Asks (Asked.Close c.args.x)) c.args.agent.now refl
    (ask_told jobs clock files (g.L.Link.calls c.args.link.now) (g.L.Link.calls c.close.new.self) (Asked.Close c.args.x) c.close.ensures.calls)))
    (c.take_quietly.ensures.does (told_by (g.L.Link.calls c.close.new.self) jobs clock files))
