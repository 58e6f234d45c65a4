use Rattle.std.proofs.Common.{sym}
use Rattle.model.specs.History.{view_of}
use Rattle.dependencies.proofs.Found.{stream_planned}
use Rattle.symphony_view.proofs.states.stream_state.Goals as goal

pub state_of_stream-requires : goal.state_of_stream-requires
state_of_stream-requires c =
    stream_planned (view_of c.args.o.now) c.args.s c.in-Some.doc.now (sym c.in-Some.ensures)
