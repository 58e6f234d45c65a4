use Rattle.std.proofs.Common.{sym}
use Rattle.model.specs.History.{view_of}
use Rattle.dependencies.proofs.Found.{stream_planned}
use Rattle.symphony_view.proofs.FitStreams.{stream_fit}
use Rattle.symphony_view.proofs.symphonies.put_member.Goals as goal

pub put_planned-requires-clause-planned : goal.put_planned-requires-clause-planned
put_planned-requires-clause-planned c =
    stream_planned (view_of c.args.o.now) c.args.s c.in-Some.doc.now (sym c.in-Some.ensures)

pub put_planned-requires-clause-fit : goal.put_planned-requires-clause-fit
put_planned-requires-clause-fit c =
    stream_fit c.args.o.now c.args.s c.in-Some.doc.now c.requires (sym c.in-Some.ensures)
