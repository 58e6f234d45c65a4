use Rattle.std.proofs.Common.{sym}
use Rattle.model.specs.History.{view_of}
use Rattle.dependencies.proofs.Found.{stream_planned}
use Rattle.ready_index.proofs.waits.waits_here.Goals as goal

pub waits_in-requires : goal.waits_in-requires
waits_in-requires c = stream_planned (view_of c.args.o.now) c.args.s c.in-Some.doc.now (sym c.in-Some.ensures)
