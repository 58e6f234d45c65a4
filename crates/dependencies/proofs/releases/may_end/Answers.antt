use Rattle.std.proofs.Common.{sym}
use Rattle.model.specs.History.{view_of}
use Rattle.dependencies.proofs.Found.{stream_planned}
use Rattle.dependencies.proofs.releases.may_end.Goals as goal

pub may_end_in-requires : goal.may_end_in-requires
may_end_in-requires c = stream_planned (view_of c.args.o.now) c.args.s c.in-Some.doc.now (sym c.in-Some.ensures)
