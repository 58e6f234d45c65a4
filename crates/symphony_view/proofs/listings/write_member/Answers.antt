use Rattle.std.proofs.Common.{sym}
use Rattle.model.specs.History.{view_of}
use Rattle.dependencies.proofs.Found.{stream_planned}
use Rattle.symphony_view.proofs.listings.write_member.Goals as goal

pub write_stream-requires : goal.write_stream-requires
write_stream-requires c =
    stream_planned (view_of c.args.o.now) c.args.s c.in-Some.doc.now (sym c.in-Some.ensures)
