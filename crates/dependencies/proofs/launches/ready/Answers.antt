use Rattle.std.proofs.Common.{sym}
use Rattle.model.specs.History.{view_of}
use Rattle.owner_fold.specs.DocPlaces.{stream_job}
use Rattle.dependencies.proofs.Found.{job_planned}
use Rattle.dependencies.proofs.launches.ready.Goals as goal

pub is_ready_in-requires : goal.is_ready_in-requires
is_ready_in-requires c =
    job_planned (view_of c.args.o.now) c.args.j (stream_job c.in-Some.parent.now c.in-Some.doc.now)
    (sym c.in-Some.ensures)
