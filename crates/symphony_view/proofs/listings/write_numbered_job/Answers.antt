use Rattle.std.proofs.Common.{sym}
use Rattle.model.specs.History.{view_of}
use Rattle.owner_fold.specs.DocPlaces.{stream_job}
use Rattle.dependencies.proofs.Found.{job_planned}
use Rattle.symphony_view.proofs.listings.write_numbered_job.Goals as goal

pub write_job-requires : goal.write_job-requires
write_job-requires c =
    job_planned (view_of c.args.o.now) c.args.job.now.no (stream_job c.in-Some.parent.now c.in-Some.doc.now)
    (sym c.in-Some.ensures)
