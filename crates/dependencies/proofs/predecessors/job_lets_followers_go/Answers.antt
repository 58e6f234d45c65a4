use Rattle.std.proofs.Common.{sym}
use Rattle.model.specs.History.{view_of}
use Rattle.owner_fold.specs.DocPlaces.{stream_job}
use Rattle.dependencies.proofs.Found.{job_planned}
use Rattle.dependencies.proofs.predecessors.job_lets_followers_go.Goals as goal

pub lets_followers_go-requires : goal.lets_followers_go-requires
lets_followers_go-requires c =
    job_planned (view_of c.args.o.now) c.args.j (stream_job c.in-Some.parent.now c.in-Some.doc.now)
    (sym c.in-Some.ensures)
