use Rattle.std.proofs.Common.{sym}
use Rattle.model.specs.History.{view_of}
use Rattle.owner_fold.specs.DocPlaces.{stream_job}
use Rattle.dependencies.proofs.Found.{job_planned}
use Rattle.symphony_view.proofs.states.job_state.Goals as goal

pub state_of_job-requires : goal.state_of_job-requires
state_of_job-requires c =
    job_planned (view_of c.args.o.now) c.args.j (stream_job c.in-Some.parent.now c.in-Some.doc.now)
    (sym c.in-Some.ensures)
