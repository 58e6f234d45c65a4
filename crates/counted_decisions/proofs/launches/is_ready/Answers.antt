use Rattle.std.proofs.Common.{sym}
use Rattle.owner_fold.specs.DocPlaces.{stream_job}
use Rattle.dependencies.proofs.Found.{job_planned}
use Rattle.counted_decisions.specs.Sights.{seen_in}
use Rattle.counted_decisions.proofs.launches.is_ready.Goals as goal

pub is_ready_in-requires-clause-planned : goal.is_ready_in-requires-clause-planned
is_ready_in-requires-clause-planned c =
    job_planned (seen_in c.args.sight.now) c.args.j (stream_job c.in-Some.parent.now c.in-Some.doc.now)
    (sym c.in-Some.ensures)
