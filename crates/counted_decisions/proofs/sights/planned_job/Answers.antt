use Rattle.owner_fold.specs.DocPlaces.{stream_job}
use Rattle.counted_decisions.proofs.Sighted.{job_not_yet, job_there, no_job}
use Rattle.counted_decisions.proofs.sights.planned_job.Goals as goal

pub returns-in-None : goal.returns-in-None
returns-in-None c = no_job c.args.sight.now.owners.now c.args.sight.now.seen.now c.args.j c.in-None.ensures

pub returns-then-is_brought : goal.returns-then-is_brought
returns-then-is_brought c =
    job_there c.args.sight.now.owners.now c.args.sight.now.seen.now c.args.j
    (stream_job c.in-Some.parent.now c.in-Some.doc.now) c.is_brought.result c.in-Some.ensures c.is_brought.ensures
    c.if-is_brought.true

pub returns-else-is_brought : goal.returns-else-is_brought
returns-else-is_brought c =
    job_not_yet c.args.sight.now.owners.now c.args.sight.now.seen.now c.args.j
    (stream_job c.in-Some.parent.now c.in-Some.doc.now) c.is_brought.result c.in-Some.ensures c.is_brought.ensures
    c.if-is_brought.false
