use Rattle.std.proofs.Common.{◌∙◌, sym}
use Rattle.model.specs.History.{view_of}
use Rattle.owner_fold.specs.DocPlaces.{stream_job}
use Rattle.dependencies.specs.Planned.{IsPlannedJob}
use Rattle.dependencies.proofs.Found.{job_planned}
use Rattle.ready_index.proofs.Standings.{candidate_dropped, idle_by_owner}
use Rattle.ready_index.proofs.jobs.JobIndex.drop_launched.Goals as goal

pub place-requires : goal.place-requires
place-requires c =
    job_planned (view_of c.args.o.now) c.args.number (stream_job c.in-Some.parent.now c.in-Some.doc.now)
    (sym c.in-Some.ensures)

pub returns-then-not-is_due : goal.returns-then-not-is_due
returns-then-not-is_due c =
    let V = view_of c.args.o.now in
    let p = stream_job c.in-Some.parent.now c.in-Some.doc.now in
    let planned : IsPlannedJob V p = job_planned V c.args.number p (sym c.in-Some.ensures) in
    candidate_dropped V c.args.w c.place.result p c.args.self.now c.remove.new.self
    (idle_by_owner V c.args.w p planned (sym c.eq.ensures ∙ c.if-eq.true)
    (sym c.is_due.ensures ∙ c.if-not-is_due.true))
    planned c.place.ensures c.remove.ensures
