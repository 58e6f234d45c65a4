use Rattle.model.specs.History.{view_of}
use Rattle.event_audit.proofs.Behind.{clash}
use Rattle.event_audit.proofs.Document.{job_deps_so, job_no_so, job_so, job_work_so}
use Rattle.event_audit.proofs.draft_documents.is_job_of.Goals as goal

pub returns-then-not-has_number : goal.returns-then-not-has_number
returns-then-not-has_number c = (
  λ f. cc,
  λ e. clash
      (c.has_number.ensures.1 (job_no_so (view_of c.args.owners.now) c.args.draft.now c.args.number c.args.job.now
      c.args.doc.now e)) c.if-not-has_number.true,
)

pub returns-then-not-has_work : goal.returns-then-not-has_work
returns-then-not-has_work c = (
  λ f. cc,
  λ e. clash
      (c.has_work.ensures.1 (job_work_so (view_of c.args.owners.now) c.args.draft.now c.args.number c.args.job.now
      c.args.doc.now e)) c.if-not-has_work.true,
)

pub returns : goal.returns
returns c = (
  λ t. job_so (view_of c.args.owners.now) c.args.draft.now c.args.number c.args.job.now c.args.doc.now
      (c.has_number.ensures.0 c.if-not-has_number.false) (c.has_work.ensures.0 c.if-not-has_work.false)
      (c.are_resolved_as.ensures.0 t),
  λ e. c.are_resolved_as.ensures.1
      (job_deps_so (view_of c.args.owners.now) c.args.draft.now c.args.number c.args.job.now c.args.doc.now e),
)
