use Rattle.model.specs.History.{view_of}
use Rattle.event_audit.proofs.Behind.{clash}
use Rattle.event_audit.proofs.Document.{deps_so, document_so, head_so, jobs_so}
use Rattle.event_audit.proofs.draft_documents.is_document_of.Goals as goal

pub returns-then-not-has_head : goal.returns-then-not-has_head
returns-then-not-has_head c = (
  λ f. cc,
  λ e. clash (c.has_head.ensures.1 (head_so (view_of c.args.owners.now) c.args.draft.now c.args.doc.now e))
      c.if-not-has_head.true,
)

pub returns-then-not-are_resolved_as : goal.returns-then-not-are_resolved_as
returns-then-not-are_resolved_as c = (
  λ f. cc,
  λ e. clash (c.are_resolved_as.ensures.1 (deps_so (view_of c.args.owners.now) c.args.draft.now c.args.doc.now e))
      c.if-not-are_resolved_as.true,
)

pub returns : goal.returns
returns c = (
  λ t. document_so (view_of c.args.owners.now) c.args.draft.now c.args.doc.now
      (c.has_head.ensures.0 c.if-not-has_head.false) (c.are_resolved_as.ensures.0 c.if-not-are_resolved_as.false)
      (c.has_jobs.ensures.0 t),
  λ e. c.has_jobs.ensures.1 (jobs_so (view_of c.args.owners.now) c.args.draft.now c.args.doc.now e),
)
