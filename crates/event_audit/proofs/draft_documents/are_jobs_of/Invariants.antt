use Rattle.std.proofs.Common.{map}
use Rattle.std.specs.List.{enumerate_from}
use Rattle.model.specs.History.{view_of}
use Rattle.event_audit.specs.Drafts.{job_given}
use Rattle.event_audit.proofs.Alike.{AreAlikeBelow}
use Rattle.event_audit.proofs.draft_documents.are_jobs_of.Given as goal

abbrev pub invariant-loop-i : goal.invariant-loop-i
invariant-loop-i l =
    AreAlikeBelow (map (job_given (view_of l.owners) l.draft) (enumerate_from l.fn.first l.drafts)) l.docs l.i
