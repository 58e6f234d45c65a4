use Rattle.std.proofs.Common.{take}
use Rattle.plan_builder.specs.Drafts.{AreJobDrafts}
use Rattle.plan_builder.proofs.drafts.job_drafts.Given as goal

abbrev pub invariant-loop-entry : goal.invariant-loop-entry
invariant-loop-entry l =
    AreJobDrafts l.w l.plan l.n l.schedule (take l.entry-index l.entry-items) l.drafts
