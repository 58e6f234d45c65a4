use Rattle.std.proofs.Common.{◌+◌, ◌∙◌, ◌≡◌, arith, sym}
use Rattle.model.specs.History.{view_of}
use Rattle.model.specs.NewPlan.{last_job}
use Rattle.event_audit.proofs.Named.{job_itself, job_known, job_none}
use Rattle.event_audit.proofs.draft_names.followed_job.Goals as goal

pub returns-then-is_itself : goal.returns-then-is_itself
returns-then-is_itself c =
    let first : 1 + c.from-then-is_itself.result ≡ 1 + last_job (view_of c.args.owners.now) = omega arith in
    job_itself (view_of c.args.owners.now) c.args.draft.now c.args.ws c.args.name.now c.args.job.now
    c.drafted_job.result (1 + c.from-then-is_itself.result) c.as_slice.result.now
    (sym c.is_itself.ensures ∙ c.if-is_itself.true) first c.as_slice.ensures c.drafted_job.ensures

pub returns-in-None : goal.returns-in-None
returns-in-None c =
    job_none (view_of c.args.owners.now) c.args.draft.now c.args.ws c.args.name.now c.args.job.now
    (sym c.is_itself.ensures ∙ c.if-is_itself.false) c.in-None.ensures

pub returns-in-Some : goal.returns-in-Some
returns-in-Some c =
    job_known (view_of c.args.owners.now) c.args.draft.now c.args.ws c.args.name.now c.args.job.now c.in-Some.doc.now
    c.planned_job.result c.as_slice-in-Some.result.now (sym c.is_itself.ensures ∙ c.if-is_itself.false)
    c.in-Some.ensures c.as_slice-in-Some.ensures c.planned_job.ensures
