use Rattle.std.proofs.Common.{List, subst}
use Rattle.model.specs.Types.{JobDraft}
use Rattle.std.specs.List.{enumerate_from}
use Rattle.model.specs.NewPlan.{Fresh}
use Rattle.carry_forward.specs.Known.{AreJobsOf, numbered_jobs}
use Rattle.carry_forward.proofs.names.fresh_target.Goals as goal

pub returns : goal.returns
returns c =
    let inner : AreJobsOf c.in_ok-jobs_of_draft.field-0.entries
    (numbered_jobs (enumerate_from c.fresh.inside.first_job c.fresh.inside.draft.now.jobs)) =
    subst (λ (l : List JobDraft). AreJobsOf c.in_ok-jobs_of_draft.field-0.entries
    (numbered_jobs (enumerate_from c.fresh.inside.first_job l)))
    c.as_slice.ensures c.in_ok-jobs_of_draft.ensures
    in
    let jobs : AreJobsOf c.in_ok-jobs_of_draft.field-0.entries
    (numbered_jobs (enumerate_from c.args.fresh.now.first_job c.args.fresh.now.draft.jobs)) =
    subst (λ (f : Fresh). AreJobsOf c.in_ok-jobs_of_draft.field-0.entries
    (numbered_jobs (enumerate_from f.first_job f.draft.jobs)))
    c.fresh.view_is inner
    in
    λ j. ((c.fresh.view_is j).number, λ name. jobs name j)
