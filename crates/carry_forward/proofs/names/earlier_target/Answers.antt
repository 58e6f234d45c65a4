use Rattle.std.proofs.Common.{List, subst}
use Rattle.model.specs.Types.{JobDoc}
use Rattle.carry_forward.specs.Known.{AreJobsOf, named_jobs}
use Rattle.carry_forward.proofs.names.earlier_target.Goals as goal

pub returns : goal.returns
returns c =
    let jobs : AreJobsOf c.in_ok-jobs_of_document.field-0.entries (named_jobs c.args.doc.now.jobs) =
    subst (λ (l : List JobDoc). AreJobsOf c.in_ok-jobs_of_document.field-0.entries (named_jobs l)) c.as_slice.ensures
    c.in_ok-jobs_of_document.ensures
    in
    λ j. (c.args.doc.now.no, λ name. jobs name j)
