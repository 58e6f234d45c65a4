use Rattle.std.proofs.Common.{List, ap, ◌∙◌}
use Rattle.model.specs.Types.{Entry}
use Rattle.model.specs.Words.{greatest}
use Rattle.model.specs.Catalogue.{catalogue, jobs}
use Rattle.model.specs.History.{view_of}
use Rattle.model.specs.NewPlan.{last_job}
use Rattle.owner_fold.proofs.holdings.Owners.last_job.Goals as goal

pub returns : goal.returns
unfolding catalogue jobs
returns c =
    c.greatest_job.ensures ∙ c.self.invariant.plan.last_job ∙ ap greatest c.self.invariant.plan.doc_places.jobs.1
    ∙ ap (λ (l : List Entry). last_job (view_of l)) c.self.view_is
