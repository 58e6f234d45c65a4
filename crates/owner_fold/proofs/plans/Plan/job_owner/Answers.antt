use Rattle.std.proofs.Common.{ap, option_and_then, slice_get, sym, ◌∙◌}
use Rattle.model.specs.Types.{Job}
use Rattle.model.specs.Catalogue.{owner}
use Rattle.model.specs.History.{view_of}
use Rattle.owner_fold.proofs.Owning.{job_owner_found}
use Rattle.owner_fold.proofs.plans.Plan.job_owner.Goals as goal

pub returns-in-None : goal.returns-in-None
returns-in-None c =
    λ kept p.
    ap (option_and_then (λ i. slice_get c.args.self.now.stations.jobs i)) (sym c.in-None.is)
    ∙ job_owner_found kept c.args.self.now c.j.inside.0 c.place.result p c.place.ensures
    ∙ ap (λ n. owner (view_of kept) (Job n)) c.j.view_is

pub returns-in-Some : goal.returns-in-Some
returns-in-Some c =
    λ kept p.
    c.copied.ensures ∙ c.get.ensures.item
    ∙ ap (option_and_then (λ i. slice_get c.args.self.now.stations.jobs i)) (sym c.in-Some.is)
    ∙ job_owner_found kept c.args.self.now c.j.inside.0 c.place.result p c.place.ensures
    ∙ ap (λ n. owner (view_of kept) (Job n)) c.j.view_is
