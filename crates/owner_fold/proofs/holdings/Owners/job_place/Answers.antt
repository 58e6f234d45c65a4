use Rattle.std.proofs.Common.{ap, option_and_then, slice_get, sym, ◌∙◌}
use Rattle.model.specs.Catalogue.{job}
use Rattle.model.specs.History.{view_of}
use Rattle.owner_fold.specs.DocPlaces.{job_at}
use Rattle.owner_fold.proofs.Finding.{job_found}
use Rattle.owner_fold.proofs.holdings.Owners.job_place.Goals as goal

pub returns-in-None : goal.returns-in-None
returns-in-None c =
    ap (option_and_then (λ i. option_and_then (job_at c.args.self.now) (slice_get c.self.inside.plan.doc_places.jobs i)))
    (sym c.in-None.is)
    ∙ job_found c.self.inside.kept c.args.self.now c.self.inside.plan c.j.inside.0 c.place.result c.self.invariant.plan
    c.self.view_is c.place.ensures
    ∙ ap (λ n. job (view_of c.args.self.now) n) c.j.view_is

pub returns-in-Some : goal.returns-in-Some
returns-in-Some c =
    ap (option_and_then (job_at c.args.self.now))
    (c.job_place_at.ensures ∙ ap (λ l. slice_get l c.in-Some.place) c.as_slice.ensures)
    ∙ ap (option_and_then (λ i. option_and_then (job_at c.args.self.now) (slice_get c.self.inside.plan.doc_places.jobs i)))
    (sym c.in-Some.is)
    ∙ job_found c.self.inside.kept c.args.self.now c.self.inside.plan c.j.inside.0 c.place.result c.self.invariant.plan
    c.self.view_is c.place.ensures
    ∙ ap (λ n. job (view_of c.args.self.now) n) c.j.view_is
