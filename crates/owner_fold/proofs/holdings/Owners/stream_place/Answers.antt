use Rattle.std.proofs.Common.{ap, option_and_then, slice_get, sym, ◌∙◌}
use Rattle.model.specs.Catalogue.{stream}
use Rattle.model.specs.History.{view_of}
use Rattle.owner_fold.specs.DocPlaces.{doc_at}
use Rattle.owner_fold.proofs.Finding.{stream_found}
use Rattle.owner_fold.proofs.holdings.Owners.stream_place.Goals as goal

pub returns-in-None : goal.returns-in-None
returns-in-None c =
    ap (option_and_then (λ i. option_and_then (doc_at c.args.self.now) (slice_get c.self.inside.plan.doc_places.streams i)))
    (sym c.in-None.is)
    ∙ stream_found c.self.inside.kept c.args.self.now c.self.inside.plan c.s.inside.0 c.place.result c.self.invariant.plan
    c.self.view_is c.place.ensures
    ∙ ap (λ n. stream (view_of c.args.self.now) n) c.s.view_is

pub returns-in-Some : goal.returns-in-Some
returns-in-Some c =
    ap (option_and_then (doc_at c.args.self.now))
    (c.stream_place_at.ensures ∙ ap (λ l. slice_get l c.in-Some.place) c.as_slice.ensures)
    ∙ ap (option_and_then (λ i. option_and_then (doc_at c.args.self.now) (slice_get c.self.inside.plan.doc_places.streams i)))
    (sym c.in-Some.is)
    ∙ stream_found c.self.inside.kept c.args.self.now c.self.inside.plan c.s.inside.0 c.place.result c.self.invariant.plan
    c.self.view_is c.place.ensures
    ∙ ap (λ n. stream (view_of c.args.self.now) n) c.s.view_is
