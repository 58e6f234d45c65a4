use Rattle.std.proofs.Common.{ap, option_and_then, refl, slice_get, sym, ◌∙◌}
use Rattle.model.specs.Catalogue.{stream}
use Rattle.model.specs.History.{view_of}
use Rattle.owner_fold.specs.DocPlaces.{doc_at}
use Rattle.owner_fold.proofs.Finding.{stream_found}
use Rattle.owner_fold.proofs.pairs.stream_place.Goals as goal

pub returns-in-None : goal.returns-in-None
returns-in-None c =
    λ now plan.
    ap (option_and_then (λ i. option_and_then (doc_at now) (slice_get c.args.plan.now.doc_places.streams i))) (sym c.in-None.is)
    ∙ stream_found now now c.args.plan.now c.s.inside.0 c.place.result plan refl c.place.ensures
    ∙ ap (λ n. stream (view_of now) n) c.s.view_is

pub returns-in-Some : goal.returns-in-Some
returns-in-Some c =
    λ now plan.
    ap (option_and_then (doc_at now)) (c.stream_place_at.ensures ∙ ap (λ l. slice_get l c.in-Some.place) c.as_slice.ensures)
    ∙ ap (option_and_then (λ i. option_and_then (doc_at now) (slice_get c.args.plan.now.doc_places.streams i))) (sym c.in-Some.is)
    ∙ stream_found now now c.args.plan.now c.s.inside.0 c.place.result plan refl c.place.ensures
    ∙ ap (λ n. stream (view_of now) n) c.s.view_is
