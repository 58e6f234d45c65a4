use Rattle.std.proofs.Common.{[], ◌++◌, ◌∷◌, sym, ◌∙◌}
use Rattle.grouped_places.specs.Codes.{code}
use Rattle.model.specs.Words.{insert_once}
use Rattle.owner_fold.specs.Searches.{stream_counts}
use Rattle.owner_fold.specs.Sets.{station_of}
use Rattle.owner_fold.specs.DocPlaces.{doc_at}
use Rattle.owner_fold.proofs.Covering.{further_added, further_not}
use Rattle.owner_fold.proofs.fills.put_stream.Goals as goal

pub returns-in_ok-add-in-Some : goal.returns-in_ok-add-in-Some
returns-in_ok-add-in-Some c =
    λ ms places.
    further_added station_of (stream_counts c.args.test ms c.args.kept.now) c.args.place (doc_at (c.args.kept.now ++ c.args.e.now ∷ []) c.args.doc_place.now)
    c.in-Some.doc.now c.args.groups.now c.add.new.self
    ((λ j. doc_at (sym c.entries.ensures.list j ++ c.args.e.now ∷ []) c.args.doc_place.now) ∙ sym c.in-Some.ensures)
    c.in_ok-add-in-Some.ensures.fits
    (c.in_ok-add-in-Some.ensures.added
    ∙ (λ j. insert_once (code ((c.from.ensures ∙ (λ i. (c.doc.view_is i).ws)) j) c.args.place) c.args.groups.now))

pub returns-else-stream_counts : goal.returns-else-stream_counts
returns-else-stream_counts c =
    λ ms places.
    further_not station_of (stream_counts c.args.test ms c.args.kept.now) c.args.place
    (doc_at (c.args.kept.now ++ c.args.e.now ∷ []) c.args.doc_place.now) c.in-Some.doc.now c.args.groups.now
    ((λ j. doc_at (sym c.entries.ensures.list j ++ c.args.e.now ∷ []) c.args.doc_place.now) ∙ sym c.in-Some.ensures)
    (sym (c.stream_counts.ensures ms places) ∙ c.if-stream_counts.false)
