use Rattle.std.proofs.Common.{[], ◌++◌, ◌∷◌, sym, true, ◌∙◌}
use Rattle.grouped_places.specs.Codes.{code}
use Rattle.model.specs.Words.{insert_once}
use Rattle.owner_fold.specs.Sets.{job_stream_of}
use Rattle.owner_fold.specs.DocPlaces.{job_at, stream_job}
use Rattle.owner_fold.proofs.Covering.{further_added}
use Rattle.owner_fold.proofs.fills.put_by_stream.Goals as goal

pub returns-in_ok-add-in-Some : goal.returns-in_ok-add-in-Some
returns-in_ok-add-in-Some c =
    further_added job_stream_of (λ p. true) c.args.place
    (job_at (c.args.kept.now ++ c.args.e.now ∷ []) c.args.doc_place.now)
    (stream_job c.in-Some.parent.now c.in-Some.field-0-1.now) c.args.groups.now c.add.new.self
    ((λ j. job_at (sym c.entries.ensures.list j ++ c.args.e.now ∷ []) c.args.doc_place.now) ∙ sym c.in-Some.ensures) c.in_ok-add-in-Some.ensures.fits
    (c.in_ok-add-in-Some.ensures.added
    ∙ (λ j. insert_once (code ((c.parent.view_is j).no) c.args.place) c.args.groups.now))
