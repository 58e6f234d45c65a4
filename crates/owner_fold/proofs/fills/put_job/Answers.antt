use Rattle.std.proofs.Common.{[], ◌++◌, ◌∷◌, sym, ◌∙◌}
use Rattle.grouped_places.specs.Codes.{code}
use Rattle.model.specs.Words.{insert_once}
use Rattle.owner_fold.specs.Searches.{job_counts}
use Rattle.owner_fold.specs.Sets.{job_station_of}
use Rattle.owner_fold.specs.DocPlaces.{job_at, stream_job}
use Rattle.owner_fold.proofs.Covering.{further_added, further_not}
use Rattle.owner_fold.proofs.fills.put_job.Goals as goal

pub returns-in_ok-add-in-Some : goal.returns-in_ok-add-in-Some
returns-in_ok-add-in-Some c =
    λ ms places.
    further_added job_station_of (job_counts c.args.test ms c.args.kept.now) c.args.place (job_at (c.args.kept.now ++ c.args.e.now ∷ []) c.args.doc_place.now)
    (stream_job c.in-Some.parent.now c.in-Some.doc.now) c.args.groups.now c.add.new.self
    ((λ j. job_at (sym c.entries.ensures.list j ++ c.args.e.now ∷ []) c.args.doc_place.now) ∙ sym c.in-Some.ensures)
    c.in_ok-add-in-Some.ensures.fits
    (c.in_ok-add-in-Some.ensures.added
    ∙ (λ j. insert_once (code ((c.from.ensures ∙ (λ i. (c.doc.view_is i).ws)) j) c.args.place) c.args.groups.now))

pub returns-else-job_counts : goal.returns-else-job_counts
returns-else-job_counts c =
    λ ms places.
    further_not job_station_of (job_counts c.args.test ms c.args.kept.now) c.args.place
    (job_at (c.args.kept.now ++ c.args.e.now ∷ []) c.args.doc_place.now) (stream_job c.in-Some.parent.now c.in-Some.doc.now) c.args.groups.now
    ((λ j. job_at (sym c.entries.ensures.list j ++ c.args.e.now ∷ []) c.args.doc_place.now) ∙ sym c.in-Some.ensures)
    (sym (c.job_counts.ensures ms places) ∙ c.if-job_counts.false)
