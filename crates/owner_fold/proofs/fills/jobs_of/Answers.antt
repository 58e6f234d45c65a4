use Rattle.std.proofs.Common.{[], ◌++◌, ◌∷◌, ap, arith, get_or, length}
use Rattle.owner_fold.specs.Searches.{job_counts}
use Rattle.owner_fold.specs.Sets.{job_station_of}
use Rattle.owner_fold.specs.DocPlaces.{job_at}
use Rattle.owner_fold.specs.declared.doc_places.JobPlace.{JobPlace}
use Rattle.owner_fold.proofs.Covering.{covers_all, covers_further, covers_none, item_met}
use Rattle.owner_fold.proofs.fills.jobs_of.Goals as goal

pub loop-i-init : goal.loop-i-init
loop-i-init c = λ ms placed places placed_so. covers_none job_station_of (job_counts c.args.test ms c.args.kept.now) placed c.args.groups

pub loop-i-preserved : goal.loop-i-preserved
loop-i-preserved c =
    let none : JobPlace = record { number = 0; stream = record { number = 0; entry = 0; doc = 0 }; job = 0 } in
    λ ms placed places placed_so.
    covers_further job_station_of (job_counts c.args.test ms c.args.kept.now) placed c.loop-i.i
    (job_at (c.args.kept.now ++ c.args.e.now ∷ []) (get_or c.as_slice-doc_place-items.result.now c.loop-i.i none))
    c.loop-i.groups c.put_job.new.groups
    (item_met (job_at (c.args.kept.now ++ c.args.e.now ∷ [])) c.args.doc_places.now.jobs c.as_slice-doc_place-items.result.now
    placed c.loop-i.i none placed_so.0 c.as_slice-doc_place-items.ensures c.loop-i-test.true)
    (c.loop-i.invariant ms placed places placed_so) (c.in_ok-put_job.ensures ms places)

pub returns : goal.returns
returns c =
    λ ms placed places placed_so.
    covers_all job_station_of (job_counts c.args.test ms c.args.kept.now) (job_at (c.args.kept.now ++ c.args.e.now ∷ [])) c.args.doc_places.now.jobs placed c.loop-i.i
    c.loop-i.groups placed_so.0 (omega (arith, c.loop-i-test.false, ap length c.as_slice-doc_place-items.ensures))
    (c.loop-i.invariant ms placed places placed_so)
