use Rattle.std.proofs.Common.{[], ◌++◌, ◌∷◌, List, ap, arith, get_or, length}
use Rattle.model.specs.Types.{Entry}
use Rattle.model.specs.History.{view_of}
use Rattle.model.specs.Catalogue.{catalogue, jobs}
use Rattle.owner_fold.specs.DocPlaces.{job_at}
use Rattle.owner_fold.specs.declared.doc_places.JobPlace.{JobPlace}
use Rattle.owner_fold.proofs.Covering.{item_met}
use Rattle.owner_fold.proofs.Growing.{as_many}
use Rattle.owner_fold.proofs.Working.{works_all, works_begin, works_further}
use Rattle.owner_fold.proofs.pairs.works_of.Goals as goal

pub loop-doc_place-init : goal.loop-doc_place-init
loop-doc_place-init c = works_begin (jobs (view_of (c.args.kept.now ++ c.args.e.now ∷ []))) c.empty-works.result c.empty-works.ensures

pub loop-doc_place-preserved : goal.loop-doc_place-preserved
unfolding catalogue jobs
loop-doc_place-preserved c =
    let none : JobPlace = record { number = 0; stream = record { number = 0; entry = 0; doc = 0 }; job = 0 } in
    let now : List Entry = c.args.kept.now ++ c.args.e.now ∷ [] in
    works_further (jobs (view_of now)) c.loop-doc_place.doc_place-index
    (job_at now (get_or c.as_slice-doc_place-items.result.now c.loop-doc_place.doc_place-index none)) c.loop-doc_place.works
    c.put_work.new.works
    (item_met (job_at now) c.args.plan.now.doc_places.jobs c.as_slice-doc_place-items.result.now (jobs (view_of now))
    c.loop-doc_place.doc_place-index none c.requires.doc_places.jobs.0 c.as_slice-doc_place-items.ensures c.loop-doc_place-test.true)
    c.loop-doc_place.invariant c.in_ok-put_work.ensures

pub returns : goal.returns
unfolding catalogue jobs
returns c =
    let now : List Entry = c.args.kept.now ++ c.args.e.now ∷ [] in
    let many = as_many (job_at now) c.args.plan.now.doc_places.jobs (jobs (view_of now)) c.requires.doc_places.jobs.0 in
    works_all (jobs (view_of now)) c.loop-doc_place.doc_place-index c.loop-doc_place.works
    (omega (arith, many, c.loop-doc_place-test.false, ap length c.as_slice-doc_place-items.ensures)) c.loop-doc_place.invariant
