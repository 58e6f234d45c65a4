use Rattle.std.proofs.Common.{[], ◌++◌, ◌∷◌, List, ap, arith, get_or, length}
use Rattle.model.specs.Types.{Entry}
use Rattle.model.specs.History.{view_of}
use Rattle.model.specs.Catalogue.{catalogue}
use Rattle.model.specs.Dependencies.{dep_cites}
use Rattle.owner_fold.specs.Pairs.{stream_pairs}
use Rattle.owner_fold.specs.DocPlaces.{doc_at}
use Rattle.owner_fold.specs.declared.doc_places.StreamPlace.{StreamPlace}
use Rattle.owner_fold.proofs.Covering.{item_met}
use Rattle.owner_fold.proofs.Growing.{as_many, grows_all, grows_further}
use Rattle.owner_fold.proofs.pairs.put_streams.Goals as goal

pub loop-doc_place-preserved : goal.loop-doc_place-preserved
unfolding catalogue
loop-doc_place-preserved c =
    let none : StreamPlace = record { number = 0; entry = 0; doc = 0 } in
    let now : List Entry = c.args.kept.now ++ c.args.e.now ∷ [] in
    grows_further (stream_pairs (dep_cites (view_of now)) c.args.kept.now) (catalogue (view_of now)) c.loop-doc_place.doc_place-index
    (doc_at now (get_or c.as_slice-doc_place-items.result.now c.loop-doc_place.doc_place-index none)) c.args.pairs.now c.loop-doc_place.pairs
    c.put_stream.new.pairs
    (item_met (doc_at now) c.args.plan.now.doc_places.streams c.as_slice-doc_place-items.result.now (catalogue (view_of now))
    c.loop-doc_place.doc_place-index none c.requires.doc_places.streams.0 c.as_slice-doc_place-items.ensures c.loop-doc_place-test.true)
    c.loop-doc_place.invariant c.in_ok-put_stream.ensures.0 c.in_ok-put_stream.ensures.1

pub returns : goal.returns
unfolding catalogue
returns c =
    let now : List Entry = c.args.kept.now ++ c.args.e.now ∷ [] in
    let many = as_many (doc_at now) c.args.plan.now.doc_places.streams (catalogue (view_of now)) c.requires.doc_places.streams.0 in
    grows_all (stream_pairs (dep_cites (view_of now)) c.args.kept.now) (catalogue (view_of now)) c.loop-doc_place.doc_place-index
    c.args.pairs.now c.loop-doc_place.pairs
    (omega (arith, many, c.loop-doc_place-test.false, ap length c.as_slice-doc_place-items.ensures)) c.loop-doc_place.invariant
