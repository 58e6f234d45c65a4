use Rattle.std.proofs.Common.{[], ◌++◌, ◌∷◌, ap, arith, get_or, length}
use Rattle.owner_fold.specs.Searches.{stream_counts}
use Rattle.owner_fold.specs.Sets.{station_of}
use Rattle.owner_fold.specs.DocPlaces.{doc_at}
use Rattle.owner_fold.specs.declared.doc_places.StreamPlace.{StreamPlace}
use Rattle.owner_fold.proofs.Covering.{covers_all, covers_further, covers_none, item_met}
use Rattle.owner_fold.proofs.fills.streams_of.Goals as goal

pub loop-i-init : goal.loop-i-init
loop-i-init c = λ ms docs places placed_so. covers_none station_of (stream_counts c.args.test ms c.args.kept.now) docs c.args.groups

pub loop-i-preserved : goal.loop-i-preserved
loop-i-preserved c =
    let none : StreamPlace = record { number = 0; entry = 0; doc = 0 } in
    λ ms docs places placed_so.
    covers_further station_of (stream_counts c.args.test ms c.args.kept.now) docs c.loop-i.i
    (doc_at (c.args.kept.now ++ c.args.e.now ∷ []) (get_or c.as_slice-doc_place-items.result.now c.loop-i.i none))
    c.loop-i.groups c.put_stream.new.groups
    (item_met (doc_at (c.args.kept.now ++ c.args.e.now ∷ [])) c.args.doc_places.now.streams c.as_slice-doc_place-items.result.now
    docs c.loop-i.i none placed_so.0 c.as_slice-doc_place-items.ensures c.loop-i-test.true)
    (c.loop-i.invariant ms docs places placed_so) (c.in_ok-put_stream.ensures ms places)

pub returns : goal.returns
returns c =
    λ ms docs places placed_so.
    covers_all station_of (stream_counts c.args.test ms c.args.kept.now) (doc_at (c.args.kept.now ++ c.args.e.now ∷ [])) c.args.doc_places.now.streams docs c.loop-i.i
    c.loop-i.groups placed_so.0 (omega (arith, c.loop-i-test.false, ap length c.as_slice-doc_place-items.ensures))
    (c.loop-i.invariant ms docs places placed_so)
