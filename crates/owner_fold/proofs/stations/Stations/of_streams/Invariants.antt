use Rattle.std.proofs.Common.{[], ◌++◌, ◌∷◌, ◌≡◌, map, take}
use Rattle.owner_fold.specs.declared.doc_places.StreamPlace.{StreamPlace}
use Rattle.owner_fold.specs.DocPlaces.{doc_at}
use Rattle.owner_fold.specs.Stations.{stream_owner}
use Rattle.owner_fold.proofs.stations.Stations.of_streams.Given as goal

abbrev pub invariant-loop-doc_place : goal.invariant-loop-doc_place
invariant-loop-doc_place l =
    l.owners
    ≡ map (λ (p : StreamPlace). stream_owner (doc_at (l.entries ++ l.e ∷ []) p))
    (take l.doc_place-index l.doc_places.streams)
