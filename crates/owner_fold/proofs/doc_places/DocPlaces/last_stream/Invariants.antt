use Rattle.std.proofs.Common.{◌≡◌, drop, map}
use Rattle.model.specs.Words.{greatest}
use Rattle.owner_fold.specs.Larger.{larger}
use Rattle.owner_fold.specs.declared.doc_places.StreamPlace.{StreamPlace}
use Rattle.owner_fold.proofs.doc_places.DocPlaces.last_stream.Given as goal

abbrev pub invariant-loop-doc_place : goal.invariant-loop-doc_place
invariant-loop-doc_place l =
    greatest (map (λ (p : StreamPlace). p.number) l.self.streams)
    ≡ larger l.last (greatest (map (λ (p : StreamPlace). p.number) (drop l.doc_place-index l.doc_place-items)))
