use Rattle.std.proofs.Common.{◌++◌, ◌∷◌, [], flat_map, map, take}
use Rattle.model.specs.Types.{Events}
use Rattle.model.specs.History.{list_of}
use Rattle.model.specs.Catalogue.{docs_in}
use Rattle.owner_fold.specs.Numbers.{ArePlaces}
use Rattle.owner_fold.specs.DocPlaces.{AreDocPlacesOf}
use Rattle.owner_fold.specs.declared.doc_places.JobPlace.{JobPlace}
use Rattle.owner_fold.specs.declared.doc_places.StreamPlace.{StreamPlace}
use Rattle.owner_fold.proofs.doc_places.DocPlaces.with.Given as goal

abbrev pub invariant-loop-i : goal.invariant-loop-i
invariant-loop-i l =
    record {
      doc_places : AreDocPlacesOf (l.entries ++ l.e ∷ []) (flat_map docs_in (list_of l.entries (Events 0)) ++ take l.i
          (docs_in l.e.body)) l.doc_places;
      streams : ArePlaces (map (λ (p : StreamPlace). p.number) l.doc_places.streams) l.streams;
      jobs : ArePlaces (map (λ (p : JobPlace). p.number) l.doc_places.jobs) l.jobs;
    }
