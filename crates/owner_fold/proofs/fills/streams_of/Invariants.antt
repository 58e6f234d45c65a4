use Rattle.std.proofs.Common.{[], ℕ, ◌++◌, ◌∷◌, List}
use Rattle.model.specs.Types.{StreamDoc}
use Rattle.owner_fold.specs.Searches.{stream_counts}
use Rattle.owner_fold.specs.Numbers.{ArePlaces}
use Rattle.owner_fold.specs.Sets.{CoversBelow, station_of}
use Rattle.owner_fold.specs.DocPlaces.{AreStreamPlaces}
use Rattle.owner_fold.proofs.fills.streams_of.Given as goal

abbrev pub invariant-loop-i : goal.invariant-loop-i
invariant-loop-i l =
    (ms : List ℕ) (docs : List StreamDoc) → ArePlaces ms l.members
    → AreStreamPlaces (l.kept ++ l.e ∷ []) l.doc_places.streams docs → CoversBelow l.i station_of (stream_counts l.test ms l.kept) docs l.groups
