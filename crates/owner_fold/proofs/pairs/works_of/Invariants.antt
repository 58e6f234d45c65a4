use Rattle.std.proofs.Common.{[], ◌++◌, ◌∷◌, take}
use Rattle.model.specs.History.{view_of}
use Rattle.model.specs.Catalogue.{jobs}
use Rattle.owner_fold.specs.Pairs.{AreWorksAmong}
use Rattle.owner_fold.proofs.pairs.works_of.Given as goal

abbrev pub invariant-loop-doc_place : goal.invariant-loop-doc_place
invariant-loop-doc_place l =
    AreWorksAmong (take l.doc_place-index (jobs (view_of (l.kept ++ l.e ∷ [])))) l.works
