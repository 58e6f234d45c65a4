use Rattle.std.proofs.Common.{[], ◌++◌, ◌∷◌, flat_map, take}
use Rattle.model.specs.History.{view_of}
use Rattle.model.specs.Dependencies.{dep_cites}
use Rattle.owner_fold.specs.Pairs.{Grows, dep_pairs}
use Rattle.owner_fold.proofs.pairs.put_written.Given as goal

abbrev pub invariant-loop-dep : goal.invariant-loop-dep
invariant-loop-dep l =
    Grows (flat_map (dep_pairs (dep_cites (view_of (l.kept ++ l.e ∷ []))) l.fn.w) (take l.dep-index l.written))
    l.initial.pairs l.pairs
