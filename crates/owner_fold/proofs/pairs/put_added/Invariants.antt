use Rattle.std.proofs.Common.{[], ◌++◌, ◌∷◌, flat_map, take}
use Rattle.model.specs.Types.{Events}
use Rattle.model.specs.History.{list_of, view_of}
use Rattle.model.specs.Dependencies.{dep_cites, deps_added_by}
use Rattle.model.specs.Facts.{commands}
use Rattle.owner_fold.specs.Pairs.{Grows, dep_pairs}
use Rattle.owner_fold.proofs.pairs.put_added.Given as goal

abbrev pub invariant-loop-i : goal.invariant-loop-i
invariant-loop-i l =
    Grows
    (flat_map (dep_pairs (dep_cites (view_of (l.kept ++ l.e ∷ []))) l.fn.w)
    (take l.i (flat_map (deps_added_by l.o) (commands (list_of l.kept (Events l.fn.w))))))
    l.initial.pairs l.pairs
