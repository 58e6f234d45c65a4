use Rattle.std.proofs.Common.{◌≡◌, ◌++◌, drop, filter_map}
use Rattle.definition_faults.specs.Graphs.{followed_by}
use Rattle.definition_faults.proofs.graphs.put_preds.Given as goal

abbrev pub invariant-loop-pred : goal.invariant-loop-pred
invariant-loop-pred l =
    l.initial.places ++ filter_map (followed_by l.names l.n l.inside) l.preds
    ≡ l.places ++ filter_map (followed_by l.names l.n l.inside) (drop l.pred-index l.preds)
