use Rattle.std.proofs.Common.{◌≡◌, drop}
use Rattle.std.specs.List.{list_any}
use Rattle.definition_faults.specs.Unknown.{is_unknown_pred}
use Rattle.definition_faults.proofs.clauses.has_unknown_pred.Given as goal

abbrev pub invariant-loop-pred : goal.invariant-loop-pred
invariant-loop-pred l =
    list_any (is_unknown_pred l.names l.stream l.inside) l.preds
    ≡ list_any (is_unknown_pred l.names l.stream l.inside) (drop l.pred-index l.preds)
