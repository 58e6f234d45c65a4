use Rattle.std.proofs.Common.{◌≡◌, ◌++◌, drop, filter_map}
use Rattle.plan_builder.specs.Dependencies.{follows_of}
use Rattle.plan_builder.proofs.dependencies.put_preds.Given as goal

abbrev pub invariant-loop-pred : goal.invariant-loop-pred
invariant-loop-pred l =
    l.initial.deps ++ filter_map (follows_of l.w l.n l.inside) l.preds
    ≡ l.deps ++ filter_map (follows_of l.w l.n l.inside) (drop l.pred-index l.preds)
