use Rattle.std.proofs.Common.{◌≡◌}
use Rattle.model.specs.Words.{below}
use Rattle.model.specs.History.{view_of}
use Rattle.model.specs.NewPlan.{seen_of}
use Rattle.decision_rules.proofs.plans.cut.Given as goal

abbrev pub invariant-loop-w : goal.invariant-loop-w
invariant-loop-w l = l.seen ≡ seen_of (view_of l.o) (below l.w)
