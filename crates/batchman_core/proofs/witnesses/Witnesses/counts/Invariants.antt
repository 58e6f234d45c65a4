use Rattle.std.proofs.Common.{◌≡◌, ◌++◌}
use Rattle.model.specs.History.{view_of}
use Rattle.model.specs.NewPlan.{seen_of}
use Rattle.batchman_core.proofs.witnesses.Witnesses.counts.Given as goal

abbrev pub invariant-loop-w : goal.invariant-loop-w
invariant-loop-w l = l.seen ++ seen_of (view_of l.o) l.w-iterator ≡ seen_of (view_of l.o) l.self
