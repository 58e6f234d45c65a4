use Rattle.std.proofs.Common.{◌≡◌}
use Rattle.model.specs.Words.{ascending}
use Rattle.model.specs.History.{view_of}
use Rattle.model.specs.Dependencies.{cites}
use Rattle.batchman_core.proofs.Cited.{cited_behind}
use Rattle.batchman_core.proofs.witnesses.cited.Given as goal

abbrev pub invariant-loop-passed : goal.invariant-loop-passed
invariant-loop-passed l =
    cited_behind (view_of l.o) l.obj l.passed l.found ≡ ascending (cites (view_of l.o) l.obj)
