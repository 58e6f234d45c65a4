use Rattle.std.proofs.Common.{drop, flat_map}
use Rattle.model.specs.History.{view_of}
use Rattle.model.specs.Dependencies.{cites, dep_cites, deps}
use Rattle.counted_decisions.specs.Sights.{seen_in}
use Rattle.counted_decisions.proofs.Naming.{AreLeft}
use Rattle.counted_decisions.proofs.witnesses.add_all_cited.Given as goal

abbrev pub invariant-loop-passed : goal.invariant-loop-passed
invariant-loop-passed l =
    AreLeft (cites (seen_in l.sight) l.o)
    (flat_map (dep_cites (seen_in l.sight)) (drop l.passed (deps (view_of l.sight.owners.now) l.o))) l.initial.named l.named
