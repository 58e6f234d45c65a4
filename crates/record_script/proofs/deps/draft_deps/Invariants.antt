use Rattle.std.proofs.Common.{◌≡◌, ◌++◌, drop}
use Rattle.std.specs.Prelude.{filter_map}
use Rattle.record_script.specs.Plans as spec
use Rattle.record_script.proofs.deps.draft_deps.Given as goal

abbrev pub invariant-loop-row : goal.invariant-loop-row
invariant-loop-row l = filter_map (spec.dep_in l.numbers l.stream l.ws) l.rows ≡ l.deps ++ filter_map (spec.dep_in l.numbers l.stream l.ws) (drop l.row-index l.rows)
