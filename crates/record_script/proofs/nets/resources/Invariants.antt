use Rattle.std.proofs.Common.{◌≡◌, ◌++◌, drop}
use Rattle.std.specs.Prelude.{filter_map}
use Rattle.record_script.specs.Networks as spec
use Rattle.record_script.proofs.nets.resources.Given as goal

abbrev pub invariant-loop-row : goal.invariant-loop-row
invariant-loop-row l = filter_map (spec.resource_def l.numbers) l.rows ≡ l.resources ++ filter_map (spec.resource_def l.numbers) (drop l.row-index l.rows)
