use Rattle.std.proofs.Common.{◌≡◌, ◌++◌, drop}
use Rattle.std.specs.Prelude.{filter_map}
use Rattle.record_script.specs.Networks as spec
use Rattle.record_script.proofs.nets.prompts.Given as goal

abbrev pub invariant-loop-row : goal.invariant-loop-row
invariant-loop-row l = filter_map spec.prompt_def l.rows ≡ l.prompts ++ filter_map spec.prompt_def (drop l.row-index l.rows)
