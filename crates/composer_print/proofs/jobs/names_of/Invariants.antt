use Rattle.std.proofs.Common.{◌≡◌, ℕ, List, take}
use Rattle.composer_print.specs.Normal.{entry_names}
use Rattle.composer_print.specs.Scopes.{has_name}
use Rattle.composer_print.specs.Steps.{has_key}
use Rattle.composer_print.proofs.jobs.names_of.Given as goal

abbrev pub invariant-loop-entry : goal.invariant-loop-entry
invariant-loop-entry l =
    (n : List ℕ) → has_key l.names.keys n ≡ has_name (entry_names (take l.entry-index l.entries)) n
