use Rattle.std.proofs.Common.{◌≡◌, drop}
use Rattle.std.specs.List.{list_any}
use Rattle.definition_faults.specs.Unknown.{is_unknown_prompt}
use Rattle.definition_faults.proofs.clauses.has_unknown_prompt.Given as goal

abbrev pub invariant-loop-prompt : goal.invariant-loop-prompt
invariant-loop-prompt l =
    list_any (is_unknown_prompt l.names) l.prompts
    ≡ list_any (is_unknown_prompt l.names) (drop l.prompt-index l.prompts)
