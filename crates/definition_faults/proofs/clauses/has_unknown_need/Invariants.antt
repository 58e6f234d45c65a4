use Rattle.std.proofs.Common.{◌≡◌, drop}
use Rattle.std.specs.List.{list_any}
use Rattle.std.specs.Option.{option_copied}
use Rattle.definition_faults.specs.Unknown.{is_unknown_need}
use Rattle.definition_faults.proofs.clauses.has_unknown_need.Given as goal

abbrev pub invariant-loop-need : goal.invariant-loop-need
invariant-loop-need l =
    list_any (is_unknown_need l.names (option_copied l.ws)) l.needs
    ≡ list_any (is_unknown_need l.names (option_copied l.ws)) (drop l.need-index l.needs)
