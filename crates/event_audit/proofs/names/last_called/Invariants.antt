use Rattle.std.proofs.Common.{◌≡◌, find, filter_map, reverse, take}
use Rattle.std.specs.Option.{option_copied}
use Rattle.model.specs.History.{view_of}
use Rattle.model.specs.Catalogue.{stream}
use Rattle.event_audit.specs.Meanings.{is_called}
use Rattle.event_audit.proofs.names.last_called.Given as goal

abbrev pub invariant-loop-number : goal.invariant-loop-number
invariant-loop-number l =
    option_copied l.last
    ≡ find (is_called l.fn.ws l.name)
    (reverse (filter_map (stream (view_of l.owners)) (take l.number-index l.numbers)))
