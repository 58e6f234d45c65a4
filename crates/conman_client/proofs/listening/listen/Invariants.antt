use Rattle.std.proofs.Common.{◌≡◌, List, length}
use Rattle.outside.specs.declared.links.Arrival.{Arrival}
use Rattle.conman_client.specs.Hearing.{Waits}
use Rattle.conman_client.proofs.listening.listen.Given as goal

abbrev pub invariant-polls : goal.invariant-polls
invariant-polls g l =
    (arrivals : List Arrival) × (length arrivals ≡ l._poll)
    × Waits l.decoder l.ws arrivals (g.L.Link.calls l.initial.link) (g.L.Link.calls l.link)
    × (g.L.Link.faults l.link ≡ g.L.Link.faults l.initial.link)
