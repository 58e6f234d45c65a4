use Rattle.std.proofs.Common.{◌==◌, ◌≡◌, false, take}
use Rattle.std.specs.List.{list_any}
use Rattle.node_loop.specs.declared.streams.Stream.{Stream}
use Rattle.node_loop.proofs.streams.Streams.place.Given as goal

abbrev pub invariant-loop-i : goal.invariant-loop-i
invariant-loop-i l = list_any (λ (s : Stream). s.ws == l.x) (take l.i l.stream-items) ≡ false
