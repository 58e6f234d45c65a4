use Rattle.std.proofs.Common.{◌≡◌, ◌++◌, drop}
use Rattle.model.specs.History.{view_of}
use Rattle.symphony_view.specs.Counts.{stream_places}
use Rattle.symphony_view.proofs.state_totals.stream_places.Given as goal

abbrev pub invariant-loop-s : goal.invariant-loop-s
invariant-loop-s l =
    stream_places l.net (view_of l.o) l.streams ≡ l.places ++ stream_places l.net (view_of l.o) (drop l.s-index l.streams)
