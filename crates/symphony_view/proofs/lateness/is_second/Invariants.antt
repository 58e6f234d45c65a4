use Rattle.std.proofs.Common.{◌≡◌, drop}
use Rattle.std.specs.List.{list_any}
use Rattle.model.specs.History.{view_of}
use Rattle.model.specs.Catalogue.{members}
use Rattle.symphony_view.specs.Symphonies.{is_timed_member}
use Rattle.symphony_view.proofs.lateness.is_second.Given as goal

abbrev pub invariant-loop-s : goal.invariant-loop-s
invariant-loop-s l =
    list_any (is_timed_member (view_of l.o)) (members (view_of l.o))
    ≡ list_any (is_timed_member (view_of l.o)) (drop l.s-index (members (view_of l.o)))
