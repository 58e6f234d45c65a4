use Rattle.std.proofs.Common.{◌≡◌, drop, filter_map}
use Rattle.std.specs.List.{list_all}
use Rattle.model.specs.History.{view_of}
use Rattle.model.specs.Catalogue.{stream}
use Rattle.model.specs.Sound.{follows_what_is_meant}
use Rattle.event_audit.proofs.follows.follow_so.Given as goal

abbrev pub invariant-loop-dep : goal.invariant-loop-dep
invariant-loop-dep l =
    list_all (follows_what_is_meant l.docs (filter_map (stream (view_of l.owners)) l.carried)) l.deps
    ≡ list_all (follows_what_is_meant l.docs (filter_map (stream (view_of l.owners)) l.carried))
    (drop l.dep-index l.deps)
