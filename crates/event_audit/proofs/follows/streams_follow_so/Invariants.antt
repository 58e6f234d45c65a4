use Rattle.std.proofs.Common.{◌≡◌, drop, filter_map}
use Rattle.std.specs.List.{list_all}
use Rattle.std.specs.Prelude.{flat_map}
use Rattle.model.specs.Types.{StreamDoc}
use Rattle.model.specs.History.{view_of}
use Rattle.model.specs.Catalogue.{stream}
use Rattle.model.specs.Sound.{follows_what_is_meant}
use Rattle.event_audit.proofs.follows.streams_follow_so.Given as goal

abbrev pub invariant-loop-doc : goal.invariant-loop-doc
invariant-loop-doc l =
    list_all (follows_what_is_meant l.docs (filter_map (stream (view_of l.owners)) l.carried))
    (flat_map (λ (d : StreamDoc). d.deps) l.docs)
    ≡ list_all (follows_what_is_meant l.docs (filter_map (stream (view_of l.owners)) l.carried))
    (flat_map (λ (d : StreamDoc). d.deps) (drop l.doc-index l.docs))
