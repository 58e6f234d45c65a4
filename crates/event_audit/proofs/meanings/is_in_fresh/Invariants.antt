use Rattle.std.proofs.Common.{◌≡◌, drop, filter_map}
use Rattle.std.specs.List.{list_any}
use Rattle.model.specs.History.{view_of}
use Rattle.model.specs.Catalogue.{stream}
use Rattle.event_audit.specs.Meanings.{means}
use Rattle.event_audit.proofs.meanings.is_in_fresh.Given as goal

abbrev pub invariant-loop-doc : goal.invariant-loop-doc
invariant-loop-doc l =
    list_any (means l.docs (filter_map (stream (view_of l.owners)) l.carried) l.o) l.docs
    ≡ list_any (means l.docs (filter_map (stream (view_of l.owners)) l.carried) l.o) (drop l.doc-index l.docs)
