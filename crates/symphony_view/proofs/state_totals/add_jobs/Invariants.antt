use Rattle.std.proofs.Common.{◌≡◌, ◌++◌, drop}
use Rattle.model.specs.History.{view_of}
use Rattle.symphony_view.specs.Counts.{job_places_in}
use Rattle.symphony_view.proofs.state_totals.add_jobs.Given as goal

abbrev pub invariant-loop-doc : goal.invariant-loop-doc
invariant-loop-doc l =
    l.initial.places ++ job_places_in l.net (view_of l.o) l.docs ≡ l.places ++ job_places_in l.net (view_of l.o) (drop l.doc-index l.docs)
