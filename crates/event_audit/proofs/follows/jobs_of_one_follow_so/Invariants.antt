use Rattle.std.proofs.Common.{◌≡◌, drop, filter_map}
use Rattle.std.specs.List.{list_all}
use Rattle.std.specs.Prelude.{flat_map}
use Rattle.model.specs.Types.{JobDoc}
use Rattle.model.specs.History.{view_of}
use Rattle.model.specs.Catalogue.{stream}
use Rattle.model.specs.Sound.{follows_what_is_meant}
use Rattle.event_audit.proofs.follows.jobs_of_one_follow_so.Given as goal

abbrev pub invariant-loop-job : goal.invariant-loop-job
invariant-loop-job l =
    list_all (follows_what_is_meant l.docs (filter_map (stream (view_of l.owners)) l.carried))
    (flat_map (λ (j : JobDoc). j.deps) l.jobs)
    ≡ list_all (follows_what_is_meant l.docs (filter_map (stream (view_of l.owners)) l.carried))
    (flat_map (λ (j : JobDoc). j.deps) (drop l.job-index l.jobs))
