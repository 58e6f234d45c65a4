use Rattle.std.proofs.Common.{◌≡◌}
use Rattle.std.specs.List.{list_all}
use Rattle.model.specs.Catalogue.{jobs_of_stream}
use Rattle.model.specs.OwnMembers.{lets_stream_end}
use Rattle.owner_fold.specs.Left.{stream_jobs_left}
use Rattle.counted_decisions.specs.Sights.{seen_in}
use Rattle.counted_decisions.proofs.releases.jobs_let_end.Given as goal

abbrev pub invariant-loop-parent : goal.invariant-loop-parent
invariant-loop-parent l =
    list_all (lets_stream_end (seen_in l.sight)) (jobs_of_stream (seen_in l.sight) l.fn.s)
    ≡ list_all (lets_stream_end (seen_in l.sight)) (stream_jobs_left l.parent-iterator)
