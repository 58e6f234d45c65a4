use Rattle.std.proofs.Common.{◌≡◌, ◌||◌, ℕ, List, drop}
use Rattle.record_faults.specs.Known.{has_name, jobs, until, begins_stream}
use Rattle.record_faults.proofs.lookups.jobs_ahead.Given as goal

abbrev pub invariant-loop-row : goal.invariant-loop-row
invariant-loop-row l =
    (n : List ℕ) → has_name (jobs (until begins_stream l.rows)) n
    ≡ (has_name l.names n || has_name (jobs (until begins_stream (drop l.row-index l.rows))) n)
