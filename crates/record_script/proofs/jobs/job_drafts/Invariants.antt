use Rattle.std.proofs.Common.{◌≡◌, ◌++◌, drop}
use Rattle.record_script.specs.Plans as spec
use Rattle.record_script.proofs.jobs.job_drafts.Given as goal

abbrev pub invariant-loop-i : goal.invariant-loop-i
invariant-loop-i l = spec.jobs_in l.numbers l.stream l.rows ≡ l.jobs ++ spec.jobs_in l.numbers l.stream (drop l.i l.rows)
