use Rattle.std.proofs.Common.{◌≡◌, ◌++◌, drop}
use Rattle.record_script.specs.Plans as spec
use Rattle.record_script.proofs.plans.stream_drafts.Given as goal

abbrev pub invariant-loop-i : goal.invariant-loop-i
invariant-loop-i l = spec.streams_in l.numbers l.rows ≡ l.streams ++ spec.streams_in l.numbers (drop l.i l.rows)
