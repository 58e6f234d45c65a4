use Rattle.std.proofs.Common.{◌≡◌, ◌++◌, drop, take}
use Rattle.record_faults.specs.Known as known
use Rattle.record_script.proofs.spans.until_stream.Given as goal

abbrev pub invariant-loop-i : goal.invariant-loop-i
invariant-loop-i l = known.until known.begins_stream l.rows ≡ take l.i l.rows ++ known.until known.begins_stream (drop l.i l.rows)
