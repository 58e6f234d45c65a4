use Rattle.std.proofs.Common.{◌≡◌, ◌++◌, drop, take}
use Rattle.record_faults.specs.Known as known
use Rattle.record_script.specs.Plans.{ends_section}
use Rattle.record_script.proofs.spans.until_section.Given as goal

abbrev pub invariant-loop-i : goal.invariant-loop-i
invariant-loop-i l = known.until ends_section l.rows ≡ take l.i l.rows ++ known.until ends_section (drop l.i l.rows)
