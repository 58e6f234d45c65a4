use Rattle.entry_files.proofs.Walks.{IsTaken}
use Rattle.entry_files.proofs.takes.take_entries.Given as goal

abbrev pub invariant-loop-i : goal.invariant-loop-i
invariant-loop-i l = IsTaken l.net l.fn.owner l.bodies l.i l.place l.taken
