use Rattle.std.proofs.Common.{◌≡◌, ◌≤◌, length, take}
use Rattle.kept_files.proofs.heads.difference.Given as goal

abbrev pub invariant-loop-i : goal.invariant-loop-i
invariant-loop-i l = record { within : l.i ≤ length l.bytes; same : take l.i l.bytes ≡ take l.i l.head }
