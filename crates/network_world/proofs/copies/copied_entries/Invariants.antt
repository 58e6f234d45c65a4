use Rattle.std.proofs.Common.{◌≡◌, take}
use Rattle.network_world.proofs.copies.copied_entries.Given as goal

abbrev pub invariant-loop-entry : goal.invariant-loop-entry
invariant-loop-entry l = l.copies ≡ take l.entry-index l.entries
