use Rattle.std.proofs.Common.{◌≡◌, ◌++◌, drop, map}
use Rattle.definition_faults.specs.Graphs.{entry_object}
use Rattle.definition_faults.proofs.graphs.put_entries.Given as goal

abbrev pub invariant-loop-entry : goal.invariant-loop-entry
invariant-loop-entry l =
    l.initial.objects.items ++ map (entry_object l.names l.n) l.entries
    ≡ l.objects.items ++ map (entry_object l.names l.n) (drop l.entry-index l.entries)
