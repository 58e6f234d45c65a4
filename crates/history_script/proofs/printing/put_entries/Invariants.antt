use Rattle.std.proofs.Common.{◌≡◌, ◌++◌, drop, flat_map, take}
use Rattle.std.specs.List.{All}
use Rattle.model.specs.Ranges.{InRange}
use Rattle.history_script.specs.Printed.{entry_line}
use Rattle.history_script.proofs.printing.put_entries.Given as goal

abbrev pub invariant-loop-entry : goal.invariant-loop-entry
invariant-loop-entry l =
    record {
      added :
          l.initial.out.items ++ flat_map entry_line l.entries
          ≡ l.out.items ++ flat_map entry_line (drop l.entry-index l.entries);
      range : All InRange (take l.entry-index l.entries);
    }
