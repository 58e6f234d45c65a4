use Rattle.std.proofs.Common.{◌≡◌, ◌++◌, drop, flat_map, map}
use Rattle.composer_print.specs.Normal.{normal_entry}
use Rattle.composer_print.specs.Streams.{items, entry_line}
use Rattle.composer_print.proofs.streams.write_entries.Given as goal

abbrev pub invariant-loop-entry : goal.invariant-loop-entry
invariant-loop-entry l =
    l.initial.out.items ++ flat_map entry_line (items (map (normal_entry l.jobs l.home) l.entries))
    ≡ l.out.items ++ flat_map entry_line (items (map (normal_entry l.jobs l.home) (drop l.entry-index l.entries)))
