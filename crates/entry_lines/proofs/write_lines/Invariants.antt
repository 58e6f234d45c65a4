use Rattle.std.proofs.Common.{◌≡◌, ◌++◌, drop, flat_map}
use Rattle.report_text.specs.Reports.{entry_line}
use Rattle.entry_lines.proofs.write_lines.Given as goal

abbrev pub invariant-loop-entry : goal.invariant-loop-entry
invariant-loop-entry l =
    l.initial.out.items ++ flat_map (entry_line l.net) l.entries
    ≡ l.out.items ++ flat_map (entry_line l.net) (drop l.entry-index l.entries)
