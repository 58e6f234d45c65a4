use Rattle.std.proofs.Common.{◌≡◌, ◌++◌, drop, flat_map}
use Rattle.report_text.specs.Reports.{start_line}
use Rattle.report_text.proofs.reports.write_starts.Given as goal

abbrev pub invariant-loop-start : goal.invariant-loop-start
invariant-loop-start l =
    l.initial.out.items ++ flat_map (start_line l.net) l.starts
    ≡ l.out.items ++ flat_map (start_line l.net) (drop l.start-index l.starts)
