use Rattle.std.proofs.Common.{◌≡◌, ◌++◌, drop, flat_map}
use Rattle.report_text.specs.Reports.{holds_line}
use Rattle.report_text.proofs.reports.write_holds.Given as goal

abbrev pub invariant-loop-held : goal.invariant-loop-held
invariant-loop-held l =
    l.initial.out.items ++ flat_map (holds_line l.net) l.holds
    ≡ l.out.items ++ flat_map (holds_line l.net) (drop l.held-index l.holds)
