use Rattle.std.proofs.Common.{◌≡◌, ◌++◌, drop, flat_map}
use Rattle.report_text.specs.Reports.{packets_line}
use Rattle.report_text.proofs.reports.write_packets.Given as goal

abbrev pub invariant-loop-pair : goal.invariant-loop-pair
invariant-loop-pair l =
    l.initial.out.items ++ flat_map (packets_line l.net) l.packets
    ≡ l.out.items ++ flat_map (packets_line l.net) (drop l.pair-index l.packets)
