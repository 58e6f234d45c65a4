use Rattle.std.proofs.Common.{◌≡◌, ℕ, List, bytes_eq, drop, map}
use Rattle.std.specs.List.{position_from}
use Rattle.workload_defs.specs.Tables.{name_of, number_in}
use Rattle.workload_defs.proofs.stations.station_table.Given as goal

abbrev pub invariant-loop-i : goal.invariant-loop-i
invariant-loop-i l =
    (name : List ℕ) → number_in l.table.entries name ≡ position_from (bytes_eq name) l.i (map name_of (drop l.i l.stations))
