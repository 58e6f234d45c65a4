use Rattle.std.proofs.Common.{◌≡◌, ℕ, ◌<◌, length, slice_get, slice_index}
use Rattle.workload_defs.specs.Days.{free_of}
use Rattle.workload_defs.specs.Tables.{AreMade}
use Rattle.workload_defs.proofs.days.FreeTable.of.Given as goal

abbrev pub invariant-loop-schedule : goal.invariant-loop-schedule
invariant-loop-schedule l =
    record {
      each : length l.table.places.items ≡ l.schedule-index;
      days : (n : ℕ) → n < l.schedule-index
          → slice_get l.table.kinds.items (slice_index l.table.places.items n) ≡ free_of l.names n;
      made : AreMade l.names l.table.kinds.items l.made.entries;
    }
