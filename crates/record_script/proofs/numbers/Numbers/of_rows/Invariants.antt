use Rattle.std.proofs.Common.{◌≡◌, ◌++◌, drop}
use Rattle.std.specs.Prelude.{filter_map}
use Rattle.record_faults.specs.Known as known
use Rattle.record_script.proofs.numbers.Numbers.of_rows.Given as goal

abbrev pub invariant-loop-row : goal.invariant-loop-row
invariant-loop-row l =
    record {
      stations : filter_map known.station_name l.rows
          ≡ l.stations ++ filter_map known.station_name (drop l.row-index l.rows);
      resources : filter_map known.resource_of l.rows
          ≡ l.resources ++ filter_map known.resource_of (drop l.row-index l.rows);
      prompts : filter_map known.prompt_of l.rows ≡ l.prompts ++ filter_map known.prompt_of (drop l.row-index l.rows);
    }
