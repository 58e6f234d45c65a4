use Rattle.std.proofs.Common.{◌≡◌, ◌++◌, ◌||◌, ℕ, List, drop}
use Rattle.record_faults.specs.Known as known
use Rattle.record_faults.specs.Known.{Key, has_key, has_name}
use Rattle.record_faults.proofs.lookups.Named.of_rows.Given as goal

abbrev pub invariant-loop-row : goal.invariant-loop-row
invariant-loop-row l =
    record {
      stations : known.stations l.rows ≡ l.stations.items ++ known.stations (drop l.row-index l.rows);
      resources : (k : Key) → has_key (known.resources l.rows) k
          ≡ (has_key l.resources k || has_key (known.resources (drop l.row-index l.rows)) k);
      prompts : (n : List ℕ) → has_name (known.prompts l.rows) n
          ≡ (has_name l.prompts n || has_name (known.prompts (drop l.row-index l.rows)) n);
    }
