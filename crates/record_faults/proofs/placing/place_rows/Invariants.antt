use Rattle.std.proofs.Common.{◌≡◌, ◌++◌, length, take, drop}
use Rattle.record_faults.specs.Places.{placed_from}
use Rattle.record_faults.specs.declared.places.Place.TheVariants as place
use Rattle.record_faults.proofs.placing.place_rows.Given as goal

abbrev pub invariant-loop-i : goal.invariant-loop-i
invariant-loop-i l =
    record {
      rows : placed_from place.Nothing l.initial.rows ≡ take l.i l.rows ++ placed_from l.above (drop l.i l.rows);
      same : length l.rows ≡ length l.initial.rows;
    }
