use Rattle.std.proofs.Common.{◌∙◌, arith}
use Rattle.record_faults.specs.declared.places.Place.TheVariants as place
use Rattle.record_faults.specs.Places.{placed_from}
use Rattle.record_faults.proofs.PlacedRows.{place_on, as_many, all_placed}
use Rattle.record_faults.proofs.placing.place_rows.Goals as goal

pub loop-i-preserved : goal.loop-i-preserved
loop-i-preserved c =
    record {
      rows = place_on (placed_from place.Nothing c.args.rows.now) c.loop-i.rows c.place_row-above.new.rows c.loop-i.i
          c.loop-i.above c.place_row-above.result (omega (arith, c.loop-i.invariant.same)) c.place_row-above.ensures.row
          c.place_row-above.ensures.below c.loop-i.invariant.rows;
      same = as_many c.loop-i.rows c.place_row-above.new.rows c.loop-i.i c.loop-i.above
          (omega (arith, c.loop-i.invariant.same)) c.place_row-above.ensures.row ∙ c.loop-i.invariant.same;
    }

pub returns : goal.returns
returns c =
    all_placed (placed_from place.Nothing c.args.rows.now) c.loop-i.rows c.loop-i.i c.loop-i.above
    (omega (arith, c.loop-i.invariant.same)) c.loop-i.invariant.rows
