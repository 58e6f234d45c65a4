use Rattle.std.proofs.Common.{ap, sym, ◌∙◌, arith}
use Rattle.record_faults.specs.declared.places.Place.TheVariants as place
use Rattle.record_faults.specs.Places.{placed_from}
use Rattle.record_script.proofs.Holding.{accepted_at, inside_at, enough_at, no_day_at}
use Rattle.record_script.proofs.Readings.{few_placed, line_fits, read_err_at, read_ok_of, numbers_at}
use Rattle.record_script.proofs.reading.read_script.Goals as goal

pub fault-requires : goal.fault-requires
fault-requires c =
    few_placed c.args.text.now c.as_slice.result.now
    (c.as_slice.ensures ∙ (c.place_rows.ensures ∙ ap (placed_from place.Nothing) c.in_ok-rows.ensures)) c.requires

pub overflow_cast-result : goal.overflow_cast-result
overflow_cast-result c =
    let low = line_fits c.args.text.now c.as_slice.result.now c.in-Some.line c.in-Some.kind
    (c.as_slice.ensures ∙ (c.place_rows.ensures ∙ ap (placed_from place.Nothing) c.in_ok-rows.ensures)) c.requires
    (sym c.in_ok-line.ensures ∙ c.in-Some.is) in
    omega (arith, low)

pub returns-in-Some-clause-at : goal.returns-in-Some-clause-at
returns-in-Some-clause-at c =
    λ n k e. read_err_at c.args.text.now c.as_slice.result.now c.in-Some.line c.in-Some.kind n k
    (c.as_slice.ensures ∙ (c.place_rows.ensures ∙ ap (placed_from place.Nothing) c.in_ok-rows.ensures))
    (sym c.in_ok-line.ensures ∙ c.in-Some.is) e

pub script-requires-clause-few : goal.script-requires-clause-few
script-requires-clause-few c =
    few_placed c.args.text.now c.as_slice-in-None.result.now
    (c.as_slice-in-None.ensures ∙ (c.place_rows.ensures ∙ ap (placed_from place.Nothing) c.in_ok-rows.ensures)) c.requires

pub script-requires-clause-numbers : goal.script-requires-clause-numbers
script-requires-clause-numbers c =
    numbers_at c.args.text.now c.as_slice.result.now c.as_slice-in-None.result.now
    (c.as_slice.ensures ∙ (c.place_rows.ensures ∙ ap (placed_from place.Nothing) c.in_ok-rows.ensures))
    (c.as_slice-in-None.ensures ∙ (c.place_rows.ensures ∙ ap (placed_from place.Nothing) c.in_ok-rows.ensures))
    (sym c.in_ok-line.ensures ∙ c.in-None.is)

pub returns-clause-script : goal.returns-clause-script
returns-clause-script c =
    read_ok_of c.args.text.now c.as_slice.result.now c.as_slice-in-None.result.now
    (c.as_slice.ensures ∙ (c.place_rows.ensures ∙ ap (placed_from place.Nothing) c.in_ok-rows.ensures))
    (c.as_slice-in-None.ensures ∙ (c.place_rows.ensures ∙ ap (placed_from place.Nothing) c.in_ok-rows.ensures))
    (sym c.in_ok-line.ensures ∙ c.in-None.is) c.in_ok-script-in-None.ensures

pub returns-clause-accepted : goal.returns-clause-accepted
returns-clause-accepted c =
    accepted_at c.args.text.now c.as_slice.result.now c.as_slice-in-None.result.now
    (c.as_slice.ensures ∙ (c.place_rows.ensures ∙ ap (placed_from place.Nothing) c.in_ok-rows.ensures))
    (c.as_slice-in-None.ensures ∙ (c.place_rows.ensures ∙ ap (placed_from place.Nothing) c.in_ok-rows.ensures))
    (sym c.in_ok-line.ensures ∙ c.in-None.is) c.in_ok-script-in-None.ensures

pub returns-clause-inside : goal.returns-clause-inside
returns-clause-inside c =
    inside_at c.args.text.now c.as_slice.result.now c.as_slice-in-None.result.now
    (c.as_slice.ensures ∙ (c.place_rows.ensures ∙ ap (placed_from place.Nothing) c.in_ok-rows.ensures))
    (c.as_slice-in-None.ensures ∙ (c.place_rows.ensures ∙ ap (placed_from place.Nothing) c.in_ok-rows.ensures))
    (sym c.in_ok-line.ensures ∙ c.in-None.is) c.in_ok-script-in-None.ensures

pub returns-clause-plans : goal.returns-clause-plans
returns-clause-plans c =
    enough_at c.args.text.now c.as_slice.result.now c.as_slice-in-None.result.now
    (c.as_slice.ensures ∙ (c.place_rows.ensures ∙ ap (placed_from place.Nothing) c.in_ok-rows.ensures))
    (c.as_slice-in-None.ensures ∙ (c.place_rows.ensures ∙ ap (placed_from place.Nothing) c.in_ok-rows.ensures))
    (sym c.in_ok-line.ensures ∙ c.in-None.is) c.in_ok-script-in-None.ensures

pub returns-clause-days : goal.returns-clause-days
returns-clause-days c =
    no_day_at c.args.text.now c.as_slice.result.now c.as_slice-in-None.result.now
    (c.as_slice.ensures ∙ (c.place_rows.ensures ∙ ap (placed_from place.Nothing) c.in_ok-rows.ensures))
    (c.as_slice-in-None.ensures ∙ (c.place_rows.ensures ∙ ap (placed_from place.Nothing) c.in_ok-rows.ensures))
    (sym c.in_ok-line.ensures ∙ c.in-None.is) c.in_ok-script-in-None.ensures
